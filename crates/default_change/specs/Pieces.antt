-- The pieces of a default change (01, "Defaults", and "The request under way": ascending, cut at entry ends): runs of private RAM pages, split
-- at the target VTL's overlay pages.
use Rattle.std.specs.Prelude.{Bool, true, not, cond, ◌&&◌, List, [], ◌∷◌, ℕ, zero, suc, ◌+◌, ◌-◌, max, eqb, leb, ltb, get_or}
use Rattle.abi.specs.Overlay as overlay
use Rattle.bitmap.specs.Pages.{bit_at}
use Rattle.layout.specs.declared.MemoryRangeWithNode.{MemoryRangeWithNode}
pub use Rattle.layout.specs.Layout.{page_up}
use Rattle.layout.specs.Layout.{is_ram}
use Rattle.page_list.specs.declared.PageRun.{PageRun}
use Rattle.page_list.specs.Runs.{run}
use Rattle.overlay_table.specs.Overlays.{used, is_overlay}

-- ---- of any pages that P holds of

-- of k pages from a on, how many come before the first that P does not hold of
unfoldable pub span : (ℕ → Bool) → ℕ → ℕ → ℕ
span P a zero = 0
span P a (suc k) = cond (P a) (suc (span P (suc a) k)) 0

abbrev pub non : (ℕ → Bool) → ℕ → Bool
non P q = not (P q)

-- of k pages from a on, the first stretch of pages that P holds of: where it starts (at the end where there is none), and its length
abbrev pub start_of : (ℕ → Bool) → ℕ → ℕ → ℕ
start_of P a k = a + span (non P) a k

abbrev pub len_of : (ℕ → Bool) → ℕ → ℕ → ℕ
len_of P a k = span P (start_of P a k) (k - span (non P) a k)

-- the first stretch of the pages from a to before `end`
abbrev pub piece_of : (ℕ → Bool) → ℕ → ℕ → PageRun
piece_of P a end = run (start_of P a (end - a)) (len_of P a (end - a))

-- ---- of the entries of a layout

-- of an entry, the first stretch from page `at` on
abbrev pub piece_in : (ℕ → Bool) → MemoryRangeWithNode → ℕ → PageRun
piece_in P e at = piece_of P (max (page_up e.start) at) (page_up e.end)

-- that of the first entry that has one: none is left where it is empty
unfoldable pub next_of : (ℕ → Bool) → List MemoryRangeWithNode → ℕ → PageRun
next_of P [] at = run 0 0
next_of P (e ∷ es) at = cond (eqb (piece_in P e at).count 0) (next_of P es at) (piece_in P e at)

-- ---- the pages of a default change: private, and in no overlay entry of its VTL

abbrev pub free : List ℕ → ℕ → Bool
free overlays p = not (is_overlay overlays p)

abbrev pub wanted : List ℕ → List ℕ → ℕ → Bool
wanted private overlays p = bit_at 8 private p && free overlays p

abbrev pub next_piece : List ℕ → List ℕ → List MemoryRangeWithNode → ℕ → PageRun
next_piece private overlays es at = next_of (wanted private overlays) es at

-- the pages that a default change may look at
abbrev pub private_ram : List ℕ → List MemoryRangeWithNode → ℕ → Bool
private_ram private es p = is_ram es p && bit_at 8 private p

-- ---- what the code looks for on its way

-- page p of a map has the state s
abbrev pub is : Bool → List ℕ → ℕ → Bool
is s map p = cond s (bit_at 8 map p) (not (bit_at 8 map p))

-- the pages of k overlay entries from place o on, in table order
unfoldable pub pages_from : List ℕ → ℕ → ℕ → List ℕ
pages_from t zero o = []
pages_from t (suc k) o = get_or t o 0 ∷ pages_from t k (o + overlay.words)

abbrev pub overlay_pages : List ℕ → List ℕ
overlay_pages t = pages_from t (used t) 1

-- p is not one of k pages from a on
abbrev pub outside : ℕ → ℕ → ℕ → Bool
outside a k p = cond (ltb p a) true (leb k (p - a))

-- how many of a list P holds of
unfoldable pub how_many : (ℕ → Bool) → List ℕ → ℕ
how_many P [] = 0
how_many P (p ∷ ps) = cond (P p) (suc (how_many P ps)) (how_many P ps)

-- how many overlay pages are still inside a run: what falls as it is split
abbrev pub inside : List ℕ → ℕ → ℕ → ℕ
inside l a k = how_many (non (outside a k)) l
