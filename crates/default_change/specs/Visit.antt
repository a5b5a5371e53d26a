-- The pieces of a default change, one after the other (01, "The request under way": it ascends), and the pages they visit.
use Rattle.std.specs.Prelude.{Bool, true, false, cond, ◌&&◌, ◌||◌, List, [], ◌∷◌, ◌++◌, ℕ, zero, suc, ◌+◌, eqb, leb}
use Rattle.layout.specs.declared.MemoryRangeWithNode.{MemoryRangeWithNode}
use Rattle.layout.specs.Layout.{is_ram}
use Rattle.page_list.specs.declared.PageRun.{PageRun}
use Rattle.default_change.specs.Pieces.{page_up, next_of, wanted}

-- k pages from a on
unfoldable pub up_to : ℕ → ℕ → List ℕ
up_to a zero = []
up_to a (suc k) = a ∷ up_to (suc a) k

-- those of a list that P holds of
unfoldable pub pick : (ℕ → Bool) → List ℕ → List ℕ
pick P [] = []
pick P (p ∷ ps) = cond (P p) (p ∷ pick P ps) (pick P ps)

-- the pages of runs
unfoldable pub pages_in : List PageRun → List ℕ
pages_in [] = []
pages_in (r ∷ rs) = up_to r.first r.count ++ pages_in rs

-- the next piece from page `at` on, and those from its end on: n of them at most
unfoldable pub pieces_from : (ℕ → Bool) → List MemoryRangeWithNode → ℕ → ℕ → List PageRun
pieces_from P es zero at = []
pieces_from P es (suc n) at = cond (eqb (next_of P es at).count 0) [] (next_of P es at ∷ pieces_from P es n ((next_of P es at).first + (next_of P es at).count))

-- the first n pieces of a default change
abbrev pub pieces : ℕ → List ℕ → List ℕ → List MemoryRangeWithNode → List PageRun
pieces n private overlays es = pieces_from (wanted private overlays) es n 0

-- the wanted RAM pages below n, ascending
abbrev pub wanted_below : ℕ → List ℕ → List ℕ → List MemoryRangeWithNode → List ℕ
wanted_below n private overlays es = pick (λ p. is_ram es p && wanted private overlays p) (up_to 0 n)

-- a run lies in one entry, and so does each of a list
unfoldable pub in_one_entry : List MemoryRangeWithNode → PageRun → Bool
in_one_entry [] r = false
in_one_entry (e ∷ es) r = (leb (page_up e.start) r.first && leb (r.first + r.count) (page_up e.end)) || in_one_entry es r

unfoldable pub each_in_one : List MemoryRangeWithNode → List PageRun → Bool
each_in_one es [] = true
each_in_one es (r ∷ rs) = in_one_entry es r && each_in_one es rs
