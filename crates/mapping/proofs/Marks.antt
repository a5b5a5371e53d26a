-- How a map is built: cleared, then the RAM of one entry of the layout after the other. Assumes nothing.
use mathlib.Core.Bool.{Bool, true, false, cond, ◌||◌, ◌&&◌}
use mathlib.Core.List.{List, [], ◌∷◌}
use mathlib.Core.Path.{◌≡◌, refl, sym, ap, ap₂, ◌∙◌}
use Prim.Native.Nat.{ℕ, zero, suc, ◌+◌, ◌*◌, ◌/◌, ◌%◌, ◌^◌, ◌≤◌, ◌<◌}
use native.Mathlib.Omega.{arith}
use lib.Arith.{digits_div}
use lib.Dec.{ltb, lit<}
use lib.ListN.{length, get_or, drop, replicate, length-replicate}
use Rattle.laws.specs.Bools.{or_swap}
use Rattle.laws.specs.Ranges.{between, between_true, between_same}
use Rattle.bitmap.specs.Pages.{bit, bit_at, written, words}
use Rattle.bitmap.proofs.Bit.{bit_of_zero}
use Rattle.bitmap.proofs.Map.{both, none, cleared, still_clear, page_law}
use Rattle.layout.specs.declared.MemoryRangeWithNode.{MemoryRangeWithNode}
use Rattle.layout.specs.Layout.{entry_at, ram_byte, is_ram, holds_page}
use Rattle.layout.proofs.Laws.{next_entry, no_entry, ram_cons}
use Rattle.permissions.specs.declared.HvMapGpaFlags.{HvMapGpaFlags}
use Rattle.mapping.specs.Maps.{perms, maps, fresh, built, permitted}

pub all_cleared : (m : List ℕ) → ((j : ℕ) → j < length m → get_or m j 0 < 2 ^ 8) → written 8 (words 8 0 (length m)) false m ≡ replicate (length m) 0
all_cleared m small =
    cleared 8 (words 8 0 (length m)) m small
    (λ j k l d. ap (between 0 (length m)) (digits_div j d) ∙ between_true 0 (length m) j (omega arith) l)

-- the pages of an entry
pub entry_pages_lem : (e : MemoryRangeWithNode) (p : ℕ) → between ((e.start + 4095) / 4096) ((e.end + 4095) / 4096) p ≡ holds_page e p
entry_pages_lem e p =
    between_same ((e.start + 4095) / 4096) ((e.end + 4095) / 4096) p e.start e.end (p * 4096)
    (λ l h. (omega arith, omega arith)) (λ l h. (omega arith, omega arith))

-- a turn of the loop over the entries, and its end
module _ (es : List MemoryRangeWithNode) (i : ℕ) (m : List ℕ) where
  pub ram_step : (e : MemoryRangeWithNode) (a b : ℕ) (l : List ℕ) → i < length es → e ≡ entry_at es i → a ≡ (e.start + 4095) / 4096 → b ≡ (e.end + 4095) / 4096
      → l ≡ written 8 (between a b) true m → written 8 (is_ram (drop (i + 1) es)) true l ≡ written 8 (is_ram (drop i es)) true m
  ram_step e a b l h q f g w =
      rw (w, f, g)
      (both 8 (is_ram (drop (i + 1) es)) (between ((e.start + 4095) / 4096) ((e.end + 4095) / 4096)) (is_ram (drop i es)) true m
      (λ p.
      ap (λ (x : List MemoryRangeWithNode). is_ram x p) (next_entry es i h ∙ ap (λ (x : MemoryRangeWithNode). x ∷ drop (i + 1) es) (sym q))
      ∙ ram_cons e (drop (i + 1) es) p ∙ or_swap (holds_page e p) (is_ram (drop (i + 1) es) p)
      ∙ ap (λ (b : Bool). is_ram (drop (i + 1) es) p || b) (sym (entry_pages_lem e p))))

  pub ram_end : length es ≤ i → written 8 (is_ram (drop i es)) true m ≡ m
  unfolding ram_byte
  ram_end h = rw (no_entry es i h) (sym (none 8 (is_ram []) true m (λ j k l d. refl)))

-- a map as built
pub init_set : (es : List MemoryRangeWithNode) (s : Bool) (n : ℕ) (l m : List ℕ) → s ≡ true → m ≡ replicate n 0 → l ≡ written 8 (is_ram es) true m → l ≡ fresh es s n
init_set es s n l m e f g = rw (g, f, e)

pub init_clear : (es : List MemoryRangeWithNode) (s : Bool) (n : ℕ) (m : List ℕ) → s ≡ false → m ≡ replicate n 0 → m ≡ fresh es s n
init_clear es s n m e f = rw (f, e) (still_clear 8 (is_ram es) n)

-- all maps as built, and the permission maps after a write
pub built_is : (es : List MemoryRangeWithNode) (p s r w k u p' s' r' w' k' u' : List ℕ) → p' ≡ fresh es true (length p) → s' ≡ fresh es false (length s)
    → r' ≡ fresh es true (length r) → w' ≡ fresh es true (length w) → k' ≡ fresh es true (length k) → u' ≡ fresh es true (length u)
    → maps p' s' r' w' k' u' ≡ built es (maps p s r w k u)
built_is es p s r w k u p' s' r' w' k' u' ep es' er ew ek eu = rw (ep, es', er, ew, ek, eu)

pub permitted_is : (a b : ℕ) (f : HvMapGpaFlags) (r w k u r' w' k' u' : List ℕ) → r' ≡ written 8 (between a b) f.readable r
    → w' ≡ written 8 (between a b) f.writable w → k' ≡ written 8 (between a b) f.kernel_executable k → u' ≡ written 8 (between a b) f.user_executable u
    → perms r' w' k' u' ≡ permitted a b f (perms r w k u)
permitted_is a b f r w k u r' w' k' u' er ew ek eu = rw (er, ew, ek, eu)

-- A page of a map as built: set where the map is, of RAM and of the map. The bit fact at bytes, for each of the six.
pub fresh_page : (es : List MemoryRangeWithNode) (s : Bool) (n p : ℕ) → bit_at 8 (fresh es s n) p ≡ cond (is_ram es p && ltb (p / 8) n) s false
fresh_page es s n p =
    page_law 8 (is_ram es) s (replicate n 0) p (lit< tt)
    ∙ ap₂ (λ (m : ℕ) (b : Bool). cond (is_ram es p && ltb (p / 8) m) s b) (length-replicate n 0)
    (ap (λ (x : ℕ). bit x (p % 8)) (zeros n (p / 8)) ∙ bit_of_zero (p % 8))
  where
    zeros : (n i : ℕ) → get_or {A = ℕ} (replicate n 0) i 0 ≡ 0
    zeros zero i = refl
    zeros (suc n) zero = refl
    zeros (suc n) (suc i) = zeros n i

-- and of a permission map after a write
pub permitted_page : (a b : ℕ) (s : Bool) (m : List ℕ) (p : ℕ) → bit_at 8 (written 8 (between a b) s m) p ≡ cond (between a b p && ltb (p / 8) (length m)) s (bit_at 8 m p)
permitted_page a b s m p = page_law 8 (between a b) s m p (lit< tt)
