-- A page of a fit layout is RAM with all its bytes or with none. Assumes nothing.
use mathlib.Core.Bool.{Bool, true, ◌||◌}
use mathlib.Core.List.{List, [], ◌∷◌}
use mathlib.Core.Path.{◌≡◌, refl, ap₂}
use Prim.Native.Nat.{ℕ, ◌+◌, ◌*◌, ◌%◌, ◌<◌}
use native.Mathlib.Omega.{arith}
use borrow.Author.Tests.{eqb-true}
use lib.Dec.{eqb}
use Rattle.laws.specs.Bools.{both_true}
use Rattle.laws.specs.Ranges.{between, between_same}
use Rattle.layout.specs.declared.MemoryRangeWithNode.{MemoryRangeWithNode}
use Rattle.layout.specs.Layout.{entries_of, ram_byte, is_ram, on_bytes, aligned}
use Rattle.layout.proofs.Laws.{Fit}

entry_page : (e : MemoryRangeWithNode) (p k : ℕ) → on_bytes e ≡ true → k < 4096 → between e.start e.end (p * 4096 + k) ≡ between e.start e.end (p * 4096)
entry_page e p k h l =
    let b = both_true (eqb (e.start % 0x8000) 0) _ h in
    let s : e.start % 0x8000 ≡ 0 = eqb-true _ _ b.0 in
    let t : e.end % 0x8000 ≡ 0 = eqb-true _ _ b.1 in
    between_same e.start e.end (p * 4096 + k) e.start e.end (p * 4096) (λ x y. (omega arith, omega arith)) (λ x y. (omega arith, omega arith))

pub page_alike : (es : List MemoryRangeWithNode) (p k : ℕ) → aligned es ≡ true → k < 4096 → ram_byte es (p * 4096 + k) ≡ is_ram es p
unfolding ram_byte aligned
page_alike [] p k h l = refl
page_alike (e ∷ es) p k h l =
    let a = both_true (on_bytes e) _ h in
    ap₂ (λ (x y : Bool). x || y) (entry_page e p k a.0 l) (page_alike es p k a.1 l)

-- so of every layout that is taken
pub fit_page : (ws : List ℕ) → Fit ws → (p k : ℕ) → k < 4096 → ram_byte (entries_of ws) (p * 4096 + k) ≡ is_ram (entries_of ws) p
fit_page ws f p k l = page_alike (entries_of ws) p k f.on_edges l
