-- Laws of the query of visibilities. Assumes nothing.
use native.Mathlib.Omega.{arith}
use native.Mathlib.Numerals.{add-one}
use mathlib.Core.Path.{◌≡◌, refl, sym, ap, ◌∙◌}
use mathlib.Core.List.{List, [], ◌∷◌}
use Prim.Native.Nat.{ℕ, zero, suc, ◌+◌, ◌≤◌, ◌<◌, min}
use lib.ListN.{length, get_or, set, take}
use Rattle.laws.specs.Bools.{digit}
use Rattle.bitmap.specs.Pages.{bit_at}
use Rattle.queries.specs.Queries.{visibilities, filled_by}

-- ---- the output

pub count_visibilities : (shared ps : List ℕ) → length (visibilities shared ps) ≡ length ps
unfolding visibilities
count_visibilities shared [] = refl
count_visibilities shared (p ∷ ps) = ap suc (count_visibilities shared ps)

pub visibility_at : (shared ps : List ℕ) (i : ℕ) → i < length ps → get_or (visibilities shared ps) i 0 ≡ digit (bit_at 8 shared (get_or ps i 0))
unfolding visibilities
visibility_at shared [] i h = absurd (omega arith)
visibility_at shared (p ∷ ps) zero h = refl
visibility_at shared (p ∷ ps) (suc i) h = visibility_at shared ps i (omega arith)

pub filled_none : (bs out : List ℕ) → out ≡ filled_by (take 0 bs) out
unfolding filled_by
filled_none [] out = refl
filled_none (b ∷ bs) out = refl

filled_step : (bs out : List ℕ) (i b : ℕ) → i < length bs → i < length out → b ≡ get_or bs i 0 → set (filled_by (take i bs) out) i b ≡ filled_by (take (suc i) bs) out
unfolding filled_by
filled_step [] out i b h k e = absurd (omega arith)
filled_step (y ∷ bs) [] i b h k e = absurd (omega arith)
filled_step (y ∷ bs) (x ∷ out) zero b h k e = ap (λ (v : ℕ). v ∷ out) e ∙ ap (λ (r : List ℕ). y ∷ r) (filled_none bs out)
filled_step (y ∷ bs) (x ∷ out) (suc i) b h k e = ap (λ (r : List ℕ). y ∷ r) (filled_step bs out i b (omega arith) (omega arith) e)

pub filled_more : (bs out o : List ℕ) (i b : ℕ) → o ≡ filled_by (take i bs) out → i < length bs → i < length out → b ≡ get_or bs i 0 → set o i b ≡ filled_by (take (i + 1) bs) out
filled_more bs out o i b f h k e = ap (λ (r : List ℕ). set r i b) f ∙ filled_step bs out i b h k e ∙ ap (λ (n : ℕ). filled_by (take n bs) out) (sym (add-one i))

pub filled_all : (bs out : List ℕ) (i : ℕ) → min (length bs) (length out) ≤ i → filled_by (take i bs) out ≡ filled_by bs out
unfolding filled_by
filled_all [] out zero h = refl
filled_all [] out (suc i) h = refl
filled_all (y ∷ bs) [] zero h = refl
filled_all (y ∷ bs) [] (suc i) h = refl
filled_all (y ∷ bs) (x ∷ out) zero h = absurd (omega arith)
filled_all (y ∷ bs) (x ∷ out) (suc i) h = ap (λ (r : List ℕ). y ∷ r) (filled_all bs out i (omega arith))
