-- How many pages of a run are written one by one: at most seven at each end. Assumes nothing.
use mathlib.Core.Bool.{Bool, true, false, ◌||◌}
use mathlib.Core.Logic.{⊎_elim}
use mathlib.Core.Path.{◌≡◌, refl, ap, ap₂}
use Prim.Native.Nat.{ℕ, zero, suc, ◌+◌, ◌-◌, ◌*◌, ◌/◌, ◌≤◌, ◌<◌}
use native.Mathlib.Omega.{arith}
use Rattle.laws.specs.Bools.{digit, digit_le, lt_or_le}
use Rattle.laws.specs.Ranges.{between, between_same, between_false}
use Rattle.bitmap.specs.Pages.{edges, tally}
use Rattle.bitmap.proofs.Runs.{edges_none, edges_short, edges_ends}

tally_same : (n : ℕ) (f g : ℕ → Bool) → ((q : ℕ) → f q ≡ g q) → tally n f ≡ tally n g
unfolding tally
tally_same zero f g h = refl
tally_same (suc n) f g h = ap₂ (λ (a b : ℕ). a + b) (ap digit (h zero)) (tally_same n (λ q. f (suc q)) (λ q. g (suc q)) (λ q. h (suc q)))

tally_or : (n : ℕ) (f g : ℕ → Bool) → tally n (λ q. f q || g q) ≤ tally n f + tally n g
unfolding tally
tally_or zero f g = omega arith
tally_or (suc n) f g =
    let d = one_of (f zero) (g zero) in let h = tally_or n (λ q. f (suc q)) (λ q. g (suc q)) in omega arith
  where
    one_of : (a b : Bool) → digit (a || b) ≤ digit a + digit b
    one_of true b = omega arith
    one_of false b = omega arith

tally_between : (n a b : ℕ) → tally n (between a b) ≤ b - a
unfolding tally
tally_between zero a b = omega arith
tally_between (suc n) a b =
    let e = tally_same n (λ q. between a b (suc q)) (between (a - 1) (b - 1)) (λ q. between_same a b (suc q) (a - 1) (b - 1) q (λ l h. (omega arith, omega arith)) (λ l h. (omega arith, omega arith))) in
    let h = tally_between n (a - 1) (b - 1) in
    ⊎_elim (λ (z : 0 < a). let f = between_false a b 0 (λ l t. omega arith) in let d = ap digit f in omega (arith, d, e, h))
    (λ (z : a ≤ 0). ⊎_elim (λ (y : 0 < b). let d = digit_le (between a b 0) in omega (arith, d, e, h))
    (λ (y : b ≤ 0). let f = between_false a b 0 (λ l t. omega arith) in let d = ap digit f in omega (arith, d, e, h)) (lt_or_le 0 b))
    (lt_or_le 0 a)

tally_none : (n : ℕ) (f : ℕ → Bool) → ((q : ℕ) → f q ≡ false) → tally n f ≡ 0
unfolding tally
tally_none zero f h = refl
tally_none (suc n) f h = let d = ap digit (h zero) in let r = tally_none n (λ q. f (suc q)) (λ q. h (suc q)) in omega (arith, d, r)

-- of a run's pages in one byte at most seven, since eight fill it
edge_few : (n a l : ℕ) → a ≤ l → a / 8 ≡ l / 8 → tally n (edges 8 a (l + 1)) ≤ 7
edge_few n a l o h =
    ⊎_elim (λ (s : l - a < 7).
    let e = tally_same n (between a (l + 1)) (edges 8 a (l + 1)) (λ q. edges_short a l q o s) in omega (arith, e, tally_between n a (l + 1)))
    (λ (s : 7 ≤ l - a).
    let e = tally_none n (edges 8 a (l + 1)) (λ q. edges_none a (l + 1) q (omega arith) (omega arith)) in omega (arith, e))
    (lt_or_le (l - a) 7)

-- the run from a to l
pub edges_few : (n a l : ℕ) → a ≤ l → tally n (edges 8 a (l + 1)) ≤ 14
edges_few n a l o =
    ⊎_elim (λ (h : a / 8 < l / 8).
    let back : ℕ → Bool = edges 8 (l / 8 * 8) (l + 1) in
    let front : ℕ → Bool = edges 8 a (a / 8 * 8 + 7 + 1) in
    let e = tally_same n (edges 8 a (l + 1)) (λ q. back q || front q) (λ q. edges_ends a l q h) in
    omega (arith, e, tally_or n back front, edge_few n (l / 8 * 8) l (omega arith) (omega arith), edge_few n a (a / 8 * 8 + 7) (omega arith) (omega arith)))
    (λ (h : l / 8 ≤ a / 8). let e = edge_few n a l o (omega arith) in omega (arith, e))
    (lt_or_le (a / 8) (l / 8))
