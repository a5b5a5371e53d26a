-- What lock and unlock leave fits again, and lists equal in every place are equal. Assumes nothing.
use mathlib.Core.Bool.{Bool, true, false}
use mathlib.Core.List.{List, [], ◌∷◌, ◌++◌}
use mathlib.Core.Path.{◌≡◌, refl, ap, ap₂, ◌∙◌}
use Prim.Native.Nat.{ℕ, suc, ◌+◌}
use native.Mathlib.Omega.{arith}
use lib.Dec.{eqb, ltb, leb}
use lib.ListN.{length, length-append}
use borrow.Author.Tests.{eq-eqb, eqb-true, ltb-true, leb-true}
use Rattle.laws.specs.Bools.{false≢true, and_left, and_right}
use Rattle.lock_table.specs.Locks.{total, Fit, room_for, same, kept, last_of, all_but_last, last_first, unlocked}
use Rattle.lock_table.proofs.Lists.{total_append}
use Rattle.lock_table.proofs.Unlocked.{first, none_unlocked, first_unlocked}

pub same_self : (a : List ℕ) → same a a ≡ true
unfolding same
same_self [] = refl
same_self (x ∷ a) = rw (eq-eqb x x refl) (same_self a)

pub same_equal : (a b : List ℕ) → same a b ≡ true → a ≡ b
unfolding same
same_equal [] [] e = refl
same_equal [] (y ∷ b) e = false≢true e
same_equal (x ∷ a) [] e = false≢true e
same_equal (x ∷ a) (y ∷ b) e = ap₂ (λ (h : ℕ) (r : List ℕ). h ∷ r) (eqb-true x y (and_left (eqb x y) (same a b) e)) (same_equal a b (and_right (eqb x y) (same a b) e))

pub lock_fits : (ls : List (List ℕ)) (l : List ℕ) → room_for ls (length l) ≡ true → Fit (ls ++ (l ∷ []))
unfolding total
lock_fits ls l r =
    let f = ltb-true (length ls) 64 (and_left (ltb (length ls) 64) (leb (total ls + length l) 1024) r) in
    let g = leb-true (total ls + length l) 1024 (and_right (ltb (length ls) 64) (leb (total ls + length l) 1024) r) in
    (omega (arith, length-append ls (l ∷ [])), omega (arith, total_append ls (l ∷ [])))

last_sizes : (x : List ℕ) (xs : List (List ℕ)) → (length (all_but_last x xs) ≡ length xs) × (length (last_of x xs) + total (all_but_last x xs) ≡ length x + total xs)
unfolding all_but_last last_of total
last_sizes x [] = (refl, refl)
last_sizes x (y ∷ ys) = let d = last_sizes y ys in (ap suc d.0, omega (arith, d.1))

first_sizes : (xs : List (List ℕ)) → (length (last_first xs) ≡ length xs) × (total (last_first xs) ≡ total xs)
unfolding last_first total
first_sizes [] = (refl, refl)
first_sizes (x ∷ xs) = let d = last_sizes x xs in (ap suc d.0, d.1)

pub unlock_fits : (ls : List (List ℕ)) (l : List ℕ) → Fit ls → Fit (unlocked ls l)
unfolding total
unlock_fits ls l fit = go (kept ls l) refl
  where
    go : (b : Bool) → kept ls l ≡ b → Fit (unlocked ls l)
    go false k = let e = none_unlocked ls l k in (omega (arith, ap (length {A = List ℕ}) e, fit.0), omega (arith, ap total e, fit.1))
    go true k =
        let f = first ls l k in
        let e = ap (λ (r : List (List ℕ)). unlocked r l) f.here ∙ first_unlocked f.pre f.list f.post l f.none f.equal in
        let d = first_sizes f.post in
        let a = ap (length {A = List ℕ}) f.here ∙ length-append f.pre (f.list ∷ f.post) in
        let b = ap (length {A = List ℕ}) e ∙ length-append f.pre (last_first f.post) in
        let c = ap total f.here ∙ total_append f.pre (f.list ∷ f.post) in
        let g = ap total e ∙ total_append f.pre (last_first f.post) in
        (omega (arith, a, b, d.0, fit.0), omega (arith, c, g, d.1, fit.1))
