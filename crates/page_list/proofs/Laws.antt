-- Laws of page lists: how a loop over their pages goes on and ends, and that a list that ascends or descends has no repeat. Assumes nothing.
use mathlib.Core.Bool.{Bool, true, false, not, ◌||◌}
use mathlib.Core.List.{List, [], ◌∷◌, ◌++◌}
use mathlib.Core.Path.{◌≡◌, refl, sym, ap, ◌∙◌}
use Prim.Native.Nat.{ℕ, zero, suc, ◌+◌, ◌*◌, ◌/◌, ◌≤◌, ◌<◌}
use native.Mathlib.Numerals.{add-one}
use native.Mathlib.Omega.{arith}
use lib.Dec.{eqb}
use lib.ListN.{length, get_or, drop, drop_of_length-le, get_or-eq_default}
use lib.Seq.{drop-cons}
use borrow.Author.Tests.{eq-eqb, ne_eqb, ltb-true, ltb-false, not-true}
use Rattle.laws.specs.Bools.{and_left, and_right, or_right, or_assoc}
use Rattle.page_list.specs.Pages.{number_of, number_at, numbers_from, pages_of, is_long, among, repeats, steps, steps_from, strict}

-- a number in two halves of four bytes
pub halves : (a b c d e f g h low high : ℕ) → low ≡ a + 0x100 * b + 0x1_0000 * c + 0x100_0000 * d → high ≡ e + 0x100 * f + 0x1_0000 * g + 0x100_0000 * h
    → low + 0x1_0000_0000 * high ≡ number_of a b c d e f g h
unfolding number_of
halves a b c d e f g h low high x y = omega arith

pub long_le : (l : List ℕ) → not (is_long l) ≡ true → length l ≤ 4096
long_le l h = ltb-false 4096 (length l) (not-true (is_long l) h)

pub among_append : (ps qs : List ℕ) (p : ℕ) → among (ps ++ qs) p ≡ (among ps p || among qs p)
unfolding among
among_append [] qs p = refl
among_append (q ∷ ps) qs p = ap (λ (b : Bool). eqb p q || b) (among_append ps qs p) ∙ sym (or_assoc (eqb p q) (among ps p) (among qs p))

pub among_at : (l : List ℕ) (i : ℕ) → i < length l → among l (get_or l i 0) ≡ true
unfolding among
among_at [] i h = absurd (omega arith)
among_at (x ∷ l) zero h = rw (eq-eqb x x refl)
among_at (x ∷ l) (suc i) h = or_right (eqb (get_or l i 0) x) (among l (get_or l i 0)) (among_at l i (omega arith))

pub count_numbers : (l : List ℕ) (i k : ℕ) → length (numbers_from l i k) ≡ k
unfolding numbers_from
count_numbers l i zero = refl
count_numbers l i (suc k) = ap suc (count_numbers l (suc i) k)

number_in : (l : List ℕ) (k i j : ℕ) → j < k → get_or (numbers_from l i k) j 0 ≡ number_at l (i + j)
unfolding numbers_from
number_in l zero i j h = absurd (omega arith)
number_in l (suc k) i zero h = let e : i ≡ i + 0 = omega arith in ap (number_at l) e
number_in l (suc k) i (suc j) h = let e : suc i + j ≡ i + suc j = omega arith in number_in l k (suc i) j (omega arith) ∙ ap (number_at l) e

pub page_in : (l : List ℕ) (i : ℕ) → i < length l / 8 → get_or (pages_of l) i 0 ≡ number_at l i
page_in l i h = let e : 0 + i ≡ i = omega arith in number_in l (length l / 8) 0 i h ∙ ap (number_at l) e

pub page_past : (l : List ℕ) (i : ℕ) → length l / 8 ≤ i → 0 ≡ get_or (pages_of l) i 0
page_past l i h = sym (get_or-eq_default (pages_of l) 0 (omega (arith, count_numbers l 0 (length l / 8))))

-- ---- a loop over pages: it ends here, it goes on, there is none left
module _ (ps : List ℕ) (i : ℕ) where
  none : length ps ≤ i → drop i ps ≡ []
  none h = drop_of_length-le ps h

  module _ (q : ℕ) (h : i < length ps) (e : q ≡ get_or ps i 0) where
    next : drop i ps ≡ q ∷ drop (i + 1) ps
    next = rw (add-one, drop-cons ps i 0 h) (ap (λ (x : ℕ). x ∷ drop (suc i) ps) (sym e))

    pub among_hit : (p : ℕ) → p ≡ q → among (drop i ps) p ≡ true
    unfolding among
    among_hit p d = rw (next, eq-eqb p q d)

    pub among_miss : (p : ℕ) → (p ≡ q → ⊥) → among (drop i ps) p ≡ among (drop (i + 1) ps) p
    unfolding among
    among_miss p d = rw (next, ne_eqb p q d)

    pub repeats_hit : among (drop (i + 1) ps) q ≡ true → repeats (drop i ps) ≡ true
    unfolding repeats
    repeats_hit d = rw (next, d)

    pub repeats_miss : among (drop (i + 1) ps) q ≡ false → repeats (drop i ps) ≡ repeats (drop (i + 1) ps)
    unfolding repeats
    repeats_miss d = rw (next, d)

    pub steps_hit : (up : Bool) (p : ℕ) → steps up p q ≡ false → steps_from up p (drop i ps) ≡ false
    unfolding steps_from
    steps_hit up p d = rw (next, d)

    pub steps_miss : (up : Bool) (p : ℕ) → steps up p q ≡ true → steps_from up p (drop i ps) ≡ steps_from up q (drop (i + 1) ps)
    unfolding steps_from
    steps_miss up p d = rw (next, d)

  module _ (h : length ps ≤ i) where
    pub among_end : (p : ℕ) → among (drop i ps) p ≡ false
    unfolding among
    among_end p = rw (none h)

    pub repeats_end : repeats (drop i ps) ≡ false
    unfolding repeats
    repeats_end = rw (none h)

    pub steps_end : (up : Bool) (p : ℕ) → steps_from up p (drop i ps) ≡ true
    unfolding steps_from
    steps_end up p = rw (none h)

pub strict_start : (up : Bool) (ps : List ℕ) (p : ℕ) → p ≡ get_or ps 0 0 → steps_from up p (drop 1 ps) ≡ strict up ps
unfolding strict steps_from
strict_start up [] p e = refl
strict_start up (q ∷ qs) p e = ap (λ (x : ℕ). steps_from up x qs) e

-- ---- a list that ascends or descends has no repeat

-- o lies on the side of p that the list comes from
abbrev behind : Bool → ℕ → ℕ → Type 0
behind true o p = o ≤ p
behind false o p = p ≤ o

passed : (up : Bool) (o p q : ℕ) → behind up o p → steps up p q ≡ true → (eqb o q ≡ false) × behind up o q
passed true o p q h s = let l = ltb-true p q s in (ne_eqb o q (λ e. omega arith), omega arith)
passed false o p q h s = let l = ltb-true q p s in (ne_eqb o q (λ e. omega arith), omega arith)

never : (up : Bool) (o p : ℕ) (ps : List ℕ) → behind up o p → steps_from up p ps ≡ true → among ps o ≡ false
unfolding among steps_from
never up o p [] h s = refl
never up o p (q ∷ qs) h s =
    let m = passed up o p q h (and_left (steps up p q) (steps_from up q qs) s) in
    rw m.0 (never up o q qs m.1 (and_right (steps up p q) (steps_from up q qs) s))

level : (up : Bool) (p : ℕ) → behind up p p
level true p = omega arith
level false p = omega arith

none_from : (up : Bool) (p : ℕ) (ps : List ℕ) → steps_from up p ps ≡ true → repeats (p ∷ ps) ≡ false
unfolding repeats steps_from among
none_from up p [] s = refl
none_from up p (q ∷ qs) s =
    rw (never up p p (q ∷ qs) (level up p) s) (none_from up q qs (and_right (steps up p q) (steps_from up q qs) s))

pub strict_none : (up : Bool) (ps : List ℕ) → strict up ps ≡ true → repeats ps ≡ false
unfolding strict repeats
strict_none up [] s = refl
strict_none up (p ∷ ps) s = none_from up p ps s
