-- Laws of the split at an overlay page: the search, what falls, and the piece of each return. Assumes nothing.
use mathlib.Core.Bool.{Bool, true, false, not, cond, ◌||◌}
use mathlib.Core.List.{List, [], ◌∷◌}
use mathlib.Core.Path.{◌≡◌, refl, sym, ap, subst, ◌∙◌}
use Prim.Native.Nat.{ℕ, zero, suc, ◌+◌, ◌-◌, ◌≤◌, ◌<◌}
use native.Mathlib.Omega.{arith}
use native.Mathlib.Decide.{dec_lt}
use lib.Dec.{eqb}
use lib.ListN.{get_or}
use borrow.Author.Tests.{eq-eqb, eqb-true, ne_eqb, lt-ltb, le-ltb, le-leb, lt-leb, not-true}
use Rattle.std.specs.Prelude.{Some, None, find}
use Rattle.laws.specs.Bools.{or_right}
use Rattle.page_list.specs.Pages.{among}
use Rattle.overlay_table.specs.Overlays.{used, place_from, is_overlay}
use Rattle.default_change.specs.Pieces.{non, start_of, len_of, free, pages_from, overlay_pages, outside, how_many, inside}
use Rattle.default_change.proofs.Spans as laws

-- in or out of the run
pub in_false : (a k p : ℕ) → a ≤ p → p < a + k → outside a k p ≡ false
in_false a k p h g = let y : p - a < k = omega arith in rw (le-ltb p a h, lt-leb k (p - a) y)

pub low_true : (a k p : ℕ) → p < a → outside a k p ≡ true
low_true a k p h = rw (lt-ltb p a h)

pub high_true : (a k p : ℕ) → a + k ≤ p → outside a k p ≡ true
high_true a k p h = let x : a ≤ p = omega arith in let y : k ≤ p - a = omega arith in rw (le-ltb p a x, le-leb k (p - a) y)

pub true_false : {A : Type 0} → true ≡ false → A
true_false e = absurd (subst (λ (b : Bool). cond b (Unit {0}) ⊥) e tt)

pub false_in : (a k p : ℕ) → outside a k p ≡ false → (a ≤ p) × (p < a + k)
false_in a k p h = elim (dec_lt p a) [
  | yes d ↦ true_false (sym (low_true a k p d) ∙ h)
  | no d ↦ elim (dec_lt p (a + k)) [
    | yes e ↦ (omega arith, e)
    | no e ↦ true_false (sym (high_true a k p (omega arith)) ∙ h)
  ]
]

-- ---- the pages of the entries

among_pages : (t : List ℕ) (q k o : ℕ) → 0 < o → not (eqb (place_from t k o q) 0) ≡ among (pages_from t k o) q
unfolding pages_from place_from among
among_pages t q zero o h = refl
among_pages t q (suc k) o h = go (eqb q (get_or t o 0)) (among_pages t q k (o + 5) (omega arith))
  where
    go : (b : Bool) → not (eqb (place_from t k (o + 5) q) 0) ≡ among (pages_from t k (o + 5)) q
        → not (eqb (cond b o (place_from t k (o + 5) q)) 0) ≡ (b || among (pages_from t k (o + 5)) q)
    go true m = ap not (ne_eqb o 0 (λ e. omega (arith, e, h)))
    go false m = m

pub overlay_among : (t : List ℕ) (q : ℕ) → is_overlay t q ≡ among (overlay_pages t) q
overlay_among t q = among_pages t q (used t) 1 (omega arith)

-- ---- the search, one turn at a time

module _ (Q : ℕ → Bool) (t : List ℕ) (p : ℕ) where
  pub find_hit : (k o : ℕ) → 0 < k → p ≡ get_or t o 0 → Q p ≡ true → find Q (pages_from t k o) ≡ Some p
  unfolding pages_from
  find_hit zero o h e f = absurd (omega arith)
  find_hit (suc k) o h e f = rw (sym e, f) refl

  pub find_miss : (k o : ℕ) → 0 < k → p ≡ get_or t o 0 → Q p ≡ false → find Q (pages_from t k o) ≡ find Q (pages_from t (k - 1) (o + 5))
  unfolding pages_from
  find_miss zero o h e f = absurd (omega arith)
  find_miss (suc k) o h e f = let d : suc k - 1 ≡ k = omega arith in rw (sym e, f, d) refl

pub find_end : (Q : ℕ → Bool) (t : List ℕ) (k o : ℕ) → k ≤ 0 → find Q (pages_from t k o) ≡ None
unfolding pages_from
find_end Q t zero o h = refl
find_end Q t (suc k) o h = absurd (omega arith)

-- what is found is inside the run, and a page of the list
found_inside : (a k : ℕ) (l : List ℕ) (p : ℕ) → find (non (outside a k)) l ≡ Some p → (outside a k p ≡ false) × (among l p ≡ true)
unfolding among
found_inside a k [] p e = cc
found_inside a k (x ∷ l) p e = go (outside a k x) refl e (found_inside a k l p)
  where
    go : (b : Bool) → outside a k x ≡ b → cond (not b) (Some x) (find (non (outside a k)) l) ≡ Some p → (find (non (outside a k)) l ≡ Some p → (outside a k p ≡ false) × (among l p ≡ true))
        → (outside a k p ≡ false) × ((eqb p x || among l p) ≡ true)
    go false o e m = let d : p ≡ x = cc in (ap (outside a k) d ∙ o, rw (eq-eqb p x d) refl)
    go true o e m = let r = m e in (r.0, or_right (eqb p x) (among l p) r.1)

-- where nothing is found, none of the list is inside
none_inside : (a k : ℕ) (l : List ℕ) → find (non (outside a k)) l ≡ None → (q : ℕ) → a ≤ q → q < a + k → not (among l q) ≡ true
unfolding among
none_inside a k [] h q x y = refl
none_inside a k (p ∷ l) h q x y = go (outside a k p) refl h (λ g. none_inside a k l g q x y)
  where
    go : (b : Bool) → outside a k p ≡ b → cond (not b) (Some p) (find (non (outside a k)) l) ≡ None → (find (non (outside a k)) l ≡ None → not (among l q) ≡ true)
        → not (eqb q p || among l q) ≡ true
    go false e g m = cc
    go true e g m = rw (ne_eqb q p (λ d. true_false (sym e ∙ ap (outside a k) (sym d) ∙ in_false a k q x y))) (m g)

-- the measure: fewer are picked where one less is picked and no other is added
le_many : (P Q : ℕ → Bool) → ((x : ℕ) → P x ≡ true → Q x ≡ true) → (l : List ℕ) → how_many P l ≤ how_many Q l
unfolding how_many
le_many P Q f [] = omega arith
le_many P Q f (x ∷ l) = go (P x) (Q x) (f x) (le_many P Q f l)
  where
    go : (b c : Bool) → (b ≡ true → c ≡ true) → how_many P l ≤ how_many Q l → cond b (suc (how_many P l)) (how_many P l) ≤ cond c (suc (how_many Q l)) (how_many Q l)
    go false false e m = m
    go false true e m = omega arith
    go true true e m = omega arith
    go true false e m = true_false (sym (e refl))

fewer : (P Q : ℕ → Bool) → ((x : ℕ) → P x ≡ true → Q x ≡ true) → (p : ℕ) → P p ≡ false → Q p ≡ true → (l : List ℕ) → among l p ≡ true → how_many P l < how_many Q l
unfolding how_many among
fewer P Q f p e d [] h = cc
fewer P Q f p e d (x ∷ l) h = go (eqb p x) refl h (fewer P Q f p e d l)
  where
    rest : (b c : Bool) → (b ≡ true → c ≡ true) → how_many P l < how_many Q l → cond b (suc (how_many P l)) (how_many P l) < cond c (suc (how_many Q l)) (how_many Q l)
    rest false false e m = m
    rest false true e m = omega arith
    rest true true e m = omega arith
    rest true false e m = true_false (sym (e refl))

    go : (b : Bool) → eqb p x ≡ b → (b || among l p) ≡ true → (among l p ≡ true → how_many P l < how_many Q l)
        → cond (P x) (suc (how_many P l)) (how_many P l) < cond (Q x) (suc (how_many Q l)) (how_many Q l)
    go true s h m = let y = sym (eqb-true p x s) in rw (ap P y ∙ e, ap Q y ∙ d) (omega (arith, le_many P Q f l))
    go false s h m = rest (P x) (Q x) (f x) (m h)

-- what the recursion knows: the run has k pages from a on
module _ (t : List ℕ) (a k : ℕ) where
  module _ (none : find (non (outside a k)) (overlay_pages t) ≡ None) where
    none_there : (q : ℕ) → a ≤ q → q < a + k → free t q ≡ true
    none_there q x y = ap not (overlay_among t q) ∙ none_inside a k (overlay_pages t) none q x y

    pub piece_start_all : a ≡ start_of (free t) a k
    piece_start_all = sym (laws.all_start (free t) a k none_there)

    pub piece_len_all : k ≡ len_of (free t) a k
    piece_len_all = sym (laws.all_len (free t) a k none_there)

  -- and p is the first overlay page inside it
  module _ (p : ℕ) (some : find (non (outside a k)) (overlay_pages t) ≡ Some p) where
    is_in : outside a k p ≡ false
    is_in = (found_inside a k (overlay_pages t) p some).0

    listed : among (overlay_pages t) p ≡ true
    listed = (found_inside a k (overlay_pages t) p some).1

    pub p_low : a ≤ p
    p_low = (false_in a k p is_in).0

    pub p_high : p < a + k
    p_high = (false_in a k p is_in).1

    hole : free t p ≡ false
    hole = ap not (overlay_among t p ∙ listed)

    hole' : free t (a + (p - a)) ≡ false
    hole' = let e : a + (p - a) ≡ p = omega (arith, p_low) in ap (free t) e ∙ hole

    -- the number of overlays inside falls on both sides
    pub left_falls : inside (overlay_pages t) a (p - a) < inside (overlay_pages t) a k
    left_falls = fewer (non (outside a (p - a))) (non (outside a k)) wider p (ap not (high_true a (p - a) p (omega (arith, p_low)))) (ap not is_in) (overlay_pages t) listed
      where
        wider : (x : ℕ) → non (outside a (p - a)) x ≡ true → non (outside a k) x ≡ true
        wider x e = let w = false_in a (p - a) x (not-true _ e) in ap not (in_false a k x w.0 (omega (arith, w.1, p_low, p_high)))

    pub right_falls : inside (overlay_pages t) (p + 1) (a + k - (p + 1)) < inside (overlay_pages t) a k
    right_falls = fewer (non (outside (p + 1) (a + k - (p + 1)))) (non (outside a k)) wider p (ap not (low_true (p + 1) (a + k - (p + 1)) p (omega arith))) (ap not is_in) (overlay_pages t) listed
      where
        wider : (x : ℕ) → non (outside (p + 1) (a + k - (p + 1))) x ≡ true → non (outside a k) x ≡ true
        wider x e = let w = false_in (p + 1) (a + k - (p + 1)) x (not-true _ e) in ap not (in_false a k x (omega (arith, w.0, p_low)) (omega (arith, w.0, w.1, p_high)))

    cut : k ≡ (p - a) + suc (a + k - (p + 1))
    cut = omega (arith, p_low, p_high)

    -- a piece on the left is the piece of the whole
    module _ (r c : ℕ) (f : r ≡ start_of (free t) a (p - a)) (g : c ≡ len_of (free t) a (p - a)) where
      pub from_left_start : (c ≡ 0 → ⊥) → r ≡ start_of (free t) a k
      from_left_start h = f ∙ sym (ap (start_of (free t) a) cut ∙ laws.left_start (free t) a (p - a) (a + k - (p + 1)) hole' (λ e. h (g ∙ e)))

      pub from_left_len : (c ≡ 0 → ⊥) → c ≡ len_of (free t) a k
      from_left_len h = g ∙ sym (ap (len_of (free t) a) cut ∙ laws.left_len (free t) a (p - a) (a + k - (p + 1)) hole' (λ e. h (g ∙ e)))

      -- else that of the right is
      after : suc (a + (p - a)) ≡ p + 1
      after = omega (arith, p_low)

      pub from_right_start : c ≡ 0 → (r' : ℕ) → r' ≡ start_of (free t) (p + 1) (a + k - (p + 1)) → r' ≡ start_of (free t) a k
      from_right_start h r' e = e ∙ sym (ap (start_of (free t) a) cut ∙ laws.right_start (free t) a (p - a) (a + k - (p + 1)) hole' (sym g ∙ h) ∙ ap (λ (m : ℕ). start_of (free t) m (a + k - (p + 1))) after)

      pub from_right_len : c ≡ 0 → (c' : ℕ) → c' ≡ len_of (free t) (p + 1) (a + k - (p + 1)) → c' ≡ len_of (free t) a k
      from_right_len h c' e = e ∙ sym (ap (len_of (free t) a) cut ∙ laws.right_len (free t) a (p - a) (a + k - (p + 1)) hole' (sym g ∙ h) ∙ ap (λ (m : ℕ). len_of (free t) m (a + k - (p + 1))) after)
