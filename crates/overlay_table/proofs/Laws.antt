-- Laws of the search, how it ends and goes on, and of entries that are loaded. Assumes nothing.
use mathlib.Core.Bool.{Bool, true, false, cond}
use mathlib.Core.List.{List, [], ◌∷◌}
use mathlib.Core.Path.{◌≡◌, refl, sym, ap, ap₂, subst, ◌∙◌}
use Prim.Native.Nat.{ℕ, zero, suc, ◌+◌, ◌-◌, ◌*◌, ◌≤◌, ◌<◌}
use native.Mathlib.Omega.{arith}
use lib.Dec.{eqb}
use lib.ListN.{length, get_or, take, length-take}
use borrow.Author.Tests.{eq-eqb, ne_eqb}
use Rattle.overlay_table.specs.declared.OverlayKey.{OverlayKey}
use Rattle.std.specs.Prelude.{Option, Some, None, position}
use Rattle.std.proofs.lemmas.Iterator.Adapters.{position_from-zero}
use Rattle.std.specs.List.{position_from}
use Rattle.overlay_table.specs.Search.{is_of, find_from, key_of, key_at, keys_from, loaded, place_for}
use Rattle.overlay_table.specs.Overlays.{place_from}

module _ (t : List ℕ) (o p q : ℕ) where
  pub place_hit : (k : ℕ) → 0 < k → q ≡ get_or t o 0 → p ≡ q → place_from t k o p ≡ o
  unfolding place_from
  place_hit zero h f g = absurd (omega arith)
  place_hit (suc k) h f g = rw (eq-eqb p (get_or t o 0) (g ∙ f)) refl

  pub place_miss : (k : ℕ) → 0 < k → q ≡ get_or t o 0 → (p ≡ q → ⊥) → place_from t k o p ≡ place_from t (k - 1) (o + 5) p
  unfolding place_from
  place_miss zero h f g = absurd (omega arith)
  place_miss (suc k) h f g = let d : suc k - 1 ≡ k = omega arith in rw (ne_eqb p (get_or t o 0) (λ e. g (e ∙ sym f)), d) refl

  pub place_end : (k : ℕ) → k ≤ 0 → place_from t k o p ≡ 0
  unfolding place_from
  place_end zero h = refl
  place_end (suc k) h = absurd (omega arith)

-- ---- the search by a key

-- the search of pages and the search of keys agree
pub agrees : (t : List ℕ) (p k o : ℕ) → place_for t k o (key_of p) ≡ place_from t k o p
unfolding place_from place_for
agrees t p zero o = refl
agrees t p (suc k) o = ap (cond (eqb p (get_or t o 0)) o) (agrees t p k (o + 5))

-- some entries, then the others
module _ (t : List ℕ) (x : OverlayKey) where
  pub for_end : (k o : ℕ) → k ≤ 0 → place_for t k o x ≡ 0
  unfolding place_for
  for_end zero o h = refl
  for_end (suc k) o h = absurd (omega arith)

  pub split_hit : (few k o : ℕ) → few ≤ k → (place_for t few o x ≡ 0 → ⊥) → place_for t few o x ≡ place_for t k o x
  unfolding place_for
  split_hit zero k o h n = absurd (n refl)
  split_hit (suc f) zero o h n = absurd (omega arith)
  split_hit (suc f) (suc k) o h n = go (is_of (key_at t o) x) n (split_hit f k (o + 5) (omega arith))
    where
      go : (b : Bool) → (cond b o (place_for t f (o + 5) x) ≡ 0 → ⊥) → ((place_for t f (o + 5) x ≡ 0 → ⊥) → place_for t f (o + 5) x ≡ place_for t k (o + 5) x)
          → cond b o (place_for t f (o + 5) x) ≡ cond b o (place_for t k (o + 5) x)
      go true n m = refl
      go false n m = m n

  pub split_miss : (few k o : ℕ) → few ≤ k → 0 < o → place_for t few o x ≡ 0 → place_for t k o x ≡ place_for t (k - few) (o + 5 * few) x
  unfolding place_for
  split_miss zero k o h n z = let a : k ≡ k - 0 = omega arith in let b : o ≡ o + 5 * 0 = omega arith in ap₂ (λ (y w : ℕ). place_for t y w x) a b
  split_miss (suc f) zero o h n z = absurd (omega arith)
  split_miss (suc f) (suc k) o h n z = go (is_of (key_at t o) x) z (split_miss f k (o + 5) (omega arith) (omega arith))
    where
      go : (b : Bool) → cond b o (place_for t f (o + 5) x) ≡ 0 → (place_for t f (o + 5) x ≡ 0 → place_for t k (o + 5) x ≡ place_for t (k - f) (o + 5 + 5 * f) x)
          → cond b o (place_for t k (o + 5) x) ≡ place_for t (suc k - suc f) (o + 5 * suc f) x
      go true z m = absurd (omega (arith, z))
      go false z m =
          let a : k - f ≡ suc k - suc f = omega arith in
          let b : o + 5 + 5 * f ≡ o + 5 * suc f = omega arith in
          m z ∙ ap₂ (λ (y w : ℕ). place_for t y w x) a b

-- ---- the first of entries, by the library's word
positions : (es : List OverlayKey) (x : OverlayKey) (i : ℕ) → position_from (λ e. is_of e x) i es ≡ find_from es x i
unfolding find_from
positions [] x i = refl
positions (e ∷ es) x i = ap (cond (is_of e x) (Some i)) (positions es x (i + 1))

pub first : (es : List OverlayKey) (x : OverlayKey) (r : Option ℕ) → r ≡ position (λ e. is_of e x) es → r ≡ find_from es x 0
first es x r h = h ∙ position_from-zero (λ e. is_of e x) es ∙ positions es x 0

-- ---- entries that are loaded

-- where an entry that was found stands, and which of them it is
abbrev place_in : ℕ → Option ℕ → ℕ
place_in o (Some i) = o + 5 * i
place_in o None = 0

abbrev index : Option ℕ → ℕ
index (Some i) = i
index None = 0

-- the search of words and the search of entries
listed : (t : List ℕ) (x : OverlayKey) (o k i : ℕ) → place_for t k (o + 5 * i) x ≡ place_in o (find_from (keys_from t k (o + 5 * i)) x i)
unfolding place_for find_from keys_from
listed t x o zero i = refl
listed t x o (suc k) i = go (is_of (key_at t (o + 5 * i)) x) (listed t x o k (i + 1))
  where
    go : (b : Bool) → place_for t k (o + 5 * (i + 1)) x ≡ place_in o (find_from (keys_from t k (o + 5 * (i + 1))) x (i + 1))
        → cond b (o + 5 * i) (place_for t k (o + 5 * i + 5) x) ≡ place_in o (cond b (Some i) (find_from (keys_from t k (o + 5 * i + 5)) x (i + 1)))
    go true m = refl
    go false m = let d : o + 5 * i + 5 ≡ o + 5 * (i + 1) = omega arith in rw d m

few_index : (es : List OverlayKey) (x : OverlayKey) (i : ℕ) → index (find_from es x i) ≤ i + length es
unfolding find_from
few_index [] x i = omega arith
few_index (e ∷ es) x i = go (is_of e x) (few_index es x (i + 1))
  where
    go : (b : Bool) → index (find_from es x (i + 1)) ≤ i + 1 + length es → index (cond b (Some i) (find_from es x (i + 1))) ≤ i + suc (length es)
    go true m = omega arith
    go false m = omega arith

module _ (t : List ℕ) (o : ℕ) where
  more : (a b : ℕ) (xs ys : List OverlayKey) → a ≡ b → xs ≡ ys → key_at t a ∷ xs ≡ key_at t b ∷ ys
  more a b xs ys d e = ap₂ (λ (k : ℕ) (zs : List OverlayKey). key_at t k ∷ zs) d e

  e0 : o + 5 * 0 ≡ o
  e0 = omega arith

  e1 : o + 5 * 1 ≡ o + 5
  e1 = omega arith

  e2 : o + 5 * 2 ≡ o + 5 + 5
  e2 = omega arith

  e3 : o + 5 * 3 ≡ o + 5 + 5 + 5
  e3 = omega arith

  -- those that are in use are all that is loaded
  taken : (few : ℕ) → few ≤ 4 → take few (loaded t o few) ≡ keys_from t few o
  unfolding keys_from
  taken zero h = refl
  taken (suc zero) h = more _ _ _ _ e0 refl
  taken (suc (suc zero)) h = more _ _ _ _ e0 (more _ _ _ _ e1 refl)
  taken (suc (suc (suc zero))) h = more _ _ _ _ e0 (more _ _ _ _ e1 (more _ _ _ _ e2 refl))
  taken (suc (suc (suc (suc zero)))) h = more _ _ _ _ e0 (more _ _ _ _ e1 (more _ _ _ _ e2 (more _ _ _ _ e3 refl)))
  taken (suc (suc (suc (suc (suc k))))) h = absurd (omega arith)

  module _ (x : OverlayKey) (few : ℕ) (es : List OverlayKey) (r : Option ℕ) (h : few ≤ 4) (is : es ≡ loaded t o few) (f : r ≡ find_from (take few es) x 0) where
    few_place : place_in o r ≡ place_for t few o x
    few_place =
        ap (place_in o) (f ∙ ap (λ (zs : List OverlayKey). find_from (take few zs) x 0) is ∙ ap (λ (zs : List OverlayKey). find_from zs x 0) (taken few h))
        ∙ subst (λ (k : ℕ). place_in o (find_from (keys_from t few k) x 0) ≡ place_for t few k x) e0 (sym (listed t x o few 0))

    pub few_at : (i : ℕ) → r ≡ Some i → o + 5 * i ≡ place_for t few o x
    few_at i e = ap (place_in o) (sym e) ∙ few_place

    pub few_none : r ≡ None → 0 ≡ place_for t few o x
    few_none e = ap (place_in o) (sym e) ∙ few_place

    pub few_fits : (i : ℕ) → r ≡ Some i → i ≤ few
    few_fits i e = subst (λ (y : Option ℕ). index y ≤ few) (sym f ∙ e) (omega (arith, few_index (take few es) x 0, length-take few es))
