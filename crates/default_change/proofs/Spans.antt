-- Laws of spans and of the first stretch in a range. Assumes nothing.
use mathlib.Core.Bool.{Bool, true, false, not, cond}
use mathlib.Core.Path.{◌≡◌, refl, sym, ap, ◌∙◌}
use Prim.Native.Nat.{ℕ, zero, suc, ◌+◌, ◌-◌, ◌≤◌, ◌<◌}
use native.Mathlib.Omega.{arith}
use native.Mathlib.Decide.{dec_lt}
use borrow.Author.Tests.{not-false}
use Rattle.default_change.specs.Pieces.{span, non, start_of, len_of}

module _ (P : ℕ → Bool) where
  pub span_le : (k a : ℕ) → span P a k ≤ k
  unfolding span
  span_le zero a = omega arith
  span_le (suc k) a = go (P a) (span_le k (suc a))
    where
      go : (b : Bool) → span P (suc a) k ≤ k → cond b (suc (span P (suc a) k)) 0 ≤ suc k
      go true h = omega arith
      go false h = omega arith

  -- it ends before the last page: that one does not count, and longer runs end there too
  pub span_stop : (k a : ℕ) → span P a k < k → P (a + span P a k) ≡ false
  unfolding span
  span_stop zero a h = absurd (omega arith)
  span_stop (suc k) a h = go (P a) refl (span_stop k (suc a)) h
    where
      go : (b : Bool) → P a ≡ b → (span P (suc a) k < k → P (suc a + span P (suc a) k) ≡ false) → cond b (suc (span P (suc a) k)) 0 < suc k
          → P (a + cond b (suc (span P (suc a) k)) 0) ≡ false
      go true e m g = let d : a + suc (span P (suc a) k) ≡ suc a + span P (suc a) k = omega arith in ap P d ∙ m (omega arith)
      go false e m g = let d : a + 0 ≡ a = omega arith in ap P d ∙ e

  pub span_short : (j k a : ℕ) → span P a j < j → span P a (j + k) ≡ span P a j
  unfolding span
  span_short zero k a h = absurd (omega arith)
  span_short (suc j) k a h = ap (λ (n : ℕ). span P a n) s ∙ go (P a) (span_short j k (suc a)) h
    where
      s : suc j + k ≡ suc (j + k)
      s = omega arith

      go : (b : Bool) → (span P (suc a) j < j → span P (suc a) (j + k) ≡ span P (suc a) j) → cond b (suc (span P (suc a) j)) 0 < suc j
          → cond b (suc (span P (suc a) (j + k))) 0 ≡ cond b (suc (span P (suc a) j)) 0
      go true m g = ap suc (m (omega arith))
      go false m g = refl

  pub span_full : (j k a : ℕ) → span P a j ≡ j → span P a (j + k) ≡ j + span P (a + j) k
  unfolding span
  span_full zero k a h =
      let e : 0 + k ≡ k = omega arith in
      let d : a ≡ a + 0 = omega arith in
      let z : span P (a + 0) k ≡ 0 + span P (a + 0) k = omega arith in
      ap (λ (n : ℕ). span P a n) e ∙ ap (λ (n : ℕ). span P n k) d ∙ z
  span_full (suc j) k a h = ap (λ (n : ℕ). span P a n) s ∙ go (P a) (span_full j k (suc a)) h
    where
      s : suc j + k ≡ suc (j + k)
      s = omega arith

      go : (b : Bool) → (span P (suc a) j ≡ j → span P (suc a) (j + k) ≡ j + span P (suc a + j) k) → cond b (suc (span P (suc a) j)) 0 ≡ suc j
          → cond b (suc (span P (suc a) (j + k))) 0 ≡ suc j + span P (a + suc j) k
      go true m g =
          let d : suc a + j ≡ a + suc j = omega arith in
          let x : span P (suc a) (j + k) ≡ j + span P (a + suc j) k = m (omega arith) ∙ ap (λ (n : ℕ). j + span P n k) d in
          omega (arith, x)
      go false m g = absurd (omega arith)

  pub span_hit : (k a : ℕ) → P a ≡ true → span P a (suc k) ≡ suc (span P (suc a) k)
  unfolding span
  span_hit k a e = rw e

  pub span_miss : (k a : ℕ) → P a ≡ false → span P a k ≡ 0
  unfolding span
  span_miss zero a e = refl
  span_miss (suc k) a e = rw e

  pub span_all : (k a : ℕ) → ((q : ℕ) → a ≤ q → q < a + k → P q ≡ true) → span P a k ≡ k
  unfolding span
  span_all zero a h = refl
  span_all (suc k) a h = span_hit k a (h a (omega arith) (omega arith)) ∙ ap suc (span_all k (suc a) (λ q l g. h q (omega arith) (omega arith)))

  pub span_none : (k a : ℕ) → ((q : ℕ) → a ≤ q → q < a + k → P q ≡ false) → span P a k ≡ 0
  unfolding span
  span_none zero a h = refl
  span_none (suc k) a h = span_miss (suc k) a (h a (omega arith) (omega arith))

-- a run all of whose pages count is its own piece
module _ (P : ℕ → Bool) (a k : ℕ) (all : (q : ℕ) → a ≤ q → q < a + k → P q ≡ true) where
  none_before : span (non P) a k ≡ 0
  none_before = span_none (non P) k a (λ q l g. ap not (all q l g))

  pub all_start : start_of P a k ≡ a
  all_start = omega (arith, none_before)

  pub all_len : len_of P a k ≡ k
  all_len =
      let e : k - span (non P) a k ≡ k = omega (arith, none_before) in
      ap (λ (n : ℕ). span P n (k - span (non P) a k)) all_start ∙ ap (λ (n : ℕ). span P a n) e ∙ span_all P k a all

-- a run split at a page that does not count
module _ (P : ℕ → Bool) (a j k : ℕ) (hole : P (a + j) ≡ false) where
  -- no piece on the left: every page there is skipped
  left_none : len_of P a j ≡ 0 → span (non P) a j ≡ j
  left_none h = elim (dec_lt (span (non P) a j) j) [
    | yes d ↦
        let s : ℕ = span (non P) a j in
        let e : P (a + s) ≡ true = not-false (P (a + s)) (span_stop (non P) j a d) in
        let f : j - s ≡ suc (j - s - 1) = omega arith in
        let g : len_of P a j ≡ suc (span P (suc (a + s)) (j - s - 1)) = ap (λ (n : ℕ). span P (a + s) n) f ∙ span_hit P (j - s - 1) (a + s) e in
        absurd (omega (arith, g, h))
    | no d ↦ omega (arith, d, span_le (non P) j a)
  ]

  left_some : ((len_of P a j ≡ 0) → ⊥) → span (non P) a j < j
  unfolding span
  left_some h = elim (dec_lt (span (non P) a j) j) [
    | yes d ↦ d
    | no d ↦
        let f : j - span (non P) a j ≡ 0 = omega (arith, d) in
        absurd (h (ap (λ (n : ℕ). span P (start_of P a j) n) f))
  ]

  pub left_start : ((len_of P a j ≡ 0) → ⊥) → start_of P a (j + suc k) ≡ start_of P a j
  left_start h = ap (λ (n : ℕ). a + n) (span_short (non P) j (suc k) a (left_some h))

  pub left_len : ((len_of P a j ≡ 0) → ⊥) → len_of P a (j + suc k) ≡ len_of P a j
  left_len h =
      let s : ℕ = span (non P) a j in
      let e : span (non P) a (j + suc k) ≡ s = span_short (non P) j (suc k) a (left_some h) in
      let d : j + suc k - s ≡ (j - s) + suc k = omega (arith, left_some h) in
      ap (λ (n : ℕ). span P (a + n) (j + suc k - n)) e ∙ ap (λ (n : ℕ). span P (a + s) n) d
      ∙ elim (dec_lt (span P (a + s) (j - s)) (j - s)) [
        | yes l ↦ span_short P (j - s) (suc k) (a + s) l
        | no l ↦
            let f : span P (a + s) (j - s) ≡ j - s = omega (arith, l, span_le P (j - s) (a + s)) in
            let g : a + j ≡ a + s + (j - s) = omega (arith, left_some h) in
            let z : span P (a + s + (j - s)) (suc k) ≡ 0 = ap (λ (n : ℕ). span P n (suc k)) (sym g) ∙ span_miss P (suc k) (a + j) hole in
            span_full P (j - s) (suc k) (a + s) f ∙ omega (arith, z, f)
      ]

  skipped : len_of P a j ≡ 0 → span (non P) a (j + suc k) ≡ j + suc (span (non P) (suc (a + j)) k)
  skipped h = span_full (non P) j (suc k) a (left_none h) ∙ ap (λ (n : ℕ). j + n) (span_hit (non P) k (a + j) (ap not hole))

  pub right_start : len_of P a j ≡ 0 → start_of P a (j + suc k) ≡ start_of P (suc (a + j)) k
  right_start h = omega (arith, skipped h)

  pub right_len : len_of P a j ≡ 0 → len_of P a (j + suc k) ≡ len_of P (suc (a + j)) k
  right_len h =
      let d : j + suc k - span (non P) a (j + suc k) ≡ k - span (non P) (suc (a + j)) k = omega (arith, skipped h) in
      ap (λ (n : ℕ). span P n (j + suc k - span (non P) a (j + suc k))) (right_start h) ∙ ap (λ (n : ℕ). span P (start_of P (suc (a + j)) k) n) d
