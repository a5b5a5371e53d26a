-- Laws of pieces: page by page, and of two conditions. Assumes nothing.
use mathlib.Core.Bool.{Bool, true, false, not, cond, ◌&&◌}
use mathlib.Core.Path.{◌≡◌, refl, sym, ap, ap₂, ◌∙◌}
use Prim.Native.Nat.{ℕ, zero, suc, ◌+◌, ◌-◌, ◌≤◌, ◌<◌}
use native.Mathlib.Omega.{arith}
use native.Mathlib.Decide.{dec_lt, ℕ_discrete}
use borrow.Author.Tests.{not-true, not-false}
use Rattle.laws.specs.Bools.{and_ends, and_goes}
use Rattle.default_change.specs.Pieces.{span, non, start_of, len_of}
use Rattle.default_change.proofs.Spans as laws

pub span_holds : (P : ℕ → Bool) (k a q : ℕ) → a ≤ q → q < a + span P a k → P q ≡ true
unfolding span
span_holds P zero a q h g = absurd (omega arith)
span_holds P (suc k) a q h g = go (P a) refl (span_holds P k (suc a) q) g
  where
    go : (b : Bool) → P a ≡ b → (suc a ≤ q → q < suc a + span P (suc a) k → P q ≡ true) → q < a + cond b (suc (span P (suc a) k)) 0 → P q ≡ true
    go true e m d = elim (ℕ_discrete a q) [
      | yes x ↦ ap P (sym x) ∙ e
      | no x ↦ m (omega arith) (omega arith)
    ]
    go false e m d = absurd (omega arith)

-- a piece, page by page
module _ (P : ℕ → Bool) (a k : ℕ) where
  pub piece_within : start_of P a k + len_of P a k ≤ a + k
  piece_within = omega (arith, laws.span_le (non P) k a, laws.span_le P (k - span (non P) a k) (start_of P a k))

  pub piece_short : len_of P a k ≤ k
  piece_short = omega (arith, laws.span_le P (k - span (non P) a k) (start_of P a k))

  pub piece_before : (q : ℕ) → a ≤ q → q < start_of P a k → P q ≡ false
  piece_before q h g = not-true (P q) (span_holds (non P) k a q h g)

  pub piece_holds : (q : ℕ) → start_of P a k ≤ q → q < start_of P a k + len_of P a k → P q ≡ true
  piece_holds q h g = span_holds P (k - span (non P) a k) (start_of P a k) q h g

  pub piece_after_lem : start_of P a k + len_of P a k < a + k → P (start_of P a k + len_of P a k) ≡ false
  piece_after_lem h = laws.span_stop P (k - span (non P) a k) (start_of P a k) (omega (arith, h, laws.span_le (non P) k a))

  -- none: every page is passed
  pub none_left : len_of P a k ≡ 0 → span (non P) a k ≡ k
  none_left h = elim (dec_lt (span (non P) a k) k) [
    | yes d ↦
        let s : ℕ = span (non P) a k in
        let e : P (a + s) ≡ true = not-false (P (a + s)) (laws.span_stop (non P) k a d) in
        let f : k - s ≡ suc (k - s - 1) = omega arith in
        let g : len_of P a k ≡ suc (span P (suc (a + s)) (k - s - 1)) = ap (λ (n : ℕ). span P (a + s) n) f ∙ laws.span_hit P (k - s - 1) (a + s) e in
        absurd (omega (arith, g, h))
    | no d ↦ omega (arith, d, laws.span_le (non P) k a)
  ]

  -- the cursor moves
  pub piece_moves : 0 < k → a < start_of P a k + len_of P a k
  piece_moves h = elim (ℕ_discrete (len_of P a k) 0) [
    | yes e ↦ omega (arith, none_left e, e, h)
    | no e ↦ omega (arith, e)
  ]

-- two conditions that agree on the run
module _ (P Q : ℕ → Bool) where
  span_same : (k a : ℕ) → ((q : ℕ) → a ≤ q → q < a + k → P q ≡ Q q) → span P a k ≡ span Q a k
  unfolding span
  span_same zero a h = refl
  span_same (suc k) a h =
      ap₂ (λ (b : Bool) (n : ℕ). cond b (suc n) 0) (h a (omega arith) (omega arith)) (span_same k (suc a) (λ q x y. h q (omega arith) (omega arith)))

module _ (P Q : ℕ → Bool) (a k : ℕ) (same : (q : ℕ) → a ≤ q → q < a + k → P q ≡ Q q) where
  skip_same : span (non P) a k ≡ span (non Q) a k
  skip_same = span_same (non P) (non Q) k a (λ q x y. ap not (same q x y))

  start_same : start_of P a k ≡ start_of Q a k
  start_same = ap (λ (n : ℕ). a + n) skip_same

  len_same : len_of P a k ≡ len_of Q a k
  len_same =
      span_same P Q (k - span (non P) a k) (start_of P a k) (λ q x y. same q (omega arith) (omega (arith, x, y, laws.span_le (non P) k a)))
      ∙ ap (λ (n : ℕ). span Q (a + n) (k - n)) skip_same

-- pages passed
module _ (Q : ℕ → Bool) (a j k : ℕ) (passed : span (non Q) a j ≡ j) where
  pub pass_start : start_of Q a (j + k) ≡ start_of Q (a + j) k
  pass_start = omega (arith, laws.span_full (non Q) j k a passed)

  pub pass_len : len_of Q a (j + k) ≡ len_of Q (a + j) k
  pass_len =
      let d : j + k - span (non Q) a (j + k) ≡ k - span (non Q) (a + j) k = omega (arith, laws.span_full (non Q) j k a passed) in
      ap (λ (n : ℕ). span Q n (j + k - span (non Q) a (j + k))) pass_start ∙ ap (λ (n : ℕ). span Q (start_of Q (a + j) k) n) d

-- a piece that ends at a page that does not count, or at the end
module _ (Q : ℕ → Bool) (a j n : ℕ) (fits : j ≤ n) (stops : a + j < a + n → Q (a + j) ≡ false) (some : len_of Q a j ≡ 0 → ⊥) where
  pub cut_start : start_of Q a n ≡ start_of Q a j
  cut_start = elim (dec_lt j n) [
    | yes d ↦ let e : n ≡ j + suc (n - (j + 1)) = omega arith in ap (start_of Q a) e ∙ laws.left_start Q a j (n - (j + 1)) (stops (omega arith)) some
    | no d ↦ let e : n ≡ j = omega (arith, d) in ap (start_of Q a) e
  ]

  pub cut_len : len_of Q a n ≡ len_of Q a j
  cut_len = elim (dec_lt j n) [
    | yes d ↦ let e : n ≡ j + suc (n - (j + 1)) = omega arith in ap (len_of Q a) e ∙ laws.left_len Q a j (n - (j + 1)) (stops (omega arith)) some
    | no d ↦ let e : n ≡ j = omega (arith, d) in ap (len_of Q a) e
  ]

-- the piece of two conditions is found in the runs of the first
module _ (P F : ℕ → Bool) (a end : ℕ) (s n : ℕ) (es : s ≡ start_of P a (end - a)) (en : n ≡ len_of P a (end - a)) (some : a < end) where
  s_fits : s + n ≤ end
  s_fits = omega (arith, es, en, piece_within P a (end - a))

  a_fits : a ≤ s
  a_fits = omega (arith, es)

  pub run_fits : s + n ≤ end
  run_fits = s_fits

  pub run_moves : a < s + n
  run_moves = omega (arith, es, en, piece_moves P a (end - a) (omega arith))

  agree : (q : ℕ) → s ≤ q → q < s + n → F q ≡ (P q && F q)
  agree q x y = and_goes (P q) (F q) (F q) (piece_holds P a (end - a) q (omega (arith, es)) (omega (arith, es, en))) refl

  skips : span (non (λ q. P q && F q)) a (s - a) ≡ s - a
  skips = laws.span_all (non (λ q. P q && F q)) (s - a) a (λ q x y. ap not (sym (and_ends (P q) (F q) (piece_before P a (end - a) q x (omega (arith, es, y, a_fits))))))

  ahead : end - a ≡ (s - a) + (end - s)
  ahead = omega (arith, a_fits, s_fits)

  here : a + (s - a) ≡ s
  here = omega (arith, a_fits)

  to_run_start : start_of (λ q. P q && F q) a (end - a) ≡ start_of (λ q. P q && F q) s (end - s)
  to_run_start = ap (start_of (λ q. P q && F q) a) ahead ∙ pass_start (λ q. P q && F q) a (s - a) (end - s) skips ∙ ap (λ (x : ℕ). start_of (λ q. P q && F q) x (end - s)) here

  to_run_len : len_of (λ q. P q && F q) a (end - a) ≡ len_of (λ q. P q && F q) s (end - s)
  to_run_len = ap (len_of (λ q. P q && F q) a) ahead ∙ pass_len (λ q. P q && F q) a (s - a) (end - s) skips ∙ ap (λ (x : ℕ). len_of (λ q. P q && F q) x (end - s)) here

  ends : s + n < s + (end - s) → (P (s + n) && F (s + n)) ≡ false
  ends h = sym (and_ends (P (s + n)) (F (s + n)) (ap P e ∙ piece_after_lem P a (end - a) (omega (arith, h, es, en, some))))
    where
      e : s + n ≡ start_of P a (end - a) + len_of P a (end - a)
      e = ap₂ (λ (x y : ℕ). x + y) es en

  module _ (r c : ℕ) (er : r ≡ start_of F s n) (ec : c ≡ len_of F s n) where
    some_there : (c ≡ 0 → ⊥) → len_of (λ q. P q && F q) s n ≡ 0 → ⊥
    some_there h e = h (ec ∙ len_same F (λ q. P q && F q) s n agree ∙ e)

    pub hit_start : (c ≡ 0 → ⊥) → r ≡ start_of (λ q. P q && F q) a (end - a)
    hit_start h = er ∙ start_same F (λ q. P q && F q) s n agree ∙ sym (to_run_start ∙ cut_start (λ q. P q && F q) s n (end - s) (omega (arith, s_fits)) ends (some_there h))

    pub hit_len : (c ≡ 0 → ⊥) → c ≡ len_of (λ q. P q && F q) a (end - a)
    hit_len h = ec ∙ len_same F (λ q. P q && F q) s n agree ∙ sym (to_run_len ∙ cut_len (λ q. P q && F q) s n (end - s) (omega (arith, s_fits)) ends (some_there h))

    passed : c ≡ 0 → span (non (λ q. P q && F q)) s n ≡ n
    passed h = none_left (λ q. P q && F q) s n (sym (len_same F (λ q. P q && F q) s n agree) ∙ sym ec ∙ h)

    rest : end - s ≡ n + (end - (s + n))
    rest = omega (arith, s_fits)

    pub miss_start : c ≡ 0 → start_of (λ q. P q && F q) a (end - a) ≡ start_of (λ q. P q && F q) (s + n) (end - (s + n))
    miss_start h = to_run_start ∙ ap (start_of (λ q. P q && F q) s) rest ∙ pass_start (λ q. P q && F q) s n (end - (s + n)) (passed h)

    pub miss_len : c ≡ 0 → len_of (λ q. P q && F q) a (end - a) ≡ len_of (λ q. P q && F q) (s + n) (end - (s + n))
    miss_len h = to_run_len ∙ ap (len_of (λ q. P q && F q) s) rest ∙ pass_len (λ q. P q && F q) s n (end - (s + n)) (passed h)

-- nothing left
module _ (Q : ℕ → Bool) (a end : ℕ) (h : end ≤ a) where
  pub past_start : a ≡ start_of Q a (end - a)
  past_start = omega (arith, laws.span_le (non Q) (end - a) a, h)

  pub past_len : 0 ≡ len_of Q a (end - a)
  past_len = omega (arith, piece_within Q a (end - a), h)

-- the two conditions in the other order
and_swap : (b c : Bool) → (b && c) ≡ (c && b)
and_swap true true = refl
and_swap true false = refl
and_swap false true = refl
and_swap false false = refl

module _ (P F : ℕ → Bool) (a k : ℕ) where
  pub swap_start : start_of (λ q. P q && F q) a k ≡ start_of (λ q. F q && P q) a k
  swap_start = start_same (λ q. P q && F q) (λ q. F q && P q) a k (λ q x y. and_swap (P q) (F q))

  pub swap_len : len_of (λ q. P q && F q) a k ≡ len_of (λ q. F q && P q) a k
  swap_len = len_same (λ q. P q && F q) (λ q. F q && P q) a k (λ q x y. and_swap (P q) (F q))

-- the search of a gap, as the code names what it reads
module _ (F : ℕ → Bool) (s n e : ℕ) (stop : e ≡ s + n) where
  width : e - s ≡ n
  width = omega (arith, stop)

  pub gap_start : (r : ℕ) → r ≡ start_of F s (e - s) → r ≡ start_of F s n
  gap_start r h = h ∙ ap (start_of F s) width

  pub gap_len : (c : ℕ) → c ≡ len_of F s (e - s) → c ≡ len_of F s n
  gap_len c h = h ∙ ap (len_of F s) width
