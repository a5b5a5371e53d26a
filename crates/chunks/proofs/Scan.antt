-- How far a test holds: what a loop over numbers tells of `first_not`. Assumes nothing.
use native.Mathlib.Omega.{arith}
use native.Mathlib.Numerals.{add-one}
use native.Mathlib.Decide.{dec_lt}
use mathlib.Core.Path.{◌≡◌, refl, sym, ap, ◌∙◌}
use mathlib.Core.Bool.{Bool, true, false, cond}
use Prim.Native.Nat.{ℕ, zero, suc, ◌+◌, ◌-◌, ◌≤◌, ◌<◌, max}
use Rattle.chunks.specs.Chunks.{first_not_of, first_not}

module _ (P : ℕ → Bool) where
  pub first_step : (c e : ℕ) → c < e → P c ≡ true → first_not P c e ≡ first_not P (c + 1) e
  unfolding first_not_of
  first_step c e h t =
      let d : e - c ≡ suc (e - (c + 1)) = omega arith in
      ap (first_not_of P c) d ∙ rw t (ap (λ (k : ℕ). first_not_of P k (e - (c + 1))) (sym (add-one c)))

  pub first_stop : (c e : ℕ) → c < e → P c ≡ false → first_not P c e ≡ c
  unfolding first_not_of
  first_stop c e h t =
      let d : e - c ≡ suc (e - (c + 1)) = omega arith in
      ap (first_not_of P c) d ∙ rw t

  pub first_end : (c e : ℕ) → e ≤ c → first_not P c e ≡ c
  unfolding first_not_of
  first_end c e h = let d : e - c ≡ 0 = omega arith in ap (first_not_of P c) d

  pub first_skip : (n c e : ℕ) → c + n ≤ e → ((q : ℕ) → c ≤ q → q < c + n → P q ≡ true) → first_not P c e ≡ first_not P (c + n) e
  first_skip zero c e h t = ap (λ (k : ℕ). first_not P k e) (omega arith)
  first_skip (suc n) c e h t =
      first_step c e (omega arith) (t c (omega arith) (omega arith))
      ∙ first_skip n (c + 1) e (omega arith) (λ q a b. t q (omega arith) (omega arith))
      ∙ ap (λ (k : ℕ). first_not P k e) (omega arith)

  first_of_range : (n c : ℕ) → (c ≤ first_not_of P c n) × (first_not_of P c n ≤ c + n)
  unfolding first_not_of
  first_of_range zero c = (omega arith, omega arith)
  first_of_range (suc n) c = go (P c) (first_of_range n (suc c))
    where
      go : (t : Bool) → (suc c ≤ first_not_of P (suc c) n) × (first_not_of P (suc c) n ≤ suc c + n)
          → (c ≤ cond t (first_not_of P (suc c) n) c) × (cond t (first_not_of P (suc c) n) c ≤ c + suc n)
      go true h = (omega (arith, h.0), omega (arith, h.1))
      go false h = (omega arith, omega arith)

  pub first_from : (c e : ℕ) → c ≤ first_not P c e
  first_from c e = (first_of_range (e - c) c).0

  pub first_to : (c e : ℕ) → c ≤ e → first_not P c e ≤ e
  first_to c e h = omega (arith, (first_of_range (e - c) c).1)

  -- it holds of every number before the first that it does not hold of, and where it holds of all, that is the end
  first_of_holds : (n c q : ℕ) → c ≤ q → q < first_not_of P c n → P q ≡ true
  unfolding first_not_of
  first_of_holds zero c q h k = absurd (omega arith)
  first_of_holds (suc n) c q h k = go (P c) refl k (first_of_holds n (suc c) q)
    where
      go : (t : Bool) → P c ≡ t → q < cond t (first_not_of P (suc c) n) c → (suc c ≤ q → q < first_not_of P (suc c) n → P q ≡ true) → P q ≡ true
      go true e l more = elim (dec_lt c q) [ yes d ↦ more (omega arith) l | no d ↦ ap P (omega arith) ∙ e ]
      go false e l more = absurd (omega arith)

  pub first_holds : (c e q : ℕ) → c ≤ q → q < first_not P c e → P q ≡ true
  first_holds c e q h k = first_of_holds (e - c) c q h k

  pub first_all : (c e : ℕ) → ((q : ℕ) → c ≤ q → q < e → P q ≡ true) → first_not P c e ≡ max c e
  first_all c e h = elim (dec_lt c e) [
    | yes d ↦ first_skip (e - c) c e (omega arith) (λ q a b. h q a (omega arith)) ∙ first_end (c + (e - c)) e (omega arith) ∙ omega arith
    | no d ↦ first_end c e (omega arith) ∙ omega arith
  ]
