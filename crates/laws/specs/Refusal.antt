-- A chain of refusals (01, "Order"): the number of the first test that fails, or 0. Assumes nothing.
use Rattle.std.specs.Prelude.{Bool, true, false, cond, ◌≡◌, refl, ℕ, suc, eqb}
use Rattle.std.proofs.Common.{sym, ap, ◌∙◌, arith, eq-eqb, ne_eqb, eqb-true}
use Rattle.laws.specs.Bools.{false≢true}

-- the number where the test fails, else the rest
abbrev pub unless : Bool → ℕ → ℕ → ℕ
unless t code rest = cond t rest code

-- the number where the test holds, else the rest
abbrev pub when : Bool → ℕ → ℕ → ℕ
when t code rest = cond t code rest

-- another chain's number, or where that is 0 the rest
abbrev pub first : ℕ → ℕ → ℕ
first n rest = cond (eqb n 0) rest n

-- the chain ends here, it goes on, and what is known of one that refuses nothing
pub refuses : (t : Bool) (code rest : ℕ) → t ≡ false → code ≡ unless t code rest
refuses t code rest e = rw e

pub passes : (t : Bool) (code rest x : ℕ) → t ≡ true → x ≡ rest → x ≡ unless t code rest
passes t code rest x e q = rw e q

pub passed : (t : Bool) (k rest : ℕ) → unless t (suc k) rest ≡ 0 → (t ≡ true) × (rest ≡ 0)
passed true k rest h = (refl, h)
passed false k rest h = absurd (omega arith)

pub when_refuses : (t : Bool) (code rest : ℕ) → t ≡ true → code ≡ when t code rest
when_refuses t code rest e = rw e

pub when_passes : (t : Bool) (code rest x : ℕ) → t ≡ false → x ≡ rest → x ≡ when t code rest
when_passes t code rest x e q = rw e q

pub when_passed : (t : Bool) (k rest : ℕ) → when t (suc k) rest ≡ 0 → (t ≡ false) × (rest ≡ 0)
when_passed true k rest h = absurd (omega arith)
when_passed false k rest h = (refl, h)

pub first_refuses : (n x rest : ℕ) → n ≡ x → (n ≡ 0 → ⊥) → n ≡ first x rest
first_refuses n x rest e h = e ∙ ap (λ (b : Bool). cond b rest x) (sym (ne_eqb x 0 (λ z. h (e ∙ z))))

pub first_passes : (n x rest y : ℕ) → n ≡ x → n ≡ 0 → y ≡ rest → y ≡ first x rest
first_passes n x rest y e h q = q ∙ ap (λ (b : Bool). cond b rest x) (sym (eq-eqb x 0 (sym e ∙ h)))

pub first_passed : (n rest : ℕ) → first n rest ≡ 0 → (n ≡ 0) × (rest ≡ 0)
first_passed n rest h = go (eqb n 0) refl
  where
    go : (b : Bool) → eqb n 0 ≡ b → (n ≡ 0) × (rest ≡ 0)
    go true e = (eqb-true n 0 e, sym (ap (λ (t : Bool). unless t n rest) e) ∙ h)
    go false e = absurd (false≢true (sym e ∙ ap (λ (k : ℕ). eqb k 0) (sym (ap (λ (t : Bool). unless t n rest) e) ∙ h)))

pub first_alone : (n : ℕ) → n ≡ first n 0
first_alone n = go (eqb n 0) refl
  where
    go : (b : Bool) → eqb n 0 ≡ b → n ≡ cond b 0 n
    go true e = eqb-true n 0 e
    go false e = refl

-- a call is refused by the number n that its chain x gives, or answered where that is 0
module _ {A : Type 0} (n x : ℕ) (e : n ≡ x) where
  pub refused : (a : A) (f : ℕ → A) → (n ≡ 0 → ⊥) → f n ≡ cond (eqb x 0) a (f x)
  refused a f h = rw (← e, ne_eqb n 0 h)

  pub answered : (a b : A) (f : ℕ → A) → n ≡ 0 → b ≡ a → b ≡ cond (eqb x 0) a (f x)
  answered a b f h q = rw (← e, eq-eqb n 0 h) q
