-- Tests and what they tell. Assumes nothing.
use Rattle.std.specs.Prelude.{Bool, true, false, not, cond, ◌&&◌, ◌||◌, ◌⊎◌, ◌≡◌, refl, ℕ, ◌≤◌, ◌<◌}
use Rattle.std.proofs.Common.{inl, inr, sym, ap, ◌∙◌, arith}
use Rattle.std.proofs.Math.Decide.{dec_lt}

-- a test as a digit
abbrev pub digit : Bool → ℕ
digit false = 0
digit true = 1

pub digit_le : (b : Bool) → digit b ≤ 1
digit_le true = omega arith
digit_le false = omega arith

pub false≢true : {X : Type 0} → ◌≡◌ {A = Bool} false true → X
false≢true e = let z : ◌≡◌ {A = ℕ} 0 1 = cc in absurd (omega arith)

-- two tests that tell the same
pub same : (a b : Bool) → (a ≡ true → b ≡ true) → (b ≡ true → a ≡ true) → a ≡ b
same true b f g = sym (f refl)
same false true f g = g refl
same false false f g = refl

-- a choice whose test is known
module _ {A : Type 0} (b : Bool) (x y r : A) where
  pub took : b ≡ true → r ≡ x → r ≡ cond b x y
  took e f = f ∙ ap (λ (t : Bool). cond t x y) (sym e)

  pub took_not : b ≡ false → r ≡ y → r ≡ cond b x y
  took_not e f = f ∙ ap (λ (t : Bool). cond t x y) (sym e)

-- a choice by a test t that the code made as b
module _ {A : Type 0} (b t : Bool) (x y r : A) (e : b ≡ t) where
  pub chose : b ≡ true → r ≡ x → r ≡ cond t x y
  chose h f = took t x y r (sym e ∙ h) f

  pub chose_not : b ≡ false → r ≡ y → r ≡ cond t x y
  chose_not h f = took_not t x y r (sym e ∙ h) f

-- and: what it tells, and a chain of tests that goes on or ends
pub and_left : (a b : Bool) → (a && b) ≡ true → a ≡ true
and_left true b e = refl
and_left false b e = e

pub and_right : (a b : Bool) → (a && b) ≡ true → b ≡ true
and_right true b e = e
and_right false b e = false≢true e

pub and_true : (a b : Bool) → a ≡ true → b ≡ true → (a && b) ≡ true
and_true true b p q = q
and_true false b p q = p

pub both_true : (a b : Bool) → (a && b) ≡ true → (a ≡ true) × (b ≡ true)
both_true a b e = (and_left a b e, and_right a b e)

pub and_false : (a b : Bool) → b ≡ false → (a && b) ≡ false
and_false true b e = e
and_false false b e = refl

pub and_ends : (a b : Bool) → a ≡ false → false ≡ (a && b)
and_ends a b e = rw e

pub and_goes : (a b x : Bool) → a ≡ true → x ≡ b → x ≡ (a && b)
and_goes a b x e q = rw e q

-- or
pub or_true : (a b : Bool) → (a || b) ≡ true → (a ≡ true) ⊎ (b ≡ true)
or_true true b e = inl refl
or_true false b e = inr e

pub or_left : (a b : Bool) → a ≡ true → (a || b) ≡ true
or_left true b e = refl
or_left false b e = false≢true e

pub or_right : (a b : Bool) → b ≡ true → (a || b) ≡ true
or_right true b e = refl
or_right false b e = e

pub or_false : (a b : Bool) → (a || b) ≡ false → (a ≡ false) × (b ≡ false)
or_false true b e = false≢true (sym e)
or_false false b e = (refl, e)

pub or_swap : (a b : Bool) → (a || b) ≡ (b || a)
or_swap true true = refl
or_swap true false = refl
or_swap false true = refl
or_swap false false = refl

pub or_assoc : (a b c : Bool) → ((a || b) || c) ≡ (a || (b || c))
or_assoc true b c = refl
or_assoc false b c = refl

-- not
pub not_of : (h : Bool) → (h ≡ true → ⊥) → not h ≡ true
not_of true f = absurd (f refl)
not_of false f = refl

pub not_both : (h : Bool) → not h ≡ true → h ≡ true → ⊥
not_both h e d = let z : ◌≡◌ {A = ℕ} 0 1 = cc in omega arith

pub lt_or_le : (a b : ℕ) → (a < b) ⊎ (b ≤ a)
lt_or_le a b = elim (dec_lt a b) [ yes d ↦ inl d | no d ↦ inr (omega arith) ]
