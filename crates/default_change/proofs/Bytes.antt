-- Laws of the scan for runs of private pages. Assumes nothing.
use mathlib.Core.Bool.{Bool, true, false, not, cond}
use mathlib.Core.List.{List}
use mathlib.Core.Path.{◌≡◌, refl, ap, ◌∙◌}
use Prim.Native.Nat.{ℕ, zero, suc, ◌+◌, ◌-◌, ◌*◌, ◌/◌, ◌%◌, ◌≤◌, ◌<◌}
use native.Mathlib.Omega.{arith}
use lib.Dec.{ltb}
use lib.ListN.{length, get_or, get_or-eq_default}
use borrow.Author.Tests.{ltb-false}
use Rattle.laws.specs.Bools.{digit}
use Rattle.bitmap.specs.Pages.{bit, bit_at}
use Rattle.default_change.specs.Pieces.{span, non, start_of, len_of, is}
use Rattle.default_change.proofs.Spans as laws

up : (k : ℕ) → k < 8 → bit 255 k ≡ true
up zero h = refl
up (suc zero) h = refl
up (suc (suc zero)) h = refl
up (suc (suc (suc zero))) h = refl
up (suc (suc (suc (suc zero)))) h = refl
up (suc (suc (suc (suc (suc zero))))) h = refl
up (suc (suc (suc (suc (suc (suc zero)))))) h = refl
up (suc (suc (suc (suc (suc (suc (suc zero))))))) h = refl
up (suc (suc (suc (suc (suc (suc (suc (suc k)))))))) h = absurd (omega arith)

down : (k : ℕ) → k < 8 → bit 0 k ≡ false
down zero h = refl
down (suc zero) h = refl
down (suc (suc zero)) h = refl
down (suc (suc (suc zero))) h = refl
down (suc (suc (suc (suc zero)))) h = refl
down (suc (suc (suc (suc (suc zero))))) h = refl
down (suc (suc (suc (suc (suc (suc zero)))))) h = refl
down (suc (suc (suc (suc (suc (suc (suc zero))))))) h = refl
down (suc (suc (suc (suc (suc (suc (suc (suc k)))))))) h = absurd (omega arith)

byte_bit : (s : Bool) (m : List ℕ) (p q : ℕ) → p % 8 ≡ 0 → get_or m (p / 8) 0 ≡ digit s * 255 → p ≤ q → q < p + 8 → is s m q ≡ true
byte_bit true m p q e d h g =
    let x : q / 8 ≡ p / 8 = omega arith in
    ap (λ (i : ℕ). bit (get_or m i 0) (q % 8)) x ∙ ap (λ (y : ℕ). bit y (q % 8)) d ∙ up (q % 8) (omega arith)
byte_bit false m p q e d h g =
    let x : q / 8 ≡ p / 8 = omega arith in
    ap not (ap (λ (i : ℕ). bit (get_or m i 0) (q % 8)) x ∙ ap (λ (y : ℕ). bit y (q % 8)) d ∙ down (q % 8) (omega arith))

-- a whole byte passed at one step
pub byte_span : (s : Bool) (m : List ℕ) (p : ℕ) → p % 8 ≡ 0 → get_or m (p / 8) 0 ≡ digit s * 255 → span (is s m) p 8 ≡ 8
byte_span s m p e d = laws.span_all (is s m) 8 p (λ q h g. byte_bit s m p q e d h g)

pub no_span : (P : ℕ → Bool) (p : ℕ) → span P p 0 ≡ 0
unfolding span
no_span P p = refl

past_bit : (m : List ℕ) (q : ℕ) → length m ≤ q / 8 → is true m q ≡ false
past_bit m q h = ap (λ (y : ℕ). bit y (q % 8)) (get_or-eq_default m 0 h) ∙ down (q % 8) (omega arith)

none_set : (m : List ℕ) (p : ℕ) → length m ≤ p / 8 → span (is true m) p 8 ≡ 0
unfolding span
none_set m p h = rw (past_bit m p h)

abbrev Passed : Bool → List ℕ → ℕ → ℕ → ℕ → Type 0
Passed s m p end r = (p + r ≤ end) × (span (is s m) p r ≡ r) × (r ≡ 0 → is s m p ≡ false)

-- a whole byte, and all pages past the end of the map
pub byte_step : (s : Bool) (m : List ℕ) (p end r : ℕ) → p + 8 ≤ end → span (is s m) p 8 ≡ 8 → r ≡ cond (ltb (p / 8) (length m)) 8 (end - p) → Passed s m p end r
byte_step s m p end r h g e = go (ltb (p / 8) (length m)) refl e
  where
    rest : (s : Bool) → span (is s m) p 8 ≡ 8 → length m ≤ p / 8 → Passed s m p end (end - p)
    rest true d l = absurd (omega (arith, none_set m p l, d))
    rest false d l = (omega arith, laws.span_all (is false m) (end - p) p (λ q a b. ap not (past_bit m q (omega arith))), λ z. absurd (omega arith))

    go : (b : Bool) → ltb (p / 8) (length m) ≡ b → r ≡ cond b 8 (end - p) → Passed s m p end r
    go true l d = rw d (h, g, λ z. absurd (omega arith))
    go false l d = rw d (rest s g (ltb-false _ _ l))

pub one_span : (P : ℕ → Bool) (p : ℕ) → P p ≡ true → span P p 1 ≡ 1
unfolding span
one_span P p e = rw e

-- the loop: what is left of the span
pub scan_more : (P : ℕ → Bool) (p k end : ℕ) → p + k ≤ end → span P p k ≡ k → span P p (end - p) ≡ k + span P (p + k) (end - (p + k))
scan_more P p k end h e =
    let d : end - p ≡ k + (end - (p + k)) = omega arith in
    ap (λ (n : ℕ). span P p n) d ∙ laws.span_full P k (end - (p + k)) p e

pub scan_end : (P : ℕ → Bool) (p end : ℕ) → end ≤ p → span P p (end - p) ≡ 0
unfolding span
scan_end P p end h = let d : end - p ≡ 0 = omega arith in ap (λ (n : ℕ). span P p n) d

-- the run between two scans
pub run_len : (m : List ℕ) (a end f l : ℕ) → f ≡ start_of (bit_at 8 m) a (end - a) → l ≡ f + span (bit_at 8 m) f (end - f) → l - f ≡ len_of (bit_at 8 m) a (end - a)
run_len m a end f l e d =
    let x : end - f ≡ (end - a) - span (non (bit_at 8 m)) a (end - a) = omega (arith, e) in
    let y : l - f ≡ span (bit_at 8 m) f (end - f) = omega (arith, d) in
    y ∙ ap (λ (n : ℕ). span (bit_at 8 m) f n) x ∙ ap (λ (n : ℕ). span (bit_at 8 m) n ((end - a) - span (non (bit_at 8 m)) a (end - a))) e
