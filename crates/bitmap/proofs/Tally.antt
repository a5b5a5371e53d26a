-- Counts: how many ones a word has is the tally of its bits. For every width.
-- Assumes nothing.
use mathlib.Core.Path.{◌≡◌, refl, sym, ap, ap₂, ◌∙◌, subst, fun_ext}
use Prim.Native.Nat.{ℕ, zero, suc, ◌+◌, ◌/◌, ◌%◌, ◌^◌, ◌<◌}
use native.Mathlib.Nat.{div-one}
use native.Mathlib.Numerals.{add-one}
use lib.Arith.{lt-one}
use lib.Pow.{shr_lt}
use lib.Count.{ones, ones_step}
use Rattle.bitmap.specs.Pages.{bit, tally}
use Rattle.bitmap.proofs.Bit.{bit_digit, bit_suc}

ones_zero : ones 0 ≡ 0
unfolding ones
ones_zero = refl

-- a word's set digits
pub ones_tally : (w x : ℕ) → x < 2 ^ w → ones x ≡ tally w (bit x)
unfolding tally
ones_tally zero x h = ap ones (lt-one h) ∙ ones_zero
ones_tally (suc w) x h =
    ones_step x
    ∙ ap₂ (λ (a b : ℕ). a + b) (ap (λ (y : ℕ). y % 2) (sym (div-one x)) ∙ sym (bit_digit x zero))
    (ones_tally w (x / 2) (shr_lt w 1 (subst (λ (n : ℕ). x < 2 ^ n) (sym (add-one w)) h)) ∙ ap (tally w) (fun_ext (λ k. sym (bit_suc x k))))
