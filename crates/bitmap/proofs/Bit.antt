-- The bits of a word: what a bit of `word`, of `|` and `^` and of a power is, and that a word is its bits. For every width.
-- Assumes nothing.
use mathlib.Core.Bool.{Bool, true, false, not, cond, ◌||◌}
use mathlib.Core.Path.{◌≡◌, refl, sym, ap, ap₂, ◌∙◌, subst}
use Prim.Native.Nat.{ℕ, zero, suc, ◌+◌, ◌-◌, ◌*◌, ◌/◌, ◌%◌, ◌^◌, ◌≤◌, ◌<◌, suc-le-suc}
use native.Mathlib.Nat.{div-one, zero-div, mod-lt, zero-lt-suc, not-suc-le-zero, le_of_suc-le-suc, div-add-mod', pow-suc, one-mul, zero-mul, mul-mod_left, mul-div_cancel, div-eq_of_lt, div-lt_iff_lt-mul}
use native.Mathlib.Numerals.{one-add}
use lib.Dec.{eqb, lit<, eqb-zero-suc, eqb-suc-zero, eqb-suc-suc}
use lib.Arith.{digits_div, digits_mod, dbl_pred}
use lib.Pow.{shr-shr, pow_pos, pow-lt, ones_lt, shl_exact}
use lib.Bits.{bit_or, bit_xor, or_shr, xor_shr, or_mod, xor_mod, or_zero_r, xor_zero_r}
use Rattle.laws.specs.Bools.{digit}
use Rattle.bitmap.specs.Pages.{bit, word}

two : zero < 2
two = lit< tt

digit_lt : (b : Bool) → digit b < 2
digit_lt true = lit< tt
digit_lt false = lit< tt

digit_eqb : (b : Bool) → eqb (digit b) 1 ≡ b
digit_eqb true = refl
digit_eqb false = refl

eqb_digit : (a : ℕ) → a < 2 → digit (eqb a 1) ≡ a
eqb_digit zero h = refl
eqb_digit (suc zero) h = refl
eqb_digit (suc (suc a)) h = absurd (not-suc-le-zero (le_of_suc-le-suc (le_of_suc-le-suc h)))

-- a bit as a digit
pub bit_digit : (x k : ℕ) → digit (bit x k) ≡ x / 2 ^ k % 2
bit_digit x k = eqb_digit (x / 2 ^ k % 2) (mod-lt (x / 2 ^ k) two)

pub bit_zero : (x : ℕ) → bit x zero ≡ eqb (x % 2) 1
bit_zero x = ap (λ (y : ℕ). eqb (y % 2) 1) (div-one x)

halve : (x k : ℕ) → x / 2 ^ suc k ≡ x / 2 / 2 ^ k
halve x k = ap (λ (j : ℕ). x / 2 ^ j) (sym (one-add k)) ∙ sym (shr-shr x 1 k)

pub bit_suc : (x k : ℕ) → bit x (suc k) ≡ bit (x / 2) k
bit_suc x k = ap (λ (y : ℕ). eqb (y % 2) 1) (halve x k)

pub bit_of_zero : (k : ℕ) → bit 0 k ≡ false
bit_of_zero k = ap (λ (y : ℕ). eqb (y % 2) 1) (zero-div (2 ^ k))

-- bit k of `word` is f k, and the bits from w on are x's
pub bit_word : (w : ℕ) (f : ℕ → Bool) (x k : ℕ) → k < w → bit (word w f x) k ≡ f k
unfolding word
bit_word zero f x k h = absurd (not-suc-le-zero h)
bit_word (suc w) f x zero h =
    bit_zero (word (suc w) f x) ∙ ap (λ (y : ℕ). eqb y 1) (digits_mod (word w (λ k. f (suc k)) (x / 2)) (digit_lt (f zero))) ∙ digit_eqb (f zero)
bit_word (suc w) f x (suc k) h =
    bit_suc (word (suc w) f x) k
    ∙ ap (λ (y : ℕ). bit y k) (digits_div (word w (λ k. f (suc k)) (x / 2)) (digit_lt (f zero)))
    ∙ bit_word w (λ k. f (suc k)) (x / 2) k (le_of_suc-le-suc h)

pub word_high : (w : ℕ) (f : ℕ → Bool) (x : ℕ) → word w f x / 2 ^ w ≡ x / 2 ^ w
unfolding word
word_high zero f x = refl
word_high (suc w) f x =
    halve (word (suc w) f x) w
    ∙ ap (λ (y : ℕ). y / 2 ^ w) (digits_div (word w (λ k. f (suc k)) (x / 2)) (digit_lt (f zero)))
    ∙ word_high w (λ k. f (suc k)) (x / 2) ∙ sym (halve x w)

pub word_lt : (w : ℕ) (f : ℕ → Bool) (x : ℕ) → x < 2 ^ w → word w f x < 2 ^ w
word_lt w f x h =
    subst (λ (y : ℕ). word w f x < y) (one-mul (2 ^ w))
    ((div-lt_iff_lt-mul (pow_pos w)).0 (subst (λ (y : ℕ). y < 1) (sym (word_high w f x ∙ div-eq_of_lt h)) (lit< tt)))

-- two words are equal where their bits below w are, and what stands above
pub bits_ext : (w x y : ℕ) → x / 2 ^ w ≡ y / 2 ^ w → ((k : ℕ) → k < w → bit x k ≡ bit y k) → x ≡ y
bits_ext zero x y e h = sym (div-one x) ∙ e ∙ div-one y
bits_ext (suc w) x y e h =
    sym (div-add-mod' x 2)
    ∙ ap₂ (λ (a b : ℕ). a * 2 + b)
    (bits_ext w (x / 2) (y / 2) (sym (halve x w) ∙ e ∙ halve y w) (λ k l. sym (bit_suc x k) ∙ h (suc k) (suc-le-suc l) ∙ bit_suc y k))
    (sym (eqb_digit (x % 2) (mod-lt x two)) ∙ ap digit (sym (bit_zero x) ∙ h zero (zero-lt-suc w) ∙ bit_zero y) ∙ eqb_digit (y % 2) (mod-lt y two))
    ∙ div-add-mod' y 2

-- ---- the operations, a bit at a time

or_digits : (p q : Bool) → bit_or (digit p) (digit q) ≡ digit (p || q)
or_digits true true = refl
or_digits true false = refl
or_digits false q = refl

abbrev pub unlike : Bool → Bool → Bool
unlike true q = not q
unlike false q = q

xor_digits : (p q : Bool) → bit_xor (digit p) (digit q) ≡ digit (unlike p q)
xor_digits true true = refl
xor_digits true false = refl
xor_digits false q = refl

pub or_bit : (a b k : ℕ) → bit (bit_or a b) k ≡ (bit a k || bit b k)
or_bit a b k =
    ap (λ (y : ℕ). eqb y 1)
    (ap (λ (y : ℕ). y % 2) (or_shr a b k) ∙ or_mod (a / 2 ^ k) (b / 2 ^ k) 1
    ∙ ap₂ bit_or (sym (bit_digit a k)) (sym (bit_digit b k)) ∙ or_digits (bit a k) (bit b k))
    ∙ digit_eqb (bit a k || bit b k)

pub xor_bit : (a b k : ℕ) → bit (bit_xor a b) k ≡ unlike (bit a k) (bit b k)
xor_bit a b k =
    ap (λ (y : ℕ). eqb y 1)
    (ap (λ (y : ℕ). y % 2) (xor_shr a b k) ∙ xor_mod (a / 2 ^ k) (b / 2 ^ k) 1
    ∙ ap₂ bit_xor (sym (bit_digit a k)) (sym (bit_digit b k)) ∙ xor_digits (bit a k) (bit b k))
    ∙ digit_eqb (unlike (bit a k) (bit b k))

-- the power 2 ^ k has bit k alone
pub pow_bit : (k j : ℕ) → bit (2 ^ k) j ≡ eqb j k
pow_bit zero zero = refl
pow_bit zero (suc j) = bit_suc 1 j ∙ bit_of_zero j ∙ sym (eqb-suc-zero j)
pow_bit (suc k) zero =
    bit_zero (2 ^ suc k) ∙ ap (λ (y : ℕ). eqb y 1) (ap (λ (y : ℕ). y % 2) (pow-suc 2 k) ∙ mul-mod_left (2 ^ k) 2) ∙ sym (eqb-zero-suc k)
pow_bit (suc k) (suc j) =
    bit_suc (2 ^ suc k) j ∙ ap (λ (y : ℕ). bit y j) (ap (λ (y : ℕ). y / 2) (pow-suc 2 k) ∙ mul-div_cancel (2 ^ k) two) ∙ pow_bit k j ∙ sym (eqb-suc-suc j k)

-- what is x above w, and has the bits f below w, is `word`
pub word_is : (w : ℕ) (f : ℕ → Bool) (x y : ℕ) → y / 2 ^ w ≡ x / 2 ^ w → ((k : ℕ) → k < w → bit y k ≡ f k) → y ≡ word w f x
word_is w f x y e h = bits_ext w y (word w f x) (e ∙ sym (word_high w f x)) (λ k l. h k l ∙ sym (bit_word w f x k l))

-- the code's `1 << k` at a width of w
pub mask : (w k : ℕ) → k < w → (1 * 2 ^ k) % 2 ^ w ≡ 2 ^ k
mask w k h = shl_exact 1 k w (lit< tt) (subst (λ (j : ℕ). j ≤ w) (sym (one-add k)) h) ∙ one-mul (2 ^ k)

module _ (w x k : ℕ) (h : k < w) where
  or_high : (y : ℕ) → bit_or y (2 ^ k) / 2 ^ w ≡ y / 2 ^ w
  or_high y = or_shr y (2 ^ k) w ∙ ap (bit_or (y / 2 ^ w)) (div-eq_of_lt (pow-lt h)) ∙ or_zero_r (y / 2 ^ w)

  xor_high : (y : ℕ) → bit_xor y (2 ^ k) / 2 ^ w ≡ y / 2 ^ w
  xor_high y = xor_shr y (2 ^ k) w ∙ ap (bit_xor (y / 2 ^ w)) (div-eq_of_lt (pow-lt h)) ∙ xor_zero_r (y / 2 ^ w)

  on : (a b : Bool) → (a || b) ≡ cond b true a
  on true true = refl
  on true false = refl
  on false true = refl
  on false false = refl

  off : (a b : Bool) → unlike (a || b) b ≡ cond b false a
  off true true = refl
  off true false = refl
  off false true = refl
  off false false = refl

  -- `x | (1 << k)` sets bit k and no other, `(x | (1 << k)) ^ (1 << k)` clears it
  pub set_bit : bit_or x ((1 * 2 ^ k) % 2 ^ w) ≡ word w (λ j. cond (eqb j k) true (bit x j)) x
  set_bit =
      ap (bit_or x) (mask w k h)
      ∙ word_is w (λ j. cond (eqb j k) true (bit x j)) x (bit_or x (2 ^ k)) (or_high x)
      (λ j l. or_bit x (2 ^ k) j ∙ ap (λ (b : Bool). bit x j || b) (pow_bit k j) ∙ on (bit x j) (eqb j k))

  pub clear_bit : bit_xor (bit_or x ((1 * 2 ^ k) % 2 ^ w)) ((1 * 2 ^ k) % 2 ^ w) ≡ word w (λ j. cond (eqb j k) false (bit x j)) x
  clear_bit =
      ap (λ (m : ℕ). bit_xor (bit_or x m) m) (mask w k h)
      ∙ word_is w (λ j. cond (eqb j k) false (bit x j)) x (bit_xor (bit_or x (2 ^ k)) (2 ^ k)) (xor_high (bit_or x (2 ^ k)) ∙ or_high x)
      (λ j l. xor_bit (bit_or x (2 ^ k)) (2 ^ k) j ∙ ap₂ unlike (or_bit x (2 ^ k) j) (pow_bit k j)
      ∙ ap (λ (b : Bool). unlike (bit x j || b) (eqb j k)) (pow_bit k j) ∙ off (bit x j) (eqb j k))

  -- either without a branch: what is taken off again is nothing, or the bit
  pub put_bit : (s : Bool) (off : ℕ) → off ≡ cond s 0 ((1 * 2 ^ k) % 2 ^ w) → bit_xor (bit_or x ((1 * 2 ^ k) % 2 ^ w)) off ≡ word w (λ j. cond (eqb j k) s (bit x j)) x
  put_bit true off e = ap (bit_xor (bit_or x ((1 * 2 ^ k) % 2 ^ w))) e ∙ xor_zero_r (bit_or x ((1 * 2 ^ k) % 2 ^ w)) ∙ set_bit
  put_bit false off e = ap (bit_xor (bit_or x ((1 * 2 ^ k) % 2 ^ w))) e ∙ clear_bit

-- the word of w bits that are all set
ones_suc : (w : ℕ) → 2 ^ suc w - 1 ≡ (2 ^ w - 1) * 2 + 1
ones_suc w = ap (λ (n : ℕ). n - 1) (pow-suc 2 w) ∙ dbl_pred (pow_pos w)

pub ones_bit : (w k : ℕ) → k < w → bit (2 ^ w - 1) k ≡ true
ones_bit zero k h = absurd (not-suc-le-zero h)
ones_bit (suc w) zero h = bit_zero (2 ^ suc w - 1) ∙ ap (λ (y : ℕ). eqb y 1) (ap (λ (n : ℕ). n % 2) (ones_suc w) ∙ digits_mod (2 ^ w - 1) (lit< tt))
ones_bit (suc w) (suc k) h =
    bit_suc (2 ^ suc w - 1) k ∙ ap (λ (y : ℕ). bit y k) (ap (λ (n : ℕ). n / 2) (ones_suc w) ∙ digits_div (2 ^ w - 1) (lit< tt)) ∙ ones_bit w k (le_of_suc-le-suc h)

-- all its bits are s
pub full_bit : (w : ℕ) (s : Bool) (k : ℕ) → k < w → bit (digit s * (2 ^ w - 1)) k ≡ s
full_bit w true k h = ap (λ (y : ℕ). bit y k) (one-mul (2 ^ w - 1)) ∙ ones_bit w k h
full_bit w false k h = ap (λ (y : ℕ). bit y k) (zero-mul (2 ^ w - 1)) ∙ bit_of_zero k

pub full_lt : (w : ℕ) (s : Bool) → digit s * (2 ^ w - 1) < 2 ^ w
full_lt w true = subst (λ (y : ℕ). y < 2 ^ w) (sym (one-mul (2 ^ w - 1))) (ones_lt w)
full_lt w false = subst (λ (y : ℕ). y < 2 ^ w) (sym (zero-mul (2 ^ w - 1))) (pow_pos w)
