-- Numbers in hex, each followed by one byte of any other kind (crates/replay/README.md, "The file").
use Rattle.std.specs.Prelude.{ℕ, zero, suc, ◌+◌, ◌-◌, ◌*◌, ◌%◌, ◌^◌, cond, List, [], ◌∷◌, drop, nat_lt}
use Rattle.recording.specs.declared.decode.Read.{Read}

-- the value of a digit, 0 to 9 and a to f: 16 of any other byte
unfoldable pub digit_of : ℕ → ℕ
digit_of b = cond (nat_lt b 48) 16 (cond (nat_lt b 58) (b - 48) (cond (nat_lt b 97) 16 (cond (nat_lt b 103) (b - 87) 16)))

-- with a digit more, as far as 64 bits hold it
abbrev pub with_digit : ℕ → ℕ → ℕ
with_digit v d = v % 2 ^ 60 * 16 + d % 16

abbrev pub read : ℕ → ℕ → Read
read v i = record { value = v; next = i }

-- the digits at the front of some bytes of which the first is at a place; the byte that ends them is passed over
unfoldable pub digits_from : List ℕ → ℕ → ℕ → Read
digits_from [] v i = read v i
digits_from (b ∷ bs) v i = cond (nat_lt 15 (digit_of b)) (read v (i + 1)) (digits_from bs (with_digit v (digit_of b)) (i + 1))

-- the number at a place, and the place after the byte that ends it
abbrev pub number_at : List ℕ → ℕ → Read
number_at s at = digits_from (drop at s) 0 at

-- so many numbers from a place on, and the place after them
unfoldable pub numbers_at : ℕ → List ℕ → ℕ → List ℕ
numbers_at zero s at = []
numbers_at (suc n) s at = (number_at s at).value ∷ numbers_at n s (number_at s at).next

unfoldable pub after_numbers : ℕ → List ℕ → ℕ → ℕ
after_numbers zero s at = at
after_numbers (suc n) s at = after_numbers n s (number_at s at).next
