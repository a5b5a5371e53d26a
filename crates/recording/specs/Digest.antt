-- The digest of a recorded answer (crates/replay/README.md, "What is compared").
use Rattle.std.specs.Prelude.{ℕ, ◌*◌, ◌/◌, ◌%◌, ◌^◌, List, [], ◌∷◌, bit_xor}

abbrev pub start : ℕ
start = 14695981039346656037

-- the product with 2^40 + 435, modulo 2^64
abbrev pub times_prime : ℕ → ℕ
times_prime x = x * 1099511628211 % 2 ^ 64

-- the upper half xored onto the lower
abbrev pub folded : ℕ → ℕ
folded x = bit_xor x (x / 2 ^ 32)

-- a word more
unfoldable pub digest_word : ℕ → ℕ → ℕ
digest_word h w = folded (times_prime (bit_xor h w))

-- words or bytes more, one after the other
unfoldable pub digest_of : ℕ → List ℕ → ℕ
digest_of h [] = h
digest_of h (w ∷ ws) = digest_of (digest_word h w) ws
