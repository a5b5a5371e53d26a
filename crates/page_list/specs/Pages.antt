-- A page list as it crosses (01, the opening, "From the input" 5, 6 and 8): 8-byte little-endian numbers.
use Rattle.std.specs.Prelude.{Bool, true, false, cond, not, ◌&&◌, ◌||◌, List, [], ◌∷◌, ℕ, zero, suc, ◌+◌, ◌*◌, ◌/◌, ◌%◌, eqb, ltb, length, get_or}
use Rattle.abi.specs.Limits as limit

-- a number of eight bytes, the lowest first
unfoldable pub number_of : ℕ → ℕ → ℕ → ℕ → ℕ → ℕ → ℕ → ℕ → ℕ
number_of a b c d e f g h =
    a + 0x100 * b + 0x1_0000 * c + 0x100_0000 * d + 0x1_0000_0000 * e + 0x100_0000_0000 * f + 0x1_0000_0000_0000 * g + 0x100_0000_0000_0000 * h

-- the whole numbers of a list of bytes, in order; the bytes over are none
unfoldable pub number_at : List ℕ → ℕ → ℕ
number_at l i =
    number_of (get_or l (8 * i) 0) (get_or l (8 * i + 1) 0) (get_or l (8 * i + 2) 0) (get_or l (8 * i + 3) 0) (get_or l (8 * i + 4) 0) (get_or l (8 * i + 5) 0)
    (get_or l (8 * i + 6) 0) (get_or l (8 * i + 7) 0)

unfoldable pub numbers_from : List ℕ → ℕ → ℕ → List ℕ
numbers_from l i zero = []
numbers_from l i (suc k) = number_at l i ∷ numbers_from l (suc i) k

abbrev pub pages_of : List ℕ → List ℕ
pages_of l = numbers_from l 0 (length l / 8)

-- 5: over 512 pages, in bytes
abbrev pub is_long : List ℕ → Bool
is_long l = ltb limit.list_bytes (length l)

-- 6: a page that stands twice
unfoldable pub among : List ℕ → ℕ → Bool
among [] q = false
among (p ∷ ps) q = eqb q p || among ps q

unfoldable pub repeats : List ℕ → Bool
repeats [] = false
repeats (p ∷ ps) = among ps p || repeats ps

-- 8: bytes over
abbrev pub is_ragged : List ℕ → Bool
is_ragged l = not (eqb (length l % 8) 0)

-- each page above the one before it, or each below
abbrev pub steps : Bool → ℕ → ℕ → Bool
steps up p q = cond up (ltb p q) (ltb q p)

unfoldable pub steps_from : Bool → ℕ → List ℕ → Bool
steps_from up p [] = true
steps_from up p (q ∷ qs) = steps up p q && steps_from up q qs

unfoldable pub strict : Bool → List ℕ → Bool
strict up [] = true
strict up (p ∷ ps) = steps_from up p ps
