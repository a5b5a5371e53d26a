-- A map of bits (01, "Bitmaps" and "Registrar"), in words of w bits: w is 8 for the pages of a byte map and 64 for the chunks of the registrar.
-- What is said of pages here is said of chunks too.
use Rattle.std.specs.Prelude.{Bool, not, cond, ◌&&◌, List, [], ◌∷◌, ℕ, zero, suc, ◌+◌, ◌*◌, ◌/◌, ◌%◌, ◌^◌, eqb, leb, get_or}
use Rattle.laws.specs.Bools.{digit}
use Rattle.laws.specs.Ranges.{between}

-- bit k of the word x
abbrev pub bit : ℕ → ℕ → Bool
bit x k = eqb (x / 2 ^ k % 2) 1

-- page p of the map m is bit p % w of word p / w; past the end it is not set
abbrev pub bit_at : ℕ → List ℕ → ℕ → Bool
bit_at w m p = bit (get_or m (p / w) 0) (p % w)

-- the word x with f k for its bit k, at each k below w
unfoldable pub word : ℕ → (ℕ → Bool) → ℕ → ℕ
word zero f x = x
word (suc w) f x = word w (λ k. f (suc k)) (x / 2) * 2 + digit (f zero)

-- the words of m, the first of which is word i of its map, with s for each page of P
unfoldable pub written_from : ℕ → (ℕ → Bool) → Bool → ℕ → List ℕ → List ℕ
written_from w P s i [] = []
written_from w P s i (x ∷ m) = word w (λ k. cond (P (i * w + k)) s (bit x k)) x ∷ written_from w P s (suc i) m

-- the map m with s for each page of P, and every other page as it is
abbrev pub written : ℕ → (ℕ → Bool) → Bool → List ℕ → List ℕ
written w P s m = written_from w P s 0 m

-- one page
abbrev pub one : ℕ → ℕ → Bool
one p q = eqb q p

-- the pages of the words from a to before b
abbrev pub words : ℕ → ℕ → ℕ → ℕ → Bool
words w a b q = between a b (q / w)

-- of the pages from a to before b, those in words that this run fills (02, (iv))
abbrev pub filled : ℕ → ℕ → ℕ → ℕ → Bool
filled w a b q = leb a (q / w * w) && leb (q / w * w + w) b

-- and those in words that it doesn't fill
abbrev pub edges : ℕ → ℕ → ℕ → ℕ → Bool
edges w a b q = between a b q && not (filled w a b q)

-- how many of the first n pages are of f
unfoldable pub tally : ℕ → (ℕ → Bool) → ℕ
tally zero f = 0
tally (suc n) f = digit (f zero) + tally n (λ k. f (suc k))
