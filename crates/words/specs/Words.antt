-- Words in a run of a fixed length.
use Rattle.std.specs.Prelude.{List, ◌++◌, reverse, ℕ, ◌-◌, length, take, drop, replicate}

abbrev pub zeros : ℕ → List ℕ
zeros n = replicate n 0

-- words at the front of n, the rest zero
abbrev pub padded : ℕ → List ℕ → List ℕ
padded n ws = ws ++ zeros (n - length ws)

-- n words at place a are gone: what follows them closes the gap
unfoldable pub closed : List ℕ → ℕ → ℕ → List ℕ
closed t a n = padded (length t) (take a t ++ drop n (drop a t))

-- the same of the words before place e: what stands from e on is kept
unfoldable pub closed_to : List ℕ → ℕ → ℕ → ℕ → List ℕ
closed_to t a n e = closed (take e t) a n ++ drop e t

-- n words from place a on and the m words behind them have changed places
unfoldable pub swapped : List ℕ → ℕ → ℕ → ℕ → List ℕ
swapped t a n m = take a t ++ (take m (drop n (drop a t)) ++ (take n (drop a t) ++ drop m (drop n (drop a t))))

-- the words from place a to before place b stand the other way round
unfoldable pub turned : List ℕ → ℕ → ℕ → List ℕ
turned t a b = take a t ++ (reverse (drop a (take b t)) ++ drop b t)
