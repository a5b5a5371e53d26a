-- Chunks of memory, and the RAM in them: document 01, "Registrar".
use Rattle.std.specs.Prelude.{◌≡◌, Bool, true, false, not, cond, ◌||◌, ◌&&◌, List, [], ◌∷◌, ℕ, zero, suc, ◌+◌, ◌-◌, ◌*◌, ◌/◌, ◌%◌, ◌^◌, ◌≤◌, ◌<◌, min, max, eqb, leb, ltb}
use Rattle.abi.specs.Lengths.{page_size, word_bits}
use Rattle.bitmap.specs.Pages.{bit_at}
use Rattle.layout.specs.declared.MemoryRange.{MemoryRange}
use Rattle.layout.specs.declared.MemoryRangeWithNode.{MemoryRangeWithNode}
use Rattle.layout.specs.Layout.{range, entry, last_end}

-- a quotient rounded up
abbrev pub up : ℕ → ℕ → ℕ
up n divisor = cond (eqb (n % divisor) 0) (n / divisor) (n / divisor + 1)

-- how many chunks there are, and how many words a bitmap of them has (refusal 4)
abbrev pub chunk_count : ℕ → List MemoryRangeWithNode → ℕ
chunk_count granularity entries = up (last_end entries) granularity

abbrev pub map_words : ℕ → List MemoryRangeWithNode → ℕ
map_words granularity entries = up (chunk_count granularity entries) word_bits

-- the chunks of a request, by way of its pages: the first, and the one after the last
abbrev pub first_chunk : ℕ → ℕ → ℕ
first_chunk granularity address = address / page_size / (granularity / page_size)

abbrev pub end_chunk : ℕ → ℕ → ℕ → ℕ
end_chunk granularity address len = up (up (address + len) page_size) (granularity / page_size)

-- a power of two that 64 bits hold
unfoldable pub power_from : ℕ → ℕ → ℕ → Bool
power_from n k zero = false
power_from n k (suc m) = eqb n (2 ^ k) || power_from n (suc k) m

abbrev pub is_power : ℕ → Bool
is_power n = power_from n 0 word_bits

abbrev pub empty : MemoryRange → Bool
empty r = leb r.end r.start

-- what of the spans lies from an address to before another: a chunk's RAM, ascending, one range a span
abbrev pub part : ℕ → ℕ → MemoryRange → MemoryRange
part from to r = range (max from r.start) (min to r.end)

unfoldable pub pieces : ℕ → ℕ → List MemoryRange → List MemoryRange
pieces from to [] = []
pieces from to (r ∷ rs) = cond (empty (part from to r)) (pieces from to rs) (part from to r ∷ pieces from to rs)

-- the first of them, empty where there is none
abbrev pub first_of : List MemoryRange → MemoryRange
first_of [] = range 0 0
first_of (r ∷ rs) = r

-- the first number from `from` to before `to` that P does not hold of: where it holds of all, `to` (`from`, if that is not below `to`)
unfoldable pub first_not_of : (ℕ → Bool) → ℕ → ℕ → ℕ
first_not_of P from zero = from
first_not_of P from (suc n) = cond (P from) (first_not_of P (suc from) n) from

abbrev pub first_not : (ℕ → Bool) → ℕ → ℕ → ℕ
first_not P from to = first_not_of P from (to - from)

-- P holds of n numbers from `from` on, all before `to`; where n is 0, not of `from`
pub record Ahead (P : ℕ → Bool) (from to n : ℕ) : Type 0 where
  pub within : from + n ≤ to
  pub holds : (q : ℕ) → from ≤ q → q < from + n → P q ≡ true
  pub stops : n ≡ 0 → P from ≡ false

-- a chunk that has not failed, and is registered or not
abbrev pub alike : List ℕ → List ℕ → Bool → ℕ → Bool
alike registered failed set chunk = not (bit_at word_bits failed chunk) && cond set (bit_at word_bits registered chunk) (not (bit_at word_bits registered chunk))

-- the aligned part of a span, empty where there is none
abbrev pub aligned_part : ℕ → MemoryRange → MemoryRange
aligned_part alignment span =
    cond (ltb (up span.start alignment) (span.end / alignment)) (range (up span.start alignment * alignment) (span.end / alignment * alignment)) (range 0 0)

-- the edge that 22 names: the span where it has no aligned part, or what lies before that part, or what lies after it; empty where there is none
abbrev pub edge_of : ℕ → MemoryRange → MemoryRange
edge_of alignment span =
    cond (empty (aligned_part alignment span)) span
    (cond (eqb (aligned_part alignment span).start span.start)
    (cond (eqb (aligned_part alignment span).end span.end) (range 0 0) (range (aligned_part alignment span).end span.end))
    (range span.start (aligned_part alignment span).start))

-- the first entry that has a byte of it
unfoldable pub entry_with : MemoryRange → List MemoryRangeWithNode → MemoryRangeWithNode
entry_with r [] = entry 0 0 0
entry_with r (e ∷ es) = cond (ltb e.start r.end && ltb r.start e.end) e (entry_with r es)
