-- The sixteen numbers of a line, and how calls are counted (README.md, "The file", "What is compared").
use Rattle.std.specs.Prelude.{ℕ, ◌+◌, ◌*◌, ◌%◌, ◌^◌, Bool, cond, ◌&&◌, List, ◌==◌, nat_lt, slice_index, slice_set}
use Rattle.abi.specs.Refusals as refusal
use Rattle.playback.specs.declared.buffers.Call.{Call}
use Rattle.replay.specs.Fields as field

-- ---- where the counts stand: of all calls, of those as recorded, of the others; by 01's number; by kind and column, of all and of those as recorded

abbrev pub all : ℕ
all = 0

abbrev pub all_same : ℕ
all_same = 1

abbrev pub others : ℕ
others = 2

abbrev pub by_number : ℕ
by_number = 16

abbrev pub numbers : ℕ
numbers = 32

abbrev pub calls : ℕ
calls = 64

abbrev pub same : ℕ
same = 160

abbrev pub kinds : ℕ
kinds = 20

-- SNP, TDX, CCA, and the registrar
abbrev pub columns : ℕ
columns = 4

abbrev pub registrar : ℕ
registrar = 3

-- ---- a line

abbrev pub recorded : List ℕ → Call
recorded f =
    record {
      kind = slice_index f field.kind;
      a = slice_index f field.a;
      b = slice_index f field.b;
      c = slice_index f field.c;
      d = slice_index f field.d;
      e = slice_index f field.e;
      place = slice_index f field.place;
      code = slice_index f field.failed_code;
      processed = slice_index f field.processed;
      runs = slice_index f field.runs;
    }

-- in the file: refused with a code
abbrev pub with_acode : ℕ
with_acode = 1

-- how a number stands in the file: the original has none for what it refuses with a code
abbrev pub result_of : ℕ → ℕ
result_of n = cond (n == refusal.not_ram) with_acode (cond (nat_lt n refusal.locked) n (cond (nat_lt n refusal.full) with_acode n))

-- numbers 9 to 14 of a line are the six given
abbrev pub same_as : List ℕ → List ℕ → ℕ → Bool
same_as f g i = slice_index f (field.result + i) == slice_index g i

unfoldable pub is_same : List ℕ → List ℕ → Bool
is_same f g = same_as f g 0 && (same_as f g 1 && (same_as f g 2 && (same_as f g 3 && (same_as f g 4 && same_as f g 5))))

-- one more
abbrev pub bumped : List ℕ → ℕ → List ℕ
bumped t i = slice_set t i ((slice_index t i + 1) % 2 ^ 64)

-- a call's kind and column: an isolation, or the registrar
abbrev pub cell_of : List ℕ → ℕ → ℕ
cell_of f column = slice_index f field.kind % kinds * columns + column % columns

-- a call more: of all, of its number, of its cell; then of those as recorded, or of the others
abbrev pub counted : List ℕ → List ℕ → ℕ → ℕ → List ℕ
counted t f number column = bumped (bumped (bumped t all) (by_number + number % numbers)) (calls + cell_of f column)

unfoldable pub noted_of : List ℕ → List ℕ → List ℕ → ℕ → ℕ → List ℕ
noted_of t f g number column =
    cond (is_same f g) (bumped (bumped (counted t f number column) all_same) (same + cell_of f column)) (bumped (counted t f number column) others)
