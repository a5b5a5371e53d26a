-- Places in the registrar's state block (01, "Registrar", "The request under way"): of the request under way, of the settings, of the RAM layout.
use Rattle.std.specs.Prelude.{ℕ}

-- what waits: the number of a kind
abbrev pub kind : ℕ
kind = 0

-- operations asked for so far
abbrev pub count : ℕ
count = 1

-- the first chunk under way
abbrev pub from : ℕ
from = 2

-- the chunk behind the last one under way
abbrev pub to : ℕ
to = 3

-- of the bytes asked for, without the offset
abbrev pub start : ℕ
start = 4

-- behind these bytes
abbrev pub end : ℕ
end = 5

-- the chunk behind the last that `register` is to reach
abbrev pub until : ℕ
until = 6

-- of `register_all_aligned`
abbrev pub alignment : ℕ
alignment = 7

-- whether it passes over unaligned edges
abbrev pub ignore : ℕ
ignore = 8

-- behind the words of the request
abbrev pub after_request : ℕ
after_request = 9

abbrev pub offset : ℕ
offset = 9

abbrev pub granularity : ℕ
granularity = 10

-- how many RAM entries
abbrev pub entries : ℕ
entries = 11

-- the first of their words
abbrev pub ram : ℕ
ram = 12
