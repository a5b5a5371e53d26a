-- Places in the state block (01, "The request under way", "Defaults", "RAM layout"): of the request under way, of the settings, of the RAM layout.
use Rattle.std.specs.Prelude.{ℕ}

-- what waits: the number of a phase or of a stage
abbrev pub phase : ℕ
phase = 0

-- whether a visibility change shares
abbrev pub share : ℕ
share = 1

abbrev pub vtl : ℕ
vtl = 2

-- how many pages of the run `pages` are in use
abbrev pub used : ℕ
used = 3

-- where the run under way stands, the page after the piece, or the overlay's page
abbrev pub at : ℕ
at = 4

-- whether a visibility change ends in 15
abbrev pub stopped : ℕ
stopped = 5

-- whether it ends in 16
abbrev pub failed : ℕ
failed = 6

-- of either, in the list
abbrev pub index : ℕ
index = 7

-- of 16
abbrev pub code : ℕ
code = 8

-- operations asked for so far
abbrev pub count : ℕ
count = 9

-- the VTL whose TLB is flushed
abbrev pub flush : ℕ
flush = 10

-- behind the words of a visibility change
abbrev pub after_request : ℕ
after_request = 10

abbrev pub flags : ℕ
flags = 11

-- the flags that an overlay page had
abbrev pub previous : ℕ
previous = 12

-- of an overlay page
abbrev pub source : ℕ
source = 13

-- behind the words of another change
abbrev pub after_change : ℕ
after_change = 14

abbrev pub isolation : ℕ
isolation = 16

-- whether permissions are tracked
abbrev pub tracked : ℕ
tracked = 17

-- whether shared pages are released, on TDX
abbrev pub release : ℕ
release = 18

-- whether VTL1's protections are enabled
abbrev pub enabled : ℕ
enabled = 19

-- the default flags of VTL0
abbrev pub default0 : ℕ
default0 = 20

-- the default flags of VTL1
abbrev pub default1 : ℕ
default1 = 21

-- how many RAM entries
abbrev pub entries : ℕ
entries = 31

-- the first of their words
abbrev pub ram : ℕ
ram = 32
