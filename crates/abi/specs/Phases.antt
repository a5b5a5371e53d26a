-- The numbers of the phases of a visibility change. Those of the stages of another change follow, with the same for idle and halted.
use Rattle.std.specs.Prelude.{ℕ}

abbrev pub idle : ℕ
idle = 0

abbrev pub halted : ℕ
halted = 1

abbrev pub wait : ℕ
wait = 2

abbrev pub flush_all : ℕ
flush_all = 3

abbrev pub protect_none0 : ℕ
protect_none0 = 4

abbrev pub protect_none1 : ℕ
protect_none1 = 5

abbrev pub invalidate : ℕ
invalidate = 6

abbrev pub release : ℕ
release = 7

abbrev pub modify : ℕ
modify = 8

abbrev pub accept : ℕ
accept = 9

abbrev pub zero : ℕ
zero = 10

abbrev pub protect_default0 : ℕ
protect_default0 = 11

abbrev pub protect_default1 : ℕ
protect_default1 = 12
