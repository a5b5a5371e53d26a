-- The numbers of the operations, as a reply asks for them, the port's choice; 0 where it asks for none.
use Rattle.std.specs.Prelude.{ℕ}

abbrev pub wait : ℕ
wait = 1

abbrev pub flush_all : ℕ
flush_all = 2

abbrev pub protect : ℕ
protect = 3

abbrev pub invalidate : ℕ
invalidate = 4

abbrev pub release : ℕ
release = 5

abbrev pub modify : ℕ
modify = 6

abbrev pub accept : ℕ
accept = 7

abbrev pub zero : ℕ
zero = 8

abbrev pub flush : ℕ
flush = 9

abbrev pub tlb_wait : ℕ
tlb_wait = 10
