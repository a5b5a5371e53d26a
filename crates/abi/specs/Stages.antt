-- The numbers of the stages of a change other than of visibility, behind those of the phases.
use Rattle.std.specs.Prelude.{ℕ}

abbrev pub protect_pages : ℕ
protect_pages = 13

abbrev pub protect_ram : ℕ
protect_ram = 14

abbrev pub protect_new : ℕ
protect_new = 15

abbrev pub protect_old : ℕ
protect_old = 16

abbrev pub wait : ℕ
wait = 17

abbrev pub flush : ℕ
flush = 18

abbrev pub tlb_wait : ℕ
tlb_wait = 19

-- behind the last
abbrev pub end : ℕ
end = 20
