-- The numbers of 01's refusals ("From the input" and "From the state"); 0 where nothing refuses.
use Rattle.std.specs.Prelude.{Result, Ok, Err, ℕ}
use Rattle.abi.specs.declared.refusal.Refusal.{Refusal}
use Rattle.abi.specs.declared.refusal.Refusal.TheVariants as refusal

-- the layout, or the registrar's offset
abbrev pub unfit_layout : ℕ
unfit_layout = 1

-- of a RAM entry
abbrev pub bad_alignment : ℕ
bad_alignment = 2

abbrev pub unfit_isolation : ℕ
unfit_isolation = 3

-- of what is lent
abbrev pub wrong_length : ℕ
wrong_length = 4

abbrev pub long_list : ℕ
long_list = 5

abbrev pub repeated_page : ℕ
repeated_page = 6

-- or RAM, where a Dma page must not be
abbrev pub not_ram : ℕ
not_ram = 7

-- in the place of one of a few cases
abbrev pub unfit_number : ℕ
unfit_number = 8

-- past the last, or an unfit granularity or alignment
abbrev pub unfit_chunk : ℕ
unfit_chunk = 9

abbrev pub locked : ℕ
locked = 10

-- where none may be
abbrev pub overlay : ℕ
overlay = 11

abbrev pub shared : ℕ
shared = 12

-- permissions for what is asked
abbrev pub narrow : ℕ
narrow = 13

-- where one must be
abbrev pub no_overlay : ℕ
no_overlay = 14

-- a page to be shared that VTL0 may not read and write
abbrev pub access_denied : ℕ
access_denied = 15

-- an operation failed, and the call ends
abbrev pub backend_failed : ℕ
backend_failed = 16

-- a table or a count
abbrev pub full : ℕ
full = 17

-- no list of just these pages
abbrev pub not_locked : ℕ
not_locked = 18

-- an operation is outstanding
abbrev pub busy : ℕ
busy = 19

-- by an operation that failed
abbrev pub halted : ℕ
halted = 20

-- that this could answer
abbrev pub nothing_asked : ℕ
nothing_asked = 21

-- a span of RAM, for the registrar
abbrev pub unaligned_memory : ℕ
unaligned_memory = 22

-- now or in an earlier call
abbrev pub registration_failed : ℕ
registration_failed = 23

-- permissions
abbrev pub untracked : ℕ
untracked = 24

-- the number of each
abbrev pub number_of : Refusal → ℕ
number_of refusal.UnfitLayout = unfit_layout
number_of refusal.BadAlignment = bad_alignment
number_of refusal.UnfitIsolation = unfit_isolation
number_of refusal.WrongLength = wrong_length
number_of refusal.LongList = long_list
number_of refusal.RepeatedPage = repeated_page
number_of refusal.NotRam = not_ram
number_of refusal.UnfitNumber = unfit_number
number_of refusal.UnfitChunk = unfit_chunk
number_of refusal.Locked = locked
number_of refusal.Overlay = overlay
number_of refusal.Shared = shared
number_of refusal.Narrow = narrow
number_of refusal.NoOverlay = no_overlay
number_of refusal.AccessDenied = access_denied
number_of refusal.BackendFailed = backend_failed
number_of refusal.Full = full
number_of refusal.NotLocked = not_locked
number_of refusal.Busy = busy
number_of refusal.Halted = halted
number_of refusal.NothingAsked = nothing_asked
number_of refusal.UnalignedMemory = unaligned_memory
number_of refusal.RegistrationFailed = registration_failed
number_of refusal.Untracked = untracked

-- what a test gives as a number: 0 where nothing refuses
abbrev pub refused_by : {A : Type 0} → Result A Refusal → ℕ
refused_by (Ok _) = 0
refused_by (Err r) = number_of r

-- the same with its error as a number
abbrev pub numbered : {A : Type 0} → Result A Refusal → Result A ℕ
numbered (Ok a) = Ok a
numbered (Err r) = Err (number_of r)
