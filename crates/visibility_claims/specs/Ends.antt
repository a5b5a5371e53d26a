-- The number that every taken answer lowers: document 01, "The request under way", on when a call is under way.
use Rattle.std.specs.Prelude.{◌≡◌, Bool, true, false, cond, List, [], ◌∷◌, ℕ, suc, ◌+◌, ◌-◌, ◌*◌, ◌≤◌, ◌<◌, max, eqb, length}
use Rattle.abi.specs.Refusals as refusal
use Rattle.visibility_steps.specs.declared.Phase.{Phase}
use Rattle.visibility_steps.specs.declared.Phase.TheVariants.{Idle, Halted, Wait, FlushAll, ProtectNone0, ProtectNone1, Invalidate, Release, Modify, Accept, Zero, ProtectDefault0, ProtectDefault1}
use Rattle.layout.specs.declared.MemoryRangeWithNode.{MemoryRangeWithNode}
use Rattle.default_change.specs.Pieces.{page_up}
use Rattle.change_steps.specs.declared.Stage.{Stage}
use Rattle.change_steps.specs.declared.Stage.TheVariants as stage
use Rattle.protector_state.specs.State.{state_len, phase_in, request_of, entries_in}
use Rattle.protector_state.specs.Changing.{stage_in, is_changing, change_in}
use Rattle.call_refusals.specs.Buffers.{Buffers, fits, status_in}
use Rattle.visibility_claims.specs.Whole.{BackendAnswer, Succeeds}
use Rattle.visibility_claims.specs.Calls.{answer_of, taken_by}

-- no fewer than the operations to come, with the one outstanding: of count pages, the run at place a being under way
abbrev pub left : Phase → ℕ → ℕ → ℕ
left Idle count a = 0
left Halted count a = 0
left Wait count a = 7 * count + 3
left FlushAll count a = 7 * count + 2
left ProtectNone0 count a = 3 * (count - suc a) + 4 * count + 4
left ProtectNone1 count a = 3 * (count - suc a) + 4 * count + 3
left Invalidate count a = 3 * (count - suc a) + 4 * count + 2
left Release count a = 3 * (count - suc a) + 4 * count + 2
left Modify count a = 4 * count + 1
left Accept count a = 2 * (count - suc a) + 2 * count + 2
left Zero count a = 2 * (count - suc a) + 2 * count + 1
left ProtectDefault0 count a = 2 * (count - suc a) + 2
left ProtectDefault1 count a = 2 * (count - suc a) + 1

-- the same of another change: of a default change, whose next piece is sought from page a on, no more than the pages up to the last of RAM
abbrev pub left_at : Stage → ℕ → ℕ → ℕ → ℕ
left_at stage.Idle count a end = 0
left_at stage.Halted count a end = 0
left_at stage.ProtectPages count a end = count - suc a + 4
left_at stage.ProtectRam count a end = end - a + 4
left_at stage.ProtectNew count a end = 4
left_at stage.ProtectOld count a end = 4
left_at stage.Wait count a end = 3
left_at stage.Flush count a end = 2
left_at stage.TlbWait count a end = 1

-- no entry has a page from here on
unfoldable pub page_end : List MemoryRangeWithNode → ℕ
page_end [] = 0
page_end (entry ∷ entries) = max (page_up entry.end) (page_end entries)

abbrev pub left_in : Buffers → ℕ
left_in buffers =
    cond (is_changing buffers.state) (left_at (stage_in buffers.state) (change_in buffers.state).n (change_in buffers.state).at (page_end (entries_in buffers.state)))
    (left (phase_in buffers.state) (request_of buffers.state).n (request_of buffers.state).at)

-- an operation waits for its answer (19)
abbrev pub under_way : Buffers → Bool
under_way buffers = eqb (status_in buffers.state) refusal.busy

-- the buffers once answers were given in turn, and how many of them were taken
unfoldable pub after_all : Buffers → List BackendAnswer → Buffers
after_all buffers [] = buffers
after_all buffers (answer ∷ answers) = after_all (answer_of answer buffers).buffers answers

unfoldable pub taken_of : Buffers → List BackendAnswer → ℕ
taken_of buffers [] = 0
taken_of buffers (answer ∷ answers) = cond (taken_by answer buffers) 1 0 + taken_of (answer_of answer buffers).buffers answers

-- while a request is under way, none of the answers is refused
unfoldable pub unrefused : Buffers → List BackendAnswer → Type 0
unrefused buffers [] = Unit {0}
unrefused buffers (answer ∷ answers) = (under_way buffers ≡ true → taken_by answer buffers ≡ true) × unrefused (answer_of answer buffers).buffers answers

-- ---- THE CLAIMS, from any state

-- a taken answer, done or failed, lowers the number
abbrev pub TakenLowers : Type 0
TakenLowers = (buffers : Buffers) (answer : BackendAnswer) → taken_by answer buffers ≡ true → left_in (answer_of answer buffers).buffers < left_in buffers

-- an answer that isn't taken changes nothing
abbrev pub UntakenKeeps : Type 0
UntakenKeeps = (buffers : Buffers) (answer : BackendAnswer) → taken_by answer buffers ≡ false → (answer_of answer buffers).buffers ≡ buffers

-- once so many answers were taken as the number says, nothing is under way
abbrev pub TakenEnd : Type 0
TakenEnd = (buffers : Buffers) (answers : List BackendAnswer) → left_in buffers ≤ taken_of buffers answers → under_way (after_all buffers answers) ≡ false

-- as many answers as the number says, none of them refused while the request is under way, end it
abbrev pub EveryRequestEnds : Type 0
EveryRequestEnds = (buffers : Buffers) (answers : List BackendAnswer) → unrefused buffers answers → left_in buffers ≤ length answers → under_way (after_all buffers answers) ≡ false

-- done is refused by no request that is under way, where what is lent has its lengths
abbrev pub DoneTaken : Type 0
DoneTaken = (buffers : Buffers) → length buffers.state ≡ state_len → fits buffers ≡ true → under_way buffers ≡ true → taken_by Succeeds buffers ≡ true
