-- The calls of the protector's entries as data: what may be called, what each gives of what it is lent, as its definition has it, and what is seen of that.
use Rattle.std.specs.Prelude.{List, [], ℕ}
use Rattle.page_list.specs.Pages.{pages_of}
use Rattle.protector_state.specs.declared.Reply.{Reply}
use Rattle.call_refusals.specs.Buffers.{Buffers, buffers, Outcome}
use Rattle.protector.specs.Calls.{visibility_of}
use Rattle.protection_entries.specs.Calls.{protection_of, default_of}
use Rattle.overlay_entries.specs.Calls.{register_of, unregister_of, is_overlay_in}
use Rattle.lock_entries.specs.Calls.{Kept, lock_of, unlock_of}
use Rattle.setting_entries.specs.Calls.{Enabled, enable_of, enabled_in, default_in}
use Rattle.protector_state.specs.declared.Value.{Value}
use Rattle.queries.specs.Queries as queries
use Rattle.queries.specs.Queries.{query_of, fault_in, lower_in, access_in}
use Rattle.visibility_claims.specs.Whole.{BackendAnswer}
use Rattle.visibility_claims.specs.Calls.{answer_of}
use Rattle.history.specs.Observed.{Observed, sees_call, sees_answer}

-- a call that may write, and is no answer
pub data Writer : Type 0 where
  Visibility : (vtl share : ℕ) (list : List ℕ) → Writer
  Protection : (vtl flags : ℕ) (list : List ℕ) → Writer
  Default : (vtl flags : ℕ) → Writer
  Register : (vtl page source checked new : ℕ) → Writer
  Unregister : (vtl page : ℕ) → Writer
  Lock : (vtl : ℕ) (list : List ℕ) → Writer
  Unlock : (vtl : ℕ) (list : List ℕ) → Writer
  Enable : Writer

-- one that only reads
pub data Reader : Type 0 where
  TellEnabled : Reader
  TellDefault : Reader
  IsOverlay : (vtl page : ℕ) → Reader
  Query : (list out : List ℕ) → Reader
  Fault : (mapping view address writes failure : ℕ) → Reader
  Lower : (vtl page : ℕ) → Reader
  Access : (page : ℕ) → Reader

-- a call: one of these, or the backend's answer to the operation outstanding
pub data Call : Type 0 where
  Write : Writer → Call
  Read : Reader → Call
  Answer : BackendAnswer → Call

-- ---- what a call answers: a reply; or the value told, or the output as it is filled and a reply

abbrev pub Shown : Reader → Type 0
Shown TellEnabled = Value
Shown TellDefault = Value
Shown (IsOverlay vtl page) = Value
Shown (Query list out) = queries.Query
Shown (Fault mapping view address writes failure) = Value
Shown (Lower vtl page) = Value
Shown (Access page) = Value

abbrev pub Result : Call → Type 0
Result (Write writer) = Reply
Result (Read reader) = Shown reader
Result (Answer answer) = Reply

-- ---- what a call gives: all that is lent as it is then, and what it answers

pub record Effect (A : Type 0) : Type 0 where
  pub buffers : Buffers
  pub answer : A

abbrev pub effect : {A : Type 0} → Buffers → A → Effect A
effect buffers answer = record { buffers = buffers; answer = answer }

abbrev pub replied : Outcome → Effect Reply
replied outcome = effect outcome.buffers outcome.reply

-- the calls on locks write the tables alone, the setter the state block alone
abbrev pub kept_in : Buffers → Kept → Effect Reply
kept_in old kept = effect (buffers old.maps old.state old.pages kept.tables) kept.reply

abbrev pub enabled_by : Buffers → Enabled → Effect Reply
enabled_by old enabled = effect (buffers old.maps enabled.state old.pages old.tables) enabled.reply

abbrev pub gives_writer : Writer → Buffers → Effect Reply
gives_writer (Visibility vtl share list) buffers = replied (visibility_of buffers vtl share list)
gives_writer (Protection vtl flags list) buffers = replied (protection_of buffers vtl flags list)
gives_writer (Default vtl flags) buffers = replied (default_of buffers vtl flags)
gives_writer (Register vtl page source checked new) buffers = replied (register_of buffers vtl page source checked new)
gives_writer (Unregister vtl page) buffers = replied (unregister_of buffers vtl page)
gives_writer (Lock vtl list) buffers = kept_in buffers (lock_of buffers.state buffers.tables vtl list)
gives_writer (Unlock vtl list) buffers = kept_in buffers (unlock_of buffers.state buffers.tables vtl list)
gives_writer Enable buffers = enabled_by buffers (enable_of buffers.state)

abbrev pub shown : (reader : Reader) → Buffers → Shown reader
shown TellEnabled buffers = enabled_in buffers.state
shown TellDefault buffers = default_in buffers.state
shown (IsOverlay vtl page) buffers = is_overlay_in buffers.state buffers.tables vtl page
shown (Query list out) buffers = query_of buffers.state buffers.maps.shared list out
shown (Fault mapping view address writes failure) buffers = fault_in buffers.state buffers.maps mapping view address writes failure
shown (Lower vtl page) buffers = lower_in buffers.state buffers.maps vtl page
shown (Access page) buffers = access_in buffers.state buffers.maps page

abbrev pub gives : (call : Call) → Buffers → Effect (Result call)
gives (Write writer) buffers = gives_writer writer buffers
gives (Read reader) buffers = effect buffers (shown reader buffers)
gives (Answer answer) buffers = replied (answer_of answer buffers)

-- ---- what is seen of a call, by what it gave and the pages run that it left

abbrev pub sees_writer : Writer → Reply → List ℕ → Observed → Observed
sees_writer (Visibility vtl share list) reply pages seen = sees_call (pages_of list) reply pages seen
sees_writer (Protection vtl flags list) reply pages seen = sees_call [] reply pages seen
sees_writer (Default vtl flags) reply pages seen = sees_call [] reply pages seen
sees_writer (Register vtl page source checked new) reply pages seen = sees_call [] reply pages seen
sees_writer (Unregister vtl page) reply pages seen = sees_call [] reply pages seen
sees_writer (Lock vtl list) reply pages seen = seen
sees_writer (Unlock vtl list) reply pages seen = seen
sees_writer Enable reply pages seen = seen

abbrev pub sees : (call : Call) → Result call → List ℕ → Observed → Observed
sees (Write writer) result pages seen = sees_writer writer result pages seen
sees (Read reader) result pages seen = seen
sees (Answer answer) result pages seen = sees_answer answer result pages seen
