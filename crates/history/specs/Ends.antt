-- Every request ends (01, "The request under way"): while one is under way, a taken answer lowers a number that bounds the operations to come, and no other call
-- changes anything. Under way and taken are told from the calls and what they gave.
use Rattle.std.specs.Prelude.{◌≡◌, Bool, true, false, cond, not, ◌||◌, List, [], ◌∷◌, map, ℕ, ◌+◌, ◌≤◌, ◌<◌, length, replicate}
use Rattle.protector_state.specs.declared.Reply.{Reply}
use Rattle.call_refusals.specs.Buffers.{Buffers}
use Rattle.visibility_claims.specs.Whole.{BackendAnswer, Succeeds}
use Rattle.visibility_claims.specs.Calls.{answer_of, taken_by}
use Rattle.visibility_claims.specs.Ends.{left_in, under_way, unrefused}
use Rattle.history.specs.Observed.{Observed, is_waiting, is_taken}
use Rattle.history.specs.Call.{Write, Read, Answer}
use Rattle.history.specs.Made.{Made}
use Rattle.history.specs.History.{History, none, call, call_with_other_lengths, refused_build, Called, events_in}

-- what is told of a list of calls here: of an answer what was given, and whether it is seen to be taken; of any other call that it came
pub data Trace (first : Buffers) (before : Observed) : Buffers → Observed → Type 0 where
  start : Trace first before first before
  answer : {left after : Buffers} {seen next : Observed} → Trace first before left seen → BackendAnswer → Bool → Trace first before after next
  other : {left after : Buffers} {seen next : Observed} → Trace first before left seen → Trace first before after next

unfoldable pub trace_of : {first : Buffers} {before : Observed} {final : Buffers} {seen : Observed} → History first before final seen → Trace first before final seen
trace_of none = start
trace_of (call h (Write writer) r m) = other (trace_of h)
trace_of (call h (Read reader) r m) = other (trace_of h)
trace_of (call {left} {after} {seen} h (Answer given) r m) = answer (trace_of h) given (is_taken seen r)
trace_of (call_with_other_lengths h (Write writer) r m s) = other (trace_of h)
trace_of (call_with_other_lengths h (Read reader) r m s) = other (trace_of h)
trace_of (call_with_other_lengths {left} {lent} {after} {seen} h (Answer given) r m s) = answer (trace_of h) given (is_taken seen r)
trace_of (refused_build h ram isolation tracked release r m f) = other (trace_of h)

-- how many answers were taken
unfoldable pub taken_in : {first : Buffers} {before : Observed} {final : Buffers} {seen : Observed} → Trace first before final seen → ℕ
taken_in start = 0
taken_in (answer h given taken) = cond taken 1 0 + taken_in h
taken_in (other h) = taken_in h

-- how many answers came, but for those that were refused while a request was under way: each that was taken, and each that came while none was under way
unfoldable pub heard_in : {first : Buffers} {before : Observed} {final : Buffers} {seen : Observed} → Trace first before final seen → ℕ
heard_in start = 0
heard_in (answer {left} {after} {seen} h given taken) = cond (taken || not (is_waiting seen)) 1 0 + heard_in h
heard_in (other h) = heard_in h

-- a taken answer lowers the number; one that isn't taken changes nothing, nor does any other call while a request is under way; and while none is under way
-- no answer begins one
unfoldable pub Falls : {first : Buffers} {before : Observed} {final : Buffers} {seen : Observed} → Trace first before final seen → Type 0
Falls start = Unit {0}
Falls (answer {left} {after} {seen} {next} h given taken) = Falls h × (taken ≡ true → left_in after < left_in left) × (taken ≡ false → after ≡ left) × (is_waiting next ≡ true → is_waiting seen ≡ true)
Falls (other {left} {after} {seen} h) = Falls h × (is_waiting seen ≡ true → after ≡ left)

-- each call but an answer came while a request was under way, so that no other began
unfoldable pub Meanwhile : {first : Buffers} {before : Observed} {final : Buffers} {seen : Observed} → Trace first before final seen → Type 0
Meanwhile start = Unit {0}
Meanwhile (answer h given taken) = Meanwhile h
Meanwhile (other {left} {after} {seen} h) = Meanwhile h × (is_waiting seen ≡ true)

-- ---- lists of answers alone

-- a list of calls from the first buffers: these answers in turn and no other call; if as many came as the number says, those refused while the request was
-- under way not counted, nothing is under way
pub record Answers (first : Buffers) (before : Observed) (answers : List BackendAnswer) : Type 0 where
  pub buffers : Buffers
  pub seen : Observed
  pub calls : History first before buffers seen
  pub alone : events_in calls ≡ map (λ (answer : BackendAnswer). Called (Answer answer)) answers
  pub enough : left_in first ≤ heard_in (trace_of calls) → is_waiting seen ≡ false

-- one at whose end nothing is under way
pub record Ends (buffers : Buffers) (seen : Observed) (given : List BackendAnswer) : Type 0 where
  pub answers : Answers buffers seen given
  pub over : is_waiting answers.seen ≡ false

-- a list of calls from the first buffers in which so many answers came, those refused while a request was under way not counted
pub record Heard (first : Buffers) (before : Observed) (n : ℕ) : Type 0 where
  pub buffers : Buffers
  pub seen : Observed
  pub calls : History first before buffers seen
  pub meanwhile : Meanwhile (trace_of calls)
  pub heard : heard_in (trace_of calls) ≡ n

-- answers in turn, and done after each that isn't taken
unfoldable pub insisting : Buffers → List BackendAnswer → List BackendAnswer
insisting buffers [] = []
insisting buffers (next ∷ answers) = cond (taken_by next buffers) (next ∷ insisting (answer_of next buffers).buffers answers) (next ∷ Succeeds ∷ insisting (answer_of Succeeds buffers).buffers answers)

-- ---- every request ends: of these buffers, where this was seen, and all that may be called from there on

-- what is told from outside is what the state block says
pub record Told (buffers : Buffers) (seen : Observed) : Type 0 where
  pub waits : is_waiting seen ≡ under_way buffers
  pub takes : (answer : BackendAnswer) → is_taken seen (answer_of answer buffers).reply ≡ taken_by answer buffers

pub record RequestEnds (buffers : Buffers) (seen : Observed) : Type 0 where
  pub told : Told buffers seen
  -- in any list of calls each taken answer lowers the number, and nothing else changes it while a request is under way
  pub falls : {final : Buffers} {later : Observed} (h : History buffers seen final later) → Falls (trace_of h)
  -- so no more answers are taken than it says, and fewer while the request is still under way
  pub few : {final : Buffers} {later : Observed} (h : History buffers seen final later) → Meanwhile (trace_of h) → left_in final + taken_in (trace_of h) ≤ left_in buffers
  pub still : {final : Buffers} {later : Observed} (h : History buffers seen final later) → Meanwhile (trace_of h) → is_waiting later ≡ true → taken_in (trace_of h) < left_in buffers
  -- and it has ended once as many answers came as it says, of any kind and with any refused calls between them: only an answer that is refused while the
  -- request is under way doesn't count. Lists with any such number of answers exist
  pub ends : {final : Buffers} {later : Observed} (h : History buffers seen final later) → Meanwhile (trace_of h) → left_in buffers ≤ heard_in (trace_of h) → is_waiting later ≡ false
  pub heard : (n : ℕ) → Heard buffers seen n
  -- while it is under way done is taken
  pub done_taken : {after : Buffers} {reply : Reply} → Made (Answer Succeeds) buffers after reply → is_waiting seen ≡ true → is_taken seen reply ≡ true
  -- any answers can be given; and any so many, with done after each that isn't taken, end the request, as do so many of which none is refused
  pub given : (answers : List BackendAnswer) → Answers buffers seen answers
  pub insisted : (answers : List BackendAnswer) → left_in buffers ≤ length answers → Ends buffers seen (insisting buffers answers)
  pub unrefused_end : (answers : List BackendAnswer) → unrefused buffers answers → left_in buffers ≤ length answers → Ends buffers seen answers
  pub done_ends : Ends buffers seen (replicate (left_in buffers) Succeeds)
