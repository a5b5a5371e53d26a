-- What an answer leads to where it doesn't halt, without what the request and its table tell already. `next_step` is the step of `Steps` that it
-- stands for; no entry's contract cites it.
use Rattle.std.specs.Prelude.{ℕ, Bool, true, false, cond, List}
use Rattle.abi.specs.Refusals as refusal
use Rattle.permissions.specs.declared.HvMapGpaFlags.{HvMapGpaFlags}
use Rattle.permissions.specs.Flags.{no_flags}
use Rattle.page_list.specs.declared.PageRun.{PageRun}
use Rattle.page_list.specs.Runs.{run, run_at}
use Rattle.request_pages.specs.Request.{run_end}
use Rattle.visibility_steps.specs.declared.Phase.{Phase}
use Rattle.visibility_steps.specs.declared.Phase.TheVariants as at
use Rattle.visibility_steps.specs.declared.Answer.{Answer}
use Rattle.visibility_steps.specs.declared.Answer.TheVariants as answer
use Rattle.visibility_steps.specs.declared.Settings.{Settings}
use Rattle.visibility_steps.specs.declared.Request.{Request}
use Rattle.visibility_steps.specs.declared.Places.{Places}
use Rattle.visibility_steps.specs.declared.Writes.{Writes}
use Rattle.visibility_steps.specs.declared.Step.{Step}
use Rattle.visibility_steps.specs.declared.Marks.{Marks}
use Rattle.visibility_steps.specs.declared.Turn.{Turn}
use Rattle.visibility_steps.specs.declared.Turn.TheVariants as turn
use Rattle.visibility_steps.specs.declared.Next.{Next}
use Rattle.visibility_steps.specs.Steps.{places, writes, step, operation_on, counted, no_request, finished}

abbrev pub marks : ℕ → ℕ → ℕ → Marks
marks private from to = record { private = private; from = from; to = to }

-- what they set alone
abbrev pub marked_by : Marks → Writes
marked_by marks = writes true (places 0 marks.private) (places marks.from marks.to) (places 0 0) no_flags

abbrev pub next : Turn → Phase → ℕ → Marks → Next
next turn phase a marks = record { turn = turn; phase = phase; at = a; marks = marks }

abbrev pub asks : Phase → ℕ → Marks → Next
asks phase a marks = next turn.Ask phase a marks

abbrev pub ends : Marks → Next
ends marks = next turn.End at.Idle 0 marks

abbrev pub keeps : Phase → Next
keeps phase = next turn.Keep phase 0 (marks 0 0 0)

-- whether the operation of a phase is on a run of pages, and whether it gives VTL0 its default
abbrev pub has_run : Phase → Bool
has_run at.Idle = false
has_run at.Halted = false
has_run at.Wait = false
has_run at.FlushAll = false
has_run at.ProtectNone0 = true
has_run at.ProtectNone1 = true
has_run at.Invalidate = true
has_run at.Release = true
has_run at.Modify = false
has_run at.Accept = true
has_run at.Zero = true
has_run at.ProtectDefault0 = true
has_run at.ProtectDefault1 = true

abbrev pub is_default0 : Phase → Bool
is_default0 at.Idle = false
is_default0 at.Halted = false
is_default0 at.Wait = false
is_default0 at.FlushAll = false
is_default0 at.ProtectNone0 = false
is_default0 at.ProtectNone1 = false
is_default0 at.Invalidate = false
is_default0 at.Release = false
is_default0 at.Modify = false
is_default0 at.Accept = false
is_default0 at.Zero = false
is_default0 at.ProtectDefault0 = true
is_default0 at.ProtectDefault1 = false

-- the run that a phase asks for at place a, of the first count pages
abbrev pub run_in : Phase → List ℕ → ℕ → ℕ → PageRun
run_in phase pages count a = cond (has_run phase) (run_at pages count a) (run 0 0)

abbrev pub answer_by : Turn → Settings → Phase → Request → PageRun → Answer
answer_by turn.Ask settings phase request run = answer.Ask (operation_on settings phase request run)
answer_by turn.End settings phase request run = finished request
answer_by turn.Keep settings phase request run = answer.Refused refusal.nothing_asked

abbrev pub request_by : Turn → Request → ℕ → Request
request_by turn.Ask request a = counted request a
request_by turn.End request a = no_request
request_by turn.Keep request a = request

-- VTL0's default is written in the maps before it is asked for
abbrev pub permitted_at : Settings → Phase → List ℕ → ℕ → ℕ → Places
permitted_at settings phase pages count a = cond (is_default0 phase) (places a (cond settings.tracked (run_end pages count a) a)) (places 0 0)

abbrev pub flags_at : Settings → Phase → HvMapGpaFlags
flags_at settings phase = cond (is_default0 phase) settings.defaults.vtl0 no_flags

abbrev pub writes_at : Settings → Phase → List ℕ → ℕ → ℕ → Marks → Writes
writes_at settings phase pages count a marks = writes true (places 0 marks.private) (places marks.from marks.to) (permitted_at settings phase pages count a) (flags_at settings phase)

unfoldable pub next_step : Settings → Request → List ℕ → Next → Step
next_step settings request pages next =
    step next.phase (request_by next.turn request next.at) (answer_by next.turn settings next.phase request (run_in next.phase pages request.n next.at))
    (writes_at settings next.phase pages request.n next.at next.marks)
