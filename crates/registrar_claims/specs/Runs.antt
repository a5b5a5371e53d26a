-- Calls and their answers as a history: document 01, "The request under way".
use Rattle.std.specs.Prelude.{Bool, true, false, not, cond, ◌||◌, ◌&&◌, List, [], ◌∷◌, ℕ, suc, ◌+◌, ◌-◌, ◌*◌, ◌^◌, eqb}
use Rattle.abi.specs.Refusals as refusal
use Rattle.abi.specs.Kinds as kind
use Rattle.laws.specs.Bools.{digit}
use Rattle.layout.specs.declared.MemoryRange.{MemoryRange}
use Rattle.layout.specs.Layout.{range}
use Rattle.registrar_steps.specs.declared.Request.{Request}
use Rattle.registrar_state.specs.Buffers.{Buffers, Outcome, request_of, build_of, register_of, all_of, failed_of, done_of}

-- what may be done to a registrar
pub data Call : Type 0 where
  Build : List ℕ → ℕ → ℕ → Call
  RegisterRange : ℕ → ℕ → Call
  RegisterAll : ℕ → ℕ → Call
  AnswerDone : Call
  AnswerFailed : Call

unfoldable pub give : Buffers → Call → Outcome
give lent (Build ram offset granularity) = build_of lent ram offset granularity
give lent (RegisterRange address len) = register_of lent address len
give lent (RegisterAll alignment ignore) = all_of lent alignment ignore
give lent AnswerDone = done_of lent
give lent AnswerFailed = failed_of lent

abbrev pub is_build : Call → Bool
is_build (Build ram offset granularity) = true
is_build (RegisterRange address len) = false
is_build (RegisterAll alignment ignore) = false
is_build AnswerDone = false
is_build AnswerFailed = false

-- Ok or an operation asked for, 22, 23: every other number is a refusal that changes nothing
abbrev pub not_refused : ℕ → Bool
not_refused number = eqb number 0 || (eqb number refusal.unaligned_memory || eqb number refusal.registration_failed)

abbrev pub is_taken : Outcome → Bool
is_taken outcome = not_refused outcome.reply.number

-- something is asked for
abbrev pub under_way : Buffers → Bool
under_way lent = not (eqb (request_of lent.state).kind kind.none)

-- the number that every taken answer lowers: 0 where nothing is asked
abbrev pub left_of : Request → ℕ
left_of request = cond (eqb request.kind kind.none) 0 (suc ((2 ^ 64 - request.to) * 2 ^ 65 + (2 ^ 64 - request.end)))

abbrev pub left : Buffers → ℕ
left lent = left_of (request_of lent.state)

-- ---- a list of calls: the buffers after them, and how many of them are taken

unfoldable pub after : Buffers → List Call → Buffers
after lent [] = lent
after lent (call ∷ calls) = after (give lent call).buffers calls

unfoldable pub taken_in : Buffers → List Call → ℕ
taken_in lent [] = 0
taken_in lent (call ∷ calls) = digit (is_taken (give lent call)) + taken_in (give lent call).buffers calls

abbrev pub is_answer : Call → Bool
is_answer (Build ram offset granularity) = false
is_answer (RegisterRange address len) = false
is_answer (RegisterAll alignment ignore) = false
is_answer AnswerDone = true
is_answer AnswerFailed = true

-- whether no other call than an answer is taken
unfoldable pub only_answers : Buffers → List Call → Bool
only_answers lent [] = true
only_answers lent (call ∷ calls) = (is_answer call || not (is_taken (give lent call))) && only_answers (give lent call).buffers calls

-- how many of the calls are answers
unfoldable pub answers_in : List Call → ℕ
answers_in [] = 0
answers_in (call ∷ calls) = digit (is_answer call) + answers_in calls

-- ---- what is told of a list of calls from outside

-- whether an answer is awaited, by the replies: a call that is taken tells it, a refused one leaves it as it was
unfoldable pub awaits_after : Buffers → Bool → List Call → Bool
awaits_after lent awaits [] = awaits
awaits_after lent awaits (call ∷ calls) = awaits_after (give lent call).buffers (cond (is_taken (give lent call)) (eqb (give lent call).reply.asked 1) awaits) calls

-- what a registrar was built with: by the last build that was taken
pub record Settings : Type 0 where
  pub ram : List ℕ
  pub offset : ℕ
  pub granularity : ℕ

abbrev pub built_with : List ℕ → ℕ → ℕ → Settings
built_with ram offset granularity = record { ram = ram; offset = offset; granularity = granularity }

abbrev pub settings_by : Settings → Call → Settings
settings_by settings (Build ram offset granularity) = built_with ram offset granularity
settings_by settings (RegisterRange address len) = settings
settings_by settings (RegisterAll alignment ignore) = settings
settings_by settings AnswerDone = settings
settings_by settings AnswerFailed = settings

unfoldable pub settings_after : Buffers → Settings → List Call → Settings
settings_after lent settings [] = settings
settings_after lent settings (call ∷ calls) = settings_after (give lent call).buffers (cond (is_taken (give lent call)) (settings_by settings call) settings) calls

-- whether no call of a list is a build
unfoldable pub quiet : List Call → Bool
quiet [] = true
quiet (call ∷ calls) = not (is_build call) && quiet calls

-- ---- a whole call under a list of answers, done or not: the ranges that it asks for, and what it gives last

pub record Told : Type 0 where
  pub asked : List MemoryRange
  pub last : Outcome

abbrev pub answer_of : Bool → Buffers → Outcome
answer_of done lent = cond done (done_of lent) (failed_of lent)

abbrev pub before : MemoryRange → Told → Told
before piece told = record { asked = piece ∷ told.asked; last = told.last }

abbrev pub asks_for : Outcome → MemoryRange
asks_for outcome = range outcome.reply.start outcome.reply.end

unfoldable pub follow : Outcome → List Bool → Told
follow outcome [] = record { asked = cond (eqb outcome.reply.asked 1) (asks_for outcome ∷ []) []; last = outcome }
follow outcome (done ∷ answers) = cond (eqb outcome.reply.asked 1) (before (asks_for outcome) (follow (answer_of done outcome.buffers) answers)) (record { asked = []; last = outcome })
