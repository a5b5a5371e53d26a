-- The steps of a visibility change, each answer given in turn: document 01, "The request under way".
use Rattle.std.specs.Prelude.{true, false, cond, List, [], ◌∷◌, ◌++◌, ℕ, ◌+◌, ◌%◌, ◌^◌, length, take}
use Rattle.mapping.specs.Maps.{Maps}
use Rattle.visibility_steps.specs.declared.Operation as declared
use Rattle.visibility_steps.specs.declared.Operation.TheVariants as crossed
use Rattle.visibility_steps.specs.declared.Answer.{Answer}
use Rattle.visibility_steps.specs.declared.Answer.TheVariants.{Done, AccessDenied, Failed, Halted, Ask, Refused}
use Rattle.visibility_steps.specs.declared.Settings.{Settings}
use Rattle.visibility_steps.specs.declared.Step.{Step}
use Rattle.visibility_steps.specs.Steps.{done_of, failed_of}
use Rattle.call_refusals.specs.Buffers.{takes}
use Rattle.protector.specs.Writes.{applied}
use Rattle.visibility_claims.specs.Whole.{Operation, Wait, FlushAll, Protect, Invalidate, Release, Modify, Accept, Zero, Flush, TlbWait, BackendAnswer, Succeeds, Fails, Status, Denied, Waits, Ok, StoppedAt, FailedAt, Halts, Whole}

-- what the steps gave last: an operation that waits for its answer, or the call's answer
pub data Last : Type 0 where
  Outstanding : Last
  Gives : Answer → Last

-- the operations asked for, in order, the maps left, and what was given last
pub record Ran : Type 0 where
  pub asked : List Operation
  pub maps : Maps
  pub last : Last

-- an operation of a step, whose Modify is for the first words of the table
abbrev pub named : List ℕ → declared.Operation → Operation
named pages crossed.Wait = Wait
named pages crossed.FlushAll = FlushAll
named pages (crossed.Protect vtl flags run) = Protect vtl flags run
named pages (crossed.Invalidate run) = Invalidate run
named pages (crossed.Release run) = Release run
named pages (crossed.Modify share count) = Modify share (take count pages)
named pages (crossed.Accept run) = Accept run
named pages (crossed.Zero run) = Zero run
named pages (crossed.Flush vtl) = Flush vtl
named pages (crossed.TlbWait vtl) = TlbWait vtl

abbrev pub asked_by : List ℕ → Answer → List Operation
asked_by pages (Done count) = []
asked_by pages (AccessDenied index count) = []
asked_by pages (Failed code index count) = []
asked_by pages (Halted count) = []
asked_by pages (Ask operation) = named pages operation ∷ []
asked_by pages (Refused number) = []

abbrev pub last_of : Answer → Last
last_of (Done count) = Gives (Done count)
last_of (AccessDenied index count) = Gives (AccessDenied index count)
last_of (Failed code index count) = Gives (Failed code index count)
last_of (Halted count) = Gives (Halted count)
last_of (Ask operation) = Outstanding
last_of (Refused number) = Gives (Refused number)

abbrev pub before : List Operation → Ran → Ran
before operations ran = record { asked = operations ++ ran.asked; maps = ran.maps; last = ran.last }

-- from a step on, with the maps before it: an answer that isn't taken changes nothing
unfoldable pub run : Settings → List ℕ → Step → Maps → List BackendAnswer → Ran
run settings pages step maps [] = record { asked = asked_by pages step.answer; maps = applied pages step.writes maps; last = last_of step.answer }
run settings pages step maps (Succeeds ∷ answers) =
    cond (takes step.phase false) (before (asked_by pages step.answer) (run settings pages (done_of settings step.phase step.request pages) (applied pages step.writes maps) answers)) (run settings pages step maps answers)
run settings pages step maps (Fails code processed ∷ answers) =
    cond (takes step.phase true) (before (asked_by pages step.answer) (run settings pages (failed_of settings step.phase step.request pages code processed) (applied pages step.writes maps) answers)) (run settings pages step maps answers)

-- ---- what the whole call gives, after count operations asked for before it

abbrev pub told : ℕ → Status → Last
told count (Denied number) = Gives (Refused number)
told count Waits = Outstanding
told count Ok = Gives (Done count)
told count (StoppedAt index) = Gives (AccessDenied index count)
told count (FailedAt code index) = Gives (Failed code index count)
told count Halts = Gives (Halted count)

abbrev pub after : ℕ → Whole → Ran
after count call = record { asked = call.asked; maps = call.maps; last = told ((count + length call.asked) % 2 ^ 64) call.status }

-- and the whole call: what it tells is counted by its operations
abbrev pub whole : Whole → Ran
whole call = record { asked = call.asked; maps = call.maps; last = told (length call.asked) call.status }
