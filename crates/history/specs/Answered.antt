-- What each call of a list gave is what its definition gives of what it was lent: what it answers, and all that it leaves; and a call that was lent something of
-- another length, or is a build that is refused, leaves all that as it was.
use Rattle.std.specs.Prelude.{◌≡◌}
use Rattle.protector_state.specs.declared.Reply.{Reply}
use Rattle.call_refusals.specs.Buffers.{Buffers, Outcome}
use Rattle.protector.specs.Calls.{build_of}
use Rattle.history.specs.Observed.{Observed}
use Rattle.history.specs.Call.{effect, gives}
use Rattle.history.specs.History.{History, none, call, call_with_other_lengths, refused_build}

abbrev pub given : Buffers → Reply → Outcome
given buffers reply = record { buffers = buffers; reply = reply }

unfoldable pub Answered : {first : Buffers} {before : Observed} {final : Buffers} {seen : Observed} → History first before final seen → Type 0
Answered none = Unit {0}
Answered (call {left} {after} h c r m) = Answered h × (effect after r ≡ gives c left)
Answered (call_with_other_lengths {left} {lent} {after} h c r m s) = Answered h × (effect after r ≡ gives c lent) × (after ≡ lent)
Answered (refused_build {left} {lent} {after} h ram isolation tracked release r m f) = Answered h × (given after r ≡ build_of lent ram isolation tracked release) × (after ≡ lent)

-- the definitions' steps one after another: what a list of calls from the first buffers leaves
unfoldable pub leaves : {first : Buffers} {before : Observed} {final : Buffers} {seen : Observed} → History first before final seen → Buffers
leaves {first} none = first
leaves (call h c r m) = (gives c (leaves h)).buffers
leaves (call_with_other_lengths h c r m s) = leaves h
leaves (refused_build h ram isolation tracked release r m f) = leaves h
