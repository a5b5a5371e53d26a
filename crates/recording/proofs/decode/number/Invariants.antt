use Rattle.std.proofs.Common.{◌≡◌, ◌≤◌, length, drop, max}
use Rattle.recording.specs.Decode.{digits_from, number_at}
use Rattle.recording.proofs.decode.number.Given as goal

abbrev pub invariant-loop-i : goal.invariant-loop-i
invariant-loop-i l = (l.i ≤ max l.at (length l.input)) × (digits_from (drop l.i l.input) l.value l.i ≡ number_at l.input l.at)
