use Rattle.std.proofs.Common.{◌≡◌, ◌-◌}
use Rattle.recording.specs.Lists.{with_entries}
use Rattle.recording.proofs.lists.ram.Given as goal

abbrev pub invariant-loop-i : goal.invariant-loop-i
invariant-loop-i l = with_entries (l.runs - l.i) l.input l.next l.i l.run ≡ with_entries l.runs l.input l.at 0 l.initial.run
