use Rattle.std.proofs.Common.{◌≡◌, ◌-◌}
use Rattle.recording.specs.Lists.{after_runs}
use Rattle.recording.proofs.lists.after_runs.Given as goal

abbrev pub invariant-loop : goal.invariant-loop
invariant-loop l = after_runs (l.runs - l.counter) l.input l.next ≡ after_runs l.runs l.input l.at
