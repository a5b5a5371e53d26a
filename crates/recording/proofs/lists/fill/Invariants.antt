use Rattle.std.proofs.Common.{◌≡◌, ◌-◌}
use Rattle.recording.specs.Lists.{filling, with_runs, after_runs}
use Rattle.recording.proofs.lists.fill.Given as goal

abbrev pub invariant-loop : goal.invariant-loop
invariant-loop l =
    (with_runs (l.runs - l.counter) l.input l.next (filling l.list l.len) ≡ with_runs l.runs l.input l.at (filling l.initial.list 0)) × (after_runs (l.runs - l.counter) l.input l.next ≡ after_runs l.runs l.input l.at)
