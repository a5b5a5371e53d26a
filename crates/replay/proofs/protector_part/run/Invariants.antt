use Rattle.std.proofs.Common.{◌≡◌, ◌-◌}
use Rattle.replay.specs.Lines.{tally_after, after_lines}
use Rattle.replay.proofs.protector_part.run.Given as goal

abbrev pub invariant-loop : goal.invariant-loop
invariant-loop l =
    (tally_after (l.lines - l.counter) l.input l.buffers l.next l.tally ≡ tally_after l.lines l.input l.initial.buffers l.initial.next l.initial.tally) × (after_lines (l.lines - l.counter) l.input l.next ≡ after_lines l.lines l.input l.initial.next)
