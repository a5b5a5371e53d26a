use Rattle.std.proofs.Common.{◌≡◌, ◌-◌}
use Rattle.replay.specs.Lines.{registry_tally}
use Rattle.replay.proofs.registrar_part.run.Given as goal

abbrev pub invariant-loop : goal.invariant-loop
invariant-loop l = registry_tally (l.lines - l.counter) l.input l.w l.next l.tally ≡ registry_tally l.lines l.input l.initial.w l.initial.next l.initial.tally
