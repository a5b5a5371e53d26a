use Rattle.std.proofs.Common.{◌≡◌}
use Rattle.registrar.proofs.Laws.{filled_to}
use Rattle.registrar.proofs.build_state.Given as goal

abbrev pub invariant-loop-i : goal.invariant-loop-i
invariant-loop-i l = l.state ≡ filled_to l.ram l.offset l.granularity l.i
