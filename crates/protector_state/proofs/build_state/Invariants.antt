use mathlib.Core.Path.{◌≡◌}
use Rattle.protector_state.proofs.Laws.{filled_to}
use Rattle.protector_state.proofs.build_state.Given as goal

abbrev pub invariant-loop-i : goal.invariant-loop-i
invariant-loop-i l = l.state ≡ filled_to l.ram l.isolation l.tracked l.release l.i
