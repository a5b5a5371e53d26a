use mathlib.Core.Path.{◌≡◌}
use Prim.Native.Nat.{◌-◌}
use Rattle.chunks.specs.Chunks.{first_not, alike}
use Rattle.chunks.proofs.run_end.Given as goal

abbrev pub invariant-loop-c : goal.invariant-loop-c
invariant-loop-c l = first_not (alike l.registered l.failed l.set) l.c l.to ≡ first_not (alike l.registered l.failed l.set) l.from l.to

abbrev pub decreases-loop-c : goal.decreases-loop-c
decreases-loop-c l = l.stop - l.c
