use Rattle.std.proofs.Common.{◌≡◌, ◌-◌}
use Rattle.layout.specs.Layout.{entries_of}
use Rattle.registrar_steps.specs.Steps.{chunk_state, stop_at}
use Rattle.registrar_steps.proofs.View.walk.Given as goal

abbrev pub invariant-loop-c : goal.invariant-loop-c
invariant-loop-c l =
    stop_at (chunk_state l.self.granularity (entries_of l.self.ram.now) l.self.registered.now l.self.failed.now) l.c l.to ≡ stop_at (chunk_state l.self.granularity (entries_of l.self.ram.now) l.self.registered.now l.self.failed.now) l.from l.to

abbrev pub decreases-loop-c : goal.decreases-loop-c
decreases-loop-c l = l.to - l.c
