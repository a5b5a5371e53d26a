use Rattle.std.proofs.Common.{◌≡◌, ◌-◌, drop}
use Rattle.layout.specs.Layout.{entries_of, spans}
use Rattle.registrar_steps.specs.Steps.{chunk_state, all_from}
use Rattle.registrar_steps.proofs.all_from.Given as goal

abbrev pub invariant-loop-i : goal.invariant-loop-i
invariant-loop-i l =
    let s = chunk_state l.granularity (entries_of l.ram) l.registered l.failed in
    all_from s l.offset l.count l.alignment l.ignore l.chunk (spans (drop l.i (entries_of l.ram))) ≡ all_from s l.offset l.count l.alignment l.ignore l.chunk (spans (entries_of l.ram))

abbrev pub decreases-loop-i : goal.decreases-loop-i
decreases-loop-i l = l.n - l.i
