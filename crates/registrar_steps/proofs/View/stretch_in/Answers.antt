use Rattle.std.proofs.Common.{arith}
use Rattle.registrar_steps.proofs.Laws as laws
use Rattle.registrar_steps.proofs.View.stretch_in.Goals as goal

pub overflow_mul-result-3 : goal.overflow_mul-result-3
overflow_mul-result-3 c =
    let a = c.args in
    let run-end2 = c.run_end-b in
    omega (arith, laws.run_below _ a.self.now.granularity c.run_end-a.result a.to run-end2.result run-end2.ensures (omega arith) c.requires)
