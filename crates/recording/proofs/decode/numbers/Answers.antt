use Rattle.std.proofs.Common.{ℕ, List, ◌∙◌, arith}
use Rattle.recording.proofs.Laws.{numbers_step, after_step, numbers_end, after_end}
use Rattle.recording.proofs.decode.numbers.Goals as goal

pub loop-n-preserved : goal.loop-n-preserved
loop-n-preserved c =
    let h = c.loop-n in
    let s : List ℕ = c.args.input.now in
    (numbers_step s h.run h.next h.n-index (omega arith) c.number-read.result c.number-read.ensures ∙ h.invariant.0, after_step s h.run h.next h.n-index (omega arith) c.number-read.result c.number-read.ensures ∙ h.invariant.1)

pub returns : goal.returns
returns c =
    let h = c.loop-n in
    let s : List ℕ = c.args.input.now in
    (numbers_end s h.run h.next h.n-index (omega arith) ∙ h.invariant.0, after_end s h.run h.next h.n-index (omega arith) ∙ h.invariant.1)
