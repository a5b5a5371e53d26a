use Rattle.std.proofs.Common.{ap, ◌∙◌, ap₂, arith}
use Rattle.recording.specs.declared.decode.Read.{Read}
use Rattle.playback.specs.declared.buffers.Buffers.{Buffers}
use Rattle.replay.specs.Lines.{tally_after, after_lines}
use Rattle.replay.proofs.Laws.{lines_next, lines_none, after_next, after_none}
use Rattle.replay.proofs.protector_part.run.Goals as goal

pub loop-preserved : goal.loop-preserved
loop-preserved c =
    let h = c.loop in
    let v = c.line-next in
    let n = c.number-count.result.value in
    let s = c.args.input.now in (
      lines_next s h.buffers h.next h.tally n h.counter v.new.buffers v.result v.new.tally (omega arith) v.ensures.0 v.ensures.1 v.ensures.2 ∙ h.invariant.0,
      after_next n h.counter s h.next v.result (omega arith) v.ensures.1 ∙ h.invariant.1,
    )

pub returns : goal.returns
returns c =
    let h = c.loop in
    let n = c.number-count.result.value in
    let a = c.args in (
      lines_none a.input.now h.buffers h.next h.tally n h.counter (omega arith) ∙ h.invariant.0
          ∙ ap₂ (λ (k : Read) (w : Buffers). tally_after k.value a.input.now w k.next a.tally.now) c.number-count.ensures c.nothing-buffers.ensures,
      after_none n h.counter a.input.now h.next (omega arith) ∙ h.invariant.1 ∙ ap (λ (k : Read). after_lines k.value a.input.now k.next) c.number-count.ensures,
    )
