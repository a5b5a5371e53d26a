use Rattle.std.proofs.Common.{ℕ, ap, ◌∙◌, arith}
use Rattle.playback.specs.declared.buffers.Buffers.{Buffers}
use Rattle.replay.specs.Lines.{put_of, put_times}
use Rattle.replay.proofs.Laws.{times_next, times_none}
use Rattle.replay.proofs.protector_part.put_often.Goals as goal

pub loop-preserved : goal.loop-preserved
loop-preserved c =
    let a = c.args in
    let h = c.loop in
    times_next h.buffers a.c a.list.now a.ram.now c.times_before-times.result h.counter c.put.new.buffers (omega arith) c.put.ensures ∙ h.invariant

pub returns : goal.returns
returns c =
    let a = c.args in
    let h = c.loop in
    c.put-2.ensures
    ∙ ap (λ (w : Buffers). put_of w a.c a.list.now a.ram.now)
    (times_none h.buffers a.c a.list.now a.ram.now c.times_before-times.result h.counter (omega arith) ∙ h.invariant ∙ ap (λ (k : ℕ). put_times k a.buffers.now a.c a.list.now a.ram.now) c.times_before-times.ensures)
