use mathlib.Core.Path.{◌∙◌}
use native.Mathlib.Omega.{arith}
use Rattle.playback.proofs.Laws.{finished_stop, finished_next, finished_end}
use Rattle.playback.proofs.answers.finish.Goals as goal

pub returns-then-buffers-eq0 : goal.returns-then-buffers-eq0
returns-then-buffers-eq0 c = let h = c.loop-at in finished_stop 8192 h.at h.buffers c.args.c (omega arith) c.if-buffers-eq0.true ∙ h.invariant

pub loop-at-preserved : goal.loop-at-preserved
loop-at-preserved c =
    let h = c.loop-at in finished_next 8192 h.at h.buffers c.args.c c.answer.new.buffers (omega arith) c.if-buffers-eq0.false c.answer.ensures ∙ h.invariant

pub returns : goal.returns
returns c = let h = c.loop-at in finished_end 8192 h.at h.buffers c.args.c (omega arith) ∙ h.invariant
