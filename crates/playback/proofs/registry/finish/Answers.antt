use mathlib.Core.Path.{◌∙◌}
use native.Mathlib.Omega.{arith}
use Rattle.playback.proofs.Laws.{registry_stop, registry_next, registry_end}
use Rattle.playback.proofs.registry.finish.Goals as goal

pub returns-then-w-eq0 : goal.returns-then-w-eq0
returns-then-w-eq0 c = let h = c.loop-at in registry_stop 8192 h.at h.w c.args.c (omega arith) c.if-w-eq0.true ∙ h.invariant

pub loop-at-preserved : goal.loop-at-preserved
loop-at-preserved c =
    let h = c.loop-at in registry_next 8192 h.at h.w c.args.c c.answer.new.w (omega arith) c.if-w-eq0.false c.answer.ensures ∙ h.invariant

pub returns : goal.returns
returns c = let h = c.loop-at in registry_end 8192 h.at h.w c.args.c (omega arith) ∙ h.invariant
