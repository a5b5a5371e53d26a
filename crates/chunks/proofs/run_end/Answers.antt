use native.Mathlib.Omega.{arith}
use mathlib.Core.Path.{sym, ◌∙◌}
use Rattle.chunks.specs.Chunks.{alike}
use Rattle.chunks.proofs.Laws as laws
use Rattle.chunks.proofs.Scan as scan
use Rattle.chunks.proofs.run_end.Goals as goal

pub returns-then-n-eq0 : goal.returns-then-n-eq0
returns-then-n-eq0 c =
    let a = c.args in
    let h = c.loop-c in
    sym (scan.first_stop (alike a.registered.now a.failed.now a.set) h.c a.to (omega (arith, c.stop_at-stop.ensures)) (c.alike_here-n.ensures.stops c.if-n-eq0.true)) ∙ h.invariant

pub loop-c-preserved : goal.loop-c-preserved
loop-c-preserved c =
    let a = c.args in
    let h = c.loop-c in
    let here = c.alike_here-n in
    sym (scan.first_skip (alike a.registered.now a.failed.now a.set) here.result h.c a.to (omega (arith, here.ensures.within, c.stop_at-stop.ensures)) here.ensures.holds) ∙ h.invariant

pub returns : goal.returns
returns c =
    let a = c.args in
    let h = c.loop-c in
    c.alike_past.ensures ∙ sym (laws.run_past a.registered.now a.failed.now a.set h.c a.to _ _ c.max-len.ensures c.stop_at-stop.ensures (omega arith)) ∙ h.invariant
