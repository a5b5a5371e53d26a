use native.Mathlib.Omega.{arith}
use mathlib.Core.Path.{refl}
use Prim.Native.Nat.{◌-◌}
use Rattle.default_change.specs.Pieces.{is}
use Rattle.default_change.proofs.Spans as spans
use Rattle.default_change.proofs.Bytes as laws
use Rattle.default_change.proofs.scan.Goals as goal

pub loop-p-init : goal.loop-p-init
loop-p-init c = refl

pub returns-then-k-eq0 : goal.returns-then-k-eq0
returns-then-k-eq0 c =
    let a = c.args in let h = c.loop-p in let k = c.step-k in omega (arith, h.invariant, spans.span_miss (is a.state a.map.now) (a.end - h.p) h.p (k.ensures.2 c.if-k-eq0.true))

pub overflow_add-p : goal.overflow_add-p
overflow_add-p c = let a = c.args in let h = c.loop-p in let k = c.step-k in omega (arith, k.ensures.0)

pub loop-p-smaller : goal.loop-p-smaller
loop-p-smaller c = let a = c.args in let h = c.loop-p in let k = c.step-k in omega (arith, k.ensures.0, c.if-k-eq0.false)

pub loop-p-preserved : goal.loop-p-preserved
loop-p-preserved c =
    let a = c.args in let h = c.loop-p in let k = c.step-k in omega (arith, h.invariant, laws.scan_more (is a.state a.map.now) h.p k.result a.end k.ensures.0 k.ensures.1)

pub returns : goal.returns
returns c =
    let a = c.args in let h = c.loop-p in omega (arith, h.invariant, laws.scan_end (is a.state a.map.now) h.p a.end c.loop-p-test.false)
