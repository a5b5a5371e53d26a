use native.Mathlib.Omega.{arith}
use mathlib.Core.Path.{refl, sym, ◌∙◌}
use Rattle.layout.specs.Layout.{entries_of}
use Rattle.layout.proofs.Laws as laws
use Rattle.layout.proofs.is_aligned.Goals as goal

pub loop-i-init : goal.loop-i-init
loop-i-init c = refl

pub returns-then-not-is_on_bytes : goal.returns-then-not-is_on_bytes
returns-then-not-is_on_bytes c =
    let es = entries_of c.args.ram.now in
    let h = c.loop-i in
    let e = c.entry_at in
    sym (laws.aligned_hit es h.i e.result (omega arith) e.ensures (sym c.is_on_bytes.ensures ∙ c.if-not-is_on_bytes.true)) ∙ h.invariant

pub loop-i-preserved : goal.loop-i-preserved
loop-i-preserved c =
    let es = entries_of c.args.ram.now in
    let h = c.loop-i in
    let e = c.entry_at in
    sym (laws.aligned_miss es h.i e.result (omega arith) e.ensures (sym c.is_on_bytes.ensures ∙ c.if-not-is_on_bytes.false)) ∙ h.invariant

pub returns : goal.returns
returns c =
    let es = entries_of c.args.ram.now in
    let h = c.loop-i in
    sym (laws.aligned_end es h.i (omega arith)) ∙ h.invariant
