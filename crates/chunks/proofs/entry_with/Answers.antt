use native.Mathlib.Omega.{arith}
use mathlib.Core.Path.{sym, ◌∙◌}
use Rattle.layout.specs.Layout.{entries_of}
use Rattle.chunks.proofs.Laws as laws
use Rattle.chunks.proofs.entry_with.Goals as goal

pub returns-then-overlaps : goal.returns-then-overlaps
returns-then-overlaps c =
    let es = entries_of c.args.ram.now in
    let h = c.loop-i in
    let e = c.entry_at-e in
    sym (laws.with_hit es h.i c.args.range e.result (omega arith) e.ensures (sym c.overlaps.ensures ∙ c.if-overlaps.true)) ∙ h.invariant

pub loop-i-preserved : goal.loop-i-preserved
loop-i-preserved c =
    let es = entries_of c.args.ram.now in
    let h = c.loop-i in
    let e = c.entry_at-e in
    sym (laws.with_miss es h.i c.args.range e.result (omega arith) e.ensures (sym c.overlaps.ensures ∙ c.if-overlaps.false)) ∙ h.invariant

pub returns : goal.returns
returns c =
    let es = entries_of c.args.ram.now in
    let h = c.loop-i in
    sym (laws.with_end es h.i c.args.range (omega arith)) ∙ h.invariant
