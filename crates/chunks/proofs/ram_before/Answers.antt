use native.Mathlib.Omega.{arith}
use mathlib.Core.Path.{sym, ap, ◌∙◌}
use Rattle.layout.specs.Layout.{entries_of}
use Rattle.chunks.specs.Chunks.{first_of}
use Rattle.chunks.proofs.Laws as laws
use Rattle.chunks.proofs.ram_before.Goals as goal

pub returns-then-start-end : goal.returns-then-start-end
returns-then-start-end c =
    λ y e.
    let a = c.args in
    let h = c.loop-i in
    let s = c.span_at-span in
    sym (laws.pieces_hit (entries_of a.ram.now) a.from y h.i s.result (omega arith) s.ensures c.max-start.result c.min-end.result c.max-start.ensures (laws.end_within y a.stop s.result.end c.min-end.result e s.type_inv.1.1.1.0.1 c.min-end.ensures) c.if-start-end.true) ∙ h.invariant y e

pub loop-i-smaller : goal.loop-i-smaller
loop-i-smaller c =
    let a = c.args in
    let h = c.loop-i in
    let s = c.span_at-span in
    let n = c.entry_count-n in
    laws.span_less (entries_of a.ram.now) h.i n.result s.result (omega arith) n.ensures s.ensures

pub loop-i-preserved : goal.loop-i-preserved
loop-i-preserved c =
    λ y e.
    let a = c.args in
    let h = c.loop-i in
    let s = c.span_at-span in
    ap first_of (sym (laws.pieces_miss (entries_of a.ram.now) a.from y h.i s.result (omega arith) s.ensures c.max-start.result c.min-end.result c.max-start.ensures (laws.end_within y a.stop s.result.end c.min-end.result e s.type_inv.1.1.1.0.1 c.min-end.ensures) c.if-start-end.false)) ∙ h.invariant y e

pub returns : goal.returns
returns c =
    λ y e.
    let a = c.args in
    let h = c.loop-i in
    sym (laws.pieces_end (entries_of a.ram.now) a.from y h.i (omega arith)) ∙ h.invariant y e
