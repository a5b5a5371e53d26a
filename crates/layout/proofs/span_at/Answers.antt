use native.Mathlib.Omega.{arith}
use mathlib.Core.Path.{◌≡◌, refl, sym, ◌∙◌}
use Rattle.layout.specs.Layout.{entries_of}
use Rattle.layout.proofs.Laws as laws
use Rattle.layout.proofs.span_at.Goals as goal

pub returns-then-n-i : goal.returns-then-n-i
returns-then-n-i c = sym (laws.span_past (entries_of c.args.ram.now) c.args.i (omega arith))

pub loop-next-init : goal.loop-next-init
loop-next-init c = (refl, refl)

pub returns-then-e-end : goal.returns-then-e-end
returns-then-e-end c =
    let es = entries_of c.args.ram.now in
    let h = c.loop-next in
    let first = c.entry_at-first in
    let e = c.entry_at-e in
    laws.span_stop es c.args.i first.result h.end h.next (omega arith) first.ensures
    (laws.reach_hit es h.next e.result (omega arith) e.ensures h.end c.if-e-end.true) (laws.touching_hit es h.next e.result (omega arith) e.ensures h.end c.if-e-end.true) h.invariant.0 h.invariant.1

pub loop-next-preserved : goal.loop-next-preserved
loop-next-preserved c =
    let es = entries_of c.args.ram.now in
    let h = c.loop-next in
    let first = c.entry_at-first in
    let e = c.entry_at-e in
    (sym (laws.reach_miss es h.next e.result (omega arith) e.ensures h.end c.if-e-end.false) ∙ h.invariant.0, omega (arith, laws.touching_miss es h.next e.result (omega arith) e.ensures h.end c.if-e-end.false))

pub returns : goal.returns
returns c =
    let es = entries_of c.args.ram.now in
    let h = c.loop-next in
    let first = c.entry_at-first in
    let end : c.entry_count-n.result ≡ h.next = omega arith in
    rw end (laws.span_stop es c.args.i first.result h.end h.next (omega arith) first.ensures
    (laws.reach_end es h.next (omega arith) h.end) (laws.touching_end es h.next (omega arith) h.end) h.invariant.0 h.invariant.1)
