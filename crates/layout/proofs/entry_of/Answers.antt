use native.Mathlib.Omega.{arith}
use mathlib.Core.Path.{sym, ◌∙◌}
use Rattle.layout.specs.Layout.{entries_of}
use Rattle.layout.proofs.Laws as laws
use Rattle.layout.proofs.entry_of.Goals as goal

pub returns-then-gpn-ge4503599627370496 : goal.returns-then-gpn-ge4503599627370496
returns-then-gpn-ge4503599627370496 c =
    let a = c.args in
    c.entry_count-n.ensures
    ∙ laws.place_past a.ram.now a.gpn (λ j. (c.type_inv.ram j).fits) c.if-gpn-ge4503599627370496.true

pub loop-i-init : goal.loop-i-init
loop-i-init c = omega arith

pub returns-then-holds : goal.returns-then-holds
returns-then-holds c =
    let a = c.args in
    let es = entries_of a.ram.now in
    let h = c.loop-i in
    let e = c.entry_at in
    omega (arith, laws.place_hit es h.i e.result (omega arith) e.ensures a.gpn (sym c.holds.ensures ∙ c.if-holds.true))

pub loop-i-preserved : goal.loop-i-preserved
loop-i-preserved c =
    let a = c.args in
    let es = entries_of a.ram.now in
    let h = c.loop-i in
    let e = c.entry_at in
    omega (arith, laws.place_miss es h.i e.result (omega arith) e.ensures a.gpn (sym c.holds.ensures ∙ c.if-holds.false))

pub returns : goal.returns
returns c =
    let a = c.args in
    let es = entries_of a.ram.now in
    let h = c.loop-i in
    omega (arith, laws.place_end es h.i (omega arith) a.gpn)
