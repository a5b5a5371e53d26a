use native.Mathlib.Omega.{arith}
use mathlib.Core.Path.{refl, sym, ◌∙◌}
use Rattle.layout.specs.Layout.{entries_of}
use Rattle.layout.proofs.Laws as laws
use Rattle.layout.proofs.is_ordered.Goals as goal

pub loop-i-init : goal.loop-i-init
loop-i-init c = refl

pub returns-then-not-follows_on : goal.returns-then-not-follows_on
returns-then-not-follows_on c =
    let es = entries_of c.args.ram.now in
    let h = c.loop-i in
    let e = c.entry_at-e in
    sym (laws.ordered_hit es h.i e.result (omega arith) e.ensures h.from (sym c.follows_on.ensures ∙ c.if-not-follows_on.true)) ∙ h.invariant

pub loop-i-preserved : goal.loop-i-preserved
loop-i-preserved c =
    let es = entries_of c.args.ram.now in
    let h = c.loop-i in
    let e = c.entry_at-e in
    sym (laws.ordered_miss es h.i e.result (omega arith) e.ensures h.from (sym c.follows_on.ensures ∙ c.if-not-follows_on.false)) ∙ h.invariant

pub returns : goal.returns
returns c =
    let es = entries_of c.args.ram.now in
    let h = c.loop-i in
    sym (laws.ordered_end es h.i (omega arith) h.from) ∙ h.invariant
