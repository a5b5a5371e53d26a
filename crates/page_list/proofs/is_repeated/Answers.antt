use native.Mathlib.Omega.{arith}
use mathlib.Core.Path.{refl, sym, ◌∙◌}
use Rattle.page_list.specs.Pages.{pages_of}
use Rattle.page_list.proofs.Laws as laws
use Rattle.page_list.proofs.is_repeated.Goals as goal

pub loop-i-init : goal.loop-i-init
loop-i-init c = refl

pub returns-then-is_among : goal.returns-then-is_among
returns-then-is_among c =
    let a = c.args in
    let ps = pages_of a.list.now in
    let h = c.loop-i in
    sym (laws.repeats_hit ps h.i _ (omega (arith, c.page_count-i-end.ensures)) c.page_at.ensures (sym c.is_among.ensures ∙ c.if-is_among.true)) ∙ h.invariant

pub loop-i-preserved : goal.loop-i-preserved
loop-i-preserved c =
    let a = c.args in
    let ps = pages_of a.list.now in
    let h = c.loop-i in
    sym (laws.repeats_miss ps h.i _ (omega (arith, c.page_count-i-end.ensures)) c.page_at.ensures (sym c.is_among.ensures ∙ c.if-is_among.false)) ∙ h.invariant

pub returns : goal.returns
returns c =
    let a = c.args in
    let ps = pages_of a.list.now in
    let h = c.loop-i in
    sym (laws.repeats_end ps h.i (omega (arith, c.page_count-i-end.ensures))) ∙ h.invariant
