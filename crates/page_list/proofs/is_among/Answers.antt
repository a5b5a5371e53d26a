use native.Mathlib.Omega.{arith}
use mathlib.Core.Path.{refl, sym, ◌∙◌}
use Rattle.page_list.specs.Pages.{pages_of}
use Rattle.page_list.proofs.Laws as laws
use Rattle.page_list.proofs.is_among.Goals as goal

pub loop-i-init : goal.loop-i-init
loop-i-init c = refl

pub returns-then-page_at-p : goal.returns-then-page_at-p
returns-then-page_at-p c =
    let a = c.args in
    let ps = pages_of a.list.now in
    let h = c.loop-i in
    sym (laws.among_hit ps h.i _ (omega (arith, c.page_count-i-end.ensures)) c.page_at.ensures a.p (sym c.if-page_at-p.true)) ∙ h.invariant

pub loop-i-preserved : goal.loop-i-preserved
loop-i-preserved c =
    let a = c.args in
    let ps = pages_of a.list.now in
    let h = c.loop-i in
    sym (laws.among_miss ps h.i _ (omega (arith, c.page_count-i-end.ensures)) c.page_at.ensures a.p (λ e. c.if-page_at-p.false (sym e))) ∙ h.invariant

pub returns : goal.returns
returns c =
    let a = c.args in
    let ps = pages_of a.list.now in
    let h = c.loop-i in
    sym (laws.among_end ps h.i (omega (arith, c.page_count-i-end.ensures)) a.p) ∙ h.invariant
