use native.Mathlib.Omega.{arith}
use mathlib.Core.Path.{sym, ◌∙◌}
use Rattle.page_list.specs.Pages.{pages_of}
use Rattle.page_list.proofs.Laws as laws
use Rattle.page_list.proofs.is_strict.Goals as goal

pub loop-i-init : goal.loop-i-init
loop-i-init c = let a = c.args in laws.strict_start a.up (pages_of a.list.now) _ c.page_at-p.ensures

pub returns-then-not-steps_on : goal.returns-then-not-steps_on
returns-then-not-steps_on c =
    let a = c.args in
    let ps = pages_of a.list.now in
    let h = c.loop-i in
    sym (laws.steps_hit ps h.i _ (omega (arith, c.page_count-i-end.ensures)) c.page_at-q.ensures a.up h.p
    (sym c.steps_on.ensures ∙ c.if-not-steps_on.true)) ∙ h.invariant

pub loop-i-preserved : goal.loop-i-preserved
loop-i-preserved c =
    let a = c.args in
    let ps = pages_of a.list.now in
    let h = c.loop-i in
    sym (laws.steps_miss ps h.i _ (omega (arith, c.page_count-i-end.ensures)) c.page_at-q.ensures a.up h.p
    (sym c.steps_on.ensures ∙ c.if-not-steps_on.false)) ∙ h.invariant

pub returns : goal.returns
returns c =
    let a = c.args in
    let ps = pages_of a.list.now in
    let h = c.loop-i in
    sym (laws.steps_end ps h.i (omega (arith, c.page_count-i-end.ensures)) a.up h.p) ∙ h.invariant
