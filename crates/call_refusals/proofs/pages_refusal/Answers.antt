use mathlib.Core.Path.{refl, sym, ◌∙◌}
use native.Mathlib.Omega.{arith}
use Rattle.layout.specs.Layout.{entries_of}
use Rattle.page_list.specs.Pages.{pages_of}
use Rattle.call_refusals.specs.Refusals.{page_refusal}
use Rattle.call_refusals.proofs.Laws as laws
use Rattle.abi.proofs.Numbers.{number_not_zero, refused_exit}
use Rattle.call_refusals.proofs.pages_refusal.Goals as goal

pub loop-i-init : goal.loop-i-init
loop-i-init c = refl

pub returns-in_err-page_refusal : goal.returns-in_err-page_refusal
returns-in_err-page_refusal c =
    let a = c.args in
    let f = page_refusal (entries_of a.ram.now) a.overlays.now a.locks.now a.share in
    let ps = pages_of a.list.now in
    let h = c.loop-i in
    refused_exit _ _ c.from_residual.ensures.1
    ∙ sym (laws.first_hit f ps h.i _ _ (omega (arith, c.page_count-i-end.ensures)) c.page_at.ensures c.in_err-page_refusal.ensures (number_not_zero _)) ∙ h.invariant

pub loop-i-preserved : goal.loop-i-preserved
loop-i-preserved c =
    let a = c.args in
    let f = page_refusal (entries_of a.ram.now) a.overlays.now a.locks.now a.share in
    let ps = pages_of a.list.now in
    let h = c.loop-i in
    sym (laws.first_miss f ps h.i _ _ (omega (arith, c.page_count-i-end.ensures)) c.page_at.ensures c.in_ok-page_refusal.ensures refl) ∙ h.invariant

pub returns : goal.returns
returns c =
    let a = c.args in let f = page_refusal (entries_of a.ram.now) a.overlays.now a.locks.now a.share in let ps = pages_of a.list.now in let h = c.loop-i in sym (laws.first_end f ps h.i (omega (arith, c.page_count-i-end.ensures))) ∙ h.invariant
