use mathlib.Core.Path.{refl, sym, ◌∙◌}
use native.Mathlib.Omega.{arith}
use Rattle.bitmap.specs.Pages.{bit_at}
use Rattle.page_list.specs.Pages.{pages_of}
use Rattle.protection_entries.proofs.Laws as laws
use Rattle.protection_entries.proofs.is_any_shared.Goals as goal

pub loop-i-init : goal.loop-i-init
loop-i-init c = refl

pub returns-then-page_state : goal.returns-then-page_state
returns-then-page_state c =
    let a = c.args in
    let h = c.loop-i in
    sym (laws.any_hit (bit_at 8 a.shared.now) (pages_of a.list.now) h.i _ (omega (arith, c.page_count-i-end.ensures)) c.page_at.ensures _
    c.page_state.ensures c.if-page_state.true) ∙ h.invariant

pub loop-i-preserved : goal.loop-i-preserved
loop-i-preserved c =
    let a = c.args in
    let h = c.loop-i in
    sym (laws.any_miss (bit_at 8 a.shared.now) (pages_of a.list.now) h.i _ (omega (arith, c.page_count-i-end.ensures)) c.page_at.ensures _
    c.page_state.ensures c.if-page_state.false) ∙ h.invariant

pub returns : goal.returns
returns c =
    let a = c.args in let h = c.loop-i in sym (laws.any_end (bit_at 8 a.shared.now) (pages_of a.list.now) h.i (omega (arith, c.page_count-i-end.ensures))) ∙ h.invariant
