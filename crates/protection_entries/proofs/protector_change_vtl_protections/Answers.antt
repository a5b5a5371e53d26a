use borrow.Author.Rules.{rules}
use mathlib.Core.Path.{sym, refl, ◌∙◌}
use Rattle.abi.proofs.Numbers.{number_not_zero}
use Rattle.permissions.specs.Flags.{vtl_of}
use Rattle.mapping.specs.Maps.{maps}
use Rattle.call_refusals.specs.Buffers.{buffers}
use Rattle.protector.proofs.Laws.{held}
use Rattle.protection_entries.proofs.Laws as laws
use Rattle.protection_entries.proofs.protector_change_vtl_protections.Goals as goal

pub returns-in-Err : goal.returns-in-Err
returns-in-Err c =
    let a = c.args in
    laws.protection_refused
    (buffers (maps a.private.now a.shared.now a.read.now a.write.now a.kernel.now a.user.now) a.state.now a.pages.now a.tables.now) _ c.of-lengths.ensures
    a.vtl a.flags _ a.list.now (c.number.ensures ∙ c.in-Err.ensures) _ (λ z. number_not_zero _ (sym c.number.ensures ∙ z)) c.refused.ensures

pub returns : goal.returns
returns c =
    let a = c.args in
    let w = buffers (maps a.private.now a.shared.now a.read.now a.write.now a.kernel.now a.user.now) a.state.now a.pages.now a.tables.now in
    held _ _ _ _ _ _ _
    (laws.protection_goes w _ c.of-lengths.ensures a.vtl a.flags 0 a.list.now c.in_default.ensures _ refl
    (laws.protection_made w c.vtl_of-v.result (vtl_of a.vtl) a.flags a.list.now c.page_count-count.result _ c.protection_step-step.result _ _ c.apply_step.result
    c.vtl_of-v.ensures c.page_count-count.ensures c.store_all.ensures c.protection_step-step.ensures.value c.apply_step.ensures.permissions_after
    c.apply_step.ensures.state_after c.apply_step.ensures.value))
    (search rules)
