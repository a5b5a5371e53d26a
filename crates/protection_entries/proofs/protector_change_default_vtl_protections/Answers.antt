use borrow.Author.Rules.{rules}
use mathlib.Core.Path.{sym, refl, ap, ◌∙◌}
use Rattle.abi.proofs.Numbers.{number_not_zero}
use Prim.Native.Nat.{ℕ}
use Rattle.permissions.specs.Flags.{vtl_of}
use Rattle.permissions.specs.HvError.{code_of}
use Rattle.protector_state.specs.Reply.{finished}
use Rattle.mapping.specs.Maps.{maps}
use Rattle.call_refusals.specs.Buffers.{buffers}
use Rattle.protector.proofs.Laws.{held}
use Rattle.protection_entries.proofs.Laws as laws
use Rattle.protection_entries.proofs.protector_change_default_vtl_protections.Goals as goal

pub returns-in-Err : goal.returns-in-Err
returns-in-Err c =
    let a = c.args in
    laws.default_refused
    (buffers (maps a.private.now a.shared.now a.read.now a.write.now a.kernel.now a.user.now) a.state.now a.pages.now a.tables.now) _ c.of-lengths.ensures
    a.vtl a.flags _ (c.number.ensures ∙ c.in-Err.ensures) _ (λ z. number_not_zero _ (sym c.number.ensures ∙ z)) c.refused.ensures

pub returns-then-has_locked_page : goal.returns-then-has_locked_page
returns-then-has_locked_page c =
    let a = c.args in
    let m = maps a.private.now a.shared.now a.read.now a.write.now a.kernel.now a.user.now in
    let w = buffers m a.state.now a.pages.now a.tables.now in
    laws.default_goes w _ c.of-lengths.ensures a.vtl a.flags 0 c.in_default.ensures _ refl
    (laws.default_stored w c.vtl_of-v.result (vtl_of a.vtl) a.flags _ _ c.vtl_of-v.ensures c.store_default.ensures
    (laws.default_barred (buffers m _ a.pages.now a.tables.now) c.vtl_of-v.result a.flags _ c.has_locked_page.ensures _ c.if-has_locked_page.true
    (c.refused-then-has_locked_page.ensures ∙ ap (λ (n : ℕ). finished n (code_of n) 0 0) c.number-then-has_locked_page.ensures)))

pub returns : goal.returns
returns c =
    let a = c.args in
    let m = maps a.private.now a.shared.now a.read.now a.write.now a.kernel.now a.user.now in
    let w = buffers m a.state.now a.pages.now a.tables.now in
    held _ _ _ _ _ _ _
    (laws.default_goes w _ c.of-lengths.ensures a.vtl a.flags 0 c.in_default.ensures _ refl
    (laws.default_stored w c.vtl_of-v.result (vtl_of a.vtl) a.flags _ _ c.vtl_of-v.ensures c.store_default.ensures
    (laws.default_free (buffers m _ a.pages.now a.tables.now) c.vtl_of-v.result a.flags _ c.has_locked_page.ensures _ c.if-has_locked_page.false
    (laws.default_started_lem (buffers m _ a.pages.now a.tables.now) c.vtl_of-v.result a.flags _ _ _ _ _ c.update_previous_permissions.ensures
    c.default_step-step.ensures.value c.apply_step.ensures.permissions_after c.apply_step.ensures.state_after c.apply_step.ensures.value))))
    (search rules)
