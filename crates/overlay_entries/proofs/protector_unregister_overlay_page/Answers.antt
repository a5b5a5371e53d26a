use borrow.Author.Rules.{rules}
use mathlib.Core.Path.{refl, ap, ◌∙◌}
use native.Mathlib.Omega.{arith}
use Rattle.mapping.specs.Maps.{maps}
use Rattle.permissions.specs.declared.GuestVtl.{GuestVtl}
use Rattle.permissions.specs.Flags.{vtl_of}
use Rattle.call_refusals.specs.Buffers.{buffers, fits}
use Rattle.protector.proofs.Laws.{call_taken, held}
use Rattle.call_refusals.proofs.Laws.{fits_tables}
use Rattle.overlay_entries.specs.Calls.{unregister_of, unregister_taken}
use Rattle.overlay_entries.proofs.Laws as laws
use Rattle.overlay_entries.proofs.protector_unregister_overlay_page.Goals as goal

pub entry_of-e-requires : goal.entry_of-e-requires
entry_of-e-requires c =
    let a = c.args in
    let w = buffers (maps a.private.now a.shared.now a.read.now a.write.now a.kernel.now a.user.now) a.state.now a.pages.now a.tables.now in
    fits_tables w (laws.unregister_fits a.state.now (fits w) a.tables.now a.vtl a.gpn _ (rw c.of-lengths.ensures at c.in-Ok.ensures.refusal_value) refl)

pub set_ref_count-requires : goal.set_ref_count-requires
set_ref_count-requires c =
    let a = c.args in
    let w = buffers (maps a.private.now a.shared.now a.read.now a.write.now a.kernel.now a.user.now) a.state.now a.pages.now a.tables.now in
    fits_tables w (laws.unregister_fits a.state.now (fits w) a.tables.now a.vtl a.gpn _ (rw c.of-lengths.ensures at c.in-Ok.ensures.refusal_value) refl)

pub returns-then-e-gt1 : goal.returns-then-e-gt1
unfolding unregister_of
returns-then-e-gt1 c =
    let a = c.args in
    let w = buffers (maps a.private.now a.shared.now a.read.now a.write.now a.kernel.now a.user.now) a.state.now a.pages.now a.tables.now in
    let at = laws.place_found a.tables.now c.vtl_of-v.result a.vtl a.gpn _ c.vtl_of-v.ensures c.in-Ok.ensures.place_value in
    call_taken w _ _ (rw c.of-lengths.ensures at c.in-Ok.ensures.refusal_value) (unregister_taken w (vtl_of a.vtl) a.gpn) _ refl
    (laws.unregister_counted w c.vtl_of-v.result a.gpn _ (laws.entry_found a.tables.now c.vtl_of-v.result a.gpn _ at _ c.entry_of-e.ensures) _ _ c.if-e-gt1.true
    (laws.count_found a.tables.now c.vtl_of-v.result a.gpn _ at _ _ c.set_ref_count.ensures)
    c.finished.ensures ∙ ap (λ (x : GuestVtl). unregister_taken w x a.gpn) c.vtl_of-v.ensures)

pub apply_step-requires : goal.apply_step-requires
apply_step-requires c =
    let a = c.args in
    let w = buffers (maps a.private.now a.shared.now a.read.now a.write.now a.kernel.now a.user.now) a.state.now a.pages.now a.tables.now in (
      laws.unregister_state a.state.now (fits w) a.tables.now a.vtl a.gpn _ (rw c.of-lengths.ensures at c.in-Ok.ensures.refusal_value) refl,
      fits_tables w (laws.unregister_fits a.state.now (fits w) a.tables.now a.vtl a.gpn _ (rw c.of-lengths.ensures at c.in-Ok.ensures.refusal_value) refl),
      laws.old_fits _ c.vtl_of-v.result a.gpn _ _ _ c.start_old-x.ensures (omega (arith, c.ranges.gpn)),
    )

pub returns : goal.returns
unfolding unregister_of
returns c =
    let a = c.args in
    let w = buffers (maps a.private.now a.shared.now a.read.now a.write.now a.kernel.now a.user.now) a.state.now a.pages.now a.tables.now in
    let at = laws.place_found a.tables.now c.vtl_of-v.result a.vtl a.gpn _ c.vtl_of-v.ensures c.in-Ok.ensures.place_value in
    held _ _ _ _ _ _ _
    (call_taken w _ _ (rw c.of-lengths.ensures at c.in-Ok.ensures.refusal_value) (unregister_taken w (vtl_of a.vtl) a.gpn) _ refl
    (laws.unregister_carried w c.vtl_of-v.result a.gpn _ (laws.entry_found a.tables.now c.vtl_of-v.result a.gpn _ at _ c.entry_of-e.ensures) c.settings-set.result c.start_old-x.result _ _ _ _ c.if-e-gt1.false
    c.settings-set.ensures c.start_old-x.ensures c.apply_step.ensures.permissions_after c.apply_step.ensures.state_after c.apply_step.ensures.tables_after
    c.apply_step.ensures.value ∙ ap (λ (x : GuestVtl). unregister_taken w x a.gpn) c.vtl_of-v.ensures))
    (search rules)
