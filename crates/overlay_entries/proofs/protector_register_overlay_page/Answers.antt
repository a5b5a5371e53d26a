use borrow.Author.Rules.{rules}
use mathlib.Core.Path.{refl, sym, ap, subst, ◌∙◌}
use native.Mathlib.Omega.{arith}
use Rattle.mapping.specs.Maps.{maps}
use Rattle.permissions.specs.declared.GuestVtl.{GuestVtl}
use Rattle.permissions.specs.Flags.{vtl_of}
use Rattle.overlay_table.specs.Overlays.{IsPlace}
use Rattle.call_refusals.specs.Buffers.{buffers, fits, overlays_of}
use Rattle.protector.proofs.Laws.{call_taken, held}
use Rattle.call_refusals.proofs.Laws.{fits_tables}
use Rattle.overlay_entries.specs.Calls.{register_of, register_taken}
use Rattle.overlay_entries.proofs.Laws as laws
use Rattle.overlay_entries.proofs.protector_register_overlay_page.Goals as goal

pub entry_of-e-requires : goal.entry_of-e-requires
entry_of-e-requires c =
    let a = c.args in
    let w = buffers (maps a.private.now a.shared.now a.read.now a.write.now a.kernel.now a.user.now) a.state.now a.pages.now a.tables.now in
    fits_tables w (laws.register_fits a.state.now (fits w) a.shared.now a.tables.now c.current_flags-current.result a.vtl a.gpn a.source a.checked a.new _
    (rw c.of-lengths.ensures at c.in-Ok.ensures.refusal_value) refl)

pub overflow_add-e : goal.overflow_add-e
overflow_add-e c =
    let a = c.args in
    let w = buffers (maps a.private.now a.shared.now a.read.now a.write.now a.kernel.now a.user.now) a.state.now a.pages.now a.tables.now in
    let found = subst (IsPlace (overlays_of a.tables.now (vtl_of a.vtl)) a.gpn) c.in-Some.is c.in-Ok.ensures.place_value in
    let at = laws.place_found a.tables.now c.vtl_of-v.result a.vtl a.gpn _ c.vtl_of-v.ensures found.0 in
    let h = laws.register_room a.state.now (fits w) a.shared.now a.tables.now c.current_flags-current.result a.vtl a.gpn a.source a.checked a.new _
    (rw c.of-lengths.ensures at c.in-Ok.ensures.refusal_value) refl c.vtl_of-v.result _ _ c.vtl_of-v.ensures found.0 (λ z. omega (arith, found.1, z))
    (laws.entry_found a.tables.now c.vtl_of-v.result a.gpn _ at _ c.entry_of-e.ensures) in
    omega (arith, h)

pub set_ref_count-requires : goal.set_ref_count-requires
set_ref_count-requires c =
    let a = c.args in
    let w = buffers (maps a.private.now a.shared.now a.read.now a.write.now a.kernel.now a.user.now) a.state.now a.pages.now a.tables.now in
    fits_tables w (laws.register_fits a.state.now (fits w) a.shared.now a.tables.now c.current_flags-current.result a.vtl a.gpn a.source a.checked a.new _
    (rw c.of-lengths.ensures at c.in-Ok.ensures.refusal_value) refl)

pub returns-in-Some : goal.returns-in-Some
unfolding register_of
returns-in-Some c =
    let a = c.args in
    let w = buffers (maps a.private.now a.shared.now a.read.now a.write.now a.kernel.now a.user.now) a.state.now a.pages.now a.tables.now in
    let found = subst (IsPlace (overlays_of a.tables.now (vtl_of a.vtl)) a.gpn) c.in-Some.is c.in-Ok.ensures.place_value in
    let at = laws.place_found a.tables.now c.vtl_of-v.result a.vtl a.gpn _ c.vtl_of-v.ensures found.0 in
    call_taken w _ _ (laws.register_asks w (fits w) c.vtl_of-v.result a.vtl a.gpn a.source a.checked a.new _ _ c.vtl_of-v.ensures
    c.current_flags-current.ensures (rw c.of-lengths.ensures at c.in-Ok.ensures.refusal_value)) (register_taken w (vtl_of a.vtl) a.gpn a.source a.new) _ refl
    (laws.register_counted w c.vtl_of-v.result a.gpn a.source a.new _ at _ _ _ (λ z. omega (arith, found.1, z))
    (laws.entry_found a.tables.now c.vtl_of-v.result a.gpn _ at _ c.entry_of-e.ensures)
    (laws.count_found a.tables.now c.vtl_of-v.result a.gpn _ at _ _ c.set_ref_count.ensures) c.finished.ensures
    ∙ ap (λ (x : GuestVtl). register_taken w x a.gpn a.source a.new) c.vtl_of-v.ensures)

pub apply_step-requires : goal.apply_step-requires
apply_step-requires c =
    let a = c.args in
    let w = buffers (maps a.private.now a.shared.now a.read.now a.write.now a.kernel.now a.user.now) a.state.now a.pages.now a.tables.now in (
      laws.register_state a.state.now (fits w) a.shared.now a.tables.now c.current_flags-current.result a.vtl a.gpn a.source a.checked a.new _
          (rw c.of-lengths.ensures at c.in-Ok.ensures.refusal_value) refl,
      fits_tables w
          (laws.register_fits a.state.now (fits w) a.shared.now a.tables.now c.current_flags-current.result a.vtl a.gpn a.source a.checked a.new _
          (rw c.of-lengths.ensures at c.in-Ok.ensures.refusal_value) refl),
      laws.new_fits _ c.vtl_of-v.result a.gpn _ _ _ _ c.start_new-x.ensures (omega (arith, c.ranges.gpn)),
    )

pub returns : goal.returns
unfolding register_of
returns c =
    let a = c.args in
    let w = buffers (maps a.private.now a.shared.now a.read.now a.write.now a.kernel.now a.user.now) a.state.now a.pages.now a.tables.now in
    let none = subst (IsPlace (overlays_of a.tables.now (vtl_of a.vtl)) a.gpn) c.in_default.is c.in-Ok.ensures.place_value in
    let at = laws.place_found a.tables.now c.vtl_of-v.result a.vtl a.gpn _ c.vtl_of-v.ensures (sym none) in
    held _ _ _ _ _ _ _
    (call_taken w _ _ (laws.register_asks w (fits w) c.vtl_of-v.result a.vtl a.gpn a.source a.checked a.new _ _ c.vtl_of-v.ensures
    c.current_flags-current.ensures (rw c.of-lengths.ensures at c.in-Ok.ensures.refusal_value)) (register_taken w (vtl_of a.vtl) a.gpn a.source a.new) _ refl
    (laws.register_carried w c.vtl_of-v.result a.gpn a.source a.new _ at c.settings-set.result
    c.current_flags-current.result _ c.start_new-x.result _ _ _ _ refl c.settings-set.ensures c.current_flags-current.ensures c.into_bits-bits.ensures
    c.start_new-x.ensures c.apply_step.ensures.permissions_after c.apply_step.ensures.state_after c.apply_step.ensures.tables_after c.apply_step.ensures.value ∙ ap
    (λ (x : GuestVtl). register_taken w x a.gpn a.source a.new) c.vtl_of-v.ensures))
    (search rules)
