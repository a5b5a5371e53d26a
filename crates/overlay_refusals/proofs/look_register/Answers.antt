use mathlib.Core.Path.{refl, sym, ap, subst, ◌∙◌}
use mathlib.Core.List.{List}
use Prim.Native.Nat.{ℕ}
use Rattle.permissions.specs.declared.GuestVtl.{GuestVtl}
use Rattle.abi.proofs.Numbers.{number_not_zero, refused_exit}
use Rattle.overlay_table.specs.Overlays.{IsPlace}
use Rattle.protector_state.specs.State.{entries_in}
use Rattle.call_refusals.specs.Buffers.{overlays_of, locks_of, fits_in}
use Rattle.call_refusals.proofs.Laws.{tables_fit}
use Rattle.overlay_refusals.specs.Refusals.{page_refusal, register_refusal}
use Rattle.overlay_refusals.proofs.Laws as laws
use Rattle.overlay_refusals.proofs.look_register.Goals as goal

pub returns-in_err-call_refusal-clause-refusal_value : goal.returns-in_err-call_refusal-clause-refusal_value
unfolding register_refusal
returns-in_err-call_refusal-clause-refusal_value c =
    refused_exit _ _ c.from_residual.ensures.1 ∙ laws.call_ends _ _ _ _ c.in_err-call_refusal.ensures _ (number_not_zero _)

pub returns-in_err-flags_refusal-clause-refusal_value : goal.returns-in_err-flags_refusal-clause-refusal_value
unfolding register_refusal
returns-in_err-flags_refusal-clause-refusal_value c =
    let a = c.args in
    refused_exit _ _ c.from_residual-in_err-flags_refusal.ensures.1
    ∙ laws.call_goes a.state.now (fits_in a.state.now a.lengths) a.vtl _ c.in_ok-call_refusal.ensures _ _ refl
    (laws.flags_ends a.source a.checked a.new _ _ c.in_err-flags_refusal.ensures (number_not_zero _))

pub page_refusal_in-requires : goal.page_refusal_in-requires
page_refusal_in-requires c =
    let a = c.args in (
      laws.call_state a.state.now (fits_in a.state.now a.lengths) a.vtl _ c.in_ok-call_refusal.ensures refl,
      sym c.requires ∙ tables_fit a.state.now a.lengths (laws.call_fits a.state.now (fits_in a.state.now a.lengths) a.vtl _ c.in_ok-call_refusal.ensures refl),
      subst (λ (o : List ℕ). IsPlace o a.gpn c.find_entry-place.result) c.overlays_of.ensures c.find_entry-place.ensures,
    )

pub returns-in_err-page_refusal_in-clause-refusal_value : goal.returns-in_err-page_refusal_in-clause-refusal_value
unfolding register_refusal
returns-in_err-page_refusal_in-clause-refusal_value c =
    let a = c.args in
    refused_exit _ _ c.from_residual-in_err-page_refusal_in.ensures.1
    ∙ laws.call_goes a.state.now (fits_in a.state.now a.lengths) a.vtl _ c.in_ok-call_refusal.ensures _ _ refl
    (laws.flags_go a.source a.checked a.new _ _ _ c.in_ok-flags_refusal.ensures refl
    (c.in_err-page_refusal_in.ensures ∙ ap (λ (v : GuestVtl). page_refusal (entries_in a.state.now) a.shared.now (overlays_of a.tables.now v) (locks_of a.tables.now v)
    a.gpn a.source a.current a.checked a.new) c.vtl_of-v.ensures))
