use mathlib.Core.Path.{refl, ap, ◌∙◌}
use Prim.Native.Nat.{ℕ}
use Rattle.abi.specs.Refusals.{refused_by}
use Rattle.call_refusals.specs.Buffers.{fits_in}
use Rattle.abi.proofs.Numbers.{number_not_zero, refused_exit}
use Rattle.overlay_refusals.specs.Refusals.{unregister_refusal}
use Rattle.overlay_refusals.proofs.Laws as laws
use Rattle.overlay_refusals.proofs.look_unregister.Goals as goal

pub returns-in_err-call_refusal-clause-refusal_value : goal.returns-in_err-call_refusal-clause-refusal_value
unfolding unregister_refusal
returns-in_err-call_refusal-clause-refusal_value c =
    refused_exit _ _ c.from_residual.ensures.1 ∙ laws.call_ends _ _ _ _ c.in_err-call_refusal.ensures _ (number_not_zero _)

pub returns-clause-refusal_value : goal.returns-clause-refusal_value
unfolding unregister_refusal
returns-clause-refusal_value c =
    let a = c.args in
    laws.call_goes a.state.now (fits_in a.state.now a.lengths) a.vtl _ c.in_ok-call_refusal.ensures _ _ refl
    (ap (refused_by {A = ℕ}) c.ok_or.ensures.value ∙ laws.unknown_refused a.tables.now _ _ a.vtl a.gpn _ c.vtl_of-v.ensures c.overlays_of-overlays.ensures c.find_entry.ensures)
