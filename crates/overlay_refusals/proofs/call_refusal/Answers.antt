use mathlib.Core.Path.{◌∙◌}
use Rattle.abi.proofs.Numbers.{number_not_zero, refused_exit}
use Rattle.call_refusals.proofs.Laws.{lent_refuses}
use Rattle.overlay_refusals.specs.Refusals.{call_refusal}
use Rattle.overlay_refusals.proofs.call_refusal.Goals as goal

pub returns-in_err-lent_refusal : goal.returns-in_err-lent_refusal
unfolding call_refusal
returns-in_err-lent_refusal c = refused_exit _ _ c.from_residual.ensures.1 ∙ lent_refuses _ _ _ c.in_err-lent_refusal.ensures _ (number_not_zero _)
