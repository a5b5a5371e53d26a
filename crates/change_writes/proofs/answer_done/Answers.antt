use Rattle.laws.proofs.Parts.{four_parts}
use mathlib.Core.Path.{refl, sym, ap, ◌∙◌}
use Rattle.mapping.specs.Maps.{perms_lent}
use Rattle.change_steps.specs.Changes.{is_flushing}
use Rattle.change_writes.proofs.Flush.{flush_made}
use Rattle.change_writes.proofs.answer_done.Goals as goal

pub returns-then-is_flushing : goal.returns-then-is_flushing
returns-then-is_flushing c =
    let a = c.args in
    four_parts (flush_made a.private.now a.state.now a.pages.now a.tables.now (perms_lent a.maps.now)
    (sym (c.is_flushing.ensures ∙ ap is_flushing c.stage.ensures) ∙ c.if-is_flushing.true) _ _ (c.flush_done.ensures.state_after, c.flush_done.ensures.value))
    (λ p s t v. record { same = (refl, refl, refl, refl); permissions_after = p; state_after = s; tables_after = t; value = v })
