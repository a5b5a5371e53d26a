use mathlib.Core.Path.{sym, ◌∙◌}
use Rattle.mapping.specs.Maps.{perms_lent}
use Rattle.protector_state.specs.State.{settings_of}
use Rattle.protector.proofs.Laws as laws
use Rattle.protector.proofs.update_default_permissions.Goals as goal

pub returns-then-not-is_default0-clause-value : goal.returns-then-not-is_default0-clause-value
returns-then-not-is_default0-clause-value c =
    let a = c.args in
    laws.permit_other (settings_of a.state.now) a.phase a.pages.now a.count a.at (perms_lent a.maps.now)
    (sym c.is_default0.ensures ∙ c.if-not-is_default0.true)

pub returns-then-not-is_tracked-clause-value : goal.returns-then-not-is_tracked-clause-value
returns-then-not-is_tracked-clause-value c =
    let a = c.args in
    laws.permit_untracked (settings_of a.state.now) a.phase a.pages.now a.count a.at (perms_lent a.maps.now)
    (sym c.is_default0.ensures ∙ c.if-not-is_default0.false) (sym c.is_tracked.ensures ∙ c.if-not-is_tracked.true)

pub returns-then-count-at-clause-value : goal.returns-then-count-at-clause-value
returns-then-count-at-clause-value c =
    let a = c.args in
    laws.permit_past (settings_of a.state.now) a.phase a.pages.now a.count a.at (perms_lent a.maps.now)
    (sym c.is_default0.ensures ∙ c.if-not-is_default0.false) (sym c.is_tracked.ensures ∙ c.if-not-is_tracked.false) c.if-count-at.true
