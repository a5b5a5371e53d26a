use Rattle.mapping.specs.Maps.{maps_lent}
use Rattle.protector.proofs.Laws as laws
use Rattle.protector.proofs.apply.Goals as goal

pub returns-then-is_nothing-clause-value : goal.returns-then-is_nothing-clause-value
returns-then-is_nothing-clause-value c =
    let a = c.args in
    laws.nothing_applied a.pages.now a.writes (maps_lent a.private.now a.shared.now a.maps.now) _ c.is_nothing.ensures c.if-is_nothing.true
