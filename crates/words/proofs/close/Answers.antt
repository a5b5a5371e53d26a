use mathlib.Core.Path.{refl}
use Rattle.words.proofs.Laws as laws
use Rattle.words.proofs.close.Goals as goal

pub returns : goal.returns
returns c =
    let a = c.args in
    laws.gap_closed a.t.now a.place a.n _ _ _ _ _ c.place_after-gap.ensures c.place_after-rest.ensures c.copy_within.ensures.after refl (c.fill.ensures.after (λ y e. e))
