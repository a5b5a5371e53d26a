use borrow.Author.Rules.{rules}
use Rattle.bitmap.proofs.Steps.{words_stored}
use Rattle.bitmap.proofs.fill_bytes.Goals as goal

pub returns : goal.returns
returns c =
    let a = c.args in
    words_stored 8 a.state a.map.now a.from a.to _ _ _ _ c.min-end.ensures c.min-start.ensures (λ j. search rules) c.full.ensures (c.fill.ensures.after (λ y e. e))
