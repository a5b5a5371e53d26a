use Rattle.words.proofs.Laws as laws
use Rattle.words.proofs.reverse.Goals as goal

pub returns : goal.returns
returns c =
    let a = c.args in
    laws.part_turned a.t.now a.from a.to _ c.requires.0 c.reverse.ensures.after
