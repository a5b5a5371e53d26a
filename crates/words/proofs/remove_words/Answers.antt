use Rattle.words.proofs.Laws as laws
use Rattle.words.proofs.remove_words.Goals as goal

pub returns : goal.returns
returns c =
    let a = c.args in
    laws.part_closed a.t.now a.place a.n a.end c.place_after-to.result _ c.place_after-to.ensures c.close.ensures
