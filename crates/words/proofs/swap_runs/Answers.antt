use Rattle.words.proofs.Laws as laws
use Rattle.words.proofs.swap_runs.Goals as goal

pub returns : goal.returns
returns c =
    let a = c.args in
    laws.runs_swapped a.t.now a.place a.n a.m _ _ _ _ _ _ c.place_after-from.ensures c.place_after-middle.ensures c.place_after-to.ensures c.reverse.ensures
    c.reverse-2.ensures c.reverse-3.ensures
