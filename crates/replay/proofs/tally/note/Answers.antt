use Rattle.replay.proofs.Laws.{noted_same, noted_other}
use Rattle.replay.proofs.tally.note.Goals as goal

pub returns-then-is_same : goal.returns-then-is_same
returns-then-is_same c =
    let a = c.args in
    let x = c.bump in
    let y = c.bump-2 in
    let z = c.bump-3 in
    let s = c.is_same in
    noted_same a.tally.now a.f.now a.g.now a.number a.column x.new.tally y.new.tally z.new.tally x.ensures y.ensures
    z.ensures s.result s.ensures c.bump-then-is_same.new.tally c.bump-then-is_same-2.new.tally c.if-is_same.true c.bump-then-is_same.ensures c.bump-then-is_same-2.ensures

pub returns-else-is_same : goal.returns-else-is_same
returns-else-is_same c =
    let a = c.args in
    let x = c.bump in
    let y = c.bump-2 in
    let z = c.bump-3 in
    let s = c.is_same in
    noted_other a.tally.now a.f.now a.g.now a.number a.column x.new.tally y.new.tally z.new.tally x.ensures y.ensures z.ensures s.result s.ensures c.bump-else-is_same.new.tally c.if-is_same.false c.bump-else-is_same.ensures
