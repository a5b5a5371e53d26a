use Rattle.replay.proofs.Laws.{protector_line, protector_compared, line_after}
use Rattle.replay.proofs.protector_part.line.Goals as goal

pub returns : goal.returns
returns c =
    let a = c.args in
    let f = c.numbers-runs in
    let k = c.call_of-c in
    let m = c.ram-words in
    let u = c.part-2 in
    let b = c.fill-filled in
    let l = c.part in
    let v = c.put_often in (
      protector_line a.input.now a.at f.new.run f.result k.result m.new.run u.result.now m.result f.ensures.0
          f.ensures.1 k.ensures m.ensures.0 m.ensures.1 u.ensures b.new.list l.result.now b.result.len b.ensures.0 l.ensures a.buffers.now v.new.buffers v.ensures,
      line_after a.input.now a.at f.new.run f.result k.result b.result.next f.ensures.0 f.ensures.1 k.ensures b.ensures.1,
      protector_compared a.input.now a.at f.new.run f.result k.result m.new.run u.result.now m.result
          f.ensures.0 f.ensures.1 k.ensures m.ensures.0 m.ensures.1 u.ensures b.new.list l.result.now b.result.len
          b.ensures.0 l.ensures a.buffers.now v.new.buffers a.tally.now c.compare.new.tally v.ensures c.compare.ensures,
    )
