use Rattle.replay.proofs.Laws.{registry_line, registry_compared, line_after}
use Rattle.replay.proofs.registrar_part.line.Goals as goal

pub returns : goal.returns
returns c =
    let a = c.args in
    let f = c.numbers-runs in
    let k = c.call_of-c in
    let m = c.ram-words in
    let u = c.part in
    let v = c.call in (
      registry_line a.input.now a.at f.new.run f.result k.result m.new.run u.result.now m.result f.ensures.0 f.ensures.1 k.ensures m.ensures.0 m.ensures.1 u.ensures a.w.now v.new.w v.ensures,
      line_after a.input.now a.at f.new.run f.result k.result c.after_runs.result f.ensures.0 f.ensures.1 k.ensures c.after_runs.ensures,
      registry_compared a.input.now a.at f.new.run f.result k.result m.new.run u.result.now m.result f.ensures.0 f.ensures.1 k.ensures m.ensures.0 m.ensures.1 u.ensures a.w.now v.new.w a.tally.now c.compare.new.tally v.ensures c.compare.ensures,
    )
