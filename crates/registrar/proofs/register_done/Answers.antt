use Rattle.std.proofs.Common.{◌∙◌}
use Rattle.registrar_state.specs.Buffers.{buffers}
use Rattle.registrar.proofs.Laws as laws
use Rattle.registrar.proofs.register_done.Goals as goal

pub returns-then-rest : goal.returns-then-rest
returns-then-rest c =
    let a = c.args in
    let w = buffers a.state.now a.registered.now a.failed.now in
    let ask = c.ask in
    let load = c.load-request in
    let rest_of = c.rest_of-rest in
    laws.done_rest w load.result load.ensures rest_of.result _ ask.result c.requires.2 rest_of.ensures c.if-rest.true ask.ensures.0 ask.ensures.1

pub returns : goal.returns
returns c =
    let q = c.load-request in
    let rest = c.rest_of-rest in
    let given = c.requires in
    let a = c.args in
    let w = buffers a.state.now a.registered.now a.failed.now in
    let v = buffers a.state.now c.set_chunks.new.map a.failed.now in
    let o = c.register_from-chunk in
    laws.go_answered v a.total q.result.count q.result.to q.result.until given.1 _ _ o.result c.answer.result o.ensures.planned c.answer.ensures
    ∙ laws.done_register w q.result q.ensures (laws.none_left a.state.now rest.result rest.ensures c.if-rest.false given.2) _ c.set_chunks.ensures given.2
