use Rattle.std.proofs.Common.{sym, ◌∙◌}
use Rattle.registrar_state.specs.Buffers.{buffers}
use Rattle.registrar_state.proofs.Laws.{count_in_lem}
use Rattle.registrar.proofs.Laws as laws
use Rattle.registrar.proofs.registrar_register.Goals as goal

pub returns-then-is_known : goal.returns-then-is_known
returns-then-is_known c =
    let a = c.args in
    let w = buffers a.state.now a.registered.now a.failed.now in
    laws.touched_known w a.address a.len _ _ _ c.granularity-granularity.ensures c.first_chunk-first.ensures c.end_chunk-end.ensures
    c.in_default.ensures _ (sym c.is_known.ensures ∙ c.if-is_known.true) c.done.ensures

pub returns : goal.returns
returns c =
    let a = c.args in
    let w = buffers a.state.now a.registered.now a.failed.now in
    let g = c.granularity-granularity in
    let f = c.first_chunk-first in
    let e = c.end_chunk-end in
    let n = c.chunk_count-total in
    let o = c.register_from-chunk in
    let long = laws.touched_long w a.address a.len _ _ _ g.ensures f.ensures e.ensures c.in_default.ensures in
    laws.touched_goes w a.address a.len _ _ _ g.ensures f.ensures e.ensures c.in_default.ensures _
    (laws.go_answered w n.result 0 f.result e.result (count_in_lem a.state.now _ n.ensures long) _ _ o.result c.answer.result o.ensures.planned c.answer.ensures)
