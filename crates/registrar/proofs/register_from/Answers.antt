use Rattle.std.proofs.Common.{min, sym, ap, ◌∙◌, arith}
use Rattle.registrar_state.specs.Buffers.{buffers, chunk_state_in, with_request}
use Rattle.registrar_steps.specs.declared.Request.{Request}
use Rattle.registrar_steps.proofs.Laws.{stop_below}
use Rattle.registrar.proofs.Laws as laws
use Rattle.registrar.proofs.register_from.Goals.{then-has_ram, else-has_ram}
use Rattle.registrar.proofs.register_from.Goals as goal

pub overflow_add-at : goal.overflow_add-at
overflow_add-at c =
    let a = c.args in
    let t = c.register_stop-at in
    omega (arith, stop_below (chunk_state_in (buffers a.state.now a.registered.now a.failed.now)) a.from (min a.until a.total) t.result t.ensures.0 (sym c.has_ram.ensures ∙ c.if-has_ram.true), c.ranges.total)

pub returns-clause-planned : goal.returns-clause-planned
returns-clause-planned c =
    let a = c.args in
    let w = buffers a.state.now a.registered.now a.failed.now in
    let t = c.register_stop-at in
    elim c.if-has_ram.branch [
      | then-has_ram b ↦ laws.go_asked w a.total a.count a.from a.until c.requires.1 t.result t.ensures.0 _ _ c.set_chunks.ensures b.piece-request.result (sym c.has_ram.ensures ∙ b.if-has_ram.true) b.piece-request.ensures (c.save.ensures ∙ ap (λ (q : Request). with_request q a.state.now) b.request-is)
      | else-has_ram b ↦ laws.go_ended w a.total a.count a.from a.until c.requires.1 t.result t.ensures.0 _ _ c.set_chunks.ensures b.idle-request.result (sym c.has_ram.ensures ∙ b.if-has_ram.false) b.idle-request.ensures (c.save.ensures ∙ ap (λ (q : Request). with_request q a.state.now) b.request-is)
    ]
