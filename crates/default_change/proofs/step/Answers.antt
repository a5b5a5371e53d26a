use native.Mathlib.Omega.{arith}
use mathlib.Core.Path.{sym, ◌∙◌}
use Rattle.default_change.specs.Pieces.{is}
use Rattle.default_change.proofs.Bytes as laws
use Rattle.default_change.proofs.step.Goals as goal

pub returns-then-is_alike_byte : goal.returns-then-is_alike_byte
returns-then-is_alike_byte c =
    let a = c.args in let h = c.is_alike_byte.ensures c.if-is_alike_byte.true in laws.byte_step a.state a.map.now a.p a.end c.byte_step.result h.0 h.1 c.byte_step.ensures

pub returns-then-is_state : goal.returns-then-is_state
returns-then-is_state c =
    let a = c.args in (omega (arith, c.requires), laws.one_span (is a.state a.map.now) a.p (sym c.is_state.ensures ∙ c.if-is_state.true), λ e. absurd (omega (arith, e)))

pub returns-else-is_state : goal.returns-else-is_state
returns-else-is_state c =
    let a = c.args in (omega (arith, c.requires), laws.no_span (is a.state a.map.now) a.p, λ e. sym c.is_state.ensures ∙ c.if-is_state.false)
