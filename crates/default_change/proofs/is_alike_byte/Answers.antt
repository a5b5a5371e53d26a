use native.Mathlib.Omega.{arith}
use mathlib.Core.Path.{sym, ◌∙◌}
use Prim.Native.Nat.{◌-◌, ◌%◌}
use borrow.Author.Tests.{leb-true, eqb-true}
use Rattle.default_change.proofs.Bytes as laws
use Rattle.default_change.proofs.is_alike_byte.Goals as goal
use Rattle.default_change.proofs.is_alike_byte.Goals.{then-byte_at-full, else-byte_at-full}

pub returns-then-p-eq0 : goal.returns-then-p-eq0
returns-then-p-eq0 c =
    λ e.
    let a = c.args in
    elim c.if-byte_at-full.branch [
      | then-byte_at-full w ↦ (
        omega (arith, leb-true 8 (a.end - a.p) e),
        laws.byte_span a.state a.map.now a.p (eqb-true (a.p % 8) 0 (sym w.value-is ∙ c.if-p-eq0.true)) (sym c.byte_at.ensures ∙ w.if-byte_at-full.true ∙ c.full.ensures),
      )
      | else-byte_at-full w ↦ absurd (w.if-byte_at-full.false (eqb-true c.byte_at.result c.full.result (sym w.value-is ∙ c.if-p-eq0.true)))
    ]
