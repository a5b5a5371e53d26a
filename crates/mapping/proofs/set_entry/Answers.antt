use mathlib.Core.Bool.{true}
use mathlib.Core.Path.{◌≡◌, ap, ◌∙◌}
use Prim.Native.Nat.{ℕ, ◌+◌, ◌-◌}
use native.Mathlib.Omega.{arith}
use Rattle.laws.specs.Ranges.{between}
use Rattle.bitmap.specs.Pages.{written}
use Rattle.bitmap.proofs.Steps.{run_none, run_end_lem}
use Rattle.mapping.proofs.set_entry.Goals as goal

pub returns-then-to-from : goal.returns-then-to-from
returns-then-to-from c =
    let a = c.args in
    run_none 8 true a.map.now a.from ∙ run_end_lem 8 true a.map.now a.from a.to a.from c.if-to-from.true (omega arith)

pub returns : goal.returns
returns c =
    let a = c.args in
    let end : a.to - 1 + 1 ≡ a.to = omega (arith, c.if-to-from.false) in
    c.update.ensures ∙ ap (λ (b : ℕ). written 8 (between a.from b) true a.map.now) end
