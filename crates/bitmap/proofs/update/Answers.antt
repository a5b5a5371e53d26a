use mathlib.Core.Path.{ap, ◌∙◌}
use Prim.Native.Nat.{ℕ, ◌+◌}
use Rattle.laws.specs.Ranges.{between}
use Rattle.bitmap.specs.Pages.{written}
use Rattle.bitmap.proofs.Steps.{run_one}
use Rattle.bitmap.proofs.update.Goals as goal

pub returns-then-first-last : goal.returns-then-first-last
returns-then-first-last c =
    let a = c.args in
    run_one 8 a.state a.map.now a.first _ c.set_page.ensures
    ∙ ap (λ (x : ℕ). written 8 (between a.first (x + 1)) a.state a.map.now) c.if-first-last.true
