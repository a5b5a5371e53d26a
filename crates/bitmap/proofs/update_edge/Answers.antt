use mathlib.Core.Path.{◌≡◌, ap, ◌∙◌}
use Prim.Native.Nat.{ℕ, ◌+◌}
use native.Mathlib.Omega.{arith}
use lib.ListN.{length}
use Rattle.laws.specs.Ranges.{between}
use Rattle.bitmap.specs.Pages.{written}
use Rattle.bitmap.proofs.Map.{length_written}
use Rattle.bitmap.proofs.Steps.{run_none, run_next, edge_none, edge_all}
use Rattle.bitmap.proofs.update_edge.Goals as goal

pub returns-then-count-eq8 : goal.returns-then-count-eq8
returns-then-count-eq8 c = let a = c.args in edge_none a.state a.map.now a.first a.last c.requires.0 c.requires.1 c.if-count-eq8.true

pub loop-k-init : goal.loop-k-init
loop-k-init c =
    let a = c.args in
    let none : a.first ≡ a.first + 0 = omega arith in
    run_none 8 a.state a.map.now a.first ∙ ap (λ (p : ℕ). written 8 (between a.first p) a.state a.map.now) none

pub loop-k-preserved : goal.loop-k-preserved
loop-k-preserved c =
    let a = c.args in run_next 8 a.state a.map.now a.first c.loop-k.k c.loop-k.map _ c.loop-k.invariant c.set_page.ensures

pub shape_of-map : goal.shape_of-map
shape_of-map c = let a = c.args in ap length c.loop-k.invariant ∙ length_written 8 _ _ a.map.now

pub returns : goal.returns
returns c =
    let a = c.args in
    let end : a.first + c.loop-k.k ≡ a.last + 1 = omega arith in
    c.loop-k.invariant
    ∙ ap (λ (p : ℕ). written 8 (between a.first p) a.state a.map.now) end
    ∙ edge_all a.state a.map.now a.first a.last c.requires.0 (omega (arith, c.requires.0, c.requires.1, c.if-count-eq8.false))
