use mathlib.Core.Path.{◌≡◌, ap, ◌∙◌}
use Prim.Native.Nat.{ℕ, ◌+◌, ◌*◌, ◌/◌}
use native.Mathlib.Omega.{arith}
use Rattle.bitmap.specs.Pages.{written, edges}
use Rattle.bitmap.proofs.Steps.{edges_written}
use Rattle.bitmap.proofs.update_edges.Goals as goal

pub returns-then-last-end : goal.returns-then-last-end
returns-then-last-end c =
    let a = c.args in
    let end : c.min-end.result ≡ a.last = omega (arith, c.min-end.ensures, c.if-last-end.true) in
    c.update_edge.ensures ∙ ap (λ (l : ℕ). written 8 (edges 8 a.first (l + 1)) a.state a.map.now) end

pub returns : goal.returns
returns c =
    let a = c.args in
    let end : c.min-end.result ≡ a.first / 8 * 8 + 7 = omega (arith, c.min-end.ensures, c.if-last-end.false) in
    let front = c.update_edge.ensures ∙ ap (λ (l : ℕ). written 8 (edges 8 a.first (l + 1)) a.state a.map.now) end in
    c.update_edge-2.ensures
    ∙ ap (written 8 (edges 8 (a.last / 8 * 8) (a.last + 1)) a.state) front
    ∙ edges_written a.state a.map.now a.first a.last (omega (arith, end, c.if-last-end.false))
