use mathlib.Core.Path.{◌≡◌}
use Prim.Native.Nat.{◌+◌}
use lib.ListN.{drop}
use Rattle.layout.specs.Layout.{entries_of, reach, touching}
use Rattle.layout.proofs.span_at.Given as goal

abbrev pub invariant-loop-next : goal.invariant-loop-next
invariant-loop-next l =
    let es = entries_of l.ram in
    (reach l.end (drop l.next es) ≡ reach l.first.end (drop (l.i + 1) es))
    × (l.next + touching l.end (drop l.next es) ≡ l.i + 1 + touching l.first.end (drop (l.i + 1) es))
