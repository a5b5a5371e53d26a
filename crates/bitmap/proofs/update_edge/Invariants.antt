use mathlib.Core.Path.{◌≡◌}
use Prim.Native.Nat.{◌+◌}
use Rattle.laws.specs.Ranges.{between}
use Rattle.bitmap.specs.Pages.{written}
use Rattle.bitmap.proofs.update_edge.Given as goal

abbrev pub invariant-loop-k : goal.invariant-loop-k
invariant-loop-k l = l.map ≡ written 8 (between l.first (l.first + l.k)) l.state l.initial.map
