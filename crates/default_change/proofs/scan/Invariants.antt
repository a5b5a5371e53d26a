use mathlib.Core.Path.{◌≡◌}
use Prim.Native.Nat.{◌+◌, ◌-◌}
use Rattle.default_change.specs.Pieces.{span, is}
use Rattle.default_change.proofs.scan.Given as goal

abbrev pub invariant-loop-p : goal.invariant-loop-p
invariant-loop-p l = l.from + span (is l.state l.map) l.from (l.end - l.from) ≡ l.p + span (is l.state l.map) l.p (l.end - l.p)

abbrev pub decreases-loop-p : goal.decreases-loop-p
decreases-loop-p l = l.end - l.p
