use mathlib.Core.Path.{◌≡◌}
use lib.ListN.{drop}
use Rattle.layout.specs.Layout.{entries_of, ordered}
use Rattle.layout.proofs.is_ordered.Given as goal

abbrev pub invariant-loop-i : goal.invariant-loop-i
invariant-loop-i l = ordered l.from (drop l.i (entries_of l.ram)) ≡ ordered 0 (entries_of l.ram)
