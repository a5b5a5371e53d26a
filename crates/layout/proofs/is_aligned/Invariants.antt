use mathlib.Core.Path.{◌≡◌}
use lib.ListN.{drop}
use Rattle.layout.specs.Layout.{entries_of, aligned}
use Rattle.layout.proofs.is_aligned.Given as goal

abbrev pub invariant-loop-i : goal.invariant-loop-i
invariant-loop-i l = aligned (drop l.i (entries_of l.ram)) ≡ aligned (entries_of l.ram)
