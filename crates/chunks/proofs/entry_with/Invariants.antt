use mathlib.Core.Path.{◌≡◌}
use lib.ListN.{drop}
use Rattle.layout.specs.Layout.{entries_of}
use Rattle.chunks.specs.Chunks.{entry_with}
use Rattle.chunks.proofs.entry_with.Given as goal

abbrev pub invariant-loop-i : goal.invariant-loop-i
invariant-loop-i l = entry_with l.range (drop l.i (entries_of l.ram)) ≡ entry_with l.range (entries_of l.ram)
