use mathlib.Core.Path.{◌≡◌}
use Prim.Native.Nat.{◌+◌}
use lib.ListN.{drop}
use Rattle.layout.specs.Layout.{entries_of, place_of}
use Rattle.layout.proofs.entry_of.Given as goal

abbrev pub invariant-loop-i : goal.invariant-loop-i
invariant-loop-i l = l.i + place_of (drop l.i (entries_of l.ram)) l.gpn ≡ place_of (entries_of l.ram) l.gpn
