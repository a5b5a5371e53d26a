use mathlib.Core.Path.{◌≡◌}
use Prim.Native.Nat.{◌+◌, ◌-◌, ◌*◌}
use Rattle.overlay_table.specs.Overlays.{used, place_from, place_of}
use Rattle.overlay_table.proofs.find.Given as goal

abbrev pub invariant-loop-index : goal.invariant-loop-index
invariant-loop-index l = place_from l.table (used l.table - l.index) (1 + 5 * l.index) l.gpn ≡ place_of l.table l.gpn
