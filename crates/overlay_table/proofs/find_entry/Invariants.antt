use mathlib.Core.Path.{◌≡◌}
use Prim.Native.Nat.{◌+◌, ◌-◌, ◌*◌}
use Rattle.overlay_table.specs.Overlays.{place_of}
use Rattle.overlay_table.specs.Search.{place_for}
use Rattle.overlay_table.proofs.find_entry.Given as goal

abbrev pub invariant-loop-load : goal.invariant-loop-load
invariant-loop-load l = place_for l.table (l.count - 4 * l.load) (1 + 20 * l.load) l.key ≡ place_of l.table l.gpn
