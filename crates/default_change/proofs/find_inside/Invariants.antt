use mathlib.Core.Path.{◌≡◌}
use Prim.Native.Nat.{◌+◌, ◌-◌, ◌*◌}
use Rattle.std.specs.Prelude.{find}
use Rattle.overlay_table.specs.Overlays.{used}
use Rattle.default_change.specs.Pieces.{pages_from, overlay_pages, non, outside}
use Rattle.default_change.proofs.find_inside.Given as goal

abbrev pub invariant-loop-i : goal.invariant-loop-i
invariant-loop-i l =
    find (non (outside l.first l.count)) (pages_from l.overlays (used l.overlays - l.i) (1 + 5 * l.i)) ≡ find (non (outside l.first l.count)) (overlay_pages l.overlays)
