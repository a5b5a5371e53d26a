use mathlib.Core.Path.{◌≡◌}
use Rattle.layout.specs.Layout.{entries_of}
use Prim.Native.Nat.{◌+◌, ◌-◌, ◌*◌}
use Rattle.overlay_table.specs.Overlays.{used}
use Rattle.default_change.specs.Renewed.{renewed_from, renewed}
use Rattle.default_change.proofs.update_previous_permissions.Given as goal

abbrev pub invariant-loop-index : goal.invariant-loop-index
invariant-loop-index l =
    renewed_from l.private (entries_of l.ram) l.bits l.overlays (used l.initial.overlays - l.index) (1 + 5 * l.index) ≡ renewed l.private (entries_of l.ram) l.bits l.initial.overlays
