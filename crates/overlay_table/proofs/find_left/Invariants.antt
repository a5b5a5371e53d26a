use mathlib.Core.Path.{◌≡◌}
use Prim.Native.Nat.{◌+◌, ◌-◌, ◌*◌}
use Rattle.overlay_table.specs.Search.{place_for}
use Rattle.overlay_table.proofs.find_left.Given as goal

abbrev pub invariant-loop-index : goal.invariant-loop-index
invariant-loop-index l = place_for l.table (l.count - l.index) (l.from + 5 * l.index) l.key ≡ place_for l.table l.count l.from l.key
