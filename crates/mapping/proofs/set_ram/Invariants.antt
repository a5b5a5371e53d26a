-- The invariant: the RAM of the entries from `i` on is still to be set.
use mathlib.Core.Bool.{true}
use mathlib.Core.Path.{◌≡◌}
use lib.ListN.{drop}
use Rattle.bitmap.specs.Pages.{written}
use Rattle.layout.specs.Layout.{entries_of, is_ram}
use Rattle.mapping.proofs.set_ram.Given as goal

abbrev pub invariant-loop-i : goal.invariant-loop-i
invariant-loop-i l =
    written 8 (is_ram (drop l.i (entries_of l.ram))) true l.map ≡ written 8 (is_ram (entries_of l.ram)) true l.initial.map
