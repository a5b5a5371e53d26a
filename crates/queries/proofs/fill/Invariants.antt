use mathlib.Core.Path.{◌≡◌}
use lib.ListN.{take}
use Rattle.page_list.specs.Pages.{pages_of}
use Rattle.queries.specs.Queries.{visibilities, filled_by}
use Rattle.queries.proofs.fill.Given as goal

abbrev pub invariant-loop-i : goal.invariant-loop-i
invariant-loop-i l =
    l.out ≡ filled_by (take l.i (visibilities l.shared (pages_of l.list))) l.initial.out
