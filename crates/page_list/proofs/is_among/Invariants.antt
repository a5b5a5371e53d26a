use mathlib.Core.Path.{◌≡◌}
use lib.ListN.{drop}
use Rattle.page_list.specs.Pages.{pages_of, among}
use Rattle.page_list.proofs.is_among.Given as goal

abbrev pub invariant-loop-i : goal.invariant-loop-i
invariant-loop-i l = among (drop l.i (pages_of l.list)) l.p ≡ among (drop l.from (pages_of l.list)) l.p
