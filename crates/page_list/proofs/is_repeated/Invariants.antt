use mathlib.Core.Path.{◌≡◌}
use lib.ListN.{drop}
use Rattle.page_list.specs.Pages.{pages_of, repeats}
use Rattle.page_list.proofs.is_repeated.Given as goal

abbrev pub invariant-loop-i : goal.invariant-loop-i
invariant-loop-i l = repeats (drop l.i (pages_of l.list)) ≡ repeats (pages_of l.list)
