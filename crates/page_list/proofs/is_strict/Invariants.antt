use mathlib.Core.Path.{◌≡◌}
use lib.ListN.{drop}
use Rattle.page_list.specs.Pages.{pages_of, steps_from, strict}
use Rattle.page_list.proofs.is_strict.Given as goal

abbrev pub invariant-loop-i : goal.invariant-loop-i
invariant-loop-i l = steps_from l.up l.p (drop l.i (pages_of l.list)) ≡ strict l.up (pages_of l.list)
