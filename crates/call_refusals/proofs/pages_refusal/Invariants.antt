use mathlib.Core.Path.{◌≡◌}
use lib.ListN.{drop}
use Rattle.layout.specs.Layout.{entries_of}
use Rattle.page_list.specs.Pages.{pages_of}
use Rattle.call_refusals.specs.Refusals.{page_refusal, first_refusal}
use Rattle.call_refusals.proofs.pages_refusal.Given as goal

abbrev pub invariant-loop-i : goal.invariant-loop-i
invariant-loop-i l =
    first_refusal (page_refusal (entries_of l.ram) l.overlays l.locks l.share) (drop l.i (pages_of l.list)) ≡ first_refusal (page_refusal (entries_of l.ram) l.overlays l.locks l.share) (pages_of l.list)
