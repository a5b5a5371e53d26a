use mathlib.Core.Path.{◌≡◌}
use mathlib.Core.Bool.{true}
use lib.ListN.{take}
use Rattle.page_list.specs.Pages.{pages_of}
use Rattle.request_pages.specs.Request.{table_of}
use Rattle.request_pages.proofs.store_all.Given as goal

abbrev pub invariant-loop-i : goal.invariant-loop-i
invariant-loop-i l = (l.pages ≡ table_of (λ p. true) (take l.i (pages_of l.list)) l.initial.pages)
