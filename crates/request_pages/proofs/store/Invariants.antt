use mathlib.Core.Path.{◌≡◌}
use lib.ListN.{length, take}
use Rattle.page_list.specs.Pages.{pages_of}
use Rattle.request_pages.specs.Request.{pick, table_of, wanted}
use Rattle.request_pages.proofs.store.Given as goal

abbrev pub invariant-loop-i : goal.invariant-loop-i
invariant-loop-i l =
    (l.stored ≡ length (pick (wanted l.shared l.share) (take l.i (pages_of l.list)))) × (l.pages ≡ table_of (wanted l.shared l.share) (take l.i (pages_of l.list)) l.initial.pages)
