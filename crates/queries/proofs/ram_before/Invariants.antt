use mathlib.Core.Path.{◌≡◌}
use Prim.Native.Nat.{◌+◌}
use lib.ListN.{drop}
use Rattle.layout.specs.Layout.{entries_of, is_ram}
use Rattle.page_list.specs.Pages.{pages_of}
use Rattle.request_pages.specs.Request.{stop_at}
use Rattle.queries.proofs.ram_before.Given as goal

abbrev pub invariant-loop-i : goal.invariant-loop-i
invariant-loop-i l =
    l.i + stop_at (is_ram (entries_of l.ram)) (drop l.i (pages_of l.list)) ≡ stop_at (is_ram (entries_of l.ram)) (pages_of l.list)
