use mathlib.Core.Path.{◌≡◌}
use Prim.Native.Nat.{◌+◌}
use lib.ListN.{drop}
use Rattle.page_list.specs.Pages.{pages_of}
use Rattle.request_pages.specs.Request.{stop_at, is_readable_and_writable}
use Rattle.request_pages.proofs.stop_at.Given as goal

abbrev pub invariant-loop-i : goal.invariant-loop-i
invariant-loop-i l =
    l.i + stop_at (is_readable_and_writable l.read l.write l.asked) (drop l.i (pages_of l.list)) ≡ stop_at (is_readable_and_writable l.read l.write l.asked) (pages_of l.list)
