use mathlib.Core.Path.{◌≡◌}
use Prim.Native.Nat.{◌+◌}
use lib.ListN.{length, drop}
use lib.Seq.{sets}
use Rattle.page_list.specs.Pages.{pages_of}
use Rattle.lock_table.proofs.put_pages.Given as goal

abbrev pub invariant-loop-i : goal.invariant-loop-i
invariant-loop-i l =
    (length l.table ≡ length l.initial.table) × (sets l.table (l.place + l.i) (drop l.i (pages_of l.list)) ≡ sets l.initial.table l.place (pages_of l.list))
