use mathlib.Core.Path.{◌≡◌}
use Prim.Native.Nat.{◌+◌}
use lib.ListN.{drop}
use Rattle.page_list.specs.Runs.{part}
use Rattle.page_list.specs.Pages.{pages_of}
use Rattle.lock_table.specs.Locks.{same}
use Rattle.lock_table.proofs.is_same.Given as goal

abbrev pub invariant-loop-i : goal.invariant-loop-i
invariant-loop-i l = same (part l.table l.to (l.from + l.i)) (drop l.i (pages_of l.list)) ≡ same (part l.table l.to l.from) (pages_of l.list)
