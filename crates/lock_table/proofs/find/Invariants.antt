use mathlib.Core.Path.{◌≡◌}
use Prim.Native.Nat.{◌+◌, ◌-◌}
use Rattle.page_list.specs.Pages.{pages_of}
use Rattle.lock_table.specs.Locks.{end_of, equal_from}
use Rattle.lock_table.proofs.find.Given as goal

abbrev pub invariant-loop-k : goal.invariant-loop-k
invariant-loop-k l =
    (l.from ≡ 65 + end_of l.table l.k) × (equal_from l.table (l.n - l.k) l.k (pages_of l.list) ≡ equal_from l.table l.n 0 (pages_of l.list))
