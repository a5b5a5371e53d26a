use mathlib.Core.Path.{◌≡◌}
use Prim.Native.Nat.{◌-◌}
use lib.ListN.{length}
use Rattle.lock_table.specs.Locks.{moved}
use Rattle.lock_table.proofs.move_ends.Given as goal

abbrev pub invariant-loop-k : goal.invariant-loop-k
invariant-loop-k l =
    (length l.table ≡ length l.initial.table) × (moved l.table (l.to - l.k) l.k l.less l.more ≡ moved l.initial.table (l.to - l.from) l.from l.less l.more)
