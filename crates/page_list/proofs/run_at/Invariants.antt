use mathlib.Core.Path.{◌≡◌}
use Prim.Native.Nat.{suc, ◌+◌, ◌≤◌, ◌<◌, max}
use Rattle.page_list.specs.Runs.{part, neighbours}
use Rattle.page_list.proofs.run_at.Given as goal

abbrev pub invariant-loop-i : goal.invariant-loop-i
invariant-loop-i l =
    (l.from < l.i) × (l.i ≤ max l.stop (l.from + 1)) × (l.i + neighbours l.p (part l.t l.n l.i) ≡ l.from + suc (neighbours l.first (part l.t l.n (l.from + 1))))
