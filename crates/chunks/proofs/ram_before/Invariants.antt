use mathlib.Core.Path.{◌≡◌}
use Prim.Native.Nat.{ℕ, ◌-◌, ◌^◌, min}
use lib.ListN.{drop}
use Rattle.layout.specs.Layout.{entries_of, spans}
use Rattle.chunks.specs.Chunks.{pieces, first_of}
use Rattle.chunks.proofs.ram_before.Given as goal

abbrev pub invariant-loop-i : goal.invariant-loop-i
invariant-loop-i l =
    (y : ℕ) → l.stop ≡ min y (2 ^ 64 - 1) → first_of (pieces l.from y (spans (drop l.i (entries_of l.ram)))) ≡ first_of (pieces l.from y (spans (entries_of l.ram)))

abbrev pub decreases-loop-i : goal.decreases-loop-i
decreases-loop-i l = l.n - l.i
