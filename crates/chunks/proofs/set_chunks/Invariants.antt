use mathlib.Core.Path.{◌≡◌}
use mathlib.Core.Bool.{true}
use Prim.Native.Nat.{◌-◌, ◌≤◌, max}
use lib.ListN.{length}
use Rattle.abi.specs.Lengths.{word_bits}
use Rattle.laws.specs.Ranges.{between}
use Rattle.bitmap.specs.Pages.{written}
use Rattle.chunks.proofs.set_chunks.Given as goal

abbrev pub invariant-loop-c : goal.invariant-loop-c
invariant-loop-c l =
    (l.from ≤ l.c) × (l.c ≤ max l.from l.stop) × (length l.map ≡ length l.initial.map) × (l.map ≡ written word_bits (between l.from l.c) true l.initial.map)

abbrev pub decreases-loop-c : goal.decreases-loop-c
decreases-loop-c l = l.stop - l.c
