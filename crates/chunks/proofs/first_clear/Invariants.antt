use mathlib.Core.Path.{◌≡◌}
use Prim.Native.Nat.{◌-◌}
use Rattle.abi.specs.Lengths.{word_bits}
use Rattle.bitmap.specs.Pages.{bit_at}
use Rattle.chunks.specs.Chunks.{first_not}
use Rattle.chunks.proofs.first_clear.Given as goal

abbrev pub invariant-loop-c : goal.invariant-loop-c
invariant-loop-c l = first_not (bit_at word_bits l.map) l.c l.to ≡ first_not (bit_at word_bits l.map) l.from l.to

abbrev pub decreases-loop-c : goal.decreases-loop-c
decreases-loop-c l = l.to - l.c
