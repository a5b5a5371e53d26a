use mathlib.Core.Path.{◌≡◌}
use Prim.Native.Nat.{◌-◌}
use Rattle.default_change.specs.Pieces.{wanted, piece_of}
use Rattle.default_change.proofs.piece_between.Given as goal

abbrev pub invariant-loop-at : goal.invariant-loop-at
invariant-loop-at l = piece_of (wanted l.private l.overlays) l.from l.end ≡ piece_of (wanted l.private l.overlays) l.at l.end

abbrev pub decreases-loop-at : goal.decreases-loop-at
decreases-loop-at l = l.end - l.at
