use mathlib.Core.Path.{◌≡◌}
use lib.ListN.{drop}
use Rattle.layout.specs.Layout.{entries_of}
use Rattle.default_change.specs.Pieces.{wanted, next_of}
use Rattle.default_change.proofs.next_piece.Given as goal

abbrev pub invariant-loop-i : goal.invariant-loop-i
invariant-loop-i l =
    next_of (wanted l.private l.overlays) (drop l.i (entries_of l.ram)) l.at ≡ next_of (wanted l.private l.overlays) (entries_of l.ram) l.at
