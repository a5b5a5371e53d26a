-- The number of overlay pages inside the run falls.
use Rattle.default_change.specs.Pieces.{overlay_pages, inside}
use Rattle.default_change.proofs.+first_piece.Given as goal

abbrev pub decreases-first_piece : goal.decreases-first_piece
decreases-first_piece l = inside (overlay_pages l.overlays.now) l.first l.count
