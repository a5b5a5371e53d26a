use mathlib.Core.Path.{◌≡◌}
use Prim.Native.Nat.{◌-◌}
use lib.ListN.{length}
use Rattle.request_pages.specs.Request.{put}
use Rattle.request_pages.proofs.set_places.Given as goal

abbrev pub invariant-loop-i : goal.invariant-loop-i
invariant-loop-i l =
    (length l.map ≡ length l.initial.map) × (put l.pages l.i l.to l.state l.map ≡ put l.pages l.from l.to l.state l.initial.map)

abbrev pub decreases-loop-i : goal.decreases-loop-i
decreases-loop-i l = l.stop - l.i
