use mathlib.Core.Path.{◌≡◌}
use Prim.Native.Nat.{◌-◌}
use Rattle.mapping.specs.Maps.{perms_lent, same_maps}
use Rattle.request_pages.specs.Request.{put_flags}
use Rattle.request_pages.proofs.update_permissions.Given as goal

abbrev pub invariant-loop-i : goal.invariant-loop-i
invariant-loop-i l =
    same_maps l.initial.maps l.maps
    × (put_flags l.pages l.i l.to l.flags (perms_lent l.maps) ≡ put_flags l.pages l.from l.to l.flags (perms_lent l.initial.maps))

abbrev pub decreases-loop-i : goal.decreases-loop-i
decreases-loop-i l = l.stop - l.i
