use Prim.Native.Nat.{◌+◌}
use Rattle.bitmap.proofs.Steps.{filled_written}
use Rattle.bitmap.proofs.update_filled.Goals as goal

pub returns : goal.returns
returns c =
    let a = c.args in
    cc (filled_written a.state a.map.now a.first (a.last + 1))
