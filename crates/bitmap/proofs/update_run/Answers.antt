use Prim.Native.Nat.{◌+◌}
use lib.Dec.{lit<}
use Rattle.bitmap.proofs.Steps.{edges_then_filled}
use Rattle.bitmap.proofs.update_run.Goals as goal

pub returns : goal.returns
returns c =
    let a = c.args in
    cc (edges_then_filled 8 a.first (a.last + 1) a.state a.map.now (lit< tt))
