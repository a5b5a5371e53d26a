use lib.Dec.{lit<}
use Prim.Native.Nat.{◌%◌}
use native.Mathlib.Nat.{mod-lt}
use Rattle.laws.specs.Bools.{took, took_not}
use Rattle.bitmap.proofs.Bit.{put_bit}
use Rattle.bitmap.proofs.U64Word.with.Goals as goal
use Rattle.bitmap.proofs.U64Word.with.Goals.{then-state, else-state}

pub returns : goal.returns
returns c =
    let a = c.args in
    put_bit 64 a.self (a.place % 64) (mod-lt a.place (lit< tt)) a.state c.if-state.off
    (elim c.if-state.branch [
      | then-state w ↦ took _ _ _ _ w.if-state.true w.off-is
      | else-state w ↦ took_not _ _ _ _ w.if-state.false w.off-is
    ])
