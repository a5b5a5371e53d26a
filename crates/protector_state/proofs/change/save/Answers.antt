use native.Mathlib.Omega.{arith}
use Rattle.protector_state.proofs.Changing as laws
use Rattle.protector_state.proofs.change.save.Goals as goal

pub returns : goal.returns
returns c =
    let a = c.args in laws.change_saved a.stage a.change a.state.now _ _ _ (omega arith) c.stage_number.ensures c.vtl_number.ensures c.vtl_number-2.ensures
