use Prim.Native.Nat.{◌+◌}
use Rattle.bitmap.proofs.Steps.{run_one}
use Rattle.mapping.proofs.Marks.{permitted_is}
use Rattle.mapping.proofs.update_page.Goals as goal

pub returns-clause-value : goal.returns-clause-value
returns-clause-value c =
    let a = c.args in
    permitted_is a.gpn (a.gpn + 1) a.flags a.maps.now.read.now a.maps.now.write.now a.maps.now.kernel.now a.maps.now.user.now _ _ _ _
    (run_one 8 _ a.maps.now.read.now a.gpn _ c.set_page.ensures)
    (run_one 8 _ a.maps.now.write.now a.gpn _ c.set_page-2.ensures)
    (run_one 8 _ a.maps.now.kernel.now a.gpn _ c.set_page-3.ensures)
    (run_one 8 _ a.maps.now.user.now a.gpn _ c.set_page-4.ensures)
