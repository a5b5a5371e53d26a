use native.Mathlib.Omega.{arith}
use Rattle.mapping.specs.Maps.{perms}
use Rattle.change_writes.proofs.Laws as laws
use Rattle.change_writes.proofs.update_run.Goals as goal

pub returns-then-run-eq0-clause-value : goal.returns-then-run-eq0-clause-value
returns-then-run-eq0-clause-value c =
    let a = c.args in
    laws.none_permitted a.run a.flags (perms a.maps.now.read.now a.maps.now.write.now a.maps.now.kernel.now a.maps.now.user.now) c.if-run-eq0.true

pub returns-clause-value : goal.returns-clause-value
returns-clause-value c =
    let a = c.args in
    laws.run_permitted a.run a.flags (perms a.maps.now.read.now a.maps.now.write.now a.maps.now.kernel.now a.maps.now.user.now) _ _ (omega (arith, c.if-run-eq0.false)) c.update_permission_bitmaps.ensures.value
