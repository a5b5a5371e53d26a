use mathlib.Core.Path.{ap, ◌∙◌}
use Prim.Native.Nat.{ℕ, ◌+◌}
use Rattle.mapping.specs.Maps.{perms, permitted}
use Rattle.mapping.proofs.Marks.{permitted_is}
use Rattle.mapping.proofs.update_permission_bitmaps.Goals as goal

pub returns-then-first-last-clause-value : goal.returns-then-first-last-clause-value
returns-then-first-last-clause-value c =
    let a = c.args in
    c.update_page.ensures.value ∙ ap (λ (x : ℕ). permitted a.first (x + 1) a.flags (perms a.maps.now.read.now a.maps.now.write.now a.maps.now.kernel.now a.maps.now.user.now)) c.if-first-last.true

pub returns-clause-value : goal.returns-clause-value
returns-clause-value c =
    let a = c.args in
    permitted_is a.first (a.last + 1) a.flags a.maps.now.read.now a.maps.now.write.now a.maps.now.kernel.now a.maps.now.user.now _ _ _ _
    c.update_run.ensures c.update_run-2.ensures c.update_run-3.ensures c.update_run-4.ensures
