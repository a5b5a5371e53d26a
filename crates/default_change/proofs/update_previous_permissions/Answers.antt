use native.Mathlib.Omega.{arith}
use mathlib.Core.Path.{◌≡◌, sym, ap₂, ◌∙◌}
use Prim.Native.Nat.{ℕ, ◌+◌, ◌-◌, ◌*◌}
use Rattle.layout.specs.Layout.{entries_of}
use Rattle.overlay_table.specs.Overlays.{used}
use Rattle.default_change.specs.Renewed.{renewed_from}
use Rattle.default_change.proofs.Renewal as laws
use Rattle.default_change.proofs.update_previous_permissions.Goals as goal

pub loop-index-preserved : goal.loop-index-preserved
loop-index-preserved c =
    let a = c.args in
    let h = c.loop-index in
    let n = used a.overlays.now in
    let left : n - (h.index + 1) ≡ n - h.index - 1 = omega arith in
    let next : 1 + 5 * (h.index + 1) ≡ 1 + 5 * h.index + 5 = omega arith in
    ap₂ (λ (k o : ℕ). renewed_from a.private.now (entries_of a.ram.now) a.bits c.update_previous_at.new.overlays k o) left next
    ∙ laws.renew_more a.private.now (entries_of a.ram.now) a.bits (n - h.index) (1 + 5 * h.index) h.overlays _ (omega arith) c.update_previous_at.ensures
    ∙ h.invariant

pub returns : goal.returns
returns c =
    let a = c.args in
    let h = c.loop-index in
    sym (laws.renew_end a.private.now (entries_of a.ram.now) a.bits (used a.overlays.now - h.index) (1 + 5 * h.index) h.overlays (omega arith)) ∙ h.invariant
