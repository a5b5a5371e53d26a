use native.Mathlib.Omega.{arith}
use mathlib.Core.Path.{◌≡◌, sym, ap, ap₂, ◌∙◌}
use mathlib.Core.Bool.{not}
use Prim.Native.Nat.{ℕ, ◌+◌, ◌-◌, ◌*◌}
use Rattle.std.specs.Prelude.{find}
use Rattle.overlay_table.specs.Overlays.{used}
use Rattle.default_change.specs.Pieces.{pages_from, non, outside}
use Rattle.default_change.proofs.Split as laws
use Rattle.default_change.proofs.find_inside.Goals as goal

pub returns-then-not-is_outside : goal.returns-then-not-is_outside
returns-then-not-is_outside c =
    let a = c.args in
    let h = c.loop-i in
    sym (laws.find_hit (non (outside a.first a.count)) a.overlays.now c.word_at-p.result (used a.overlays.now - h.i) (1 + 5 * h.i) (omega arith) c.word_at-p.ensures
    (ap not (sym c.is_outside.ensures ∙ c.if-not-is_outside.true))) ∙ h.invariant

pub loop-i-preserved : goal.loop-i-preserved
loop-i-preserved c =
    let a = c.args in
    let h = c.loop-i in
    let n = used a.overlays.now in
    let left : n - (h.i + 1) ≡ n - h.i - 1 = omega arith in
    let next : 1 + 5 * (h.i + 1) ≡ 1 + 5 * h.i + 5 = omega arith in
    ap₂ (λ (k o : ℕ). find (non (outside a.first a.count)) (pages_from a.overlays.now k o)) left next
    ∙ sym (laws.find_miss (non (outside a.first a.count)) a.overlays.now c.word_at-p.result (n - h.i) (1 + 5 * h.i) (omega arith) c.word_at-p.ensures
    (ap not (sym c.is_outside.ensures ∙ c.if-not-is_outside.false))) ∙ h.invariant

pub returns : goal.returns
returns c =
    let a = c.args in
    let h = c.loop-i in
    sym (laws.find_end (non (outside a.first a.count)) a.overlays.now (used a.overlays.now - h.i) (1 + 5 * h.i) (omega arith)) ∙ h.invariant
