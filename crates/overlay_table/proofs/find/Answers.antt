use native.Mathlib.Omega.{arith}
use mathlib.Core.Path.{◌≡◌, sym, ap₂, ◌∙◌}
use Prim.Native.Nat.{ℕ, ◌+◌, ◌-◌, ◌*◌}
use Rattle.overlay_table.specs.Overlays.{used, place_from}
use Rattle.overlay_table.proofs.Laws as laws
use Rattle.overlay_table.proofs.find.Goals as goal

pub returns-then-gpn-word_at : goal.returns-then-gpn-word_at
returns-then-gpn-word_at c =
    let a = c.args in
    let h = c.loop-index in (
      sym (laws.place_hit a.table.now (1 + 5 * h.index) a.gpn _ (used a.table.now - h.index) (omega arith) c.word_at.ensures c.if-gpn-word_at.true) ∙ h.invariant,
      omega arith,
    )

pub loop-index-preserved : goal.loop-index-preserved
loop-index-preserved c =
    let a = c.args in
    let h = c.loop-index in
    let left : used a.table.now - (h.index + 1) ≡ used a.table.now - h.index - 1 = omega arith in
    let next : 1 + 5 * (h.index + 1) ≡ 1 + 5 * h.index + 5 = omega arith in
    ap₂ (λ (k o : ℕ). place_from a.table.now k o a.gpn) left next
    ∙ sym (laws.place_miss a.table.now (1 + 5 * h.index) a.gpn _ (used a.table.now - h.index) (omega arith) c.word_at.ensures c.if-gpn-word_at.false)
    ∙ h.invariant

pub returns : goal.returns
returns c =
    let a = c.args in
    let h = c.loop-index in
    sym h.invariant ∙ laws.place_end a.table.now (1 + 5 * h.index) a.gpn 0 (used a.table.now - h.index) (omega arith)
