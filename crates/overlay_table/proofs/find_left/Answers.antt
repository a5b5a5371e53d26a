use native.Mathlib.Omega.{arith}
use mathlib.Core.Path.{◌≡◌, sym, ap₂, ◌∙◌}
use Prim.Native.Nat.{ℕ, ◌+◌, ◌-◌, ◌*◌}
use Rattle.overlay_table.specs.Search.{place_for}
use Rattle.overlay_table.proofs.Laws as laws
use Rattle.overlay_table.proofs.find_left.Goals as goal

pub returns-in-Some : goal.returns-in-Some
returns-in-Some c =
    let a = c.args in
    let h = c.loop-index in
    let found = c.in-Some.ensures in (
      found.0
          ∙ laws.split_hit a.table.now a.key 1 (a.count - h.index) (a.from + 5 * h.index) (omega arith) (λ z. omega (arith, found.0, found.1, z, c.requires.0))
          ∙ h.invariant,
      omega (arith, found.1, c.requires.0),
    )

pub loop-index-preserved : goal.loop-index-preserved
loop-index-preserved c =
    let a = c.args in
    let h = c.loop-index in
    let left : a.count - (h.index + 1) ≡ a.count - h.index - 1 = omega arith in
    let next : a.from + 5 * (h.index + 1) ≡ a.from + 5 * h.index + 5 * 1 = omega arith in
    ap₂ (λ (k o : ℕ). place_for a.table.now k o a.key) left next
    ∙ sym (laws.split_miss a.table.now a.key 1 (a.count - h.index) (a.from + 5 * h.index) (omega arith) (omega arith) c.in_default.ensures)
    ∙ h.invariant

pub returns : goal.returns
returns c =
    let a = c.args in
    let h = c.loop-index in
    sym h.invariant ∙ laws.for_end a.table.now a.key (a.count - h.index) (a.from + 5 * h.index) (omega arith)
