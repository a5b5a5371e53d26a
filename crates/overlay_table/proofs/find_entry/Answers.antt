use native.Mathlib.Omega.{arith}
use mathlib.Core.Path.{◌≡◌, sym, ap, ap₂, ◌∙◌}
use Prim.Native.Nat.{ℕ, ◌+◌, ◌-◌, ◌*◌}
use Rattle.overlay_table.specs.Overlays.{place_from}
use Rattle.overlay_table.specs.Search.{key_of, place_for}
use Rattle.overlay_table.proofs.Laws as laws
use Rattle.overlay_table.proofs.find_entry.Goals as goal

pub loop-load-init : goal.loop-load-init
loop-load-init c =
    let a = c.args in
    let n = c.entry_count-count.result in
    let all : n - 4 * 0 ≡ n = omega arith in
    let start : 1 + 20 * 0 ≡ 1 = omega arith in
    ap₂ (λ (k o : ℕ). place_for a.table.now k o (key_of a.gpn)) all start
    ∙ laws.agrees a.table.now a.gpn n 1 ∙ ap (λ (k : ℕ). place_from a.table.now k 1 a.gpn) c.entry_count-count.ensures

pub returns-in-Some : goal.returns-in-Some
returns-in-Some c =
    let a = c.args in
    let h = c.loop-load in
    let found = c.in-Some.ensures in (
      found.0
          ∙ laws.split_hit a.table.now (key_of a.gpn) 4 (c.entry_count-count.result - 4 * h.load) (1 + 20 * h.load) (omega arith) (λ z. omega (arith, found.0, found.1, z))
          ∙ h.invariant,
      omega (arith, found.1),
    )

pub loop-load-preserved : goal.loop-load-preserved
loop-load-preserved c =
    let a = c.args in
    let h = c.loop-load in
    let n = c.entry_count-count.result in
    let left : n - 4 * (h.load + 1) ≡ n - 4 * h.load - 4 = omega arith in
    let next : 1 + 20 * (h.load + 1) ≡ 1 + 20 * h.load + 5 * 4 = omega arith in
    ap₂ (λ (k o : ℕ). place_for a.table.now k o (key_of a.gpn)) left next
    ∙ sym (laws.split_miss a.table.now (key_of a.gpn) 4 (n - 4 * h.load) (1 + 20 * h.load) (omega arith) (omega arith) c.in_default.ensures)
    ∙ h.invariant
