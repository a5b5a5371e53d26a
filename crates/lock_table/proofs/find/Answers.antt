use native.Mathlib.Omega.{arith}
use mathlib.Core.Path.{◌≡◌, sym, ap, ◌∙◌}
use Prim.Native.Nat.{ℕ, ◌+◌}
use Rattle.page_list.specs.Pages.{pages_of}
use Rattle.lock_table.proofs.Laws as laws
use Rattle.lock_table.proofs.find.Goals as goal

pub returns-then-is_same : goal.returns-then-is_same
returns-then-is_same c =
    let a = c.args in let h = c.loop-k in let ps = pages_of a.list.now in
    let to = ap (λ (n : ℕ). 65 + n) c.end_at-to.ensures in
    (sym (laws.equal_hit a.table.now a.n h.k h.from _ ps h.invariant.0 to (omega arith) (sym c.is_same.ensures ∙ c.if-is_same.true)) ∙ h.invariant.1, omega arith)

pub loop-k-preserved : goal.loop-k-preserved
loop-k-preserved c =
    let a = c.args in let h = c.loop-k in let ps = pages_of a.list.now in
    let to = ap (λ (n : ℕ). 65 + n) c.end_at-to.ensures in (
      laws.next_from a.table.now a.n h.k h.from _ ps h.invariant.0 to,
      sym (laws.equal_miss a.table.now a.n h.k h.from _ ps h.invariant.0 to (omega arith) (sym c.is_same.ensures ∙ c.if-is_same.false)) ∙ h.invariant.1,
    )

pub returns : goal.returns
returns c =
    let a = c.args in
    let h = c.loop-k in
    let last : h.k ≡ a.n = omega arith in
    sym h.invariant.1 ∙ laws.equal_end a.table.now a.n h.k (pages_of a.list.now) (omega arith) ∙ last
