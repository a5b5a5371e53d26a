use native.Mathlib.Omega.{arith}
use mathlib.Core.Path.{sym, ap, ◌∙◌}
use Prim.Native.Nat.{ℕ, ◌+◌}
use lib.Dec.{eqb}
use Rattle.page_list.specs.Runs.{part, neighbours}
use Rattle.page_list.proofs.RunLaws as laws
use Rattle.page_list.proofs.run_at.Goals as goal

pub returns-then-n-from : goal.returns-then-n-from
returns-then-n-from c = let a = c.args in laws.run_none a.t.now a.n a.from c.if-n-from.true

pub loop-i-init : goal.loop-i-init
loop-i-init c = (omega arith, omega arith, omega arith)

pub returns-then-not-is_neighbour : goal.returns-then-not-is_neighbour
returns-then-not-is_neighbour c =
    let a = c.args in
    let t = a.t.now in
    let h = c.loop-i in
    let least = c.min-stop.ensures in
    let e = ap (λ (q : ℕ). eqb q (h.p + 1)) (sym c.word_at-q.ensures) ∙ sym c.is_neighbour.ensures ∙ c.if-not-is_neighbour.true in
    let z = laws.apart t a.n h.i h.p (omega arith) (omega arith) e in
    let f = ap (λ (q : ℕ). neighbours q (part t a.n (a.from + 1))) c.word_at-first.ensures in
    laws.run_here t a.n a.from _ _ (omega arith) c.word_at-first.ensures (omega (arith, z, f, h.invariant.2))

pub loop-i-preserved : goal.loop-i-preserved
loop-i-preserved c =
    let a = c.args in
    let t = a.t.now in
    let h = c.loop-i in
    let least = c.min-stop.ensures in
    let e = ap (λ (q : ℕ). eqb q (h.p + 1)) (sym c.word_at-q.ensures) ∙ sym c.is_neighbour.ensures ∙ c.if-not-is_neighbour.false in
    let k = laws.next t a.n h.i h.p (omega arith) (omega arith) e in
    let f = ap (λ (q : ℕ). neighbours q (part t a.n (h.i + 1))) c.word_at-q.ensures in
    (omega arith, omega arith, omega (arith, k, f, h.invariant.2))

pub returns : goal.returns
returns c =
    let a = c.args in
    let t = a.t.now in
    let h = c.loop-i in
    let least = c.min-stop.ensures in
    let z = laws.over t a.n h.i h.p (omega arith) in
    let f = ap (λ (q : ℕ). neighbours q (part t a.n (a.from + 1))) c.word_at-first.ensures in
    laws.run_here t a.n a.from _ _ (omega arith) c.word_at-first.ensures (omega (arith, z, f, h.invariant.2))
