use native.Mathlib.Omega.{arith}
use mathlib.Core.Path.{sym, ap, ◌∙◌}
use Prim.Native.Nat.{ℕ}
use Rattle.page_list.specs.Pages.{pages_of}
use Rattle.queries.specs.Queries.{visibilities}
use Rattle.laws.specs.Bools.{digit}
use Rattle.bitmap.specs.Pages.{bit_at}
use Rattle.queries.proofs.Laws as laws
use Rattle.queries.proofs.fill.Goals as goal

pub loop-i-init : goal.loop-i-init
loop-i-init c = let a = c.args in laws.filled_none (visibilities a.shared.now (pages_of a.list.now)) a.out.now

pub loop-i-preserved : goal.loop-i-preserved
loop-i-preserved c =
    let a = c.args in
    let ps = pages_of a.list.now in
    let bs = visibilities a.shared.now ps in
    let h = c.loop-i in
    let n = c.page_count.ensures in
    let l = c.min-end.ensures in
    let g = laws.count_visibilities a.shared.now ps in
    laws.filled_more bs a.out.now h.out h.i _ h.invariant (omega (arith, n, l, g)) (omega (arith, l))
    (c.shared_byte.ensures ∙ ap (λ (p : ℕ). digit (bit_at 8 a.shared.now p)) c.page_at.ensures ∙ sym (laws.visibility_at a.shared.now ps h.i (omega (arith, n, l))))

pub returns : goal.returns
returns c =
    let a = c.args in
    let ps = pages_of a.list.now in
    let bs = visibilities a.shared.now ps in
    let h = c.loop-i in
    let n = c.page_count.ensures in
    let l = c.min-end.ensures in
    let g = laws.count_visibilities a.shared.now ps in
    h.invariant ∙ laws.filled_all bs a.out.now h.i (omega (arith, n, l, g))
