use native.Mathlib.Omega.{arith}
use mathlib.Core.Path.{sym, ◌∙◌}
use Rattle.page_list.specs.Pages.{pages_of}
use Rattle.request_pages.specs.Request.{is_readable_and_writable}
use Rattle.request_pages.proofs.Table as laws
use Rattle.request_pages.proofs.stop_at.Goals as goal

pub returns-then-not-asked : goal.returns-then-not-asked
returns-then-not-asked c =
    let a = c.args in
    c.page_count-n.ensures
    ∙ sym (laws.stop_unasked a.read.now a.write.now a.asked (pages_of a.list.now) (c.if-not-asked.true))

pub returns-then-not-is_readable_and_writable : goal.returns-then-not-is_readable_and_writable
returns-then-not-is_readable_and_writable c =
    let a = c.args in
    let h = c.loop-i in
    let f = is_readable_and_writable a.read.now a.write.now a.asked in
    let count = c.page_count-n.ensures in
    let z = laws.stop_hit f (pages_of a.list.now) h.i _ _ (omega arith) c.page_at.ensures
    (laws.open_asked a.read.now a.write.now a.asked (c.if-not-asked.false) _ _ c.is_readable_and_writable.ensures) (c.if-not-is_readable_and_writable.true) in
    omega (arith, z, h.invariant)

pub loop-i-preserved : goal.loop-i-preserved
loop-i-preserved c =
    let a = c.args in
    let h = c.loop-i in
    let f = is_readable_and_writable a.read.now a.write.now a.asked in
    let count = c.page_count-n.ensures in
    let z = laws.stop_miss f (pages_of a.list.now) h.i _ _ (omega arith) c.page_at.ensures
    (laws.open_asked a.read.now a.write.now a.asked (c.if-not-asked.false) _ _ c.is_readable_and_writable.ensures) (c.if-not-is_readable_and_writable.false) in
    omega (arith, z, h.invariant)

pub returns : goal.returns
returns c =
    let a = c.args in
    let h = c.loop-i in
    let z = laws.stop_end (is_readable_and_writable a.read.now a.write.now a.asked) (pages_of a.list.now) h.i (omega (arith, c.page_count-n.ensures)) in
    omega (arith, z, h.invariant)
