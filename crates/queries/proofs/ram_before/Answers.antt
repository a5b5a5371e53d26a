use native.Mathlib.Omega.{arith}
use Rattle.layout.specs.Layout.{entries_of, is_ram}
use Rattle.page_list.specs.Pages.{pages_of}
use Rattle.request_pages.proofs.Table.{stop_end, stop_hit, stop_miss}
use Rattle.queries.proofs.ram_before.Goals as goal

pub returns-then-not-is_in_guest_memory : goal.returns-then-not-is_in_guest_memory
returns-then-not-is_in_guest_memory c =
    let a = c.args in
    let f = is_ram (entries_of a.ram.now) in
    let ps = pages_of a.list.now in
    let h = c.loop-i in
    let z = stop_hit f ps h.i _ _ (omega (arith, c.page_count-count.ensures)) c.page_at-gpn.ensures c.is_in_guest_memory.ensures
    (c.if-not-is_in_guest_memory.true) in
    omega (arith, z, h.invariant)

pub loop-i-preserved : goal.loop-i-preserved
loop-i-preserved c =
    let a = c.args in
    let f = is_ram (entries_of a.ram.now) in
    let ps = pages_of a.list.now in
    let h = c.loop-i in
    let z = stop_miss f ps h.i _ _ (omega (arith, c.page_count-count.ensures)) c.page_at-gpn.ensures c.is_in_guest_memory.ensures
    (c.if-not-is_in_guest_memory.false) in
    omega (arith, z, h.invariant)

pub returns : goal.returns
returns c =
    let a = c.args in let f = is_ram (entries_of a.ram.now) in let ps = pages_of a.list.now in let h = c.loop-i in let z = stop_end f ps h.i (omega (arith, c.page_count-count.ensures)) in omega (arith, z, h.invariant)
