use native.Mathlib.Omega.{arith}
use mathlib.Core.Path.{ap, ◌∙◌}
use Prim.Native.Nat.{ℕ}
use lib.ListN.{length}
use Rattle.page_list.specs.Pages.{pages_of}
use Rattle.request_pages.proofs.Table as laws
use Rattle.request_pages.proofs.store_all.Goals as goal

pub loop-i-init : goal.loop-i-init
loop-i-init c = laws.table_none _ c.args.pages.now

pub store_one-requires : goal.store_one-requires
store_one-requires c =
    let h = c.loop-i in
    let few = laws.pages_few c.args.list.now c.requires.1 in
    (omega (arith, c.page_count-i-end.ensures, few), ap (length {A = ℕ}) h.invariant ∙ laws.all_long (pages_of c.args.list.now) c.args.pages.now h.i c.requires.0 few)

pub loop-i-preserved : goal.loop-i-preserved
loop-i-preserved c =
    let h = c.loop-i in
    let count = c.page_count-i-end.ensures in
    let few = laws.pages_few c.args.list.now c.requires.1 in
    laws.all_more (pages_of c.args.list.now) h.i _ h.pages c.args.pages.now _ (omega arith) c.page_at.ensures c.requires.0 (omega (arith, few)) h.invariant c.store_one.ensures.1
