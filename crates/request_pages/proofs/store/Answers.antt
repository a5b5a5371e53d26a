use native.Mathlib.Omega.{arith}
use mathlib.Core.Path.{refl, ap, ◌∙◌}
use Prim.Native.Nat.{◌<◌}
use lib.ListN.{length, take, length-take}
use Rattle.page_list.specs.Pages.{pages_of}
use Rattle.request_pages.specs.Request.{pick, wanted}
use Rattle.request_pages.proofs.Table as laws
use Rattle.request_pages.proofs.store.Goals as goal

pub loop-i-init : goal.loop-i-init
unfolding pick
loop-i-init c = (refl, laws.table_none _ c.args.pages.now)

pub store_one-stored-requires : goal.store_one-stored-requires
store_one-stored-requires c =
    let h = c.loop-i in
    let P = wanted c.args.shared.now c.args.share in
    let ps = pages_of c.args.list.now in
    let least = c.min-n.ensures in
    let count = c.page_count.ensures in
    let few : h.i < 512 = omega (arith, laws.pages_few c.args.list.now c.requires.1) in
    let l = length-take h.i ps in (
      omega (arith, h.invariant.0, laws.length_pick P (take h.i ps)),
      ap length h.invariant.1 ∙ laws.length_table P (take h.i ps) c.args.pages.now c.requires.0 (omega arith),
    )

pub loop-i-preserved : goal.loop-i-preserved
loop-i-preserved c =
    let h = c.loop-i in
    let P = wanted c.args.shared.now c.args.share in
    let ps = pages_of c.args.list.now in
    let one = c.store_one-stored in
    let e = c.page_at-gpn.ensures in
    let w = c.is_wanted.ensures in
    let least = c.min-n.ensures in
    let count = c.page_count.ensures in
    let in_list : h.i < length ps = omega arith in
    let few : h.i < 512 = omega (arith, laws.pages_few c.args.list.now c.requires.1) in (
      laws.count_more P ps h.i h.stored _ _ in_list e w h.invariant.0 one.result one.ensures.0,
      laws.table_more P ps h.i h.stored _ _ in_list e w h.invariant.0 h.pages c.args.pages.now one.new.pages c.requires.0 few h.invariant.1
          one.ensures.1,
    )
