use Rattle.overlay_table.specs.Overlays.{count_words}
use Rattle.change_writes.proofs.Laws as put
use Rattle.overlay_entries.proofs.set_ref_count.Goals as goal

pub returns : goal.returns
returns c =
    let a = c.args in put.put_overlays a.tables.now _ (λ o. count_words o a.place a.count) a.vtl _ c.overlays_start-start.ensures c.set_count.ensures
