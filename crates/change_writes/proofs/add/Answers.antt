use Rattle.overlay_table.specs.Overlays.{entry, add_words}
use Rattle.change_writes.proofs.Laws as laws
use Rattle.change_writes.proofs.add.Goals as goal

pub returns : goal.returns
returns c =
    let q = c.args.change in
    laws.put_overlays c.args.tables.now _ (λ o. add_words o (entry q.at q.previous q.flags 1 q.source)) q.vtl _ c.overlays_start-start.ensures c.add_in.ensures
