use Rattle.protector.specs.Writes.{without_page}
use Rattle.change_writes.proofs.Laws as laws
use Rattle.change_writes.proofs.remove.Goals as goal

pub returns : goal.returns
returns c =
    let q = c.args.change in
    laws.put_overlays c.args.tables.now _ (λ o. without_page o q.at) q.vtl _ c.overlays_start-start.ensures c.remove_in.ensures
