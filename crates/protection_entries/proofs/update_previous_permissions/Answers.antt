use Rattle.protector_state.specs.State.{entries_in}
use Rattle.default_change.specs.Renewed.{renewed}
use Rattle.change_writes.proofs.Laws as puts
use Rattle.protection_entries.proofs.update_previous_permissions.Goals as goal

pub returns : goal.returns
returns c =
    let a = c.args in
    puts.put_overlays a.tables.now _ (renewed a.private.now (entries_in a.state.now) a.flags) a.vtl _ c.overlays_start-start.ensures
    (rw (← c.ram_of-ram.ensures) c.update_previous_permissions.ensures)
