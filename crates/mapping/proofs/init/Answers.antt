use lib.ListN.{length}
use Rattle.layout.specs.Layout.{entries_of}
use Rattle.mapping.proofs.Marks.{init_set, init_clear}
use Rattle.mapping.proofs.init.Goals as goal

pub returns-then-state : goal.returns-then-state
returns-then-state c =
    let a = c.args in init_set (entries_of a.ram.now) a.state (length a.map.now) _ _ c.if-state.true c.clear.ensures c.set_ram.ensures

pub returns-else-state : goal.returns-else-state
returns-else-state c = let a = c.args in init_clear (entries_of a.ram.now) a.state (length a.map.now) _ c.if-state.false c.clear.ensures
