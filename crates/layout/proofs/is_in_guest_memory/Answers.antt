use mathlib.Core.Path.{ap₂, ◌∙◌}
use lib.Dec.{ltb}
use Rattle.layout.specs.Layout.{entries_of}
use Rattle.layout.proofs.Laws as laws
use Rattle.layout.proofs.is_in_guest_memory.Goals as goal

pub returns : goal.returns
returns c =
    let a = c.args in
    ap₂ ltb c.entry_of.ensures c.entry_count.ensures ∙ laws.place_ram (entries_of a.ram.now) a.gpn
