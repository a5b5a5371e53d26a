use Rattle.overlay_table.proofs.Laws as laws
use Rattle.overlay_table.proofs.find_loaded.Goals as goal

pub returns : goal.returns
returns c = laws.first _ _ _ c.find_in.ensures
