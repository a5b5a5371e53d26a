use Rattle.protector_state.proofs.Laws as laws
use Rattle.protector_state.proofs.ram_of.Goals as goal

pub returns : goal.returns
returns c = laws.ram_is c.args.state.now c.min-n.result c.requires c.min-n.ensures
