use native.Mathlib.Omega.{arith}
use Rattle.layout.proofs.Laws as laws
use Rattle.layout.proofs.entry_count.Goals as goal

pub returns : goal.returns
returns c = omega (arith, laws.entries_count c.args.ram.now)
