use native.Mathlib.Omega.{arith}
use mathlib.Core.Path.{sym}
use Rattle.layout.proofs.Laws as laws
use Rattle.layout.proofs.entry_at.Goals as goal

pub returns-then-k-ram : goal.returns-then-k-ram
returns-then-k-ram c = sym (laws.entries_at c.args.ram.now c.args.i (omega arith))

pub returns-else-k-ram : goal.returns-else-k-ram
returns-else-k-ram c = sym (laws.entries_past c.args.ram.now c.args.i (omega arith))
