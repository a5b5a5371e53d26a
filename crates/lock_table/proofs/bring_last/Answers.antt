use Rattle.lock_table.proofs.Laws as laws
use Rattle.lock_table.proofs.bring_last.Goals as goal

pub returns-else-end-last : goal.returns-else-end-last
returns-else-end-last c = let a = c.args in laws.last_there a.table.now a.end a.last a.to c.if-end-last.false
