use Rattle.change_writes.proofs.Bounds.{failed_ends}
use Rattle.change_writes.proofs.after_failed.Goals as goal

pub returns-clause-count_bound : goal.returns-clause-count_bound
returns-clause-count_bound c = rw c.failed.ensures (failed_ends _ _)
