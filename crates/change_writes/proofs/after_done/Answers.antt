use Rattle.change_writes.proofs.Bounds.{done_ends}
use Rattle.change_writes.proofs.after_done.Goals as goal

pub returns-clause-count_bound : goal.returns-clause-count_bound
returns-clause-count_bound c = rw c.done.ensures (done_ends _ _ _ _ _ (λ i. (c.type_inv.pages i).fits) c.next_in-next.ensures.count_bound)
