use Rattle.change_writes.proofs.Bounds.{pages_end_lem}
use Rattle.protection_entries.proofs.protection_step.Goals as goal

pub returns-clause-count_bound : goal.returns-clause-count_bound
returns-clause-count_bound c = rw c.start_pages.ensures (pages_end_lem _ _ _ 0 (λ j. (c.type_inv.pages j).fits))
