use Rattle.change_writes.proofs.Bounds.{ram_ends}
use Rattle.protection_entries.proofs.default_step.Goals as goal

pub returns-clause-count_bound : goal.returns-clause-count_bound
returns-clause-count_bound c = rw c.start_ram.ensures (ram_ends _ _ _ c.first_piece-piece.ensures.count_bound)
