use Rattle.std.proofs.Common.{sym}
use lib.Seq.{set_out}
use Rattle.replay.proofs.tally.bump.Goals as goal

pub returns-else-k-tally : goal.returns-else-k-tally
returns-else-k-tally c = sym (set_out c.args.tally.now c.args.i _ c.if-k-tally.false)
