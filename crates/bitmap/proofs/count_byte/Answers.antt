use Rattle.bitmap.proofs.Tally.{ones_tally}
use Rattle.bitmap.proofs.count_byte.Goals as goal

pub returns : goal.returns
returns c = ones_tally 8 c.args.x c.ranges.x.fits
