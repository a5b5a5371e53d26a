use mathlib.Core.Path.{ap}
use Rattle.playback.specs.Buffers.{replied, no_buffers}
use Rattle.playback.proofs.buffers.nothing.Goals as goal

pub returns : goal.returns
returns c = ap (replied no_buffers) c.finished.ensures
