use Rattle.recording.specs.Digest.{digest_of}
use Rattle.playback.proofs.answers.fields.Goals as goal

pub returns : goal.returns
unfolding digest_of
returns c = cc
