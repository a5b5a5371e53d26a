use Rattle.std.proofs.Common.{◌≡◌, fold, ◌∙◌, rules}
use Rattle.recording.specs.Digest.{digest_word}
use Rattle.recording.proofs.Laws.{digest_fold}
use Rattle.recording.proofs.digest.words.Goals as goal

pub returns : goal.returns
returns c = let e : c.fold.result ≡ fold digest_word c.args.h c.args.run.now = search rules in e ∙ digest_fold c.args.h c.args.run.now
