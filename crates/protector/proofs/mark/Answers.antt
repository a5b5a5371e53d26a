use mathlib.Core.Path.{sym}
use mathlib.Core.Bool.{true}
use Rattle.request_pages.proofs.Runs.{put_none}
use Rattle.protector.proofs.mark.Goals as goal

pub returns-then-to-from : goal.returns-then-to-from
returns-then-to-from c = let a = c.args in sym (put_none a.pages.now a.to a.from true a.map.now c.if-to-from.true)
