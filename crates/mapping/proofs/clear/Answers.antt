use mathlib.Core.Path.{◌∙◌}
use Rattle.mapping.proofs.Marks.{all_cleared}
use Rattle.mapping.proofs.clear.Goals as goal

pub returns : goal.returns
returns c = c.fill_bytes.ensures ∙ all_cleared c.args.map.now (λ j h. (c.slice_known-1.given j).fits)
