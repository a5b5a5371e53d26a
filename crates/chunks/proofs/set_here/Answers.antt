use native.Mathlib.Omega.{arith}
use mathlib.Core.Path.{sym, ◌∙◌}
use Rattle.chunks.proofs.Laws as laws
use Rattle.chunks.proofs.set_here.Goals as goal

pub returns-then-word_at : goal.returns-then-word_at
returns-then-word_at c =
    laws.set_word c.args.map.now c.args.chunk c.args.to c.if-chunk-eq0.true (omega arith) (sym c.word_at.ensures ∙ c.if-word_at.true)
