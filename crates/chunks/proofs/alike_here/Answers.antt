use native.Mathlib.Omega.{arith}
use mathlib.Core.Path.{sym, ◌∙◌}
use Rattle.chunks.proofs.Laws as laws
use Rattle.chunks.proofs.alike_here.Goals as goal

pub returns-then-is_alike_word : goal.returns-then-is_alike_word
returns-then-is_alike_word c =
    let a = c.args in
    laws.alike_word a.registered.now a.failed.now a.set a.chunk a.to c.if-chunk-eq0.true (omega arith) (sym c.is_alike_word.ensures ∙ c.if-is_alike_word.true)
