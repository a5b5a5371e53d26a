use native.Mathlib.Omega.{arith}
use mathlib.Core.Path.{sym, ◌∙◌}
use Rattle.lock_table.proofs.Laws as laws
use Rattle.lock_table.proofs.is_among.Goals as goal

pub returns-then-gpn-word_at : goal.returns-then-gpn-word_at
returns-then-gpn-word_at c =
    let a = c.args in
    let h = c.loop-i in
    let least = c.min-end.ensures in
    sym (laws.among_hit a.table.now h.i a.to a.gpn _ (omega arith) (omega arith) c.word_at.ensures c.if-gpn-word_at.true) ∙ h.invariant

pub loop-i-preserved : goal.loop-i-preserved
loop-i-preserved c =
    let a = c.args in
    let h = c.loop-i in
    let least = c.min-end.ensures in
    sym (laws.among_miss a.table.now h.i a.to a.gpn _ (omega arith) (omega arith) c.word_at.ensures c.if-gpn-word_at.false) ∙ h.invariant

pub returns : goal.returns
returns c =
    let a = c.args in
    let h = c.loop-i in
    sym (laws.among_end a.table.now h.i a.to a.gpn (omega (arith, c.min-end.ensures))) ∙ h.invariant
