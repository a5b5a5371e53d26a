use borrow.Author.Rules.{rules}
use native.Mathlib.Omega.{arith}
use mathlib.Core.Path.{sym, ◌∙◌}
use Rattle.lock_table.proofs.Laws as laws
use Rattle.lock_table.proofs.move_ends.Goals as goal

pub loop-k-preserved : goal.loop-k-preserved
loop-k-preserved c =
    let a = c.args in let h = c.loop-k in
    (search rules, laws.move_more h.table a.to h.k a.less a.more _ _ _ (omega arith) c.end_at-end.ensures c.saturating_sub.ensures c.put.ensures ∙ h.invariant.1)

pub returns : goal.returns
returns c = let a = c.args in let h = c.loop-k in sym (laws.move_end h.table a.to h.k a.less a.more (omega arith)) ∙ h.invariant.1
