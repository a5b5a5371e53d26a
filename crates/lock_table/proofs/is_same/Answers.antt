use native.Mathlib.Omega.{arith}
use mathlib.Core.Path.{sym, ◌∙◌}
use Rattle.page_list.specs.Pages.{pages_of}
use Rattle.lock_table.proofs.Laws as laws
use Rattle.lock_table.proofs.is_same.Goals as goal

pub returns-then-saturating_sub-n : goal.returns-then-saturating_sub-n
returns-then-saturating_sub-n c =
    let a = c.args in let ps = pages_of a.list.now in
    sym (laws.same_not a.table.now ps a.from a.to _ _ _ c.page_count-n.ensures c.min-end.ensures c.saturating_sub.ensures c.if-saturating_sub-n.true)

pub returns-then-word_at-page_at : goal.returns-then-word_at-page_at
returns-then-word_at-page_at c =
    let a = c.args in let ps = pages_of a.list.now in
    let h = c.loop-i in
    sym (laws.same_stop a.table.now ps a.from a.to _ _ _ c.page_count-n.ensures c.min-end.ensures c.saturating_sub.ensures c.if-saturating_sub-n.false h.i _ _ (omega arith) c.word_at.ensures c.page_at.ensures c.if-word_at-page_at.true) ∙ h.invariant

pub loop-i-preserved : goal.loop-i-preserved
loop-i-preserved c =
    let a = c.args in let ps = pages_of a.list.now in
    let h = c.loop-i in
    sym (laws.same_more a.table.now ps a.from a.to _ _ _ c.page_count-n.ensures c.min-end.ensures c.saturating_sub.ensures c.if-saturating_sub-n.false h.i _ _ (omega arith) c.word_at.ensures c.page_at.ensures c.if-word_at-page_at.false) ∙ h.invariant

pub returns : goal.returns
returns c =
    let a = c.args in let ps = pages_of a.list.now in
    let h = c.loop-i in
    sym (laws.same_end a.table.now ps a.from a.to _ _ _ c.page_count-n.ensures c.min-end.ensures c.saturating_sub.ensures c.if-saturating_sub-n.false h.i (omega arith)) ∙ h.invariant
