use Rattle.lock_table.proofs.Laws as laws
use Rattle.lock_table.proofs.remove_list.Goals as goal

pub returns : goal.returns
returns c =
    let a = c.args in
    laws.list_removed a.table.now a.c a.i _ _ _ _ _ _ c.end_of-start.ensures.value c.end_of-end.ensures.value c.end_of-last.ensures.value c.end_of-to.ensures.value
    c.saturating_sub.ensures c.saturating_sub-2.ensures _ _ _ _ _ c.bring_last.ensures c.remove_words.ensures c.move_ends.ensures c.put.ensures c.put-2.ensures
