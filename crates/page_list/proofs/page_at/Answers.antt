use native.Mathlib.Omega.{arith}
use mathlib.Core.Path.{sym, ◌∙◌}
use Rattle.page_list.specs.Pages.{number_of, number_at}
use Rattle.page_list.proofs.Laws as laws
use Rattle.page_list.proofs.page_at.Goals as goal

pub returns-then-k-list : goal.returns-then-k-list
unfolding number_at number_of
returns-then-k-list c = let a = c.args in c.from_le_bytes.ensures ∙ omega arith ∙ sym (laws.page_in a.list.now a.i c.if-k-list.true)

pub returns-else-k-list : goal.returns-else-k-list
returns-else-k-list c = let a = c.args in laws.page_past a.list.now a.i c.if-k-list.false
