use native.Mathlib.Omega.{arith}
use mathlib.Core.Path.{refl}
use Rattle.page_list.specs.Pages.{pages_of}
use Rattle.lock_table.specs.Locks.{equal_from}
use Rattle.lock_table.proofs.Laws as laws
use Rattle.lock_table.proofs.unlock.Goals as goal

pub returns-in_default : goal.returns-in_default
returns-in_default c =
    let a = c.args in
    let ps = pages_of a.list.now in
    let none = c.in_default.ensures in
    laws.unlock_none a.table.now ps _ (equal_from a.table.now c.list_count-c.result 0 ps) c.list_count-c.ensures refl (omega (arith, none))

pub returns : goal.returns
returns c =
    let a = c.args in
    let found = c.in-Some.ensures in
    laws.unlock_made a.table.now (pages_of a.list.now) _ _ c.list_count-c.ensures found.0 found.1 _ c.remove_list.ensures
