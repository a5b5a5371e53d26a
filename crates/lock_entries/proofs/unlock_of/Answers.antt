use mathlib.Core.Path.{ap, ◌∙◌}
use mathlib.Core.List.{List}
use Prim.Native.Nat.{ℕ}
use Rattle.page_list.specs.Pages.{pages_of}
use Rattle.lock_table.specs.Locks.{unlock_code, unlock_words}
use Rattle.lock_entries.proofs.Laws as laws
use Rattle.lock_entries.proofs.unlock_of.Goals as goal

pub returns : goal.returns
returns c =
    let a = c.args in
    let ps = pages_of a.list.now in
    let begins = c.locks_start-start.ensures in (
      c.unlock.ensures.0 ∙ ap (λ (o : List ℕ). unlock_code o ps) (laws.locks_cut a.tables.now a.vtl _ begins),
      laws.put_locks a.tables.now _ (λ o. unlock_words o ps) a.vtl _ begins c.unlock.ensures.1,
    )
