use mathlib.Core.Path.{◌≡◌}
use lib.ListN.{drop}
use Rattle.page_list.specs.Pages.{pages_of}
use Rattle.protection_entries.specs.Calls.{any_shared}
use Rattle.protection_entries.proofs.is_any_shared.Given as goal

abbrev pub invariant-loop-i : goal.invariant-loop-i
invariant-loop-i l = any_shared l.shared (drop l.i (pages_of l.list)) ≡ any_shared l.shared (pages_of l.list)
