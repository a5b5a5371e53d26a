use mathlib.Core.Path.{◌≡◌}
use Rattle.page_list.specs.Pages.{among}
use Rattle.page_list.specs.Runs.{part}
use Rattle.lock_table.proofs.is_among.Given as goal

abbrev pub invariant-loop-i : goal.invariant-loop-i
invariant-loop-i l = among (part l.table l.to l.i) l.gpn ≡ among (part l.table l.to l.from) l.gpn
