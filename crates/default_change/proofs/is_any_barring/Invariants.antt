use mathlib.Core.Path.{◌≡◌}
use Rattle.layout.specs.Layout.{entries_of}
use Rattle.page_list.specs.Runs.{part}
use Rattle.default_change.specs.Barred.{barring, any_of}
use Rattle.default_change.proofs.is_any_barring.Given as goal

abbrev pub invariant-loop-i : goal.invariant-loop-i
invariant-loop-i l =
    any_of (barring l.private l.overlays (entries_of l.ram)) (part l.locks l.to l.i) ≡ any_of (barring l.private l.overlays (entries_of l.ram)) (part l.locks l.to l.from)
