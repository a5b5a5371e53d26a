use Rattle.std.proofs.Common.{◌≡◌, ◌-◌}
use Rattle.recording.specs.Lists.{filling, with_pages}
use Rattle.recording.proofs.lists.put_run.Given as goal

abbrev pub invariant-loop : goal.invariant-loop
invariant-loop l = with_pages (l.count - l.counter) (filling l.list l.next) l.page ≡ with_pages l.count (filling l.initial.list l.at) l.first
