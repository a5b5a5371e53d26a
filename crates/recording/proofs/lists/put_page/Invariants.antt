use Rattle.std.proofs.Common.{◌≡◌, ◌-◌, ◌/◌, ◌^◌}
use Rattle.recording.specs.Lists.{filling, with_bytes}
use Rattle.recording.proofs.lists.put_page.Given as goal

abbrev pub invariant-loop-b : goal.invariant-loop-b
invariant-loop-b l = with_bytes (8 - l.b-index) (filling l.list l.next) (l.page / 256 ^ l.b-index) ≡ with_bytes 8 (filling l.initial.list l.at) l.page
