use Rattle.std.proofs.Common.{◌≡◌, ◌-◌}
use Rattle.replay.specs.Lines.{put_times}
use Rattle.replay.proofs.protector_part.put_often.Given as goal

abbrev pub invariant-loop : goal.invariant-loop
invariant-loop l = put_times (l.times - l.counter) l.buffers l.c l.list l.ram ≡ put_times l.times l.initial.buffers l.c l.list l.ram
