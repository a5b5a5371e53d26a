use Rattle.std.proofs.Common.{◌≡◌, ◌-◌}
use Rattle.playback.specs.Answers.{finished_from}
use Rattle.playback.proofs.answers.finish.Given as goal

abbrev pub invariant-loop-at : goal.invariant-loop-at
invariant-loop-at l = finished_from (8192 - l.at) l.at l.buffers l.c ≡ finished_from 8192 0 l.initial.buffers l.c
