use Rattle.std.proofs.Common.{◌≡◌, ◌-◌}
use Rattle.playback.specs.Registry.{finished_from}
use Rattle.playback.proofs.registry.finish.Given as goal

abbrev pub invariant-loop-at : goal.invariant-loop-at
invariant-loop-at l = finished_from (8192 - l.at) l.at l.w l.c ≡ finished_from 8192 0 l.initial.w l.c
