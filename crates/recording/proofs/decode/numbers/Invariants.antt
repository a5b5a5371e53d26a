use Rattle.std.proofs.Common.{◌≡◌, ◌-◌, ◌++◌, length, take}
use Rattle.recording.specs.Decode.{numbers_at, after_numbers}
use Rattle.recording.proofs.decode.numbers.Given as goal

abbrev pub invariant-loop-n : goal.invariant-loop-n
invariant-loop-n l =
    (take l.n-index l.run ++ numbers_at (length l.run - l.n-index) l.input l.next ≡ numbers_at (length l.initial.run) l.input l.at) × (after_numbers (length l.run - l.n-index) l.input l.next ≡ after_numbers (length l.initial.run) l.input l.at)
