-- Flags as numbers (01, "Defaults"): those below the end, all of them, and the number in the place of flags that aren't given.
use Rattle.std.specs.Prelude.{ℕ}

abbrev pub flags_end : ℕ
flags_end = 16

abbrev pub all_flags : ℕ
all_flags = 15

abbrev pub no_flags : ℕ
no_flags = 16
