-- The codes of HvError that a refusal carries (01, "From the input" 7 and "From the state").
use Rattle.std.specs.Prelude.{ℕ}

abbrev pub access_denied : ℕ
access_denied = 6

abbrev pub operation_denied : ℕ
operation_denied = 8
