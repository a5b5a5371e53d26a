-- The numbers that cross for a fault, the port's choice: its mapping, its view, and what it gives.
use Rattle.std.specs.Prelude.{ℕ}

abbrev pub encrypted : ℕ
encrypted = 0

abbrev pub shared : ℕ
shared = 1

abbrev pub read : ℕ
read = 0

abbrev pub kernel_execute : ℕ
kernel_execute = 1

abbrev pub user_execute : ℕ
user_execute = 2

abbrev pub retry : ℕ
retry = 0

abbrev pub not_mapped : ℕ
not_mapped = 1

abbrev pub not_shared : ℕ
not_shared = 2

abbrev pub not_private : ℕ
not_private = 3

abbrev pub vtl_protected : ℕ
vtl_protected = 4
