-- The numbers of the kinds of the registrar's request (01, "The request under way"), the port's choice.
use Rattle.std.specs.Prelude.{ℕ}

-- nothing is asked for
abbrev pub none : ℕ
none = 0

abbrev pub register : ℕ
register = 1

-- every number behind it, too, stands for this kind
abbrev pub register_all : ℕ
register_all = 2
