-- The code that a refusal carries (01, "From the input" 7 and "From the state").
use Rattle.std.specs.Prelude.{cond, ◌||◌, ℕ, eqb}
use Rattle.abi.specs.Codes as code
use Rattle.abi.specs.Refusals as refusal
use Rattle.laws.specs.Ranges.{between}

-- 7 and 10 to 14 are OperationDenied, 15 AccessDenied; the others carry none, but 16 has its own (Modify's, or OperationDenied of an overlay call)
abbrev pub code_of : ℕ → ℕ
code_of n =
    cond (eqb n refusal.not_ram || between refusal.locked refusal.access_denied n) code.operation_denied
    (cond (eqb n refusal.access_denied) code.access_denied 0)
