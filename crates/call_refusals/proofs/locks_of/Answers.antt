use native.Mathlib.Omega.{arith}
use mathlib.Core.Path.{◌≡◌, refl}
use Prim.Native.Nat.{◌+◌, ◌-◌}
use Rattle.call_refusals.proofs.locks_of.Goals as goal

pub returns : goal.returns
returns c =
    let start = c.locks_start-start in
    let len : start.result + 1089 - start.result ≡ 1089 = omega arith in
    rw (len, start.ensures) refl
