use native.Mathlib.Omega.{arith}
use mathlib.Core.Path.{◌≡◌, refl}
use Prim.Native.Nat.{◌+◌, ◌-◌}
use Rattle.call_refusals.proofs.overlays_of.Goals as goal

pub returns : goal.returns
returns c =
    let start = c.overlays_start-start in
    let len : start.result + 641 - start.result ≡ 641 = omega arith in
    rw (len, start.ensures) refl
