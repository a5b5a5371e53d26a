-- What a refused call keeps and a taken one makes, of any claim on the buffers. Assumes nothing.
use mathlib.Core.Path.{◌≡◌, refl}
use mathlib.Core.Bool.{Bool, true, false, cond}
use Prim.Native.Nat.{ℕ}
use lib.Dec.{eqb}
use borrow.Author.Tests.{eqb-true}
use Rattle.call_refusals.specs.Buffers.{Buffers, Outcome}
use Rattle.protector.specs.Calls.{refused_by, decided}

module _ (K : Buffers → Type 0) where
  pub decides : (w : Buffers) (n : ℕ) (T : Outcome) → K w → (n ≡ 0 → K T.buffers) → K (decided w n T).buffers
  decides w n T k f = go (eqb n 0) refl
    where
      go : (b : Bool) → eqb n 0 ≡ b → K (cond b T (refused_by w n)).buffers
      go true e = f (eqb-true n 0 e)
      go false e = k

  pub either : (b : Bool) (X Y : Outcome) → K X.buffers → K Y.buffers → K (cond b X Y).buffers
  either true X Y e f = e
  either false X Y e f = f
