-- What was last taken as a truth value: whether as shared. Assumes nothing.
use Prim.Native.Nat.{ℕ}
use mathlib.Core.Path.{◌≡◌, refl, sym}
use mathlib.Core.Bool.{Bool, true, false, cond}
use Rattle.laws.specs.Bools.{false≢true}
use Rattle.history.specs.Observed.{Observed, Took, Private, Shared, took_as}

abbrev pub is_shared : Took → Bool
is_shared Private = false
is_shared Shared = true

abbrev pub shared_in : Observed → ℕ → Bool
shared_in o z = is_shared (o.last z)

pub shared_as : (b : Bool) → is_shared (took_as b) ≡ b
shared_as true = refl
shared_as false = refl

pub shared_either : (a s : Bool) (t : Took) → is_shared (cond a (took_as s) t) ≡ cond a s (is_shared t)
shared_either true s t = shared_as s
shared_either false s t = refl

pub is_private : (t : Took) → is_shared t ≡ false → t ≡ Private
is_private Private e = refl
is_private Shared e = absurd (false≢true (sym e))

pub is_shared_lem : (t : Took) → is_shared t ≡ true → t ≡ Shared
is_shared_lem Private e = absurd (false≢true e)
is_shared_lem Shared e = refl
