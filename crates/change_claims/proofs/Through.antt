-- A call that ended asked for all its operations and wrote all that goes before each. Assumes nothing.
use mathlib.Core.Path.{◌≡◌, refl, sym, ap, ◌∙◌}
use mathlib.Core.Bool.{Bool, true, false, cond}
use mathlib.Core.List.{List, [], ◌∷◌, ◌++◌}
use Prim.Native.Nat.{ℕ}
use Rattle.laws.specs.Bools.{false≢true}
use Rattle.mapping.specs.Maps.{Maps}
use Rattle.visibility_claims.specs.Whole.{Operation, BackendAnswer, Succeeds, Fails, Status, Denied, Waits, Ok, StoppedAt, FailedAt, Halts, Whole, stands, asking, fails, one, in_turn}

abbrev pub is_ok : Status → Bool
is_ok (Denied n) = false
is_ok Waits = false
is_ok Ok = true
is_ok (StoppedAt i) = false
is_ok (FailedAt code i) = false
is_ok Halts = false

-- with Ok, 15 or 16
abbrev pub is_end : Status → Bool
is_end (Denied n) = false
is_end Waits = false
is_end Ok = true
is_end (StoppedAt i) = true
is_end (FailedAt code i) = true
is_end Halts = false

-- the maps once operations were asked for in turn
unfoldable pub begun : (Operation → Maps → Maps) → List Operation → Maps → Maps
begun before [] m = m
begun before (o ∷ os) m = begun before os (before o m)

-- w asked for the operations os and went on as `next` from the maps m, under the answers that were left
pub record Through (os : List Operation) (m : Maps) (next : Maps → List BackendAnswer → Whole) (w : Whole) : Type 0 where
  pub rest : List BackendAnswer
  pub asked : w.asked ≡ os ++ (next m rest).asked
  pub maps : w.maps ≡ (next m rest).maps
  pub status : w.status ≡ (next m rest).status

-- where it stands as E says, which neither a call that waits nor one that failed there does
module _ (E : Status → Bool) (waits : E Waits ≡ false) where
  pub through_one : (o : Operation) (os : List Operation) (m m' : Maps) (next : Maps → List BackendAnswer → Whole) (more : List BackendAnswer → Whole) (failed : ℕ → ℕ → List BackendAnswer → Whole)
      → ((gs : List BackendAnswer) → E (more gs).status ≡ true → Through os m' next (more gs)) → ((code k : ℕ) (gs : List BackendAnswer) → E (failed code k gs).status ≡ false)
      → (gs : List BackendAnswer) → E (one o m gs more failed).status ≡ true → Through (o ∷ os) m' next (one o m gs more failed)
  unfolding one
  through_one o os m m' next more failed f g [] e = false≢true (sym waits ∙ e)
  through_one o os m m' next more failed f g (Succeeds ∷ gs) e =
      let t = f gs e in
      record { rest = t.rest; asked = ap (λ (l : List Operation). o ∷ l) t.asked; maps = t.maps; status = t.status }
  through_one o os m m' next more failed f g (Fails code k ∷ gs) e = go (fails o) (g code k gs) (through_one o os m m' next more failed f g gs) e
    where
      go : (y : Bool) → E (failed code k gs).status ≡ false → (E (one o m gs more failed).status ≡ true → Through (o ∷ os) m' next (one o m gs more failed))
          → E (cond y (asking o (failed code k gs)) (one o m gs more failed)).status ≡ true → Through (o ∷ os) m' next (cond y (asking o (failed code k gs)) (one o m gs more failed))
      go true h r e = false≢true (sym h ∙ e)
      go false h r e = r e

  pub through : E Halts ≡ false → (before : Operation → Maps → Maps) (os : List Operation) (m : Maps) (gs : List BackendAnswer) (next : Maps → List BackendAnswer → Whole)
      → E (in_turn before os m gs next).status ≡ true → Through os (begun before os m) next (in_turn before os m gs next)
  unfolding in_turn begun
  through halts before [] m gs next e = record { rest = gs; asked = refl; maps = refl; status = refl }
  through halts before (o ∷ os) m gs next e =
      through_one o os (before o m) (begun before os (before o m)) next (λ gs. in_turn before os (before o m) gs next) (λ code k gs. stands (before o m) Halts)
      (λ gs e. through halts before os (before o m) gs next e) (λ code k gs. halts) gs e
