-- Each refusal has a number, also at the exit of a `?`. Assumes nothing.
use mathlib.Core.Path.{◌≡◌}
use native.Mathlib.Omega.{arith}
use Rattle.abi.specs.declared.refusal.Refusal.{Refusal}
use Rattle.abi.specs.declared.refusal.Refusal.TheVariants as refusal
use Rattle.std.specs.Prelude.{Result, Err, ℕ}
use Rattle.std.specs.Result.{IsErrAnd}
use Rattle.std.proofs.lemmas.Result.{err_from_is_err_and}
use Rattle.abi.specs.Refusals.{number_of, refused_by, numbered}

pub number_not_zero : (r : Refusal) → number_of r ≡ 0 → ⊥
number_not_zero refusal.UnfitLayout h = absurd (omega arith)
number_not_zero refusal.BadAlignment h = absurd (omega arith)
number_not_zero refusal.UnfitIsolation h = absurd (omega arith)
number_not_zero refusal.WrongLength h = absurd (omega arith)
number_not_zero refusal.LongList h = absurd (omega arith)
number_not_zero refusal.RepeatedPage h = absurd (omega arith)
number_not_zero refusal.NotRam h = absurd (omega arith)
number_not_zero refusal.UnfitNumber h = absurd (omega arith)
number_not_zero refusal.UnfitChunk h = absurd (omega arith)
number_not_zero refusal.Locked h = absurd (omega arith)
number_not_zero refusal.Overlay h = absurd (omega arith)
number_not_zero refusal.Shared h = absurd (omega arith)
number_not_zero refusal.Narrow h = absurd (omega arith)
number_not_zero refusal.NoOverlay h = absurd (omega arith)
number_not_zero refusal.AccessDenied h = absurd (omega arith)
number_not_zero refusal.BackendFailed h = absurd (omega arith)
number_not_zero refusal.Full h = absurd (omega arith)
number_not_zero refusal.NotLocked h = absurd (omega arith)
number_not_zero refusal.Busy h = absurd (omega arith)
number_not_zero refusal.Halted h = absurd (omega arith)
number_not_zero refusal.NothingAsked h = absurd (omega arith)
number_not_zero refusal.UnalignedMemory h = absurd (omega arith)
number_not_zero refusal.RegistrationFailed h = absurd (omega arith)
number_not_zero refusal.Untracked h = absurd (omega arith)

-- what a `?` hands on
module _ {A : Type 0} (r : Result A Refusal) (e : Refusal) (h : IsErrAnd r (λ x. x ≡ e)) where
  pub refused_exit : refused_by r ≡ number_of e
  refused_exit = let p = err_from_is_err_and r h in rw (p.1, p.2)

  pub numbered_exit : numbered r ≡ Err (number_of e)
  numbered_exit = let p = err_from_is_err_and r h in rw (p.1, p.2)
