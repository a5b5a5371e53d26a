-- Done is taken exactly while an operation is outstanding. Assumes nothing.
use mathlib.Core.Path.{◌≡◌, refl, subst}
use mathlib.Core.Bool.{Bool, true, false, cond}
use mathlib.Core.List.{List}
use Prim.Native.Nat.{ℕ, suc, ◌≤◌, ◌<◌}
use native.Mathlib.Omega.{arith}
use native.Mathlib.Decide.{dec_lt}
use lib.Dec.{eqb, ltb, leb}
use lib.ListN.{get_or}
use borrow.Author.Tests.{ltb-true, leb-true}
use Rattle.abi.specs.Places as place
use Rattle.abi.specs.Refusals as refusal
use Rattle.abi.specs.Stages as number
use Rattle.laws.specs.Bools.{and_left, and_right}
use Rattle.visibility_steps.specs.declared.Phase.{Phase}
use Rattle.visibility_steps.specs.declared.Phase.TheVariants as phase
use Rattle.change_steps.specs.declared.Stage.{Stage}
use Rattle.change_steps.specs.declared.Stage.TheVariants as stage
use Rattle.protector_state.specs.State.{phase_in}
use Rattle.protector_state.specs.Changing.{stage_number, stage_of, stage_in, is_changing}
use Rattle.call_refusals.specs.Buffers.{status_of, status_in, takes, takes_at, takes_in}

-- a number of a change names a stage
stage_named : (n : ℕ) → number.protect_pages ≤ n → n < number.end → stage_number (stage_of n) ≡ n
unfolding stage_of
stage_named n h k =
    at_or 13 h refl λ h. at_or 14 h refl λ h. at_or 15 h refl λ h. at_or 16 h refl λ h. at_or 17 h refl λ h. at_or 18 h refl λ h. at_or 19 h refl λ h. absurd (omega arith)
  where
    Named : ℕ → Type 0
    Named m = stage_number (stage_of m) ≡ m

    at_or : (m : ℕ) → m ≤ n → Named m → (suc m ≤ n → Named n) → Named n
    at_or m h here next = elim (dec_lt m n) [ yes d ↦ next d | no d ↦ let e : m ≡ n = omega (arith, d) in subst Named e here ]

pub changing_named : (s : List ℕ) → is_changing s ≡ true → number.protect_pages ≤ stage_number (stage_in s)
changing_named s e =
    let n : ℕ = get_or s place.phase 0 in
    let low : number.protect_pages ≤ n = leb-true number.protect_pages n (and_left (leb number.protect_pages n) (ltb n number.end) e) in
    let high : n < number.end = ltb-true n number.end (and_right (leb number.protect_pages n) (ltb n number.end) e) in
    omega (arith, stage_named n low high)

stage_takes : (g : Stage) → number.protect_pages ≤ stage_number g → takes_at g false ≡ true
stage_takes stage.Idle h = absurd (omega arith)
stage_takes stage.Halted h = absurd (omega arith)
stage_takes stage.ProtectPages h = refl
stage_takes stage.ProtectRam h = refl
stage_takes stage.ProtectNew h = refl
stage_takes stage.ProtectOld h = refl
stage_takes stage.Wait h = refl
stage_takes stage.Flush h = refl
stage_takes stage.TlbWait h = refl

phase_takes : (p : Phase) → takes p false ≡ eqb (status_of p) refusal.busy
phase_takes phase.Idle = refl
phase_takes phase.Halted = refl
phase_takes phase.Wait = refl
phase_takes phase.FlushAll = refl
phase_takes phase.ProtectNone0 = refl
phase_takes phase.ProtectNone1 = refl
phase_takes phase.Invalidate = refl
phase_takes phase.Release = refl
phase_takes phase.Modify = refl
phase_takes phase.Accept = refl
phase_takes phase.Zero = refl
phase_takes phase.ProtectDefault0 = refl
phase_takes phase.ProtectDefault1 = refl

pub done_takes : (s : List ℕ) → takes_in s false ≡ eqb (status_in s) refusal.busy
done_takes s = go (is_changing s) refl
  where
    go : (b : Bool) → is_changing s ≡ b → cond b (takes_at (stage_in s) false) (takes (phase_in s) false) ≡ eqb (cond b refusal.busy (status_of (phase_in s))) refusal.busy
    go true e = stage_takes (stage_in s) (changing_named s e)
    go false e = phase_takes (phase_in s)
