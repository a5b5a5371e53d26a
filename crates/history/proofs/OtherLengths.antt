-- A call that is lent something of another length is refused: it writes nothing, and nothing is seen to change. Assumes nothing.
use Prim.Native.Nat.{ℕ}
use mathlib.Core.Path.{◌≡◌, refl, sym, ap, ◌∙◌, subst}
use mathlib.Core.List.{List}
use mathlib.Core.Bool.{Bool, true, false, cond}
use lib.ListN.{length}
use lib.Dec.{eqb}
use borrow.Author.Tests.{eqb-true, ne_eqb}
use Rattle.abi.specs.Refusals as refusal
use Rattle.laws.specs.Refusal.{passed, when_passed}
use Rattle.protector_state.specs.State.{state_len}
use Rattle.call_refusals.specs.Buffers.{Buffers, Outcome, tables_len, fits, status_in, takes_in}
use Rattle.protector.specs.Calls.{refused_by, decided}
use Rattle.call_refusals.specs.Refusals.{answer_refusal}
use Rattle.visibility_claims.specs.Whole.{BackendAnswer}
use Rattle.history.specs.Observed.{Observed, is_taken, sees_taken, sees_answer}
use Rattle.history.specs.History.{OtherLengths, block, other, OtherLockLengths, lock_block, lock_tables}
use Rattle.history.proofs.Passed.{Passed, Fitting}
use Rattle.history.proofs.Bits.{clash}
use Rattle.history.proofs.Answers.{chain, counts, chain_untaken}

-- nothing is of another length where the state block has its length and what else is lent fits
pub not_fitting : (u x : Buffers) → OtherLengths u x → Fitting x → ⊥
not_fitting u x (block f) k = f k.long
not_fitting u x (other e f) k = clash (fits x) k.fit f

pub not_lent : (u x : Buffers) → OtherLockLengths u x → Passed x (eqb (length x.tables) tables_len) → ⊥
not_lent u x (lock_block f) k = f k.long
not_lent u x (lock_tables _ f) k = f (eqb-true _ _ k.fits)

pub answer_fitting : (x : Buffers) (failed : Bool) → answer_refusal x.state (fits x) failed ≡ 0 → Fitting x
unfolding answer_refusal
answer_fitting x failed z =
    let a = passed (eqb (length x.state) state_len) 3 _ z in
    let b = when_passed (eqb (status_in x.state) refusal.halted) 19 _ a.1 in
    record { long = eqb-true _ _ a.0; fit = (passed (fits x) 3 _ b.1).0 }

-- an answer refused so
module _ (u x : Buffers) (o : Observed) (halts : o.halted ≡ eqb (status_in u.state) refusal.halted) (failed : Bool) (T : Outcome) (s : OtherLengths u x) where
  abbrev A : Bool
  A = eqb (length x.state) state_len

  abbrev H : Bool
  H = eqb (status_in x.state) refusal.halted

  abbrev D : Bool
  D = takes_in x.state failed

  nonzero : (a h c d : Bool) → ((a ≡ true) → (c ≡ true) → ⊥) → eqb (chain a h c d) 0 ≡ false
  nonzero false h c d f = refl
  nonzero true true c d f = refl
  nonzero true false false d f = refl
  nonzero true false true d f = absurd (f refl refl)

  -- it gives 4, or 20 where the state block says so
  untaken : OtherLengths u x → counts o.halted (chain A H (fits x) D) ≡ false
  untaken (block f) = ap (λ (a : Bool). counts o.halted (chain a H (fits x) D)) (ne_eqb (length x.state) state_len f) ∙ shut o.halted
    where
      shut : (h : Bool) → counts h refusal.wrong_length ≡ false
      shut true = refl
      shut false = refl
  untaken (other e f) =
      ap (λ (h : Bool). counts h (chain A H (fits x) D)) (halts ∙ ap (λ (s : List ℕ). eqb (status_in s) refusal.halted) (sym e))
      ∙ chain_untaken A H (fits x) D (nonzero A H (fits x) D (λ _ c. clash (fits x) c f))

  taken_not : eqb (chain A H (fits x) D) 0 ≡ false
  taken_not = nonzero A H (fits x) D (λ a c. not_fitting u x s (record { long = eqb-true _ _ a; fit = c }))

  pub refused_answer : decided x (answer_refusal x.state (fits x) failed) T ≡ refused_by x (answer_refusal x.state (fits x) failed)
  unfolding answer_refusal
  refused_answer = ap (λ (b : Bool). cond b T (refused_by x (chain A H (fits x) D))) taken_not

  pub untaken_seen : is_taken o (decided x (answer_refusal x.state (fits x) failed) T).reply ≡ false
  unfolding answer_refusal
  untaken_seen = ap (λ (X : Outcome). is_taken o X.reply) refused_answer ∙ untaken s

  pub answer_other_lengths : (K : Observed → Type 0) (g : BackendAnswer) → K o
      → K (sees_answer g (decided x (answer_refusal x.state (fits x) failed) T).reply (decided x (answer_refusal x.state (fits x) failed) T).buffers.pages o)
  unfolding answer_refusal
  answer_other_lengths K g k =
      subst (λ (X : Outcome). K (sees_answer g X.reply X.buffers.pages o)) (sym refused_answer)
      (subst (λ (b : Bool). K (cond b (sees_taken g (refused_by x (chain A H (fits x) D)).reply x.pages o) o)) (sym (untaken s)) k)
