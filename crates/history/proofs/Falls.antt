-- Each call of a list, from any buffers that meet the invariant: a taken answer lowers the number of the operations to come, and nothing else changes it while a
-- request is under way. Assumes nothing.
use Prim.Native.Nat.{◌<◌}
use mathlib.Core.Path.{◌≡◌, refl, sym, ap, ◌∙◌, subst}
use mathlib.Core.List.{List}
use mathlib.Core.Bool.{Bool, true, false, cond}
use lib.Dec.{eqb}
use borrow.Author.Tests.{eqb-true}
use Rattle.abi.specs.Refusals as refusal
use Rattle.layout.specs.declared.MemoryRangeWithNode.{MemoryRangeWithNode}
use Rattle.protector_state.specs.declared.Reply.{Reply}
use Rattle.protector_state.specs.State.{phase_in}
use Rattle.protector_state.specs.Changing.{stage_in, is_changing}
use Rattle.call_refusals.specs.Buffers.{Buffers, Outcome, fits, status_of, takes, takes_at}
use Rattle.visibility_claims.specs.Whole.{BackendAnswer, Succeeds, Fails}
use Rattle.visibility_claims.specs.Calls.{answer_of, taken_by}
use Rattle.visibility_claims.specs.Ends.{left_in, under_way}
use Rattle.visibility_claims.proofs.Ends as claims
use Rattle.visibility_claims.proofs.Refusals.{answer_takes}
use Rattle.history.specs.Observed.{Observed, is_waiting, is_taken}
use Rattle.history.specs.Call.{Write, Read, Answer, Result, Effect}
use Rattle.history.specs.Made.{Made}
use Rattle.history.specs.History.{History, none, call, call_with_other_lengths, refused_build, OtherLengths}
use Rattle.history.specs.Answered.{given}
use Rattle.history.specs.Ends.{trace_of, Falls}
use Rattle.history.proofs.Bits.{clash}
use Rattle.history.proofs.Buffers.{Stands, phase_waits}
use Rattle.history.proofs.Answers.{taken_seen}
use Rattle.history.proofs.Is.{is}
use Rattle.history.proofs.Refused.{other_lengths_untaken, busy_no_effect}
use Rattle.history.proofs.Histories.{stands_kept, history_keeps}

-- ---- answers

pub taken_waits : (w : Buffers) (g : BackendAnswer) → taken_by g w ≡ true → under_way w ≡ true
taken_waits w g t = by g t
  where
    go : (b f : Bool) → cond b (takes_at (stage_in w.state) f) (takes (phase_in w.state) f) ≡ true → eqb (cond b refusal.busy (status_of (phase_in w.state))) refusal.busy ≡ true
    go true f e = refl
    go false f e = phase_waits (phase_in w.state) f e

    by : (g : BackendAnswer) → taken_by g w ≡ true → under_way w ≡ true
    by Succeeds t = go (is_changing w.state) false (answer_takes w.state (fits w) false (eqb-true _ _ t))
    by (Fails code n) t = go (is_changing w.state) true (answer_takes w.state (fits w) true (eqb-true _ _ t))

module _ (es : List MemoryRangeWithNode) (u : Buffers) (o : Observed) (k : Stands es u o) where
  abbrev Steps : Buffers → Reply → Type 0
  Steps v r = (is_taken o r ≡ true → left_in v < left_in u) × (is_taken o r ≡ false → v ≡ u)

  -- while nothing is under way it begins nothing
  answer_begins : (g : BackendAnswer) (v : Buffers) (r : Reply) (p : Observed) → given v r ≡ answer_of g u → Stands es v p → is_waiting p ≡ true → is_waiting o ≡ true
  answer_begins g v r p e s b = k.waits ∙ go (taken_by g u) refl
    where
      go : (t : Bool) → taken_by g u ≡ t → under_way u ≡ true
      go true t = taken_waits u g t
      go false t = sym (ap under_way (ap (λ (X : Outcome). X.buffers) e ∙ claims.untaken_keeps u g t)) ∙ (sym s.waits ∙ b)

  other_lengths_begins : (p : Observed) → Stands es u p → is_waiting p ≡ true → is_waiting o ≡ true
  other_lengths_begins p s b = k.waits ∙ (sym s.waits ∙ b)

  answer_falls : (g : BackendAnswer) (v : Buffers) (r : Reply) → given v r ≡ answer_of g u → Steps v r
  answer_falls g v r e =
      let t : is_taken o r ≡ taken_by g u = ap (λ (X : Outcome). is_taken o X.reply) e ∙ taken_seen es u o k g in
      let d : v ≡ (answer_of g u).buffers = ap (λ (X : Outcome). X.buffers) e in
      (λ b. subst (λ (v : Buffers). left_in v < left_in u) (sym d) (claims.taken_lowers u g (sym t ∙ b)), λ b. d ∙ claims.untaken_keeps u g (sym t ∙ b))

  -- one that is lent something of another length isn't taken
  other_lengths_falls : (x y : Buffers) (g : BackendAnswer) (r : Reply) → OtherLengths u x → given y r ≡ answer_of g x → Steps u r
  other_lengths_falls x y g r s e = (λ b. clash _ b (ap (λ (X : Outcome). is_taken o X.reply) e ∙ other_lengths_untaken u x s o k.halts g), λ _. refl)

-- ---- each call of a list, from any buffers that meet the invariant

-- what an answer gave, as its outcome
pub answer_is : {g : BackendAnswer} {u v : Buffers} {r : Reply} → Made (Answer g) u v r → given v r ≡ answer_of g u
answer_is m = ap (λ (X : Effect Reply). given X.buffers X.answer) (is m)

module _ (es : List MemoryRangeWithNode) {w : Buffers} {a : Observed} (k : Stands es w a) where
  pub at_stop : {v : Buffers} {o : Observed} → History w a v o → Stands es v o
  at_stop h = history_keeps (Stands es) (stands_kept es) h k

  pub waiting : {v : Buffers} {o : Observed} (h : History w a v o) → is_waiting o ≡ true → under_way v ≡ true
  waiting h b = sym (at_stop h).waits ∙ b

  pub steps_fall : {v : Buffers} {o : Observed} (h : History w a v o) → Falls (trace_of h)
  unfolding trace_of Falls
  steps_fall none = tt
  steps_fall (call {left = u} h (Write d) r m) = (steps_fall h, λ b. ap (λ (X : Effect Reply). X.buffers) (is m) ∙ (busy_no_effect d u (waiting h b)).keeps)
  steps_fall (call h (Read q) r m) = (steps_fall h, λ b. ap (λ (X : Effect (Result (Read q))). X.buffers) (is m))
  steps_fall (call {left = u} {after = v} {seen = o} h (Answer g) r m) =
      let f = answer_falls es u o (at_stop h) g v r (answer_is m) in (steps_fall h, f.0, f.1, answer_begins es u o (at_stop h) g v r _ (answer_is m) (at_stop (call h (Answer g) r m)))
  steps_fall (call_with_other_lengths h (Write d) r m s) = (steps_fall h, λ b. refl)
  steps_fall (call_with_other_lengths h (Read q) r m s) = (steps_fall h, λ b. refl)
  steps_fall (call_with_other_lengths {left = u} {lent = x} {after = y} {seen = o} h (Answer g) r m s) =
      let f = other_lengths_falls es u o (at_stop h) x y g r s (answer_is m) in (steps_fall h, f.0, f.1, other_lengths_begins es u o (at_stop h) _ (at_stop (call_with_other_lengths h (Answer g) r m s)))
  steps_fall (refused_build h ram i t l r m f) = (steps_fall h, λ b. refl)
