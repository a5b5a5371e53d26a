-- A refusal leaves all that is lent as it was. Assumes nothing.
use native.Mathlib.Omega.{arith}
use mathlib.Core.Path.{◌≡◌, refl, sym, ap, ◌∙◌}
use mathlib.Core.Bool.{Bool, true, false, cond}
use mathlib.Core.List.{List}
use Prim.Native.Nat.{ℕ}
use lib.Dec.{eqb, ltb}
use lib.ListN.{length}
use borrow.Author.Tests.{eqb-true, eqb-false, eq-eqb, ne_eqb}
use Rattle.laws.specs.Bools.{false≢true}
use Rattle.laws.specs.Refusal.{passed, when_passed}
use Rattle.permissions.specs.HvError.{code_of}
use Rattle.permissions.specs.Flags.{vtl_of, bool_of}
use Rattle.permissions.specs.declared.IsolationType.{IsolationType}
use Rattle.page_list.specs.declared.PageRun.{PageRun}
use Rattle.page_list.specs.Pages.{pages_of}
use Rattle.request_pages.specs.Request.{run_end}
use Rattle.visibility_steps.specs.declared.Phase.{Phase}
use Rattle.visibility_steps.specs.declared.Operation.{Operation}
use Rattle.visibility_steps.specs.declared.Operation.TheVariants.{Wait, FlushAll, Protect, Invalidate, Release, Modify, Accept, Zero, Flush, TlbWait}
use Rattle.visibility_steps.specs.declared.Answer.TheVariants.{Done, AccessDenied, Failed}
use Rattle.visibility_steps.specs.declared.Settings.{Settings}
use Rattle.visibility_steps.specs.declared.Request.{Request}
use Rattle.visibility_steps.specs.declared.Writes.{Writes}
use Rattle.visibility_steps.specs.declared.Step.{Step}
use Rattle.visibility_steps.specs.Steps.{ask, end, halt, done_of, failed_of, start_of}
use Rattle.change_steps.specs.declared.Stage.{Stage}
use Rattle.change_steps.specs.declared.Stage.TheVariants as stage
use Rattle.change_steps.specs.declared.Change.{Change}
use Rattle.change_steps.specs.declared.ChangeStep.{ChangeStep}
use Rattle.change_steps.specs.Changes as changes
use Rattle.protector_state.specs.State.{state_len, phase_in, request_of, settings_of}
use Rattle.protector_state.specs.Reply.{finished, asked_of, flat_of}
use Rattle.protector_state.specs.Changing.{stage_in, is_changing, change_in}
use Rattle.call_refusals.specs.Buffers.{Buffers, Outcome, fits, status_in, takes, takes_at, takes_in}
use Rattle.protector.specs.Calls.{decided, carried_out, carried_change, build_taken, build_of, visibility_taken, visibility_of, next_in, after_done, after_failed, visibility_done, visibility_failed, change_done, change_failed, answer_done, answer_failed}
use Rattle.call_refusals.specs.Refusals.{answer_refusal}
use Rattle.queries.specs.Queries.{query_refusal, ram_before, visibilities, filled_by, query, query_of}
use Rattle.visibility_claims.specs.Whole.{Succeeds, Fails}
use Rattle.visibility_claims.specs.Refusals.{Call, Build, ChangeVisibility, AnswerWith, QueryVisibility, Lent, gave, give, refusal, may_change, RefusedKeeps, OtherNumbersKeep}
use Rattle.visibility_claims.proofs.Taken.{done_has, failed_has}

-- ---- what is decided

decided_kept : (w : Buffers) (n : ℕ) (o : Outcome) → (n ≡ 0 → ⊥) → decided w n o ≡ record { buffers = w; reply = finished n (code_of n) 0 0 }
decided_kept w n o h = rw (ne_eqb n 0 h)

-- THE CLAIMS
pub refused_keeps : RefusedKeeps
unfolding give refusal build_of visibility_of answer_done answer_failed query_of
refused_keeps x (Build ram isolation tracked release) h = ap (λ (o : Outcome). (gave x.out o).lent) (decided_kept x.buffers _ (build_taken x.buffers ram isolation tracked release) h)
refused_keeps x (ChangeVisibility vtl visibility l) h = ap (λ (o : Outcome). (gave x.out o).lent) (decided_kept x.buffers _ _ h)
refused_keeps x (AnswerWith Succeeds) h = ap (λ (o : Outcome). (gave x.out o).lent) (decided_kept x.buffers _ _ h)
refused_keeps x (AnswerWith (Fails code k)) h = ap (λ (o : Outcome). (gave x.out o).lent) (decided_kept x.buffers _ _ h)
refused_keeps x (QueryVisibility l) h =
    ap (λ (o : List ℕ). record { buffers = x.buffers; out = o })
    (go (query_refusal x.buffers.state (length x.buffers.maps.shared) l) (eqb (query_refusal x.buffers.state (length x.buffers.maps.shared) l) 0) (ltb (ram_before x.buffers.state l) (length (pages_of l))) h)
  where
    go : (n : ℕ) (b c : Bool) → (cond b (cond c 7 0) n ≡ 0 → ⊥)
        → (cond b (cond c (query x.out (finished 7 (code_of 7) (ram_before x.buffers.state l) 0)) (query (filled_by (visibilities x.buffers.maps.shared (pages_of l)) x.out) (finished 0 0 0 0))) (query x.out (finished n (code_of n) 0 0))).out ≡ x.out
    go n true true h = refl
    go n true false h = absurd (h refl)
    go n false c h = refl

-- ---- the number of a call that is taken

record Plain (i : IsolationType) (x : Step) : Type 0 where
  plain : may_change (flat_of i x.answer).number ≡ true

plain_asked : (i : IsolationType) (o : Operation) → may_change (asked_of i o).number ≡ true
unfolding asked_of
plain_asked i Wait = refl
plain_asked i FlushAll = refl
plain_asked i (Protect v f r) = refl
plain_asked i (Invalidate r) = refl
plain_asked i (Release r) = refl
plain_asked i (Modify share n) = refl
plain_asked i (Accept r) = refl
plain_asked i (Zero r) = refl
plain_asked i (Flush v) = refl
plain_asked i (TlbWait v) = refl

module _ (i : IsolationType) (s : Settings) (t : List ℕ) where
  plain_ask : (p : Phase) (q : Request) (a : ℕ) (w : Writes) → Unit {0} → Plain i (ask s p q t a w)
  unfolding ask flat_of
  plain_ask p q a w u = record { plain = plain_asked i _ }

  plain_end : (q : Request) (w : Writes) → Unit {0} → Plain i (end q w)
  unfolding end flat_of
  plain_end q w u = record { plain = go q.stopped q.failed }
    where
      go : (a b : Bool) → may_change (flat_of i (cond a (AccessDenied q.index q.count) (cond b (Failed q.code q.index q.count) (Done q.count)))).number ≡ true
      go true b = refl
      go false true = refl
      go false false = refl

  plain_halt : (q : Request) → Unit {0} → Plain i (halt q)
  unfolding halt flat_of
  plain_halt q u = record { plain = refl }

  plain_done : (p : Phase) (q : Request) → takes p false ≡ true → may_change (flat_of i (done_of s p q t).answer).number ≡ true
  plain_done p q e = (done_has s t (λ q. Unit {0}) (Plain i) plain_ask plain_end plain_halt (λ q k code j l u. u) p q e tt).plain

  plain_failed : (p : Phase) (q : Request) (code k : ℕ) → takes p true ≡ true → may_change (flat_of i (failed_of s p q t code k).answer).number ≡ true
  plain_failed p q code k e = (failed_has s t (λ q. Unit {0}) (Plain i) plain_ask plain_end plain_halt (λ q k code j l u. u) p q code k e tt).plain

pub answer_takes : (s : List ℕ) (f b : Bool) → answer_refusal s f b ≡ 0 → takes_in s b ≡ true
unfolding answer_refusal
answer_takes s f b z =
    let a = passed (eqb (length s) state_len) 3 _ z in
    let d = when_passed (eqb (status_in s) 20) 19 _ a.1 in
    let e = passed f 3 _ d.1 in
    (passed (takes_in s b) 20 _ e.1).0

-- the same of a change other than of visibility
module _ (i : IsolationType) (tracked : Bool) (q : Change) where
  plain_chosen : (b : Bool) (x y : ChangeStep) → may_change (flat_of i x.answer).number ≡ true → may_change (flat_of i y.answer).number ≡ true
      → may_change (flat_of i (cond b x y).answer).number ≡ true
  plain_chosen true x y e f = e
  plain_chosen false x y e f = f

  plain_change : (g : Stage) (t : List ℕ) (next : PageRun) → takes_at g false ≡ true → may_change (flat_of i (changes.done_of tracked g q t next).answer).number ≡ true
  unfolding changes.done_of changes.protect_pages changes.protect_ram changes.protect changes.wait changes.ask changes.finish flat_of asked_of
  plain_change stage.Idle t next e = false≢true e
  plain_change stage.Halted t next e = false≢true e
  plain_change stage.ProtectPages t next e = plain_chosen (ltb (run_end t q.n q.at) q.n) _ _ refl refl
  plain_change stage.ProtectRam t next e = plain_chosen (eqb next.count 0) _ _ refl refl
  plain_change stage.ProtectNew t next e = refl
  plain_change stage.ProtectOld t next e = refl
  plain_change stage.Wait t next e = refl
  plain_change stage.Flush t next e = refl
  plain_change stage.TlbWait t next e = refl

  plain_unchange : (g : Stage) → takes_at g true ≡ true → may_change (flat_of i (changes.failed_of g q).answer).number ≡ true
  unfolding changes.failed_of changes.halt changes.finish flat_of
  plain_unchange stage.Idle e = false≢true e
  plain_unchange stage.Halted e = false≢true e
  plain_unchange stage.ProtectPages e = refl
  plain_unchange stage.ProtectRam e = refl
  plain_unchange stage.ProtectNew e = refl
  plain_unchange stage.ProtectOld e = refl
  plain_unchange stage.Wait e = false≢true e
  plain_unchange stage.Flush e = false≢true e
  plain_unchange stage.TlbWait e = false≢true e

  -- an answer that is taken goes to the change that is under way
  plain_either : (c : Bool) (x y : Outcome) (a b : Bool) → (a ≡ true → may_change x.reply.number ≡ true) → (b ≡ true → may_change y.reply.number ≡ true)
      → cond c a b ≡ true → may_change (cond c x y).reply.number ≡ true
  plain_either true x y a b f g e = f e
  plain_either false x y a b f g e = g e

decided_taken : (w : Buffers) (n : ℕ) (o : Outcome) → n ≡ 0 → decided w n o ≡ o
decided_taken w n o h = rw (eq-eqb n 0 h)

taken_changes : (x : Lent) (c : Call) → refusal x c ≡ 0 → may_change (give x c).reply.number ≡ true
unfolding give refusal build_of build_taken visibility_of visibility_taken answer_done answer_failed carried_out carried_change after_done after_failed start_of flat_of asked_of query_of
taken_changes x (Build ram isolation tracked release) h =
    ap (λ (o : Outcome). may_change o.reply.number) (decided_taken x.buffers _ (build_taken x.buffers ram isolation tracked release) h)
taken_changes x (ChangeVisibility vtl visibility l) h =
    ap (λ (o : Outcome). may_change o.reply.number) (decided_taken x.buffers _ (visibility_taken x.buffers (vtl_of vtl) (bool_of visibility) l) h)
taken_changes x (AnswerWith Succeeds) h =
    let s : List ℕ = x.buffers.state in
    let v : Outcome = visibility_done x.buffers in
    ap (λ (o : Outcome). may_change o.reply.number) (decided_taken x.buffers _ (cond (is_changing s) (change_done x.buffers) v) h)
    ∙ plain_either (settings_of s).isolation (settings_of s).tracked (change_in s) (is_changing s) (change_done x.buffers) v (takes_at (stage_in s) false) (takes (phase_in s) false)
    (plain_change (settings_of s).isolation (settings_of s).tracked (change_in s) (stage_in s) x.buffers.pages (next_in x.buffers.maps.private s x.buffers.tables))
    (plain_done (settings_of s).isolation (settings_of s) x.buffers.pages (phase_in s) (request_of s))
    (answer_takes s (fits x.buffers) false h)
taken_changes x (AnswerWith (Fails code k)) h =
    let s : List ℕ = x.buffers.state in
    let v : Outcome = visibility_failed x.buffers code k in
    ap (λ (o : Outcome). may_change o.reply.number) (decided_taken x.buffers _ (cond (is_changing s) (change_failed x.buffers) v) h)
    ∙ plain_either (settings_of s).isolation (settings_of s).tracked (change_in s) (is_changing s) (change_failed x.buffers) v (takes_at (stage_in s) true) (takes (phase_in s) true)
    (plain_unchange (settings_of s).isolation (settings_of s).tracked (change_in s) (stage_in s))
    (plain_failed (settings_of s).isolation (settings_of s) x.buffers.pages (phase_in s) (request_of s) code k)
    (answer_takes s (fits x.buffers) true h)
taken_changes x (QueryVisibility l) h =
    go (query_refusal x.buffers.state (length x.buffers.maps.shared) l) (eqb (query_refusal x.buffers.state (length x.buffers.maps.shared) l) 0) refl (ltb (ram_before x.buffers.state l) (length (pages_of l))) h
  where
    go : (n : ℕ) (b : Bool) → eqb n 0 ≡ b → (c : Bool) → cond b (cond c 7 0) n ≡ 0
        → may_change (cond b (cond c (query x.out (finished 7 (code_of 7) (ram_before x.buffers.state l) 0)) (query (filled_by (visibilities x.buffers.maps.shared (pages_of l)) x.out) (finished 0 0 0 0))) (query x.out (finished n (code_of n) 0 0))).reply.number ≡ true
    go n true e true h = absurd (omega arith)
    go n true e false h = refl
    go n false e c h = absurd (eqb-false n 0 e h)

pub other_numbers_keep : OtherNumbersKeep
other_numbers_keep x c h = go (eqb (refusal x c) 0) refl
  where
    go : (b : Bool) → eqb (refusal x c) 0 ≡ b → (give x c).lent ≡ x
    go true e = false≢true (sym h ∙ taken_changes x c (eqb-true (refusal x c) 0 e))
    go false e = refused_keeps x c (eqb-false (refusal x c) 0 e)
