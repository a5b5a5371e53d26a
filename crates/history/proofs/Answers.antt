-- Every answer, taken or not, keeps what stands. Assumes nothing.
use Prim.Native.Nat.{ℕ, ◌≤◌}
use mathlib.Core.Path.{◌≡◌, refl, sym, ap, ◌∙◌, subst}
use mathlib.Core.List.{List, []}
use mathlib.Core.Bool.{Bool, true, false, not, cond, ◌&&◌}
use native.Mathlib.Omega.{arith}
use lib.ListN.{length}
use lib.Dec.{eqb, ltb}
use Rattle.abi.specs.Refusals as refusal
use Rattle.laws.specs.Bools.{false≢true, or_right}
use Rattle.laws.specs.Refusal.{unless, when}
use Rattle.layout.specs.declared.MemoryRangeWithNode.{MemoryRangeWithNode}
use Rattle.layout.specs.Layout.{is_ram}
use Rattle.permissions.specs.declared.GuestVtl.{GuestVtl}
use Rattle.permissions.specs.declared.IsolationType.{IsolationType}
use Rattle.page_list.specs.declared.PageRun.{PageRun}
use Rattle.request_pages.specs.Request.{run_end}
use Rattle.visibility_steps.specs.declared.Phase.{Phase}
use Rattle.visibility_steps.specs.declared.Request.{Request}
use Rattle.visibility_steps.specs.declared.Step.{Step}
use Rattle.visibility_steps.specs.Steps as steps_of_visibility
use Rattle.change_steps.specs.declared.Stage.{Stage}
use Rattle.change_steps.specs.declared.Stage.TheVariants as stage
use Rattle.change_steps.specs.declared.Entry.{Entry}
use Rattle.change_steps.specs.declared.Change.{Change}
use Rattle.change_steps.specs.declared.ChangeStep.{ChangeStep}
use Rattle.change_steps.specs.Changes.{protect, ask, wait, finish, halt, protect_pages, protect_ram, done_of, failed_of, start_pages, start_ram, start_new, start_old, change_of}
use Rattle.protector_state.specs.declared.Reply.{Reply}
use Rattle.protector_state.specs.State.{state_len, phase_in, request_of, settings_of}
use Rattle.protector_state.specs.Reply.{asked_of, flat_of}
use Rattle.protector_state.specs.Changing.{stage_in, is_changing, change_in}
use Rattle.call_refusals.specs.Buffers.{Buffers, Outcome, fits, status_in, takes, takes_at, takes_in}
use Rattle.protector.specs.Writes.{applied}
use Rattle.protector.specs.Calls.{refused_by, decided, carried_out, carried_change, after_done, after_failed, visibility_done, visibility_failed, change_done, change_failed, answer_done, answer_failed}
use Rattle.call_refusals.specs.Refusals.{answer_refusal}
use Rattle.visibility_claims.specs.Whole.{BackendAnswer, Succeeds, Fails}
use Rattle.visibility_claims.specs.Calls.{answer_of, taken_by}
use Rattle.visibility_claims.proofs.Calls.{few_done, few_failed}
use Rattle.history.specs.Observed.{Observed, asks, last_after, is_taken, goes_on, sees_taken, sees_answer}
use Rattle.history.proofs.Took.{is_shared, shared_in}
use Rattle.history.proofs.Right.{opened, is_halted, is_quiet, Right, TakenReply, Fits, Moves, made_right}
use Rattle.history.proofs.Steps.{after, done_fits, failed_fits, done_moves, failed_moves}
use Rattle.history.proofs.Buffers.{Stands, settled, right_same, quiet_last, seen_last, stops, goes, quiet_names, changing_shut, stands_step, stands_change}

-- ---- what a step of another change tells: nothing that Modify, Accept or Zero would

pub record Told (i : IsolationType) (x : ChangeStep) : Type 0 where
  pub taken : TakenReply (flat_of i x.answer)
  pub halts : eqb (flat_of i x.answer).number refusal.halted ≡ stops x.stage
  pub waits : asks (flat_of i x.answer) ≡ goes x.stage
  pub quiet : is_quiet (flat_of i x.answer) ≡ true

module _ (i : IsolationType) where
  protect_told : (tracked : Bool) (g : Stage) (q : Change) (a : ℕ) (r : PageRun) → stops g ≡ false → goes g ≡ true → Told i (protect tracked g q a r)
  unfolding protect flat_of asked_of
  protect_told tracked g q a r h d = record { taken = record { not4 = refl; not21 = refl }; halts = sym h; waits = sym d; quiet = refl }

  wait_told : (q : Change) (e : Entry) → Told i (wait q e)
  unfolding wait ask flat_of asked_of
  wait_told q e = record { taken = record { not4 = refl; not21 = refl }; halts = refl; waits = refl; quiet = refl }

  pick : {x y : ChangeStep} (b : Bool) → Told i x → Told i y → Told i (cond b x y)
  pick true f g = f
  pick false f g = g

  pages_told : (tracked : Bool) (q : Change) (t : List ℕ) (a : ℕ) → Told i (protect_pages tracked q t a)
  unfolding protect_pages
  pages_told tracked q t a = pick (ltb a q.n) (protect_told tracked stage.ProtectPages q a _ refl refl) (wait_told q _)

  ram_told : (tracked : Bool) (q : Change) (r : PageRun) → Told i (protect_ram tracked q r)
  unfolding protect_ram
  ram_told tracked q r = pick (eqb r.count 0) (wait_told q _) (protect_told tracked stage.ProtectRam q _ r refl refl)

  pub new_told : (tracked : Bool) (v : GuestVtl) (p source current new : ℕ) → Told i (start_new tracked v p source current new)
  unfolding start_new
  new_told tracked v p source current new = pick (ltb new 16) (protect_told tracked stage.ProtectNew _ p _ refl refl) (wait_told _ _)

  pub old_told : (tracked : Bool) (v : GuestVtl) (p previous source : ℕ) → Told i (start_old tracked v p previous source)
  unfolding start_old
  old_told tracked v p previous source = protect_told tracked stage.ProtectOld _ p _ refl refl

  pub start_pages_told : (tracked : Bool) (v : GuestVtl) (flags n : ℕ) (t : List ℕ) → Told i (start_pages tracked v flags n t)
  start_pages_told tracked v flags n t = pages_told tracked (change_of v flags n) t 0

  pub start_ram_told : (tracked : Bool) (v : GuestVtl) (flags : ℕ) (r : PageRun) → Told i (start_ram tracked v flags r)
  start_ram_told tracked v flags r = ram_told tracked (change_of v flags 0) r

  pub done_told : (tracked : Bool) (g : Stage) (q : Change) (t : List ℕ) (next : PageRun) → takes_at g false ≡ true → Told i (done_of tracked g q t next)
  unfolding done_of ask finish flat_of asked_of
  done_told tracked stage.Idle q t next h = false≢true h
  done_told tracked stage.Halted q t next h = false≢true h
  done_told tracked stage.ProtectPages q t next h = pages_told tracked q t (run_end t q.n q.at)
  done_told tracked stage.ProtectRam q t next h = ram_told tracked q next
  done_told tracked stage.ProtectNew q t next h = wait_told q _
  done_told tracked stage.ProtectOld q t next h = wait_told q _
  done_told tracked stage.Wait q t next h = record { taken = record { not4 = refl; not21 = refl }; halts = refl; waits = refl; quiet = refl }
  done_told tracked stage.Flush q t next h = record { taken = record { not4 = refl; not21 = refl }; halts = refl; waits = refl; quiet = refl }
  done_told tracked stage.TlbWait q t next h = record { taken = record { not4 = refl; not21 = refl }; halts = refl; waits = refl; quiet = refl }

  pub failed_told : (g : Stage) (q : Change) → takes_at g true ≡ true → Told i (failed_of g q)
  unfolding failed_of halt finish flat_of
  failed_told stage.Idle q h = false≢true h
  failed_told stage.Halted q h = false≢true h
  failed_told stage.ProtectPages q h = record { taken = record { not4 = refl; not21 = refl }; halts = refl; waits = refl; quiet = refl }
  failed_told stage.ProtectRam q h = record { taken = record { not4 = refl; not21 = refl }; halts = refl; waits = refl; quiet = refl }
  failed_told stage.ProtectNew q h = record { taken = record { not4 = refl; not21 = refl }; halts = refl; waits = refl; quiet = refl }
  failed_told stage.ProtectOld q h = record { taken = record { not4 = refl; not21 = refl }; halts = refl; waits = refl; quiet = refl }
  failed_told stage.Wait q h = false≢true h
  failed_told stage.Flush q h = false≢true h
  failed_told stage.TlbWait q h = false≢true h

-- ---- the refusals of an answer: a: the state block has its length, h: halted, c: what is lent fits, d: an answer is waited for

abbrev pub chain : Bool → Bool → Bool → Bool → ℕ
chain a h c d = unless a refusal.wrong_length (when h refusal.halted (unless c refusal.wrong_length (unless d refusal.nothing_asked 0)))

abbrev pub counts : Bool → ℕ → Bool
counts h n = not h && (not (eqb n refusal.wrong_length) && not (eqb n refusal.nothing_asked))

pub chain_untaken : (a h c d : Bool) → eqb (chain a h c d) 0 ≡ false → counts h (chain a h c d) ≡ false
chain_untaken false true c d e = refl
chain_untaken false false c d e = refl
chain_untaken true true c d e = refl
chain_untaken true false false d e = refl
chain_untaken true false true false e = refl
chain_untaken true false true true e = false≢true (sym e)

chain_taken : (a h c d : Bool) → eqb (chain a h c d) 0 ≡ true → (h ≡ false) × (d ≡ true)
chain_taken false h c d e = false≢true e
chain_taken true true c d e = false≢true e
chain_taken true false false d e = false≢true e
chain_taken true false true false e = false≢true e
chain_taken true false true true e = (refl, refl)

-- a taken answer that leads to T, which keeps K
pub record Leads (K : Buffers → Observed → Type 0) (o : Observed) (g : BackendAnswer) (T : Outcome) : Type 0 where
  pub taken : TakenReply T.reply
  pub stands : K T.buffers (sees_taken g T.reply T.buffers.pages o)

module _ (K : Buffers → Observed → Type 0) (w : Buffers) (o : Observed) (halts : o.halted ≡ eqb (status_in w.state) refusal.halted) (k : K w o) where
  pub answered : (g : BackendAnswer) (failed : Bool) (T : Outcome) → (o.halted ≡ false → takes_in w.state failed ≡ true → Leads K o g T)
      → let X = decided w (answer_refusal w.state (fits w) failed) T in K X.buffers (sees_answer g X.reply X.buffers.pages o)
  unfolding answer_refusal
  answered g failed T f = go (eqb n 0) refl
    where
      h : Bool
      h = eqb (status_in w.state) refusal.halted

      n : ℕ
      n = chain (eqb (length w.state) state_len) h (fits w) (takes_in w.state failed)

      go : (b : Bool) → eqb n 0 ≡ b → K (cond b T (refused_by w n)).buffers (sees_answer g (cond b T (refused_by w n)).reply (cond b T (refused_by w n)).buffers.pages o)
      go true e =
          let c = chain_taken (eqb (length w.state) state_len) h (fits w) (takes_in w.state failed) e in
          let x = f (halts ∙ c.0) c.1 in
          let y : is_taken o T.reply ≡ true = rw (halts ∙ c.0, x.taken.not4, x.taken.not21) in
          subst (λ (b : Bool). K T.buffers (cond b (sees_taken g T.reply T.buffers.pages o) o)) (sym y) x.stands
      go false e =
          let y : is_taken o (refused_by w n).reply ≡ false =
          ap (λ (b : Bool). counts b n) halts ∙ chain_untaken (eqb (length w.state) state_len) h (fits w) (takes_in w.state failed) e in
          subst (λ (b : Bool). K w (cond b (sees_taken g (refused_by w n).reply w.pages o) o)) (sym y) k

  -- and whether it is taken is seen
  pub told : (g : BackendAnswer) (failed : Bool) (T : Outcome) → (o.halted ≡ false → takes_in w.state failed ≡ true → Leads K o g T)
      → is_taken o (decided w (answer_refusal w.state (fits w) failed) T).reply ≡ eqb (answer_refusal w.state (fits w) failed) 0
  unfolding answer_refusal
  told g failed T f = go (eqb n 0) refl
    where
      h : Bool
      h = eqb (status_in w.state) refusal.halted

      n : ℕ
      n = chain (eqb (length w.state) state_len) h (fits w) (takes_in w.state failed)

      go : (b : Bool) → eqb n 0 ≡ b → is_taken o (cond b T (refused_by w n)).reply ≡ b
      go true e =
          let c = chain_taken (eqb (length w.state) state_len) h (fits w) (takes_in w.state failed) e in
          let x = f (halts ∙ c.0) c.1 in
          rw (halts ∙ c.0, x.taken.not4, x.taken.not21)
      go false e = ap (λ (b : Bool). counts b n) halts ∙ chain_untaken (eqb (length w.state) state_len) h (fits w) (takes_in w.state failed) e

  pub either : (g : BackendAnswer) (c : Bool) (A B : Outcome) → is_changing w.state ≡ c → (is_changing w.state ≡ true → Leads K o g A) → (is_changing w.state ≡ false → Leads K o g B) → Leads K o g (cond c A B)
  either g true A B e f h = f e
  either g false A B e f h = h e

pub takes_change : (w : Buffers) (c failed : Bool) → is_changing w.state ≡ c → takes_in w.state failed ≡ true → cond c (takes_at (stage_in w.state) failed) (takes (phase_in w.state) failed) ≡ true
takes_change w c failed e h = ap (λ (b : Bool). cond b (takes_at (stage_in w.state) failed) (takes (phase_in w.state) failed)) (sym e) ∙ h

module _ (es : List MemoryRangeWithNode) (w : Buffers) (o : Observed) (k : Stands es w o) where
  -- of a visibility change
  module _ (g : BackendAnswer) (x : Step) (free : o.halted ≡ false) where
    abbrev p : Phase
    p = phase_in w.state

    abbrev q : Request
    q = request_of w.state

    abbrev i : IsolationType
    i = (settings_of w.state).isolation

    visible : Fits i w.pages (opened p) q.n x → Moves p q w.pages (shared_in o) (after p q w.pages g (shared_in o)) x → x.request.n ≤ 512 → Leads (Stands es) o g (carried_out w w.pages x)
    unfolding carried_out applied
    visible f mv few =
        let r : Reply = flat_of i x.answer in
        let listed' : List ℕ = cond (goes_on r) o.listed [] in
        let before = subst (λ (h : Bool). Right (is_ram es) w.maps.private w.maps.shared p q w.pages h o.listed (shared_in o)) free k.right in
        let here : goes_on r ≡ true → listed' ≡ o.listed = λ e. ap (λ (b : Bool). cond b o.listed []) e in
        let made =
        made_right (is_ram es) w.maps.private w.maps.shared p q w.pages o.listed (shared_in o) (after p q w.pages g (shared_in o)) i x before f mv listed'
        (λ e. here (f.tells.stays e)) (λ e. here (or_right (asks r) _ (f.tells.halts ∙ e))) in
        let same = right_same (λ z. is_shared (last_after g o z)) (is_halted x.phase) (seen_last p g o q w.pages k.names k.table) made in
        record {
          taken = f.tells.taken;
          stands = stands_step es (applied w.pages x.writes w.maps) w.state w.pages w.tables (sees_taken g r w.pages o) x.phase x.request few k.layout
              (subst (λ (h : Bool). Right (is_ram es) (applied w.pages x.writes w.maps).private (applied w.pages x.writes w.maps).shared x.phase x.request w.pages h listed' (λ z. is_shared (last_after g o z))) (sym f.tells.halts) same)
              f.tells.halts f.tells.waits f.tells.names (λ _. refl);
        }

    -- of another change
    changed : is_changing w.state ≡ true → (x : ChangeStep) → Told i x → Leads (Stands es) o g (carried_change w w.pages x)
    unfolding carried_change
    changed c x t =
        let r : Reply = flat_of i x.answer in
        let shut : opened p ≡ false = changing_shut w.state c in
        let before = subst (λ (h : Bool). Right (is_ram es) w.maps.private w.maps.shared p q w.pages h o.listed (shared_in o)) free k.right in
        let still : is_quiet o.op ≡ true = quiet_names p q w.pages o.op shut k.names in
        record {
          taken = t.taken;
          stands = stands_change es _ w.state w.pages _ (sees_taken g r w.pages o) x.stage x.change k.layout
              (λ p' q' s. settled (λ z. is_shared (last_after g o z)) p' q' w.pages _ _ shut s (quiet_last g o still) before) t.halts t.waits t.quiet;
        }

  few : (request_of w.state).n ≤ 512
  few = omega arith

  -- what a taken answer leads to
  done_leads : o.halted ≡ false → takes_in w.state false ≡ true → Leads (Stands es) o Succeeds (cond (is_changing w.state) (change_done w) (visibility_done w))
  unfolding after_done
  done_leads free t =
      let s = settings_of w.state in
      let p' = phase_in w.state in
      let q' = request_of w.state in
      either (Stands es) w o k.halts k Succeeds (is_changing w.state) (change_done w) (visibility_done w) refl
      (λ c. changed Succeeds (steps_of_visibility.halt q') free c _ (done_told s.isolation s.tracked (stage_in w.state) (change_in w.state) w.pages _ (takes_change w true false c t)))
      (λ c. let y = takes_change w false false c t in
      visible Succeeds (steps_of_visibility.done_of s p' q' w.pages) free (done_fits s p' q' w.pages y) (done_moves s q' w.pages (shared_in o) p' y (λ j e h d. k.right.toward e j h d))
      (few_done s w.pages p' q' y few))

  failed_leads : (code n : ℕ) → o.halted ≡ false → takes_in w.state true ≡ true → Leads (Stands es) o (Fails code n) (cond (is_changing w.state) (change_failed w) (visibility_failed w code n))
  unfolding after_failed
  failed_leads code n free t =
      let s = settings_of w.state in
      let p' = phase_in w.state in
      let q' = request_of w.state in
      either (Stands es) w o k.halts k (Fails code n) (is_changing w.state) (change_failed w) (visibility_failed w code n) refl
      (λ c. changed (Fails code n) (steps_of_visibility.halt q') free c _ (failed_told s.isolation (stage_in w.state) (change_in w.state) (takes_change w true true c t)))
      (λ c. let y = takes_change w false true c t in
      visible (Fails code n) (steps_of_visibility.failed_of s p' q' w.pages code n) free (failed_fits s p' q' w.pages code n y)
      (failed_moves s q' w.pages (shared_in o) p' code n y (λ j e h d. k.right.toward e j h d) (λ e. k.right.once e)) (few_failed s w.pages p' q' code n y few))

  pub answer_stands : (g : BackendAnswer) → Stands es (answer_of g w).buffers (sees_answer g (answer_of g w).reply (answer_of g w).buffers.pages o)
  unfolding answer_done answer_failed
  answer_stands Succeeds = answered (Stands es) w o k.halts k Succeeds false (cond (is_changing w.state) (change_done w) (visibility_done w)) done_leads
  answer_stands (Fails code n) = answered (Stands es) w o k.halts k (Fails code n) true (cond (is_changing w.state) (change_failed w) (visibility_failed w code n)) (failed_leads code n)

  -- whether an answer is taken is seen from what it gives
  pub taken_seen : (g : BackendAnswer) → is_taken o (answer_of g w).reply ≡ taken_by g w
  unfolding answer_done answer_failed
  taken_seen Succeeds = told (Stands es) w o k.halts k Succeeds false (cond (is_changing w.state) (change_done w) (visibility_done w)) done_leads
  taken_seen (Fails code n) = told (Stands es) w o k.halts k (Fails code n) true (cond (is_changing w.state) (change_failed w) (visibility_failed w code n)) (failed_leads code n)
