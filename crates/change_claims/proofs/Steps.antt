-- A change under way through its answers: each operation asked for is the one that the whole call asks next. Assumes nothing.
use native.Mathlib.Omega.{arith}
use mathlib.Core.Path.{◌≡◌, refl, sym, ap, ap₂, ◌∙◌, subst}
use mathlib.Core.Bool.{Bool, true, false, cond, ◌&&◌}
use mathlib.Core.List.{List, [], ◌∷◌, ◌++◌}
use Prim.Native.Nat.{ℕ, suc, ◌+◌, ◌%◌, ◌^◌, ◌≤◌, min}
use lib.Dec.{eqb, leb, ltb}
use lib.ListN.{length}
use borrow.Author.Tests.{eq-eqb}
use Rattle.permissions.proofs.Laws.{vtl_number_lem}
use Rattle.laws.specs.Bools.{false≢true}
use Rattle.bitmap.proofs.Steps.{run_none}
use Rattle.permissions.specs.declared.IsolationType.{IsolationType}
use Rattle.permissions.specs.declared.HvMapGpaFlags.{HvMapGpaFlags}
use Rattle.permissions.specs.Flags.{flags_of}
use Rattle.layout.specs.declared.MemoryRangeWithNode.{MemoryRangeWithNode}
use Rattle.mapping.specs.Maps.{Maps, Permissions}
use Rattle.page_list.specs.declared.PageRun.{PageRun}
use Rattle.visibility_steps.specs.declared.Settings.{Settings}
use Rattle.change_steps.specs.declared.Stage.{Stage}
use Rattle.change_steps.specs.declared.Stage.TheVariants as stage
use Rattle.change_steps.specs.declared.Change.{Change}
use Rattle.change_steps.specs.declared.ChangeStep.{ChangeStep}
use Rattle.change_steps.specs.Changes as changes
use Rattle.protector_state.specs.declared.Reply.{Reply}
use Rattle.protector_state.specs.State.{first_phases, phase_of, settings_of, entries_in}
use Rattle.protector_state.specs.Reply.{asked_of, flat_of}
use Rattle.protector_state.specs.Changing.{stage_number, stage_of, change_in, change_words}
use Rattle.call_refusals.specs.Buffers.{Buffers, buffers, Outcome, overlays_of, fits, takes_at}
use Rattle.protector.specs.Writes.{permitted_run, entered}
use Rattle.protector.specs.Calls.{with_permissions, carried_change, piece_after, after_done, after_failed, answer_done, answer_failed}
use Rattle.call_refusals.specs.Refusals.{answer_refusal}
use Rattle.visibility_claims.specs.Whole.{Operation, Wait, FlushAll, Protect, Invalidate, Release, Modify, Accept, Zero, Flush, TlbWait, BackendAnswer, Succeeds, Fails, Whole, fails, one}
use Rattle.visibility_claims.specs.Runs.{told, after}
use Rattle.visibility_claims.proofs.Calls.{taken_21}
use Rattle.visibility_claims.specs.Calls.{asks_in, Told, follow, crossing, replies, Says}
use Rattle.change_claims.specs.Calls.{Agrees}

-- ---- what is kept is read again

pub stage_read : (g : Stage) → takes_at g false ≡ true → (stage_of (stage_number g) ≡ g) × ((leb 13 (stage_number g) && ltb (stage_number g) 20) ≡ true)
unfolding stage_of
stage_read stage.Idle e = false≢true e
stage_read stage.Halted e = false≢true e
stage_read stage.ProtectPages e = (refl, refl)
stage_read stage.ProtectRam e = (refl, refl)
stage_read stage.ProtectNew e = (refl, refl)
stage_read stage.ProtectOld e = (refl, refl)
stage_read stage.Wait e = (refl, refl)
stage_read stage.Flush e = (refl, refl)
stage_read stage.TlbWait e = (refl, refl)

change_read : (g : Stage) (q : Change) (tail : List ℕ) → q.n ≤ 512 → change_in (change_words g q ++ tail) ≡ q
change_read g q tail h =
    let e : min q.n 512 ≡ q.n = omega arith in
    rw (vtl_number_lem q.vtl, vtl_number_lem q.flush, e)

-- ---- maps

perms_none : (f : HvMapGpaFlags) (m : Permissions) → permitted_run changes.no_run f m ≡ m
perms_none f m =
    rw (
      sym (run_none 8 f.readable m.read 0),
      sym (run_none 8 f.writable m.write 0),
      sym (run_none 8 f.kernel_executable m.kernel 0),
      sym (run_none 8 f.user_executable m.user 0),
    ) refl

pub none_written : (f : HvMapGpaFlags) (m : Maps) → with_permissions m changes.no_run f ≡ m
none_written f m = ap (λ (p : Permissions). record { private = m.private; shared = m.shared; permissions = p }) (perms_none f m.permissions)

-- ---- replies

asked_one : (i : IsolationType) (o : Operation) → asks_in (asked_of i (crossing o)) ≡ asked_of i (crossing o) ∷ []
unfolding asked_of
asked_one i Wait = refl
asked_one i FlushAll = refl
asked_one i (Protect v f r) = refl
asked_one i (Invalidate r) = refl
asked_one i (Release r) = refl
asked_one i (Modify share ps) = refl
asked_one i (Accept r) = refl
asked_one i (Zero r) = refl
asked_one i (Flush v) = refl
asked_one i (TlbWait v) = refl

outstanding : (i : IsolationType) (o : Operation) → eqb (asked_of i (crossing o)).operation 0 ≡ false
unfolding asked_of
outstanding i Wait = refl
outstanding i FlushAll = refl
outstanding i (Protect v f r) = refl
outstanding i (Invalidate r) = refl
outstanding i (Release r) = refl
outstanding i (Modify share ps) = refl
outstanding i (Accept r) = refl
outstanding i (Zero r) = refl
outstanding i (Flush v) = refl
outstanding i (TlbWait v) = refl

-- ---- whether an answer is taken

-- the state of a change under way: its words before a tail that no answer changes
module _ (tail t : List ℕ) where
  abbrev pub kept : List ℕ
  kept = change_words stage.Idle changes.no_change ++ tail

  abbrev pub settings : Settings
  settings = settings_of kept

  abbrev pub entries : List MemoryRangeWithNode
  entries = entries_in kept

  abbrev pub fit : Maps → List ℕ → Bool
  fit m T = fits (buffers m kept t T)

  abbrev pub held : Stage → Change → Maps → List ℕ → Buffers
  held g q m T = buffers m (change_words g q ++ tail) t T

  abbrev pub left : Maps → List ℕ → ChangeStep → Outcome
  left m T x =
      record {
        buffers = held x.stage x.change (with_permissions m x.written (flags_of x.change.flags)) (entered x.entry x.change T);
        reply = flat_of settings.isolation x.answer;
      }

  abbrev pub Same : ℕ → Whole → List ℕ → Told → Type 0
  Same c w T x = Agrees tail t settings.isolation (after c w) T x

  abbrev pub next : Stage → Change → Maps → List ℕ → PageRun
  next g q m T = piece_after g m.private (overlays_of T q.vtl) entries q.at

  module _ (long : length tail ≡ 114) where
    module _ (g : Stage) (q : Change) (m : Maps) (T : List ℕ) (e : takes_at g false ≡ true) (h : q.n ≤ 512) (f : fit m T ≡ true) where
      block : length (change_words g q ++ tail) ≡ 128
      block = omega arith

      taken : (b : Bool) → eqb (answer_refusal (change_words g q ++ tail) (fits (held g q m T)) b) 0 ≡ takes_at g b
      unfolding answer_refusal
      taken b = rw (eq-eqb (length (change_words g q ++ tail)) 128 block, (stage_read g e).1, f, (stage_read g e).0) (taken_21 (takes_at g b))

      done_left : answer_done (held g q m T) ≡ left m T (changes.done_of settings.tracked g q t (next g q m T))
      unfolding answer_done carried_change after_done
      done_left =
          rw (taken false ∙ e, (stage_read g e).1)
          (ap₂ (λ (g : Stage) (q : Change). left m T (changes.done_of settings.tracked g q t (next g q m T))) (stage_read g e).0 (change_read g q tail h))

      failed_left : (code k : ℕ) → takes_at g true ≡ true → answer_failed (held g q m T) code k ≡ left m T (changes.failed_of g q)
      unfolding answer_failed carried_change after_failed
      failed_left code k d =
          rw (taken true ∙ d, (stage_read g e).1)
          (ap₂ (λ (g : Stage) (q : Change). left m T (changes.failed_of g q)) (stage_read g e).0 (change_read g q tail h))

    -- ---- an operation asked for

    -- one more of the whole call
    more : (c : ℕ) (o : Operation) (w : Whole) (T : List ℕ) (x : Told) → Same (c + 1) w T x
        → Same c (record { asked = o ∷ w.asked; maps = w.maps; status = w.status }) T (record { asked = asks_in (asked_of settings.isolation (crossing o)) ++ x.asked; last = x.last })
    unfolding replies
    more c o w T x k =
        let d : c + 1 + length w.asked ≡ c + suc (length w.asked) = omega arith in
        record {
          same_asked = ap₂ (λ (a b : List Reply). a ++ b) (asked_one settings.isolation o) k.same_asked;
          same_maps = k.same_maps;
          same_reply = subst (λ (n : ℕ). Says settings.isolation (told (n % 2 ^ 64) w.status) x.last.reply) d k.same_reply;
          same_pages = k.same_pages;
          same_tables = k.same_tables;
          same_rest = k.same_rest;
        }

    abbrev told_more : Operation → Told → Told
    told_more o x = record { asked = asks_in (asked_of settings.isolation (crossing o)) ++ x.asked; last = x.last }

    abbrev whole_more : Operation → Whole → Whole
    whole_more o w = record { asked = o ∷ w.asked; maps = w.maps; status = w.status }

    chosen : (b c : Bool) (w w₀ : Whole) (n : ℕ) (T : List ℕ) (x x₀ : Told) → c ≡ b → (b ≡ true → Same n w T x) → (b ≡ false → Same n w₀ T x₀) → Same n (cond b w w₀) T (cond c x x₀)
    chosen true true w w₀ n T x x₀ e f g = f refl
    chosen false false w w₀ n T x x₀ e f g = g refl
    chosen true false w w₀ n T x x₀ e f g = false≢true e
    chosen false true w w₀ n T x x₀ e f g = false≢true (sym e)

    -- Tf: the tables under the answers that are given from here on
    pub asks : (c : ℕ) (g : Stage) (q : Change) (o : Operation) (m : Maps) (T : List ℕ) (follows : List BackendAnswer → Whole) (failed : ℕ → ℕ → List BackendAnswer → Whole) (Tf : List BackendAnswer → List ℕ)
        → takes_at g false ≡ true → takes_at g true ≡ fails o → q.n ≤ 512 → fit m T ≡ true → Tf [] ≡ T
        → ((gs : List BackendAnswer) → Same (c + 1) (follows gs) (Tf (Succeeds ∷ gs)) (follow (left m T (changes.done_of settings.tracked g q t (next g q m T))) gs))
        → ((code k : ℕ) (gs : List BackendAnswer) → fails o ≡ true → Same (c + 1) (failed code k gs) (Tf (Fails code k ∷ gs)) (follow (left m T (changes.failed_of g q)) gs))
        → ((code k : ℕ) (gs : List BackendAnswer) → fails o ≡ false → Tf (Fails code k ∷ gs) ≡ Tf gs)
        → (gs : List BackendAnswer) → Same c (one o m gs follows failed) (Tf gs) (follow (record { buffers = held g q m T; reply = asked_of settings.isolation (crossing o) }) gs)
    unfolding one follow replies
    asks c g q o m T follows failed Tf a b h f z done bad same [] =
        record {
          same_asked = asked_one settings.isolation o;
          same_maps = refl;
          same_reply = outstanding settings.isolation o;
          same_pages = refl;
          same_tables = sym z;
          same_rest = refl;
        }
    asks c g q o m T follows failed Tf a b h f z done bad same (Succeeds ∷ gs) =
        let o₀ : Outcome = record { buffers = held g q m T; reply = asked_of settings.isolation (crossing o) } in
        let x : Told = follow (answer_done (held g q m T)) gs in
        chosen true _ (whole_more o (follows gs)) (follows gs) c (Tf (Succeeds ∷ gs)) (told_more o x) (follow o₀ gs) (taken g q m T a h f false ∙ a)
        (λ _. more c o (follows gs) (Tf (Succeeds ∷ gs)) x
        (subst (λ (x : Outcome). Same (c + 1) (follows gs) (Tf (Succeeds ∷ gs)) (follow x gs)) (sym (done_left g q m T a h f)) (done gs)))
        (λ e. false≢true (sym e))
    asks c g q o m T follows failed Tf a b h f z done bad same (Fails code k ∷ gs) =
        let o₀ : Outcome = record { buffers = held g q m T; reply = asked_of settings.isolation (crossing o) } in
        let x : Told = follow (answer_failed (held g q m T) code k) gs in
        chosen (fails o) _ (whole_more o (failed code k gs)) (one o m gs follows failed) c (Tf (Fails code k ∷ gs)) (told_more o x) (follow o₀ gs) (taken g q m T a h f true ∙ b)
        (λ e. more c o (failed code k gs) (Tf (Fails code k ∷ gs)) x
        (subst (λ (x : Outcome). Same (c + 1) (failed code k gs) (Tf (Fails code k ∷ gs)) (follow x gs)) (sym (failed_left g q m T a h f code k (b ∙ e))) (bad code k gs e)))
        (λ e. subst (λ (T' : List ℕ). Same c (one o m gs follows failed) T' (follow (record { buffers = held g q m T; reply = asked_of settings.isolation (crossing o) }) gs)) (sym (same code k gs e))
        (asks c g q o m T follows failed Tf a b h f z done bad same gs))

    -- ---- the end: no answer is taken any more

    pub over_idle : (q : Change) (m : Maps) (T : List ℕ) (r : Reply) → fit m T ≡ true → (gs : List BackendAnswer)
        → follow (record { buffers = held stage.Idle q m T; reply = r }) gs ≡ record { asked = asks_in r; last = record { buffers = held stage.Idle q m T; reply = r } }
    unfolding follow answer_refusal phase_of first_phases
    over_idle q m T r f [] = refl
    over_idle q m T r f (Succeeds ∷ gs) = rw (eq-eqb (length (change_words stage.Idle q ++ tail)) 128 (omega arith), f) (over_idle q m T r f gs)
    over_idle q m T r f (Fails code k ∷ gs) = rw (eq-eqb (length (change_words stage.Idle q ++ tail)) 128 (omega arith), f) (over_idle q m T r f gs)

    pub over_halted : (q : Change) (m : Maps) (T : List ℕ) (r : Reply) (gs : List BackendAnswer)
        → follow (record { buffers = held stage.Halted q m T; reply = r }) gs ≡ record { asked = asks_in r; last = record { buffers = held stage.Halted q m T; reply = r } }
    unfolding follow answer_refusal phase_of first_phases
    over_halted q m T r [] = refl
    over_halted q m T r (Succeeds ∷ gs) = rw (eq-eqb (length (change_words stage.Halted q ++ tail)) 128 (omega arith)) (over_halted q m T r gs)
    over_halted q m T r (Fails code k ∷ gs) = rw (eq-eqb (length (change_words stage.Halted q ++ tail)) 128 (omega arith)) (over_halted q m T r gs)
