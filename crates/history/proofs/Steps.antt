-- Every step that a taken answer leads a visibility change to fits, and moves as the answer says. Assumes nothing.
use Rattle.permissions.specs.declared.HvMapGpaFlags.{HvMapGpaFlags}
use Rattle.std.specs.Prelude.{Option, Some, None}
use Prim.Native.Nat.{ℕ, ◌+◌, ◌≤◌, ◌<◌, min}
use mathlib.Core.Path.{◌≡◌, refl, ap, ◌∙◌}
use mathlib.Core.List.{List}
use mathlib.Core.Bool.{Bool, true, false, not, cond, ◌&&◌}
use mathlib.Core.Logic.{◌⊎◌, inl, inr}
use native.Mathlib.Omega.{arith}
use native.Mathlib.Decide.{dec_lt}
use lib.ListN.{length, get_or}
use lib.Dec.{eqb, ltb, leb}
use borrow.Author.Tests.{leb-false}
use Rattle.abi.specs.Refusals as refusal
use Rattle.laws.specs.Bools.{false≢true}
use Rattle.page_list.specs.Pages.{among}
use Rattle.page_list.specs.Runs.{part}
use Rattle.request_pages.specs.Request.{run_end}
use Rattle.visibility_steps.specs.declared.Phase.{Phase}
use Rattle.visibility_steps.specs.declared.Phase.TheVariants as at
use Rattle.visibility_steps.specs.declared.Answer.TheVariants.{Done, AccessDenied, Failed}
use Rattle.visibility_steps.specs.declared.Settings.{Settings}
use Rattle.visibility_steps.specs.declared.Request.{Request}
use Rattle.visibility_steps.specs.declared.Writes.{Writes}
use Rattle.visibility_steps.specs.declared.Step.{Step}
use Rattle.visibility_steps.specs.Steps.{is_snp, is_cca, releases, no_writes, set_shared, set_private, set_permissions, operation_of, ask, step, no_request, end, halt, share_run, default_run, return_run, after_flush, after_wait, after_modify, after_accept, after_default0, cut_at, failed_modify, done_of, failed_of}
use Rattle.protector_state.specs.Reply.{asked_of, flat_of}
use Rattle.call_refusals.specs.Buffers.{status_of, takes}
use Rattle.visibility_claims.specs.Whole.{BackendAnswer, Succeeds, Fails}
use Rattle.history.specs.Observed.{processed}
use Rattle.history.proofs.Bits.{clash, of_part, in_part, less_among}
use Rattle.history.proofs.Right.{opened, dir, Tells, Wrote, Fits, StaysBut, Moves}

-- ---- what a step tells

module _ (s : Settings) (t : List ℕ) where
  ask_tells : (p : Phase) (q : Request) (a : ℕ) (w : Writes) → eqb (status_of p) refusal.busy ≡ true → Tells s.isolation t (ask s p q t a w)
  unfolding ask operation_of flat_of asked_of
  ask_tells at.Idle q a w e = false≢true e
  ask_tells at.Halted q a w e = false≢true e
  ask_tells at.Wait q a w e = record { taken = record { not4 = refl; not21 = refl }; halts = refl; waits = refl; stays = λ _. refl; names = refl }
  ask_tells at.FlushAll q a w e = record { taken = record { not4 = refl; not21 = refl }; halts = refl; waits = refl; stays = λ _. refl; names = refl }
  ask_tells at.ProtectNone0 q a w e = record { taken = record { not4 = refl; not21 = refl }; halts = refl; waits = refl; stays = λ _. refl; names = refl }
  ask_tells at.ProtectNone1 q a w e = record { taken = record { not4 = refl; not21 = refl }; halts = refl; waits = refl; stays = λ _. refl; names = refl }
  ask_tells at.Invalidate q a w e = record { taken = record { not4 = refl; not21 = refl }; halts = refl; waits = refl; stays = λ _. refl; names = refl }
  ask_tells at.Release q a w e = record { taken = record { not4 = refl; not21 = refl }; halts = refl; waits = refl; stays = λ _. refl; names = refl }
  ask_tells at.Modify q a w e = record { taken = record { not4 = refl; not21 = refl }; halts = refl; waits = refl; stays = λ _. refl; names = refl }
  ask_tells at.Accept q a w e = record { taken = record { not4 = refl; not21 = refl }; halts = refl; waits = refl; stays = λ _. refl; names = refl }
  ask_tells at.Zero q a w e = record { taken = record { not4 = refl; not21 = refl }; halts = refl; waits = refl; stays = λ _. refl; names = refl }
  ask_tells at.ProtectDefault0 q a w e = record { taken = record { not4 = refl; not21 = refl }; halts = refl; waits = refl; stays = λ _. refl; names = refl }
  ask_tells at.ProtectDefault1 q a w e = record { taken = record { not4 = refl; not21 = refl }; halts = refl; waits = refl; stays = λ _. refl; names = refl }

  end_tells : (q : Request) (w : Writes) → Tells s.isolation t (end q w)
  unfolding end flat_of
  end_tells q w = go q.stopped q.failed
    where
      go : (a b : Bool) → Tells s.isolation t (step at.Idle no_request (cond a (AccessDenied q.index q.count) (cond b (Failed q.code q.index q.count) (Done q.count))) w)
      go true b = record { taken = record { not4 = refl; not21 = refl }; halts = refl; waits = refl; stays = λ e. false≢true e; names = refl }
      go false true = record { taken = record { not4 = refl; not21 = refl }; halts = refl; waits = refl; stays = λ e. false≢true e; names = refl }
      go false false = record { taken = record { not4 = refl; not21 = refl }; halts = refl; waits = refl; stays = λ e. false≢true e; names = refl }

  halt_tells : (q : Request) → Tells s.isolation t (halt q)
  unfolding halt flat_of
  halt_tells q = record { taken = record { not4 = refl; not21 = refl }; halts = refl; waits = refl; stays = λ e. false≢true e; names = refl }

-- ---- what it writes

quiet : (n : ℕ) → Wrote n n no_writes
quiet n = record { on = refl; low = omega arith; inside = omega arith; high = λ j a b. absurd (omega arith) }

module _ (s : Settings) (q : Request) (t : List ℕ) where
  abbrev F : Bool → ℕ → Step → Type 0
  F o n x = Fits s.isolation t o n x

  ask_closed : (o : Bool) (n m : ℕ) (p : Phase) (i : ℕ) (w : Writes) → eqb (status_of p) refusal.busy ≡ true → opened p ≡ false → Wrote n m w → (o ≡ false → (w.private.to ≡ 0) × (w.shared.to ≤ w.shared.from)) → F o n (ask s p q t i w)
  unfolding ask
  ask_closed o n m p i w h c r was = record { m = m; wrote = r; was = was; opens = λ e. clash (opened p) e c; tells = ask_tells s t p q i w h }

  ask_open : (n m : ℕ) (p : Phase) (i : ℕ) (w : Writes) → eqb (status_of p) refusal.busy ≡ true → Wrote n m w → w.private.to ≡ 0 → q.n ≤ m → q.n ≤ n → F true n (ask s p q t i w)
  unfolding ask
  ask_open n m p i w h r z a b = record { m = m; wrote = r; was = λ e. clash true refl e; opens = λ _. (z, a, b, refl); tells = ask_tells s t p q i w h }

  -- nothing is written, and the pages are those that they were
  ask_quiet : (p : Phase) (i : ℕ) → eqb (status_of p) refusal.busy ≡ true → F true q.n (ask s p q t i no_writes)
  ask_quiet p i h = ask_open q.n q.n p i no_writes h (quiet q.n) refl (omega arith) (omega arith)

  end_fits : (o : Bool) (n m : ℕ) (w : Writes) → Wrote n m w → (o ≡ false → (w.private.to ≡ 0) × (w.shared.to ≤ w.shared.from)) → F o n (end q w)
  unfolding end
  end_fits o n m w r was = record { m = m; wrote = r; was = was; opens = λ e. clash false e refl; tells = end_tells s t q w }

  halt_fits : (o : Bool) → F o q.n (halt q)
  unfolding halt
  halt_fits o = record { m = q.n; wrote = quiet q.n; was = λ _. (refl, omega arith); opens = λ e. clash false e refl; tells = halt_tells s t q }

  pick : {o : Bool} {n : ℕ} {x y : Step} (b : Bool) → F o n x → F o n y → F o n (cond b x y)
  pick true f g = f
  pick false f g = g

  share_fits : (i : ℕ) → F true q.n (share_run s q t i)
  unfolding share_run
  share_fits i =
      pick (ltb i q.n && is_snp s.isolation) (ask_quiet at.ProtectNone0 i refl)
      (pick (ltb i q.n && releases s.isolation s.release) (ask_quiet at.Release i refl) (ask_quiet at.Modify 0 refl))

  default_fits : (o : Bool) (n m i : ℕ) (w : Writes) → Wrote n m w → (o ≡ false → (w.private.to ≡ 0) × (w.shared.to ≤ w.shared.from)) → F o n (default_run s q t i w)
  unfolding default_run
  default_fits o n m i w r was =
      let u = set_permissions w i (cond s.tracked (run_end t q.n i) i) s.defaults.vtl0 in
      pick (ltb i q.n) (ask_closed o n m at.ProtectDefault0 i u refl refl (record { on = r.on; low = r.low; inside = r.inside; high = r.high }) was) (end_fits o n m w r was)

  default_quiet : (i : ℕ) → F false q.n (default_run s q t i no_writes)
  default_quiet i = default_fits false q.n q.n i no_writes (quiet q.n) (λ _. (refl, omega arith))

  return_fits : (n m i : ℕ) (w : Writes) → Wrote n m w → w.private.to ≡ 0 → q.n ≤ m → q.n ≤ n → F true n (return_run s q t i w)
  unfolding return_run
  return_fits n m i w r z a b =
      let d = default_fits true n m 0 (set_private w q.n) (record { on = r.on; low = a; inside = b; high = r.high }) (λ e. clash true refl e) in
      pick (ltb i q.n) (pick (is_cca s.isolation) d (ask_open n m at.Accept i w refl r z a b)) d

  return_quiet : (i : ℕ) → F true q.n (return_run s q t i no_writes)
  return_quiet i = return_fits q.n q.n i no_writes (quiet q.n) refl (omega arith) (omega arith)

  flush_fits : F true q.n (after_flush s q t)
  unfolding after_flush
  flush_fits = pick q.share (share_fits 0) (ask_quiet at.Modify 0 refl)

  wait_fits : F true q.n (after_wait s q t)
  unfolding after_wait
  wait_fits = pick (is_snp s.isolation) (ask_quiet at.FlushAll 0 refl) flush_fits

  modify_fits : F true q.n (after_modify s q t)
  unfolding after_modify
  modify_fits =
      pick q.share
      (end_fits true q.n 0 (set_shared no_writes 0 q.n) (record { on = refl; low = omega arith; inside = omega arith; high = λ j a b. (omega arith, b) }) (λ e. clash true refl e))
      (return_quiet 0)

  accept_fits : F true q.n (after_accept s q t)
  unfolding after_accept
  accept_fits = pick (is_snp s.isolation) (ask_quiet at.Zero q.at refl) (return_quiet (run_end t q.n q.at))

  default0_fits : (g : Option HvMapGpaFlags) → F false q.n (after_default0 g s q t)
  default0_fits (Some f) = ask_closed false q.n q.n at.ProtectDefault1 q.at no_writes refl refl (quiet q.n) (λ _. (refl, omega arith))
  default0_fits None = default_quiet (run_end t q.n q.at)

pub done_fits : (s : Settings) (p : Phase) (q : Request) (t : List ℕ) → takes p false ≡ true → Fits s.isolation t (opened p) q.n (done_of s p q t)
unfolding done_of
done_fits s at.Idle q t e = false≢true e
done_fits s at.Halted q t e = false≢true e
done_fits s at.Wait q t e = wait_fits s q t
done_fits s at.FlushAll q t e = flush_fits s q t
done_fits s at.ProtectNone0 q t e = ask_quiet s q t at.ProtectNone1 q.at refl
done_fits s at.ProtectNone1 q t e = ask_quiet s q t at.Invalidate q.at refl
done_fits s at.Invalidate q t e = share_fits s q t (run_end t q.n q.at)
done_fits s at.Release q t e = share_fits s q t (run_end t q.n q.at)
done_fits s at.Modify q t e = modify_fits s q t
done_fits s at.Accept q t e = accept_fits s q t
done_fits s at.Zero q t e = return_quiet s q t (run_end t q.n q.at)
done_fits s at.ProtectDefault0 q t e = default0_fits s q t s.defaults.vtl1
done_fits s at.ProtectDefault1 q t e = default_quiet s q t (run_end t q.n q.at)

failed_modify_fits : (s : Settings) (q : Request) (t : List ℕ) (code k : ℕ) → Fits s.isolation t true q.n (failed_modify s q t code k)
unfolding failed_modify
failed_modify_fits s q t code k =
    pick s q t q.share (halt_fits s q t true) (go (leb q.n k) refl)
  where
    i : ℕ
    i = get_or t (512 + k) 0

    go : (b : Bool) → leb q.n k ≡ b → Fits s.isolation t true q.n (cond b (halt q) (return_run s (cut_at q k code i) t 0 (set_shared no_writes k q.n)))
    go true e = halt_fits s q t true
    go false e =
        let lt : k < q.n = leb-false q.n k e in
        return_fits s (cut_at q k code i) t q.n k 0 (set_shared no_writes k q.n) (record { on = refl; low = omega arith; inside = omega arith; high = λ j a b. (a, b) }) refl (omega arith) (omega arith)

pub failed_fits : (s : Settings) (p : Phase) (q : Request) (t : List ℕ) (code k : ℕ) → takes p true ≡ true → Fits s.isolation t (opened p) q.n (failed_of s p q t code k)
unfolding failed_of
failed_fits s at.Idle q t code k e = false≢true e
failed_fits s at.Halted q t code k e = false≢true e
failed_fits s at.Wait q t code k e = false≢true e
failed_fits s at.FlushAll q t code k e = false≢true e
failed_fits s at.ProtectNone0 q t code k e = halt_fits s q t true
failed_fits s at.ProtectNone1 q t code k e = halt_fits s q t true
failed_fits s at.Invalidate q t code k e = halt_fits s q t true
failed_fits s at.Release q t code k e = halt_fits s q t true
failed_fits s at.Modify q t code k e = failed_modify_fits s q t code k
failed_fits s at.Accept q t code k e = halt_fits s q t true
failed_fits s at.Zero q t code k e = halt_fits s q t true
failed_fits s at.ProtectDefault0 q t code k e = halt_fits s q t false
failed_fits s at.ProtectDefault1 q t code k e = halt_fits s q t false

-- ---- how it goes with what is taken

module _ (s : Settings) (t : List ℕ) (last : ℕ → Bool) where
  choose : {p : Phase} {q : Request} {now : ℕ → Bool} {x y : Step} (b : Bool) → Moves p q t last now x → Moves p q t last now y → Moves p q t last now (cond b x y)
  choose true f g = f
  choose false f g = g

  module _ (p : Phase) (q0 q : Request) (w : Writes) (now : ℕ → Bool) (o : opened p ≡ true) (kept : (z : ℕ) → among (part t q0.n 0) z ≡ false → now z ≡ last z)
      (ns : (j : ℕ) → w.shared.from ≤ j → j < w.shared.to → j < length t → now (get_or t j 0) ≡ true) where
    open_ask : (p' : Phase) (i : ℕ) → opened p' ≡ true → w.private.to ≡ 0 → ((j : ℕ) → j < q0.n → (j < q.n → ⊥) → (w.shared.from ≤ j) × (j < w.shared.to))
        → ((j : ℕ) → j < q.n → j < length t → now (get_or t j 0) ≡ dir p' q.share) → Moves p q0 t last now (ask s p' q t i w)
    unfolding ask
    open_ask p' i l z cov tw = record {
      same = λ e. clash (opened p) o e;
      kept = kept;
      new_private = λ j b d. absurd (omega arith);
      new_shared = ns;
      covered = λ _ j b nl _. inr (cov j b (λ h. nl l h));
      toward = λ _. tw;
    }

    closed_ask : (p' : Phase) (i : ℕ) → opened p' ≡ false → ((j : ℕ) → j < w.private.to → j < length t → now (get_or t j 0) ≡ false)
        → ((j : ℕ) → j < q0.n → ((w.private.from ≤ j) × (j < w.private.to)) ⊎ ((w.shared.from ≤ j) × (j < w.shared.to))) → Moves p q0 t last now (ask s p' q t i w)
    unfolding ask
    closed_ask p' i c np cov = record {
      same = λ e. clash (opened p) o e;
      kept = kept;
      new_private = np;
      new_shared = ns;
      covered = λ _ j b _ _. cov j b;
      toward = λ e. clash (opened p') e c;
    }

    closed_end : ((j : ℕ) → j < w.private.to → j < length t → now (get_or t j 0) ≡ false)
        → ((j : ℕ) → j < q0.n → ((w.private.from ≤ j) × (j < w.private.to)) ⊎ ((w.shared.from ≤ j) × (j < w.shared.to))) → Moves p q0 t last now (end q w)
    unfolding end
    closed_end np cov = record {
      same = λ e. clash (opened p) o e;
      kept = kept;
      new_private = np;
      new_shared = ns;
      covered = λ _ j b _ _. cov j b;
      toward = λ e. clash false e refl;
    }

  default_moves : (p : Phase) (q0 q : Request) (i : ℕ) (w : Writes) (now : ℕ → Bool) → opened p ≡ true → ((z : ℕ) → among (part t q0.n 0) z ≡ false → now z ≡ last z)
      → ((j : ℕ) → w.shared.from ≤ j → j < w.shared.to → j < length t → now (get_or t j 0) ≡ true) → ((j : ℕ) → j < w.private.to → j < length t → now (get_or t j 0) ≡ false)
      → ((j : ℕ) → j < q0.n → ((w.private.from ≤ j) × (j < w.private.to)) ⊎ ((w.shared.from ≤ j) × (j < w.shared.to))) → Moves p q0 t last now (default_run s q t i w)
  unfolding default_run
  default_moves p q0 q i w now o kept ns np cov =
      let u = set_permissions w i (cond s.tracked (run_end t q.n i) i) s.defaults.vtl0 in
      choose (ltb i q.n) (closed_ask p q0 q u now o kept ns at.ProtectDefault0 i refl np cov) (closed_end p q0 q w now o kept ns np cov)

  return_moves : (p : Phase) (q0 q : Request) (i : ℕ) (w : Writes) (now : ℕ → Bool) → opened p ≡ true → ((z : ℕ) → among (part t q0.n 0) z ≡ false → now z ≡ last z)
      → ((j : ℕ) → w.shared.from ≤ j → j < w.shared.to → j < length t → now (get_or t j 0) ≡ true) → w.private.to ≡ 0
      → ((j : ℕ) → j < q0.n → (j < q.n → ⊥) → (w.shared.from ≤ j) × (j < w.shared.to)) → ((j : ℕ) → j < q.n → j < length t → now (get_or t j 0) ≡ false)
      → Moves p q0 t last now (return_run s q t i w)
  unfolding return_run
  return_moves p q0 q i w now o kept ns z cov tw =
      let d = default_moves p q0 q 0 (set_private w q.n) now o kept ns tw
      (λ j b. elim (dec_lt j q.n) [ yes h ↦ inl (omega arith, h) | no h ↦ inr (cov j b (λ k. h k)) ]) in
      choose (ltb i q.n) (choose (is_cca s.isolation) d (open_ask p q0 q w now o kept ns at.Accept i refl z cov tw)) d

  -- answers to other operations: nothing is taken
  module _ (p : Phase) (q : Request) (o : opened p ≡ true) where
    on_ask : (p' : Phase) (i : ℕ) → opened p' ≡ true → ((j : ℕ) → j < q.n → j < length t → last (get_or t j 0) ≡ dir p' q.share) → Moves p q t last last (ask s p' q t i no_writes)
    on_ask p' i l tw = open_ask p q q no_writes last o (λ z _. refl) (λ j a b. absurd (omega arith)) p' i l refl (λ j b nl. absurd (nl b)) tw

    on_return : (i : ℕ) → ((j : ℕ) → j < q.n → j < length t → last (get_or t j 0) ≡ false) → Moves p q t last last (return_run s q t i no_writes)
    on_return i tw = return_moves p q q i no_writes last o (λ z _. refl) (λ j a b. absurd (omega arith)) refl (λ j b nl. absurd (nl b)) tw

    on_share : (i : ℕ) → ((j : ℕ) → j < q.n → j < length t → last (get_or t j 0) ≡ not q.share) → Moves p q t last last (share_run s q t i)
    unfolding share_run
    on_share i tw =
        choose (ltb i q.n && is_snp s.isolation) (on_ask at.ProtectNone0 i refl tw)
        (choose (ltb i q.n && releases s.isolation s.release) (on_ask at.Release i refl tw) (on_ask at.Modify 0 refl tw))

    on_flush : ((j : ℕ) → j < q.n → j < length t → last (get_or t j 0) ≡ not q.share) → Moves p q t last last (after_flush s q t)
    unfolding after_flush
    on_flush tw = choose q.share (on_share 0 tw) (on_ask at.Modify 0 refl tw)

    on_wait : ((j : ℕ) → j < q.n → j < length t → last (get_or t j 0) ≡ not q.share) → Moves p q t last last (after_wait s q t)
    unfolding after_wait
    on_wait tw = choose (is_snp s.isolation) (on_ask at.FlushAll 0 refl tw) (on_flush tw)

  -- the default protections: nothing is under way
  module _ (p : Phase) (q : Request) (c : opened p ≡ false) where
    shut_ask : (p' : Phase) (i : ℕ) (w : Writes) → opened p' ≡ false → w.private.to ≡ 0 → w.shared.to ≤ w.shared.from → Moves p q t last last (ask s p' q t i w)
    unfolding ask
    shut_ask p' i w k z e = record {
      same = λ _ x. refl;
      kept = λ x _. refl;
      new_private = λ j b d. absurd (omega arith);
      new_shared = λ j a b d. absurd (omega arith);
      covered = λ h. clash (opened p) h c;
      toward = λ h. clash (opened p') h k;
    }

    shut_end : Moves p q t last last (end q no_writes)
    unfolding end
    shut_end = record {
      same = λ _ x. refl;
      kept = λ x _. refl;
      new_private = λ j b d. absurd (omega arith);
      new_shared = λ j a b d. absurd (omega arith);
      covered = λ h. clash (opened p) h c;
      toward = λ h. clash false h refl;
    }

    shut_run : (i : ℕ) → Moves p q t last last (default_run s q t i no_writes)
    unfolding default_run
    shut_run i = choose (ltb i q.n) (shut_ask at.ProtectDefault0 i (set_permissions no_writes i (cond s.tracked (run_end t q.n i) i) s.defaults.vtl0) refl refl (omega arith)) shut_end

    shut_default : (g : Option HvMapGpaFlags) → Moves p q t last last (after_default0 g s q t)
    shut_default (Some f) = shut_ask at.ProtectDefault1 q.at no_writes refl refl (omega arith)
    shut_default None = shut_run (run_end t q.n q.at)

  halt_moves : (p : Phase) (q : Request) (now : ℕ → Bool) → (opened p ≡ false → (z : ℕ) → now z ≡ last z) → StaysBut t q.n last now → Moves p q t last now (halt q)
  unfolding halt
  halt_moves p q now same kept = record {
    same = same;
    kept = kept;
    new_private = λ j b d. absurd (omega arith);
    new_shared = λ j a b d. absurd (omega arith);
    covered = λ _ j b _ nh. absurd (nh refl);
    toward = λ h. clash false h refl;
  }

-- what an answer lets the hypervisor have taken: by Modify, all of its pages, or where it failed the first k
abbrev pub modified : Request → List ℕ → BackendAnswer → (ℕ → Bool) → ℕ → Bool
modified q t g last z = cond (among (part t (processed g q.n) 0) z) q.share (last z)

abbrev pub after : Phase → Request → List ℕ → BackendAnswer → (ℕ → Bool) → ℕ → Bool
after at.Idle q t g last z = last z
after at.Halted q t g last z = last z
after at.Wait q t g last z = last z
after at.FlushAll q t g last z = last z
after at.ProtectNone0 q t g last z = last z
after at.ProtectNone1 q t g last z = last z
after at.Invalidate q t g last z = last z
after at.Release q t g last z = last z
after at.Modify q t g last z = modified q t g last z
after at.Accept q t g last z = last z
after at.Zero q t g last z = last z
after at.ProtectDefault0 q t g last z = last z
after at.ProtectDefault1 q t g last z = last z

module _ (s : Settings) (t : List ℕ) (last : ℕ → Bool) (q : Request) (tw : (j : ℕ) → j < q.n → j < length t → last (get_or t j 0) ≡ not q.share) where
  others : (g : BackendAnswer) → processed g q.n ≤ q.n → StaysBut t q.n last (modified q t g last)
  others g h z e = ap (λ (c : Bool). cond c q.share (last z)) (less_among (processed g q.n) q.n t z h e)

  modify_done : Moves at.Modify q t last (modified q t Succeeds last) (after_modify s q t)
  unfolding after_modify
  modify_done = go q.share refl
    where
      now : ℕ → Bool
      now = modified q t Succeeds last

      mine : (j : ℕ) → j < q.n → j < length t → now (get_or t j 0) ≡ q.share
      mine j b d = ap (λ (c : Bool). cond c q.share (last (get_or t j 0))) (in_part q.n t j b d)

      go : (c : Bool) → q.share ≡ c → Moves at.Modify q t last now (cond c (end q (set_shared no_writes 0 q.n)) (return_run s q t 0 no_writes))
      go true e = closed_end s t last at.Modify q q (set_shared no_writes 0 q.n) now refl (others Succeeds (omega arith)) (λ j a b d. mine j b d ∙ e) (λ j b d. absurd (omega arith)) (λ j b. inr (omega arith, b))
      go false e = return_moves s t last at.Modify q q 0 no_writes now refl (others Succeeds (omega arith)) (λ j a b d. absurd (omega arith)) refl (λ j b nl. absurd (nl b)) (λ j b d. mine j b d ∙ e)

  modify_failed : (code k : ℕ) → ((i j : ℕ) → i < q.n → j < q.n → i < length t → j < length t → get_or t i 0 ≡ get_or t j 0 → i ≡ j) → Moves at.Modify q t last (modified q t (Fails code k) last) (failed_modify s q t code k)
  unfolding failed_modify
  modify_failed code k once = go q.share refl (leb q.n k) refl
    where
      now : ℕ → Bool
      now = modified q t (Fails code k) last

      m : ℕ
      m = min k q.n

      i : ℕ
      i = get_or t (512 + k) 0

      mine : (j : ℕ) → j < m → j < length t → now (get_or t j 0) ≡ q.share
      mine j b d = ap (λ (c : Bool). cond c q.share (last (get_or t j 0))) (in_part m t j b d)

      rest : (j : ℕ) → m ≤ j → j < q.n → j < length t → now (get_or t j 0) ≡ not q.share
      rest j a b d = ap (λ (c : Bool). cond c q.share (last (get_or t j 0))) (no (among (part t m 0) (get_or t j 0)) refl) ∙ tw j b d
        where
          no : (c : Bool) → among (part t m 0) (get_or t j 0) ≡ c → among (part t m 0) (get_or t j 0) ≡ false
          no false e = e
          no true e = absurd (of_part 0 m t (get_or t j 0) e (λ h _ u v y. let x : h ≡ j = once h j (omega arith) b v d y in omega arith))

      go : (c : Bool) → q.share ≡ c → (l : Bool) → leb q.n k ≡ l → Moves at.Modify q t last now (cond c (halt q) (cond l (halt q) (return_run s (cut_at q k code i) t 0 (set_shared no_writes k q.n))))
      go true e l f = halt_moves s t last at.Modify q now (λ o. clash true refl o) (others (Fails code k) (omega arith))
      go false e true f = halt_moves s t last at.Modify q now (λ o. clash true refl o) (others (Fails code k) (omega arith))
      go false e false f =
          let lt : k < q.n = leb-false q.n k f in
          return_moves s t last at.Modify q (cut_at q k code i) 0 (set_shared no_writes k q.n) now refl (others (Fails code k) (omega arith))
          (λ j a b d. rest j (omega arith) b d ∙ ap not e) refl (λ j b nl. (elim (dec_lt j k) [ yes h ↦ absurd (nl h) | no h ↦ omega arith ], b)) (λ j b d. mine j (omega arith) d ∙ e)

module _ (s : Settings) (q : Request) (t : List ℕ) (last : ℕ → Bool) where
  pub done_moves : (p : Phase) → takes p false ≡ true → ((j : ℕ) → opened p ≡ true → j < q.n → j < length t → last (get_or t j 0) ≡ dir p q.share) → Moves p q t last (after p q t Succeeds last) (done_of s p q t)
  unfolding done_of after_accept
  done_moves at.Idle e tw = false≢true e
  done_moves at.Halted e tw = false≢true e
  done_moves at.Wait e tw = on_wait s t last at.Wait q refl (λ j. tw j refl)
  done_moves at.FlushAll e tw = on_flush s t last at.FlushAll q refl (λ j. tw j refl)
  done_moves at.ProtectNone0 e tw = on_ask s t last at.ProtectNone0 q refl at.ProtectNone1 q.at refl (λ j. tw j refl)
  done_moves at.ProtectNone1 e tw = on_ask s t last at.ProtectNone1 q refl at.Invalidate q.at refl (λ j. tw j refl)
  done_moves at.Invalidate e tw = on_share s t last at.Invalidate q refl (run_end t q.n q.at) (λ j. tw j refl)
  done_moves at.Release e tw = on_share s t last at.Release q refl (run_end t q.n q.at) (λ j. tw j refl)
  done_moves at.Modify e tw = modify_done s t last q (λ j. tw j refl)
  done_moves at.Accept e tw =
      choose s t last (is_snp s.isolation) (on_ask s t last at.Accept q refl at.Zero q.at refl (λ j. tw j refl)) (on_return s t last at.Accept q refl (run_end t q.n q.at) (λ j. tw j refl))
  done_moves at.Zero e tw = on_return s t last at.Zero q refl (run_end t q.n q.at) (λ j. tw j refl)
  done_moves at.ProtectDefault0 e tw = shut_default s t last at.ProtectDefault0 q refl s.defaults.vtl1
  done_moves at.ProtectDefault1 e tw = shut_run s t last at.ProtectDefault1 q refl (run_end t q.n q.at)

  pub failed_moves : (p : Phase) (code k : ℕ) → takes p true ≡ true → ((j : ℕ) → opened p ≡ true → j < q.n → j < length t → last (get_or t j 0) ≡ dir p q.share)
      → (opened p ≡ true → (i j : ℕ) → i < q.n → j < q.n → i < length t → j < length t → get_or t i 0 ≡ get_or t j 0 → i ≡ j) → Moves p q t last (after p q t (Fails code k) last) (failed_of s p q t code k)
  unfolding failed_of
  failed_moves at.Idle code k e tw once = false≢true e
  failed_moves at.Halted code k e tw once = false≢true e
  failed_moves at.Wait code k e tw once = false≢true e
  failed_moves at.FlushAll code k e tw once = false≢true e
  failed_moves at.Modify code k e tw once = modify_failed s t last q (λ j. tw j refl) code k (once refl)
  failed_moves at.ProtectNone0 code k e tw once = halt_moves s t last at.ProtectNone0 q last (λ _ z. refl) (λ z _. refl)
  failed_moves at.ProtectNone1 code k e tw once = halt_moves s t last at.ProtectNone1 q last (λ _ z. refl) (λ z _. refl)
  failed_moves at.Invalidate code k e tw once = halt_moves s t last at.Invalidate q last (λ _ z. refl) (λ z _. refl)
  failed_moves at.Release code k e tw once = halt_moves s t last at.Release q last (λ _ z. refl) (λ z _. refl)
  failed_moves at.Accept code k e tw once = halt_moves s t last at.Accept q last (λ _ z. refl) (λ z _. refl)
  failed_moves at.Zero code k e tw once = halt_moves s t last at.Zero q last (λ _ z. refl) (λ z _. refl)
  failed_moves at.ProtectDefault0 code k e tw once = halt_moves s t last at.ProtectDefault0 q last (λ _ z. refl) (λ z _. refl)
  failed_moves at.ProtectDefault1 code k e tw once = halt_moves s t last at.ProtectDefault1 q last (λ _ z. refl) (λ z _. refl)
