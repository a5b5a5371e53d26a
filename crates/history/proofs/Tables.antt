-- The tables stay tables, and what an overlay call under way has still to enter or to take out stays right, at every call. Assumes nothing.
use native.Mathlib.Omega.{arith}
use mathlib.Core.Path.{◌≡◌, refl, sym, ap, ◌∙◌, subst}
use mathlib.Core.Bool.{Bool, true, false, cond, ◌&&◌}
use mathlib.Core.List.{List}
use Prim.Native.Nat.{ℕ, ◌*◌, ◌≤◌, ◌<◌}
use lib.Dec.{eqb, leb, ltb}
use lib.ListN.{length, get_or, set}
use lib.Seq.{get_or-set_other}
use borrow.Author.Tests.{ne_eqb, ltb-true}
use Rattle.abi.specs.Refusals as refusal
use Rattle.layout.specs.declared.MemoryRangeWithNode.{MemoryRangeWithNode}
use Rattle.permissions.specs.declared.GuestVtl.{GuestVtl}
use Rattle.permissions.specs.declared.GuestVtl.TheVariants.{Vtl0, Vtl1}
use Rattle.permissions.proofs.Laws.{vtl_number_lem}
use Rattle.permissions.specs.Flags.{vtl_number}
use Rattle.page_list.specs.declared.PageRun.{PageRun}
use Rattle.page_list.specs.Runs.{run}
use Rattle.overlay_table.specs.declared.OverlayPage.{OverlayPage}
use Rattle.overlay_table.specs.Overlays.{entry, is_overlay, place_of, entry_at}
use Rattle.visibility_steps.specs.declared.Phase.{Phase}
use Rattle.visibility_steps.specs.declared.Phase.TheVariants as at
use Rattle.visibility_steps.specs.declared.Request.{Request}
use Rattle.change_steps.specs.declared.Stage.{Stage}
use Rattle.change_steps.specs.declared.Stage.TheVariants as stage
use Rattle.change_steps.specs.declared.Entry.TheVariants.{Keep, Add}
use Rattle.change_steps.specs.declared.Change.{Change}
use Rattle.change_steps.specs.declared.ChangeStep.{ChangeStep}
use Rattle.change_steps.specs.Changes.{protect, ask, wait, finish, halt, keep, protect_pages, protect_ram, done_of, failed_of, overlay_of, start_new, start_old}
use Rattle.request_pages.specs.Request.{run_end}
use Rattle.protector_state.specs.State.{with_request}
use Rattle.protector_state.specs.Changing.{stage_of, stage_in, is_changing, change_in, with_change}
use Rattle.call_refusals.specs.Buffers.{overlays_of, status_in}
use Rattle.protector.specs.Writes.{with_overlays, entered}
use Rattle.protector.proofs.Tables.{overlays_written, locks_kept, vtl1_kept, vtl0_kept}
use Rattle.history.specs.Tables.{Overlays, Locked, Tables, New, Old, Pending, entry_for, PendingIn}
use Rattle.history.proofs.Bits.{clash}
use Rattle.history.proofs.Lengths.{replaced_long}
use Rattle.history.proofs.Entries.{overlays_long, overlays_less, overlays_more}

-- ---- the tables with other overlays of a VTL

module _ (es : List MemoryRangeWithNode) (t : List ℕ) (k : Tables es t) where
  pub put : (v : GuestVtl) (o : List ℕ) → Overlays es o → Tables es (with_overlays t v o)
  put v o h =
      let l : length o ≡ 641 = overlays_long es o h in
      record {
        long = replaced_long (641 * vtl_number v) 641 t o (l ∙ sym (overlays_long es (overlays_of t v) (k.overlays v))) ∙ k.long;
        overlays = go v l;
        locks = λ u. subst (λ (x : List ℕ). Locked x) (sym (locks_kept t o v k.long l u)) (k.locks u);
      }
    where
      go : (v : GuestVtl) → length o ≡ 641 → (u : GuestVtl) → Overlays es (overlays_of (with_overlays t v o) u)
      go Vtl0 l Vtl0 = subst (λ (x : List ℕ). Overlays es x) (sym (overlays_written t o Vtl0 k.long l)) h
      go Vtl0 l Vtl1 = subst (λ (x : List ℕ). Overlays es x) (sym (vtl1_kept t o k.long l)) (k.overlays Vtl1)
      go Vtl1 l Vtl0 = subst (λ (x : List ℕ). Overlays es x) (sym (vtl0_kept t o k.long l)) (k.overlays Vtl0)
      go Vtl1 l Vtl1 = subst (λ (x : List ℕ). Overlays es x) (sym (overlays_written t o Vtl1 k.long l)) h

-- ---- what is pending, read from the state block

module _ (es : List MemoryRangeWithNode) where
  -- of a change just written
  pub pending_written : (g : Stage) (q : Change) (s t : List ℕ) → Pending es g (entry_for q) (overlays_of t q.vtl) → PendingIn es (with_change g q s) t
  unfolding stage_of
  pending_written stage.Idle q s t k = tt
  pending_written stage.Halted q s t k = tt
  pending_written stage.ProtectPages q s t k = tt
  pending_written stage.ProtectRam q s t k = tt
  pending_written stage.ProtectNew q s t k = subst (λ (v : GuestVtl). New es (entry_for q) (overlays_of t v)) (sym (vtl_number_lem q.vtl)) k
  pending_written stage.ProtectOld q s t k = subst (λ (v : GuestVtl). Old (entry_for q) (overlays_of t v)) (sym (vtl_number_lem q.vtl)) k
  pending_written stage.Wait q s t k = tt
  pending_written stage.Flush q s t k = tt
  pending_written stage.TlbWait q s t k = tt

  -- of a visibility change nothing is
  pub pending_request : (p : Phase) (q : Request) (s t : List ℕ) → PendingIn es (with_request p q s) t
  unfolding stage_of
  pending_request at.Idle q s t = tt
  pending_request at.Halted q s t = tt
  pending_request at.Wait q s t = tt
  pending_request at.FlushAll q s t = tt
  pending_request at.ProtectNone0 q s t = tt
  pending_request at.ProtectNone1 q s t = tt
  pending_request at.Invalidate q s t = tt
  pending_request at.Release q s t = tt
  pending_request at.Modify q s t = tt
  pending_request at.Accept q s t = tt
  pending_request at.Zero q s t = tt
  pending_request at.ProtectDefault0 q s t = tt
  pending_request at.ProtectDefault1 q s t = tt

  -- nothing is where nothing is under way
  still : (n : ℕ) (e : OverlayPage) (o : List ℕ) → (leb 13 n && ltb n 20) ≡ false → Pending es (stage_of n) e o
  unfolding stage_of
  still n e o h = rw (no 13 refl, no 14 refl, no 15 refl, no 16 refl, no 17 refl, no 18 refl, no 19 refl) tt
    where
      no : (j : ℕ) → (leb 13 j && ltb j 20) ≡ true → eqb n j ≡ false
      no j d = ne_eqb n j (λ q. clash (leb 13 n && ltb n 20) (ap (λ (i : ℕ). leb 13 i && ltb i 20) q ∙ d) h)

  pub pending_idle : (s t : List ℕ) → status_in s ≡ 0 → PendingIn es s t
  pending_idle s t z = still (get_or s 0 0) _ _ (go (is_changing s) _ z)
    where
      go : (b : Bool) (n : ℕ) → cond b refusal.busy n ≡ 0 → b ≡ false
      go true n e = absurd (omega (arith, e))
      go false n e = refl

  -- the overlays are as they were
  pub pending_same : (s t u : List ℕ) → ((v : GuestVtl) → overlays_of u v ≡ overlays_of t v) → PendingIn es s t → PendingIn es s u
  pending_same s t u h k = subst (λ (o : List ℕ). Pending es (stage_in s) (entry_for (change_in s)) o) (sym (h (change_in s).vtl)) k

  -- another word of the state block that no change has
  pub pending_set : (s t : List ℕ) (i x : ℕ) → 13 < i → PendingIn es s t → PendingIn es (set s i x) t
  pending_set s t i x h k = rw (word 0 (omega arith), word 2 (omega arith), word 4 (omega arith), word 11 (omega arith), word 12 (omega arith), word 13 (omega arith)) k
    where
      word : (j : ℕ) → j < 14 → get_or (set s i x) j 0 ≡ get_or s j 0
      word j d = get_or-set_other s i j x 0 (λ e. omega (arith, h, d, e))

-- ---- a step of a change: what it enters and what it leaves pending

module _ (es : List MemoryRangeWithNode) (t : List ℕ) where
  pub record Sound (x : ChangeStep) : Type 0 where
    pub tables : Tables es (entered x.entry x.change t)
    pub pending : Pending es x.stage (entry_for x.change) (overlays_of (entered x.entry x.change t) x.change.vtl)

  module _ (k : Tables es t) where
    either : (b : Bool) (x y : ChangeStep) → Sound x → Sound y → Sound (cond b x y)
    either true x y f g = f
    either false x y f g = g

    sound_wait : (q : Change) → Sound (wait q Keep)
    unfolding wait ask entered
    sound_wait q = record { tables = k; pending = tt }

    pub sound_pages : (tracked : Bool) (q : Change) (p : List ℕ) (a : ℕ) → Sound (protect_pages tracked q p a)
    unfolding protect_pages protect entered
    sound_pages tracked q p a = either (ltb a q.n) _ _ (record { tables = k; pending = tt }) (sound_wait q)

    pub sound_ram : (tracked : Bool) (q : Change) (r : PageRun) → Sound (protect_ram tracked q r)
    unfolding protect_ram protect entered
    sound_ram tracked q r = either (eqb r.count 0) _ _ (sound_wait q) (record { tables = k; pending = tt })

    -- an answer that is done: a new page is entered, an old one taken out, as its Protect is done
    pub sound_done : (tracked : Bool) (g : Stage) (q : Change) (p : List ℕ) (r : PageRun) → Pending es g (entry_for q) (overlays_of t q.vtl) → Sound (done_of tracked g q p r)
    unfolding done_of keep wait ask finish entered
    sound_done tracked stage.Idle q p r h = record { tables = k; pending = tt }
    sound_done tracked stage.Halted q p r h = record { tables = k; pending = tt }
    sound_done tracked stage.ProtectPages q p r h = sound_pages tracked q p (run_end p q.n q.at)
    sound_done tracked stage.ProtectRam q p r h = sound_ram tracked q r
    sound_done tracked stage.ProtectNew q p r h = record { tables = put es t k q.vtl _ (overlays_more es (overlays_of t q.vtl) (k.overlays q.vtl) (entry_for q) h.fits h.none h.room); pending = tt }
    sound_done tracked stage.ProtectOld q p r h = record { tables = put es t k q.vtl _ (overlays_less es (overlays_of t q.vtl) (k.overlays q.vtl) q.at h.has); pending = tt }
    sound_done tracked stage.Wait q p r h = record { tables = k; pending = tt }
    sound_done tracked stage.Flush q p r h = record { tables = k; pending = tt }
    sound_done tracked stage.TlbWait q p r h = record { tables = k; pending = tt }

    -- a failed one enters nothing
    pub sound_failed : (g : Stage) (q : Change) → Sound (failed_of g q)
    unfolding failed_of keep halt finish entered
    sound_failed stage.Idle q = record { tables = k; pending = tt }
    sound_failed stage.Halted q = record { tables = k; pending = tt }
    sound_failed stage.ProtectPages q = record { tables = k; pending = tt }
    sound_failed stage.ProtectRam q = record { tables = k; pending = tt }
    sound_failed stage.ProtectNew q = record { tables = k; pending = tt }
    sound_failed stage.ProtectOld q = record { tables = k; pending = tt }
    sound_failed stage.Wait q = record { tables = k; pending = tt }
    sound_failed stage.Flush q = record { tables = k; pending = tt }
    sound_failed stage.TlbWait q = record { tables = k; pending = tt }

    -- a new page: its Protect waits, or it is entered at once
    pub sound_new : (tracked : Bool) (v : GuestVtl) (p source current new : ℕ) → ((own : ℕ) → own < 16 → New es (entry p current own 1 source) (overlays_of t v)) → current < 16 → Sound (start_new tracked v p source current new)
    unfolding start_new protect wait ask entered
    sound_new tracked v p source current new f h = go (ltb new 16) refl
      where
        go : (b : Bool) → ltb new 16 ≡ b → Sound (cond b (protect tracked stage.ProtectNew (overlay_of v p new current source) p (run p 1)) (wait (overlay_of v p current current source) Add))
        go true e = record { tables = k; pending = f new (ltb-true new 16 e) }
        go false e = let n = f current h in record { tables = put es t k v _ (overlays_more es (overlays_of t v) (k.overlays v) (entry p current current 1 source) n.fits n.none n.room); pending = tt }

    pub sound_old : (tracked : Bool) (v : GuestVtl) (p previous source : ℕ) → is_overlay (overlays_of t v) p ≡ true → (entry_at (overlays_of t v) (place_of (overlays_of t v) p)).ref_count ≤ 1
        → Sound (start_old tracked v p previous source)
    unfolding start_old protect entered
    sound_old tracked v p previous source h c = record { tables = k; pending = record { has = h; once = c } }
