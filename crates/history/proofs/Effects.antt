-- What each call does to the entries and the lists of buffers whose tables are such, as those of every stop are: what leaves the tables alone, what an answer and a
-- default change do, and the laws of `overlay_entries` and `lock_entries`, which ask for no more than `TablesFit` has. Assumes nothing.
use native.Mathlib.Omega.{arith}
use mathlib.Core.Path.{◌≡◌, refl, sym, ap, ◌∙◌, subst}
use mathlib.Core.Bool.{Bool, true, false, cond}
use mathlib.Core.List.{List, [], ◌∷◌, ◌++◌}
use Prim.Native.Nat.{ℕ, ◌+◌, ◌-◌, ◌≤◌, ◌<◌}
use lib.Dec.{eqb, ltb}
use lib.ListN.{length}
use borrow.Author.Tests.{eq-eqb}
use Rattle.layout.specs.declared.MemoryRangeWithNode.{MemoryRangeWithNode}
use Rattle.permissions.specs.declared.GuestVtl.{GuestVtl}
use Rattle.permissions.specs.declared.GuestVtl.TheVariants.{Vtl0, Vtl1}
use Rattle.permissions.specs.Flags.{vtl_of, bits_of}
use Rattle.page_list.specs.declared.PageRun.{PageRun}
use Rattle.page_list.specs.Pages.{pages_of}
use Rattle.page_list.specs.Runs.{run_at}
use Rattle.overlay_table.specs.declared.OverlayPage.{OverlayPage}
use Rattle.overlay_table.specs.Overlays.{knows, entry, entry_of, changed, with_count, drop_first, table_of, used}
use Rattle.lock_table.specs.Locks as locks
use Rattle.lock_table.specs.Locks.{room_for, unlocked}
use Rattle.request_pages.specs.Request.{run_end}
use Rattle.default_change.specs.Renewed.{renewed_entries, renewed}
use Rattle.default_change.proofs.Table.{table_renewed}
use Rattle.change_steps.specs.declared.Stage.{Stage}
use Rattle.change_steps.specs.declared.Stage.TheVariants as stage
use Rattle.change_steps.specs.declared.Entry.TheVariants.{Keep}
use Rattle.change_steps.specs.declared.Change.{Change}
use Rattle.change_steps.specs.declared.ChangeStep.{ChangeStep}
use Rattle.change_steps.specs.Changes.{protect, ask, wait, finish, halt, keep, change_of, protect_pages, protect_ram, done_of, failed_of}
use Rattle.protector_state.specs.State.{settings_of, entries_in}
use Rattle.protector_state.specs.Changing.{stage_in, is_changing, change_in}
use Rattle.call_refusals.specs.Buffers.{Buffers, overlays_of, fits}
use Rattle.protector.specs.Writes.{entered}
use Rattle.protector.specs.Calls.{refused_by, carried_out, carried_change, visibility_taken, visibility_of, next_in, after_done, after_failed, visibility_done, visibility_failed, change_done, change_failed, answer_done, answer_failed}
use Rattle.call_refusals.specs.Refusals.{visibility_refusal, answer_refusal}
use Rattle.protection_entries.specs.Calls.{protection_refusal, protection_taken, protection_of, default_refusal, stored, barred, renewed_in, first_piece, default_started, default_taken, default_of}
use Rattle.overlay_refusals.specs.Refusals.{unregister_refusal, register_refusal}
use Rattle.overlay_entries.specs.Calls.{current_in, unregister_of, register_of}
use Rattle.overlay_entries.proofs.Claims.{register_known, unregister_lowers}
use Rattle.protector.proofs.Tables.{overlays_written}
use Rattle.overlay_entries.proofs.Steps.{entered_last, taken_out, register_enters, register_protects, unregister_restores}
use Rattle.lock_entries.specs.Calls.{lock_refusal, lock_of, unlock_of}
use Rattle.lock_entries.specs.Lists.{Lists, lists, lists_at, with_lists, Makes}
use Rattle.lock_entries.proofs.Lists.{lock_room, unlock_found}
use Rattle.history.specs.Tables.{Tables, Pending, entry_for, TablesFit}
use Rattle.history.proofs.Bits.{clash}
use Rattle.change_claims.proofs.Tables.{renewed_long}
use Rattle.history.proofs.Locked.{locks_held}
use Rattle.history.proofs.Deciding.{decides, either}
use Rattle.history.proofs.Entries.{overlays_long, overlays_used, overlays_know}

-- ---- the tables are left alone

abbrev Same : Buffers → Buffers → Type 0
Same w v = v.tables ≡ w.tables

failed_kept : (g : Stage) (q : Change) (t : List ℕ) → entered (failed_of g q).entry (failed_of g q).change t ≡ t
unfolding failed_of keep halt finish entered
failed_kept stage.Idle q t = refl
failed_kept stage.Halted q t = refl
failed_kept stage.ProtectPages q t = refl
failed_kept stage.ProtectRam q t = refl
failed_kept stage.ProtectNew q t = refl
failed_kept stage.ProtectOld q t = refl
failed_kept stage.Wait q t = refl
failed_kept stage.Flush q t = refl
failed_kept stage.TlbWait q t = refl

pages_kept : (tracked : Bool) (q : Change) (p : List ℕ) (a : ℕ) (t : List ℕ) → entered (protect_pages tracked q p a).entry (protect_pages tracked q p a).change t ≡ t
unfolding protect_pages protect wait ask entered
pages_kept tracked q p a t = go (ltb a q.n)
  where
    go : (b : Bool) → let x = cond b (protect tracked stage.ProtectPages q a (run_at p q.n a)) (wait q Keep) in entered x.entry x.change t ≡ t
    go true = refl
    go false = refl

ram_kept : (tracked : Bool) (q : Change) (r : PageRun) (t : List ℕ) → entered (protect_ram tracked q r).entry (protect_ram tracked q r).change t ≡ t
unfolding protect_ram protect wait ask entered
ram_kept tracked q r t = go (eqb r.count 0)
  where
    go : (b : Bool) → let x = cond b (wait q Keep) (protect tracked stage.ProtectRam q (r.first + r.count) r) in entered x.entry x.change t ≡ t
    go true = refl
    go false = refl

-- the Protect of an overlay call waits
abbrev pub is_entering : Stage → Bool
is_entering stage.Idle = false
is_entering stage.Halted = false
is_entering stage.ProtectPages = false
is_entering stage.ProtectRam = false
is_entering stage.ProtectNew = true
is_entering stage.ProtectOld = true
is_entering stage.Wait = false
is_entering stage.Flush = false
is_entering stage.TlbWait = false

done_kept : (tracked : Bool) (g : Stage) (q : Change) (p : List ℕ) (r : PageRun) (t : List ℕ) → is_entering g ≡ false → entered (done_of tracked g q p r).entry (done_of tracked g q p r).change t ≡ t
unfolding done_of keep ask finish entered
done_kept tracked stage.Idle q p r t e = refl
done_kept tracked stage.Halted q p r t e = refl
done_kept tracked stage.ProtectPages q p r t e = pages_kept tracked q p (run_end p q.n q.at) t
done_kept tracked stage.ProtectRam q p r t e = ram_kept tracked q r t
done_kept tracked stage.ProtectNew q p r t e = clash true refl e
done_kept tracked stage.ProtectOld q p r t e = clash true refl e
done_kept tracked stage.Wait q p r t e = refl
done_kept tracked stage.Flush q p r t e = refl
done_kept tracked stage.TlbWait q p r t e = refl

module _ (w : Buffers) where
  pub visibility_alone : (vtl share : ℕ) (l : List ℕ) → (visibility_of w vtl share l).buffers.tables ≡ w.tables
  unfolding visibility_of visibility_taken carried_out
  visibility_alone vtl share l = decides (Same w) w (visibility_refusal w.state (fits w) w.tables vtl share l) _ refl (λ _. refl)

  pub protection_alone : (vtl flags : ℕ) (l : List ℕ) → (protection_of w vtl flags l).buffers.tables ≡ w.tables
  unfolding protection_of protection_taken carried_change
  protection_alone vtl flags l =
      decides (Same w) w (protection_refusal w.state (fits w) w.maps.shared w.tables vtl flags l) _ refl (λ _. pages_kept (settings_of w.state).tracked _ _ 0 w.tables)

  pub failed_alone : (code n : ℕ) → (answer_failed w code n).buffers.tables ≡ w.tables
  unfolding answer_failed after_failed carried_change carried_out
  failed_alone code n =
      decides (Same w) w (answer_refusal w.state (fits w) true) _ refl
      (λ _. either (Same w) (is_changing w.state) (change_failed w) (visibility_failed w code n) (failed_kept (stage_in w.state) (change_in w.state) w.tables) refl)

  -- an answer that is done, unless an overlay call waits for it
  pub done_alone : is_entering (stage_in w.state) ≡ false → (answer_done w).buffers.tables ≡ w.tables
  unfolding answer_done after_done carried_change carried_out
  done_alone e =
      decides (Same w) w (answer_refusal w.state (fits w) false) _ refl
      (λ _. either (Same w) (is_changing w.state) (change_done w) (visibility_done w) (done_kept (settings_of w.state).tracked (stage_in w.state) (change_in w.state) w.pages _ w.tables e) refl)

-- ---- an answer that is done, while one does

module _ (es : List MemoryRangeWithNode) (w : Buffers) (k : TablesFit es w) (z : answer_refusal w.state (fits w) false ≡ 0) (c : is_changing w.state ≡ true) where
  abbrev q : Change
  q = change_in w.state

  abbrev os : List OverlayPage
  os = (k.tables.overlays (change_in w.state).vtl).entries

  abbrev step : Stage → ChangeStep
  step g = done_of (settings_of w.state).tracked g (change_in w.state) w.pages (next_in w.maps.private w.state w.tables)

  done_is : (answer_done w).buffers.tables ≡ entered (step (stage_in w.state)).entry (step (stage_in w.state)).change w.tables
  unfolding answer_done after_done carried_change
  done_is = rw (eq-eqb (answer_refusal w.state (fits w) false) 0 z, c) refl

  done_at : (g : Stage) → stage_in w.state ≡ g → (answer_done w).buffers.tables ≡ entered (step g).entry (step g).change w.tables
  done_at g e = done_is ∙ ap (λ (g : Stage). entered (step g).entry (step g).change w.tables) e

  waiting : (g : Stage) → stage_in w.state ≡ g → Pending es g (entry_for q) (overlays_of w.tables q.vtl)
  waiting g e = subst (λ (g : Stage). Pending es g (entry_for q) (overlays_of w.tables q.vtl)) e k.pending

  -- a new page: its entry is the last
  pub done_enters : stage_in w.state ≡ stage.ProtectNew → overlays_of (answer_done w).buffers.tables q.vtl ≡ table_of (os ++ (entry_for q ∷ []))
  unfolding done_of wait ask
  done_enters e =
      let x = k.tables.overlays q.vtl in
      let few : length os < 128 = omega (arith, (waiting stage.ProtectNew e).room, overlays_used es (overlays_of w.tables q.vtl) x) in
      ap (λ (t : List ℕ). overlays_of t q.vtl) (done_at stage.ProtectNew e) ∙ entered_last (step stage.ProtectNew).change w.tables os k.tables.long x.words few

  -- an old one: its entry is gone
  pub done_removes : stage_in w.state ≡ stage.ProtectOld → overlays_of (answer_done w).buffers.tables q.vtl ≡ table_of (drop_first os q.at)
  unfolding done_of wait ask
  done_removes e =
      let x = k.tables.overlays q.vtl in
      ap (λ (t : List ℕ). overlays_of t q.vtl) (done_at stage.ProtectOld e)
      ∙ taken_out (step stage.ProtectOld).change w.tables os k.tables.long x.words x.few (sym (overlays_know es (overlays_of w.tables q.vtl) x q.at) ∙ (waiting stage.ProtectOld e).has)

-- ---- a default change that is taken and meets no lock renews the previous permissions of private RAM pages

module _ (es : List MemoryRangeWithNode) (w : Buffers) (k : Tables es w.tables) (v : GuestVtl) (flags : ℕ) (free : barred w.maps.private w.state w.tables v ≡ false) where
  started_renews : overlays_of (default_taken w v flags).buffers.tables v ≡ table_of (renewed_entries w.maps.private (entries_in w.state) flags (k.overlays v).entries)
  unfolding default_taken default_started carried_change
  started_renews =
      let m : List ℕ = w.maps.private in
      let r : Buffers = renewed_in w v flags in
      let x = k.overlays v in
      let o : List ℕ = renewed m (entries_in w.state) flags (overlays_of w.tables v) in
      ap (λ (b : Bool). overlays_of (cond b (refused_by w 10) (default_started r v flags)).buffers.tables v) free
      ∙ ap (λ (t : List ℕ). overlays_of t v) (ram_kept (settings_of w.state).tracked (change_of v flags 0) (first_piece m w.state r.tables v) r.tables)
      ∙ overlays_written w.tables o v k.long (renewed_long m (entries_in w.state) flags (used (overlays_of w.tables v)) (overlays_of w.tables v) 1 ∙ overlays_long es (overlays_of w.tables v) x)
      ∙ ap (renewed m (entries_in w.state) flags) x.words ∙ table_renewed m (entries_in w.state) flags x.entries x.few

module _ (es : List MemoryRangeWithNode) (w : Buffers) (k : TablesFit es w) (vtl flags : ℕ) (z : default_refusal w.state (fits w) vtl flags ≡ 0)
    (free : barred w.maps.private (stored w (vtl_of vtl) flags).state w.tables (vtl_of vtl) ≡ false) where
  pub default_renews : overlays_of (default_of w vtl flags).buffers.tables (vtl_of vtl)
      ≡ table_of (renewed_entries w.maps.private (entries_in (stored w (vtl_of vtl) flags).state) flags (k.tables.overlays (vtl_of vtl)).entries)
  unfolding default_of
  default_renews =
      ap (λ (b : Bool). overlays_of (cond b (default_taken (stored w (vtl_of vtl) flags) (vtl_of vtl) flags) (refused_by w (default_refusal w.state (fits w) vtl flags))).buffers.tables (vtl_of vtl)) (eq-eqb _ 0 z)
      ∙ started_renews es (stored w (vtl_of vtl) flags) k.tables (vtl_of vtl) flags free

-- ---- the calls on overlay pages that are taken: the laws of `overlay_entries`, of the entries here

module _ (es : List MemoryRangeWithNode) (w : Buffers) (k : TablesFit es w) (vtl p : ℕ) where
  abbrev v : GuestVtl
  v = vtl_of vtl

  abbrev own : List OverlayPage
  own = (k.tables.overlays (vtl_of vtl)).entries

  few : length own ≤ 128
  few = (k.tables.overlays v).few

  is : overlays_of w.tables v ≡ table_of own
  is = (k.tables.overlays v).words

  module _ (source checked new : ℕ) (z : register_refusal w.state (fits w) w.maps.shared w.tables (current_in w (vtl_of vtl) p source) vtl p source checked new ≡ 0) where
    -- a known page is counted once more
    pub register_counts : knows own p ≡ true → overlays_of (register_of w vtl p source checked new).buffers.tables v ≡ table_of (changed (with_count ((entry_of own p).ref_count + 1)) own p)
    register_counts h = (register_known w vtl p own few k.tables.long is source checked new z h).0

    -- a new one without flags is the last entry at once; with flags nothing is entered yet
    pub register_adds : knows own p ≡ false → ltb new 16 ≡ false
        → overlays_of (register_of w vtl p source checked new).buffers.tables v ≡ table_of (own ++ (entry p (bits_of (current_in w v p source)) (bits_of (current_in w v p source)) 1 source ∷ []))
    register_adds h e = (register_enters w vtl p source checked new z own few k.tables.long is h e).0

    pub register_waits : knows own p ≡ false → ltb new 16 ≡ true → (register_of w vtl p source checked new).buffers.tables ≡ w.tables
    register_waits h e = (register_protects w vtl p source checked new z own few k.tables.long is h e).0

  module _ (z : unregister_refusal w.state (fits w) w.tables vtl p ≡ 0) (h : knows own p ≡ true) where
    -- a count above 1 is lowered; else nothing is taken out yet
    pub unregister_counts : 1 < (entry_of own p).ref_count → overlays_of (unregister_of w vtl p).buffers.tables v ≡ table_of (changed (with_count ((entry_of own p).ref_count - 1)) own p)
    unregister_counts c = (unregister_lowers w vtl p own few k.tables.long is z h c).0

    pub unregister_waits : (entry_of own p).ref_count ≤ 1 → (unregister_of w vtl p).buffers.tables ≡ w.tables
    unregister_waits c = (unregister_restores w vtl p z own few k.tables.long is h c).0

-- ---- the calls on locks that are taken: those of `lock_entries`

module _ (es : List MemoryRangeWithNode) (w : Buffers) (k : TablesFit es w) (vtl : ℕ) (l : List ℕ) (z : lock_refusal w.state (length w.tables) vtl l ≡ 0) where
  abbrev x : Lists
  x = lists (k.tables.locks Vtl0).lists (k.tables.locks Vtl1).lists

  abbrev held : List (List ℕ)
  held = lists_at x (vtl_of vtl)

  -- one list more, where there is room; the first that is equal less, the last in its place
  pub lock_adds : room_for held (length (pages_of l)) ≡ true → Makes w.tables (with_lists x (vtl_of vtl) (held ++ (pages_of l ∷ []))) (lock_of w.state w.tables vtl l)
  lock_adds r = lock_room w.state w.tables vtl l z x (locks_held es w.state w.tables k.tables) r

  pub unlock_removes : locks.kept held (pages_of l) ≡ true → Makes w.tables (with_lists x (vtl_of vtl) (unlocked held (pages_of l))) (unlock_of w.state w.tables vtl l)
  unlock_removes r = unlock_found w.state w.tables vtl l z x (locks_held es w.state w.tables k.tables) r
