-- A protection change, an overlay call and a default change through their calls are the whole calls. Assumes nothing.
use native.Mathlib.Omega.{arith}
use mathlib.Core.Path.{◌≡◌, refl, sym, ◌∙◌, subst}
use mathlib.Core.Bool.{Bool, true, false, cond}
use mathlib.Core.List.{List, [], ◌∷◌}
use Prim.Native.Nat.{ℕ, ◌+◌, ◌-◌, ◌≤◌}
use lib.Dec.{eqb, ltb}
use lib.ListN.{length, drop, length-drop}
use lib.Seq.{get_or-drop, drop-drop}
use borrow.Author.Tests.{eq-eqb, eqb-true}
use Rattle.permissions.specs.declared.GuestVtl.{GuestVtl}
use Rattle.permissions.specs.Flags.{vtl_of, flags_of, bits_of}
use Rattle.page_list.specs.Pages.{pages_of}
use Rattle.page_list.specs.Runs.{part, runs_of, run}
use Rattle.request_pages.proofs.Table.{in_use, length_table, pages_few, pick_each}
use Rattle.overlay_table.specs.declared.OverlayPage.{OverlayPage}
use Rattle.overlay_table.specs.Overlays.{is_overlay, entry, add_words}
use Rattle.visibility_steps.specs.declared.Settings.{Settings}
use Rattle.change_steps.specs.declared.Stage.TheVariants as stage
use Rattle.change_steps.specs.declared.Entry.TheVariants.{Add, Remove}
use Rattle.change_steps.specs.declared.ChangeStep.{ChangeStep}
use Rattle.change_steps.specs.Changes as changes
use Rattle.protector_state.specs.State.{settings_of, entries_in}
use Rattle.protector_state.specs.Reply.{flat_of}
use Rattle.protector_state.specs.declared.Reply.{Reply}
use Rattle.call_refusals.specs.Buffers.{Buffers, Outcome, tables_len, overlays_of, fits, status_in}
use Rattle.protector.specs.Writes.{without_page, entered}
use Rattle.protector.specs.Calls.{with_permissions, carried_change}
use Rattle.call_refusals.specs.Refusals.{answer_refusal}
use Rattle.call_refusals.proofs.Laws.{fits_tables, untaken_refused}
use Rattle.visibility_claims.proofs.Calls.{idle_takes}
use Rattle.protection_entries.specs.Calls.{protection_refusal, all_listed, protection_taken, protection_of}
use Rattle.protection_entries.proofs.Laws.{protection_passed, table_fits}
use Rattle.overlay_refusals.specs.Refusals.{unregister_refusal, register_refusal}
use Rattle.overlay_entries.specs.Calls.{counting, entry_in, current_in, register_taken, register_of, unregister_taken, unregister_of}
use Rattle.overlay_refusals.proofs.Laws.{call_passed}
use Rattle.visibility_claims.specs.Whole.{BackendAnswer, Succeeds, Fails, Whole}
use Rattle.visibility_claims.specs.Runs.{after, whole}
use Rattle.visibility_claims.specs.Calls.{asks_in, follow, replies}
use Rattle.change_claims.specs.Whole.{Change, change, whole_runs, whole_pages, whole_entry, whole_overlay, once_done}
use Rattle.change_claims.specs.Calls.{tracked_in, protection_whole, added_to, removed_from, count_whole, new_whole, register_whole, old_whole, unregister_whole, Agrees}
use Rattle.change_claims.proofs.Steps as at
use Rattle.change_claims.proofs.Changes as laws
use Rattle.visibility_claims.proofs.Counts.{few_runs}
use Rattle.change_claims.proofs.Counts.{few_asked, few_entry, few_overlay, as_whole}
use Rattle.change_claims.proofs.Tables.{with_long, add_long, without_long}

-- ---- what is lent to a call that is taken

pub settings_kept : (s t : List ℕ) → at.settings (drop 14 s) t ≡ settings_of s
settings_kept s t = rw (get_or-drop 14 s 2 0, get_or-drop 14 s 3 0, get_or-drop 14 s 4 0, get_or-drop 14 s 5 0, get_or-drop 14 s 6 0, get_or-drop 14 s 7 0)

pub entries_kept : (s t : List ℕ) → at.entries (drop 14 s) t ≡ entries_in s
entries_kept s t = rw (get_or-drop 14 s 17 0, drop-drop 18 14 s)

pub fits_kept : (w : Buffers) (t T : List ℕ) → length t ≡ length w.pages → length T ≡ length w.tables → at.fit (drop 14 w.state) t w.maps T ≡ fits w
fits_kept w t T e d = rw (get_or-drop 14 w.state 3 0, get_or-drop 14 w.state 17 0, drop-drop 18 14 w.state, e, d)

pub tail_long : (s : List ℕ) → length s ≡ 128 → length (drop 14 s) ≡ 114
tail_long s h = length-drop 14 s ∙ omega (arith, h)

-- what is given, by the settings: those kept in the state after the change's words, or those of the state before the call
abbrev given : Buffers → List ℕ → (Settings → ChangeStep) → Settings → Outcome
given w t x s =
    record {
      buffers = at.held (drop 14 w.state) t (x s).stage (x s).change (with_permissions w.maps (x s).written (flags_of (x s).change.flags)) (entered (x s).entry (x s).change w.tables);
      reply = flat_of s.isolation (x s).answer;
    }

pub from_call : (w : Buffers) (t T : List ℕ) (x : Settings → ChangeStep) (W : Settings → Whole) (gs : List BackendAnswer)
    → (let s : Settings = at.settings (drop 14 w.state) t in at.Same (drop 14 w.state) t 0 (W s) T (follow (at.left (drop 14 w.state) t w.maps w.tables (x s)) gs))
    → Agrees (drop 14 w.state) t (settings_of w.state).isolation (after 0 (W (settings_of w.state))) T (follow (carried_change w t (x (settings_of w.state))) gs)
unfolding carried_change
from_call w t T x W gs h =
    subst (λ (s : Settings). Agrees (drop 14 w.state) t s.isolation (after 0 (W s)) T (follow (given w t x s) gs)) (settings_kept w.state t) h

-- ---- change_vtl_protections

listed : (l t : List ℕ) → part (all_listed l t) (length (pages_of l)) 0 ≡ pages_of l
listed l t = subst (λ (ps : List ℕ). part (all_listed l t) (length ps) 0 ≡ ps) (pick_each (pages_of l)) (in_use (λ p. true) (pages_of l) t)

module _ (w : Buffers) (vtl flags : ℕ) (l : List ℕ) (z : protection_refusal w.state (fits w) w.maps.shared w.tables vtl flags l ≡ 0) (gs : List BackendAnswer) where
  abbrev protecting : Change
  protecting = protection_whole w (vtl_of vtl) flags l gs

  protection_counted : Agrees (drop 14 w.state) (all_listed l w.pages) (settings_of w.state).isolation (after 0 protecting.whole) protecting.tables (follow (protection_of w vtl flags l) gs)
  unfolding protection_of protection_taken whole_runs
  protection_counted =
      let v : GuestVtl = vtl_of vtl in
      let t : List ℕ = all_listed l w.pages in
      let n : ℕ = length (pages_of l) in
      let k = protection_passed w vtl flags l _ refl z in
      let few : n ≤ 512 = pages_few l k.2 in
      let long : length w.pages ≡ 1024 = table_fits w vtl flags l _ refl z in
      let tl : length t ≡ 1024 = length_table (λ p. true) (pages_of l) w.pages long few in
      let fit : at.fit (drop 14 w.state) t w.maps w.tables ≡ true = fits_kept w t w.tables (tl ∙ sym long) refl ∙ k.1 in
      rw (eq-eqb (protection_refusal w.state (fits w) w.maps.shared w.tables vtl flags l) 0 z)
      (from_call w t w.tables (λ s. changes.start_pages s.tracked v flags n t) (λ s. whole_pages s.tracked v (flags_of flags) (pages_of l) w.maps gs) gs
      (subst (λ (ps : List ℕ). at.Same (drop 14 w.state) t 0 (whole_pages (at.settings (drop 14 w.state) t).tracked v (flags_of flags) ps w.maps gs) w.tables
      (follow (at.left (drop 14 w.state) t w.maps w.tables (changes.start_pages (at.settings (drop 14 w.state) t).tracked v flags n t)) gs)) (listed l w.pages)
      (laws.pages_law (drop 14 w.state) t (tail_long w.state k.0) v flags n few w.tables (omega (arith, tl, few)) n 0 0 0 0 w.maps refl fit (omega arith) gs)))

  -- THE CLAIM: a protection change that is taken, and its answers in turn
  pub protection_is_whole : Agrees (drop 14 w.state) (all_listed l w.pages) (settings_of w.state).isolation (whole protecting.whole) protecting.tables (follow (protection_of w vtl flags l) gs)
  protection_is_whole =
      let few = pages_few l (protection_passed w vtl flags l _ refl z).2 in
      as_whole (drop 14 w.state) (all_listed l w.pages) (settings_of w.state).isolation protecting.whole protecting.tables (follow (protection_of w vtl flags l) gs)
      (omega (arith, few, few_runs (pages_of l), few_asked (tracked_in w) (vtl_of vtl) (flags_of flags) (runs_of (pages_of l)) w.maps gs)) protection_counted

-- ---- a call that asks for nothing: no answer is taken

idle_refuses : (s : List ℕ) (f b : Bool) → eqb (status_in s) 0 ≡ true → eqb (answer_refusal s f b) 0 ≡ false
idle_refuses s f b e = untaken_refused s f b (idle_takes s b (eqb-true (status_in s) 0 e))

pub idle_follows : (w : Buffers) (r : Reply) → eqb (status_in w.state) 0 ≡ true → (gs : List BackendAnswer) → follow (record { buffers = w; reply = r }) gs ≡ record { asked = asks_in r; last = record { buffers = w; reply = r } }
unfolding follow
idle_follows w r e [] = refl
idle_follows w r e (Succeeds ∷ gs) = rw (idle_refuses w.state (fits w) false e) (idle_follows w r e gs)
idle_follows w r e (Fails code k ∷ gs) = rw (idle_refuses w.state (fits w) true e) (idle_follows w r e gs)

counted : (w : Buffers) (v : GuestVtl) (p n : ℕ) → eqb (status_in w.state) 0 ≡ true → (gs : List BackendAnswer)
    → Agrees (drop 14 w.state) w.pages (settings_of w.state).isolation (whole (count_whole w v p n).whole) (count_whole w v p n).tables (follow (counting w v p n) gs)
unfolding replies flat_of
counted w v p n e gs =
    subst (Agrees (drop 14 w.state) w.pages (settings_of w.state).isolation (whole (count_whole w v p n).whole) (count_whole w v p n).tables)
    (sym (idle_follows (counting w v p n).buffers (counting w v p n).reply e gs))
    (record { same_asked = refl; same_maps = refl; same_reply = refl; same_pages = refl; same_tables = refl; same_rest = refl })

-- ---- register_overlay_page and unregister_overlay_page

module _ (w : Buffers) (v : GuestVtl) (p : ℕ) (long : length w.state ≡ 128) (idle : eqb (status_in w.state) 0 ≡ true) (fit : fits w ≡ true) (gs : List BackendAnswer) where
  abbrev tail : List ℕ
  tail = drop 14 w.state

  abbrev Is : Change → Outcome → Type 0
  Is c o = Agrees tail w.pages (settings_of w.state).isolation (whole c.whole) c.tables (follow o gs)

  fit_as : (T : List ℕ) → length T ≡ tables_len → at.fit tail w.pages w.maps T ≡ true
  fit_as T e = fits_kept w w.pages T refl (e ∙ sym (fits_tables w fit)) ∙ fit

  protected : (T' : List ℕ) (fl : ℕ) (source : ℕ) (x : Settings → ChangeStep) → length T' ≡ tables_len
      → (let s : Settings = at.settings tail w.pages in
      at.Same tail w.pages 0 (whole_overlay s.tracked (eqb source 0) v (flags_of fl) p w.maps gs) (once_done gs w.tables T') (follow (at.left tail w.pages w.maps w.tables (x s)) gs))
      → Is (change (whole_overlay (tracked_in w) (eqb source 0) v (flags_of fl) p w.maps gs) (once_done gs w.tables T')) (carried_change w w.pages (x (settings_of w.state)))
  protected T' fl source x e h =
      as_whole tail w.pages (settings_of w.state).isolation (whole_overlay (tracked_in w) (eqb source 0) v (flags_of fl) p w.maps gs) (once_done gs w.tables T')
      (follow (carried_change w w.pages (x (settings_of w.state))) gs) (omega (arith, few_overlay (tracked_in w) (eqb source 0) v (flags_of fl) p w.maps gs))
      (from_call w w.pages (once_done gs w.tables T') x (λ s. whole_overlay s.tracked (eqb source 0) v (flags_of fl) p w.maps gs) gs h)

  removed_long : length (removed_from w.tables v p) ≡ tables_len
  removed_long = with_long w.tables (fits_tables w fit) v (without_page (overlays_of w.tables v) p) (without_long (overlays_of w.tables v) p)

  added_long : (e : OverlayPage) → length (added_to w.tables v e) ≡ tables_len
  added_long e = with_long w.tables (fits_tables w fit) v (add_words (overlays_of w.tables v) e) (add_long (overlays_of w.tables v) e)

  old : (previous source : ℕ)
      → Is (change (whole_overlay (tracked_in w) (eqb source 0) v (flags_of previous) p w.maps gs) (once_done gs w.tables (removed_from w.tables v p)))
      (carried_change w w.pages (changes.start_old (settings_of w.state).tracked v p previous source))
  unfolding changes.start_old changes.done_of changes.failed_of entered
  old previous source =
      protected (removed_from w.tables v p) previous source (λ s. changes.start_old s.tracked v p previous source) removed_long
      (laws.overlay_law tail w.pages (tail_long w.state long) stage.ProtectOld Remove refl refl (λ q r. refl) (λ q. refl) v p previous previous source w.maps w.tables (removed_from w.tables v p) refl
      (fit_as w.tables (fits_tables w fit)) (fit_as (removed_from w.tables v p) removed_long) gs)

  abbrev own : ℕ → ℕ
  own source = bits_of (current_in w v p source)

  new_flags : (source new : ℕ) → Is (new_whole w v p source new gs true) (carried_change w w.pages (changes.protect (settings_of w.state).tracked stage.ProtectNew (changes.overlay_of v p new (own source) source) p (run p 1)))
  unfolding changes.done_of changes.failed_of entered
  new_flags source new =
      let e : OverlayPage = entry p (own source) new 1 source in
      protected (added_to w.tables v e) new source (λ s. changes.protect s.tracked stage.ProtectNew (changes.overlay_of v p new (own source) source) p (run p 1)) (added_long e)
      (laws.overlay_law tail w.pages (tail_long w.state long) stage.ProtectNew Add refl refl (λ q r. refl) (λ q. refl) v p new (own source) source w.maps w.tables (added_to w.tables v e) refl
      (fit_as w.tables (fits_tables w fit)) (fit_as (added_to w.tables v e) (added_long e)) gs)

  no_flags_lem : (source new : ℕ) → Is (new_whole w v p source new gs false) (carried_change w w.pages (changes.wait (changes.overlay_of v p (own source) (own source) source) Add))
  unfolding entered
  no_flags_lem source new =
      let e : OverlayPage = entry p (own source) (own source) 1 source in
      let T' : List ℕ = added_to w.tables v e in
      as_whole tail w.pages (settings_of w.state).isolation (whole_entry (tracked_in w) v w.maps gs) T'
      (follow (carried_change w w.pages (changes.wait (changes.overlay_of v p (own source) (own source) source) Add)) gs) (omega (arith, few_entry (tracked_in w) v w.maps gs))
      (from_call w w.pages T' (λ s. changes.wait (changes.overlay_of v p (own source) (own source) source) Add) (λ s. whole_entry s.tracked v w.maps gs) gs
      (laws.entry_law tail w.pages (tail_long w.state long) v p (own source) (own source) source Add w.maps w.tables T' refl (fit_as T' (added_long e)) gs))

  new : (source new : ℕ) → Is (new_whole w v p source new gs (ltb new 16)) (carried_change w w.pages (changes.start_new (settings_of w.state).tracked v p source (own source) new))
  unfolding changes.start_new
  new source n = go (ltb n 16)
    where
      go : (b : Bool) → Is (new_whole w v p source n gs b) (carried_change w w.pages (cond b (changes.protect (settings_of w.state).tracked stage.ProtectNew (changes.overlay_of v p n (own source) source) p (run p 1)) (changes.wait (changes.overlay_of v p (own source) (own source) source) Add)))
      go true = new_flags source n
      go false = no_flags_lem source n

  either : (b : Bool) (c d : Change) (x y : Outcome) → Is c x → Is d y → Is (cond b c d) (cond b x y)
  either true c d x y f g = f
  either false c d x y f g = g

  register_taken_lem : (source n : ℕ) → Is (register_whole w v p source n gs) (register_taken w v p source n)
  unfolding register_taken
  register_taken_lem source n =
      either (is_overlay (overlays_of w.tables v) p) (count_whole w v p ((entry_in w.tables v p).ref_count + 1)) (new_whole w v p source n gs (ltb n 16)) (counting w v p ((entry_in w.tables v p).ref_count + 1))
      (carried_change w w.pages (changes.start_new (settings_of w.state).tracked v p source (own source) n))
      (counted w v p ((entry_in w.tables v p).ref_count + 1) idle gs) (new source n)

  unregister_taken_lem : Is (unregister_whole w v p gs) (unregister_taken w v p)
  unfolding unregister_taken
  unregister_taken_lem =
      let e : OverlayPage = entry_in w.tables v p in
      either (ltb 1 e.ref_count) (count_whole w v p (e.ref_count - 1)) (old_whole w v p e gs) (counting w v p (e.ref_count - 1))
      (carried_change w w.pages (changes.start_old (settings_of w.state).tracked v p e.previous_permissions e.gpn_source))
      (counted w v p (e.ref_count - 1) idle gs) (old e.previous_permissions e.gpn_source)

-- THE CLAIM: an overlay call that is taken, and its answers in turn
pub register_is_whole : (w : Buffers) (vtl p source checked new : ℕ)
    → register_refusal w.state (fits w) w.maps.shared w.tables (current_in w (vtl_of vtl) p source) vtl p source checked new ≡ 0 → (gs : List BackendAnswer)
    → Agrees (drop 14 w.state) w.pages (settings_of w.state).isolation (whole (register_whole w (vtl_of vtl) p source new gs).whole) (register_whole w (vtl_of vtl) p source new gs).tables
    (follow (register_of w vtl p source checked new) gs)
unfolding register_of register_refusal
register_is_whole w vtl p source checked new z gs =
    let k = call_passed w.state (fits w) vtl _ z in
    rw (eq-eqb _ 0 z) (register_taken_lem w (vtl_of vtl) p k.0 (eq-eqb _ _ k.1) k.2 gs source new)

pub unregister_is_whole : (w : Buffers) (vtl p : ℕ) → unregister_refusal w.state (fits w) w.tables vtl p ≡ 0 → (gs : List BackendAnswer)
    → Agrees (drop 14 w.state) w.pages (settings_of w.state).isolation (whole (unregister_whole w (vtl_of vtl) p gs).whole) (unregister_whole w (vtl_of vtl) p gs).tables
    (follow (unregister_of w vtl p) gs)
unfolding unregister_of unregister_refusal
unregister_is_whole w vtl p z gs =
    let k = call_passed w.state (fits w) vtl _ z in
    rw (eq-eqb _ 0 z) (unregister_taken_lem w (vtl_of vtl) p k.0 (eq-eqb _ _ k.1) k.2 gs)
