-- Every call, taken or not, keeps the tables. Assumes nothing.
use native.Mathlib.Omega.{arith}
use mathlib.Core.Path.{◌≡◌, refl, sym, ap, ◌∙◌}
use mathlib.Core.Bool.{Bool, true, false, cond}
use mathlib.Core.List.{List}
use Prim.Native.Nat.{ℕ, ◌+◌, ◌-◌, ◌≤◌, ◌<◌}
use lib.Dec.{eqb, ltb}
use lib.ListN.{length, set}
use borrow.Author.Tests.{eqb-true, eqb-false, eq-eqb, ne_eqb, ltb-true, ltb-false}
use Rattle.laws.specs.Bools.{digit_le}
use Rattle.laws.specs.Refusal.{passed, when_passed}
use Rattle.call_refusals.proofs.Laws.{is_ready}
use Rattle.bitmap.specs.Pages.{bit_at}
use Rattle.layout.specs.declared.MemoryRangeWithNode.{MemoryRangeWithNode}
use Rattle.layout.specs.Layout.{is_ram}
use Rattle.permissions.specs.declared.GuestVtl.{GuestVtl}
use Rattle.permissions.specs.declared.GuestVtl.TheVariants.{Vtl0, Vtl1}
use Rattle.permissions.specs.declared.HvMapGpaFlags.{HvMapGpaFlags}
use Rattle.permissions.specs.Flags.{fit_vtl, vtl_of, fit_flags, flags_of, bool_of, bits_of}
use Rattle.page_list.specs.Pages.{pages_of}
use Rattle.overlay_table.specs.declared.OverlayPage.{OverlayPage}
use Rattle.overlay_table.specs.Overlays.{used, is_overlay, place_of, entry_at, add_code}
use Rattle.visibility_steps.specs.declared.Step.{Step}
use Rattle.change_steps.specs.declared.ChangeStep.{ChangeStep}
use Rattle.change_steps.specs.Changes.{change_of, start_new, start_old}
use Rattle.protector_state.specs.State.{settings_of, entries_in}
use Rattle.protector_state.specs.Changing.{stage_in, is_changing, change_in}
use Rattle.call_refusals.specs.Buffers.{Buffers, buffers, Outcome, overlays_of, locks_of, is_locked, fits, status_in}
use Rattle.protector.specs.Calls.{refused_by, carried_out, carried_change, visibility_taken, visibility_of, next_in, after_done, after_failed, visibility_done, visibility_failed, change_done, change_failed, answer_done, answer_failed}
use Rattle.call_refusals.specs.Refusals.{visibility_refusal, answer_refusal}
use Rattle.protection_entries.specs.Calls.{protection_refusal, all_listed, protection_taken, protection_of, default_refusal, stored, barred, renewed_in, default_started, default_taken, default_of, first_piece}
use Rattle.overlay_refusals.specs.Refusals.{unregister_refusal, register_refusal, within, known_refusal, guest_refusal, dma_refusal, page_refusal, needed_of}
use Rattle.overlay_refusals.proofs.Laws.{call_passed, flags_passed}
use Rattle.overlay_entries.specs.Calls.{entry_in, counting, unregister_taken, unregister_of, current_in, register_taken, register_of}
use Rattle.setting_entries.specs.Calls.{enable_of}
use Rattle.visibility_claims.specs.Whole.{BackendAnswer, Succeeds, Fails}
use Rattle.visibility_claims.specs.Calls.{answer_of}
use Rattle.history.specs.Call.{Writer, Visibility, Protection, Default, Register, Unregister, Lock, Unlock, Enable, Call, Write, Read, Answer, gives_writer, gives}
use Rattle.history.specs.Tables.{Tables, TablesFit}
use Rattle.history.proofs.Buffers.{Stands}
use Rattle.history.proofs.Frame.{setter_frame}
use Rattle.history.proofs.Histories.{KeepsWith, InBuffers}
use Rattle.history.proofs.Locked.{lock_tables_lem, unlock_tables}
use Rattle.history.proofs.Deciding.{decides, either}
use Rattle.history.proofs.Entries.{overlays_entry, overlays_counted, overlays_renewed}
use Rattle.history.proofs.Tables.{put, pending_written, pending_request, pending_idle, pending_same, pending_set, Sound, sound_pages, sound_ram, sound_done, sound_failed, sound_new, sound_old}

-- ---- what a registration that is taken has found of its page

pub record Fresh (es : List MemoryRangeWithNode) (o : List ℕ) (p source : ℕ) : Type 0 where
  pub page : is_ram es p ≡ eqb source 0
  pub room : used o < 128

module _ (es : List MemoryRangeWithNode) (shared o locks : List ℕ) (p source : ℕ) (current : HvMapGpaFlags) (checked new : ℕ) where
  abbrev K : ℕ
  K = known_refusal (entry_at o (place_of o p)) checked new

  abbrev D : ℕ
  D = dma_refusal es o locks p

  abbrev G : ℕ
  G = guest_refusal es shared o locks p current checked

  room_left : add_code o ≡ 0 → used o < 128
  room_left z = go (ltb (used o) 128) refl z
    where
      go : (b : Bool) → ltb (used o) 128 ≡ b → ◌≡◌ {A = ℕ} (cond b 0 17) 0 → used o < 128
      go true e d = ltb-true (used o) 128 e
      go false e d = absurd (omega (arith, d))

  pub fresh_page : source < 2 → is_overlay o p ≡ false → page_refusal es shared o locks p source current checked new ≡ 0 → Fresh es o p source
  unfolding page_refusal dma_refusal guest_refusal
  fresh_page two h z = go (bool_of source) refl (sym (ap (λ (b : Bool). cond b K (cond (bool_of source) D G)) h) ∙ z)
    where
      least : (n : ℕ) → n < 2 → (n ≡ 1 → ⊥) → n ≡ 0
      least n h f = omega (arith, h, f)

      go : (b : Bool) → bool_of source ≡ b → cond b D G ≡ 0 → Fresh es o p source
      go true e z =
          let a = when_passed (is_ram es p) 6 _ z in
          let b = when_passed (is_locked o locks p) 9 _ a.1 in
          let one : source ≡ 1 = eqb-true source 1 e in
          record { page = a.0 ∙ sym (ne_eqb source 0 (λ d. omega (arith, one, d))); room = room_left b.1 }
      go false e z =
          let a = passed (is_ram es p) 6 _ z in
          let b = passed (within current (flags_of checked)) 12 _ a.1 in
          let c = when_passed (bit_at 8 shared p) 11 _ b.1 in
          let d = when_passed (is_locked o locks p) 9 _ c.1 in
          let none : source ≡ 1 → ⊥ = eqb-false source 1 e in
          record { page = a.0 ∙ sym (eq-eqb source 0 (least source two none)); room = room_left d.1 }

  count_left : is_overlay o p ≡ true → page_refusal es shared o locks p source current checked new ≡ 0 → (entry_at o (place_of o p)).ref_count < 65535
  unfolding page_refusal known_refusal
  count_left h z =
      let a = passed (within (flags_of (entry_at o (place_of o p)).overlay_permissions) (flags_of (needed_of checked new))) 12 _ (sym (ap (λ (b : Bool). cond b K (cond (bool_of source) D G)) h) ∙ z) in
      ltb-true _ 65535 (passed (ltb (entry_at o (place_of o p)).ref_count 65535) 16 _ a.1).0

bits_few : (f : HvMapGpaFlags) → bits_of f < 16
bits_few f = omega (arith, digit_le f.readable, digit_le f.writable, digit_le f.kernel_executable, digit_le f.user_executable)

-- a default change that is taken is of flags
pub flags_fit : (w : Buffers) (vtl flags : ℕ) → default_refusal w.state (fits w) vtl flags ≡ 0 → flags < 16
unfolding default_refusal
flags_fit w vtl flags z =
    let d = passed (fit_vtl vtl) 7 _ (is_ready w.state (fits w) _ z).goes in
    ltb-true flags 16 (passed (fit_flags flags) 7 _ d.1).0

-- ---- the calls

module _ (es : List MemoryRangeWithNode) where
  made : (w : Buffers) (p : List ℕ) (x : ChangeStep) → Sound es w.tables x → TablesFit es (carried_change w p x).buffers
  unfolding carried_change
  made w p x k = record { tables = k.tables; pending = pending_written es x.stage x.change w.state _ k.pending }

  asked : (w : Buffers) (p : List ℕ) (x : Step) → Tables es w.tables → TablesFit es (carried_out w p x).buffers
  unfolding carried_out
  asked w p x k = record { tables = k; pending = pending_request es x.phase x.request w.state w.tables }

  module _ (w : Buffers) (k : TablesFit es w) where
    visibility_tabled : (vtl share : ℕ) (l : List ℕ) → TablesFit es (visibility_of w vtl share l).buffers
    unfolding visibility_of visibility_taken
    visibility_tabled vtl share l = decides (TablesFit es) w (visibility_refusal w.state (fits w) w.tables vtl share l) _ k (λ _. asked w _ _ k.tables)

    answer_tabled : (g : BackendAnswer) → TablesFit es (answer_of g w).buffers
    unfolding answer_done answer_failed after_done after_failed
    answer_tabled Succeeds =
        decides (TablesFit es) w (answer_refusal w.state (fits w) false) _ k
        (λ _. either (TablesFit es) (is_changing w.state) (change_done w) (visibility_done w)
        (made w w.pages _ (sound_done es w.tables k.tables (settings_of w.state).tracked (stage_in w.state) (change_in w.state) w.pages (next_in w.maps.private w.state w.tables) k.pending))
        (asked w w.pages _ k.tables))
    answer_tabled (Fails code n) =
        decides (TablesFit es) w (answer_refusal w.state (fits w) true) _ k
        (λ _. either (TablesFit es) (is_changing w.state) (change_failed w) (visibility_failed w code n)
        (made w w.pages _ (sound_failed es w.tables k.tables (stage_in w.state) (change_in w.state)))
        (asked w w.pages _ k.tables))

    protection_tabled : (vtl flags : ℕ) (l : List ℕ) → TablesFit es (protection_of w vtl flags l).buffers
    unfolding protection_of protection_taken
    protection_tabled vtl flags l =
        decides (TablesFit es) w (protection_refusal w.state (fits w) w.maps.shared w.tables vtl flags l) _ k
        (λ _. made w (all_listed l w.pages) _ (sound_pages es w.tables k.tables (settings_of w.state).tracked (change_of (vtl_of vtl) flags (length (pages_of l))) (all_listed l w.pages) 0))

    set_tabled : (i x : ℕ) → 13 < i → TablesFit es (buffers w.maps (set w.state i x) w.pages w.tables)
    set_tabled i x h = record { tables = k.tables; pending = pending_set es w.state w.tables i x h k.pending }

    stored_tabled : (v : GuestVtl) (flags : ℕ) → TablesFit es (stored w v flags)
    stored_tabled Vtl0 flags = set_tabled 20 flags (omega arith)
    stored_tabled Vtl1 flags = set_tabled 21 flags (omega arith)

    enable_tabled : TablesFit es (buffers w.maps (enable_of w.state).state w.pages w.tables)
    enable_tabled = setter_frame (λ (s : List ℕ). TablesFit es (buffers w.maps s w.pages w.tables)) w.state k (λ _ _. set_tabled 19 1 (omega arith))

    -- a count changed, where nothing is under way
    counted : status_in w.state ≡ 0 → (v : GuestVtl) (p n : ℕ) → is_overlay (overlays_of w.tables v) p ≡ true → 1 ≤ n → n ≤ 65535 → TablesFit es (counting w v p n).buffers
    counted idle v p n h a b =
        record {
          tables = put es w.tables k.tables v _ (overlays_counted es (overlays_of w.tables v) (k.tables.overlays v) p h n a b);
          pending = pending_idle es w.state _ idle;
        }

    unregister_tabled : (vtl p : ℕ) → TablesFit es (unregister_of w vtl p).buffers
    unfolding unregister_of unregister_taken unregister_refusal
    unregister_tabled vtl p =
        decides (TablesFit es) w (unregister_refusal w.state (fits w) w.tables vtl p) (unregister_taken w v p) k
        (λ z. let c = call_passed w.state (fits w) vtl _ z in go c.1 (passed (is_overlay (overlays_of w.tables v) p) 13 _ c.4).0 (ltb 1 e.ref_count) refl)
      where
        v : GuestVtl
        v = vtl_of vtl

        e : OverlayPage
        e = entry_in w.tables v p

        A : Outcome
        A = counting w v p (e.ref_count - 1)

        B : Outcome
        B = carried_change w w.pages (start_old (settings_of w.state).tracked v p e.previous_permissions e.gpn_source)

        go : status_in w.state ≡ 0 → is_overlay (overlays_of w.tables v) p ≡ true → (b : Bool) → ltb 1 e.ref_count ≡ b → TablesFit es (cond b A B).buffers
        go idle h true d =
            let f = overlays_entry es (overlays_of w.tables v) (k.tables.overlays v) p h in
            let c : 1 < e.ref_count = ltb-true 1 e.ref_count d in
            counted idle v p (e.ref_count - 1) h (omega (arith, c)) (omega (arith, f.most))
        go idle h false d = made w w.pages _ (sound_old es w.tables k.tables (settings_of w.state).tracked v p e.previous_permissions e.gpn_source h (ltb-false 1 e.ref_count d))

    register_tabled : entries_in w.state ≡ es → (vtl p source checked new : ℕ) → TablesFit es (register_of w vtl p source checked new).buffers
    unfolding register_of register_taken register_refusal
    register_tabled layout vtl p source checked new =
        decides (TablesFit es) w (register_refusal w.state (fits w) w.maps.shared w.tables (current_in w v p source) vtl p source checked new) (register_taken w v p source new) k
        (λ z. let c = call_passed w.state (fits w) vtl _ z in
        let f = flags_passed source checked new _ c.4 in
        go c.1 (ltb-true source 2 f.0) f.3 (is_overlay o p) refl)
      where
        v : GuestVtl
        v = vtl_of vtl

        o : List ℕ
        o = overlays_of w.tables v

        e : OverlayPage
        e = entry_in w.tables v p

        current : ℕ
        current = bits_of (current_in w v p source)

        x : ChangeStep
        x = start_new (settings_of w.state).tracked v p source current new

        A : Outcome
        A = counting w v p (e.ref_count + 1)

        B : Outcome
        B = carried_change w w.pages x

        go : status_in w.state ≡ 0 → source < 2 → page_refusal (entries_in w.state) w.maps.shared o (locks_of w.tables v) p source (current_in w v p source) checked new ≡ 0
            → (b : Bool) → is_overlay o p ≡ b → TablesFit es (cond b A B).buffers
        go idle two z true h =
            let c = count_left (entries_in w.state) w.maps.shared o (locks_of w.tables v) p source (current_in w v p source) checked new h z in
            counted idle v p (e.ref_count + 1) h (omega arith) (omega (arith, c))
        go idle two z false h =
            let c = fresh_page (entries_in w.state) w.maps.shared o (locks_of w.tables v) p source (current_in w v p source) checked new two h z in
            let few : current < 16 = bits_few (current_in w v p source) in
            let ram : is_ram es p ≡ eqb source 0 = ap (λ (y : List MemoryRangeWithNode). is_ram y p) (sym layout) ∙ c.page in
            made w w.pages x
            (sound_new es w.tables k.tables (settings_of w.state).tracked v p source current new
            (λ own d. record { fits = record { counted = omega arith; most = omega arith; previous = few; own = d; source = two; page = ram }; none = h; room = c.room }) few)

  -- a default change renews previous permissions, and stores the default where it is refused by 10
  default_taken_lem : (w : Buffers) → TablesFit es w → (v : GuestVtl) (flags : ℕ) → flags < 16 → TablesFit es (default_taken w v flags).buffers
  unfolding default_taken default_started
  default_taken_lem w k v flags h =
      let m : List ℕ = w.maps.private in
      let r : Buffers = renewed_in w v flags in
      let t : Tables es r.tables = put es w.tables k.tables v _ (overlays_renewed es m (entries_in w.state) flags h (overlays_of w.tables v) (k.tables.overlays v)) in
      either (TablesFit es) (barred m w.state w.tables v) (refused_by w 10) (default_started r v flags) k
      (made r w.pages _ (sound_ram es r.tables t (settings_of w.state).tracked (change_of v flags 0) (first_piece m w.state r.tables v)))

  default_tabled : (w : Buffers) → TablesFit es w → (vtl flags : ℕ) → TablesFit es (default_of w vtl flags).buffers
  unfolding default_of
  default_tabled w k vtl flags =
      decides (TablesFit es) w (default_refusal w.state (fits w) vtl flags) _ k
      (λ z. default_taken_lem (stored w (vtl_of vtl) flags) (stored_tabled w k (vtl_of vtl) flags) (vtl_of vtl) flags (flags_fit w vtl flags z))

-- ---- every call

module _ (es : List MemoryRangeWithNode) (w : Buffers) (layout : entries_in w.state ≡ es) (k : TablesFit es w) where
  tabled_writer : (a : Writer) → TablesFit es (gives_writer a w).buffers
  tabled_writer (Visibility vtl share list) = visibility_tabled es w k vtl share list
  tabled_writer (Protection vtl flags list) = protection_tabled es w k vtl flags list
  tabled_writer (Default vtl flags) = default_tabled es w k vtl flags
  tabled_writer (Register vtl page source checked new) = register_tabled es w k layout vtl page source checked new
  tabled_writer (Unregister vtl page) = unregister_tabled es w k vtl page
  tabled_writer (Lock vtl list) =
      let x = lock_tables_lem es w.state w.tables k.tables vtl list in record { tables = x.tables; pending = pending_same es w.state w.tables _ x.same k.pending }
  tabled_writer (Unlock vtl list) =
      let x = unlock_tables es w.state w.tables k.tables vtl list in record { tables = x.tables; pending = pending_same es w.state w.tables _ x.same k.pending }
  tabled_writer Enable = enable_tabled es w k

  tabled_step : (c : Call) → TablesFit es (gives c w).buffers
  tabled_step (Write a) = tabled_writer a
  tabled_step (Read q) = k
  tabled_step (Answer g) = answer_tabled es w k g

pub tables_kept : (es : List MemoryRangeWithNode) → KeepsWith (Stands es) (InBuffers (TablesFit es))
tables_kept es c w o k t = tabled_step es w k.layout t c
