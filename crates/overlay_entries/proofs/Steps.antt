-- An overlay call from its start to its end: what is asked and how often, and what becomes of the entries as a list. Assumes nothing.
use native.Mathlib.Omega.{arith}
use mathlib.Core.Path.{◌≡◌, refl, sym, ap, subst, ◌∙◌}
use mathlib.Core.Bool.{Bool, true, false, cond}
use mathlib.Core.List.{List, [], ◌∷◌, ◌++◌}
use Prim.Native.Nat.{ℕ, ◌+◌, ◌-◌, ◌≤◌, ◌<◌}
use lib.Dec.{ltb}
use lib.ListN.{length, length-append}
use borrow.Author.Tests.{eq-eqb, ltb-true, lt-ltb, le-ltb}
use Rattle.laws.specs.Refusal.{passed, when_passed}
use Rattle.bitmap.specs.Pages.{bit_at}
use Rattle.layout.specs.declared.MemoryRangeWithNode.{MemoryRangeWithNode}
use Rattle.layout.specs.Layout.{is_ram}
use Rattle.permissions.specs.declared.GuestVtl.{GuestVtl}
use Rattle.permissions.specs.declared.HvMapGpaFlags.{HvMapGpaFlags}
use Rattle.permissions.specs.Flags.{vtl_of, flags_of, bits_of, bool_of}
use Rattle.page_list.specs.declared.PageRun.{PageRun}
use Rattle.page_list.specs.Runs.{run}
use Rattle.overlay_table.specs.declared.OverlayPage.{OverlayPage}
use Rattle.overlay_table.specs.Overlays.{knows, entry, entry_of, drop_first, table_of, is_overlay, place_of, entry_at, add_code, add_words, remove_words}
use Rattle.overlay_table.proofs.Lists.{first, drop-length, table_length, table_overlay, table_remove, table_add_code, table_add}
use Rattle.visibility_steps.specs.declared.Operation.TheVariants.{Wait, Protect, Flush, TlbWait}
use Rattle.visibility_steps.specs.declared.Answer.TheVariants.{Done, Ask}
use Rattle.change_steps.specs.declared.Change.{Change}
use Rattle.change_steps.specs.declared.ChangeStep.{ChangeStep}
use Rattle.change_steps.specs.declared.Stage.TheVariants as at
use Rattle.change_steps.specs.declared.Entry.TheVariants.{Keep, Add, Remove}
use Rattle.change_steps.specs.Changes.{ask, wait, protect, finish, overlay_of, done_of, start_new, start_old}
use Rattle.protector_state.specs.State.{settings_of, entries_in}
use Rattle.protector_state.specs.Reply.{asked_of, flat_of}
use Rattle.call_refusals.specs.Buffers.{Buffers, Outcome, tables_len, overlays_of, locks_of, is_locked, fits}
use Rattle.protector.specs.Writes.{without_page, entered}
use Rattle.protector.specs.Calls.{refused_by, carried_change}
use Rattle.protector.proofs.Tables.{overlays_written}
use Rattle.overlay_refusals.specs.Refusals.{unregister_refusal, within, known_refusal, guest_refusal, dma_refusal, page_refusal, register_refusal}
use Rattle.overlay_entries.specs.Calls.{entry_in, counting, unregister_taken, unregister_of, current_in, register_taken, register_of}
use Rattle.overlay_refusals.proofs.Laws as laws
use Rattle.overlay_entries.proofs.Claims.{known_in, entry_in_lem}

-- ---- the operations: each step that a done answer leads to

abbrev pub next : Bool → List ℕ → PageRun → ChangeStep → ChangeStep
next tracked t r x = done_of tracked x.stage x.change t r

module _ (tracked : Bool) (v : GuestVtl) (p source current new : ℕ) (t : List ℕ) (r : PageRun) where
  abbrev started : Bool → ChangeStep
  started b = cond b (protect tracked at.ProtectNew (overlay_of v p new current source) p (run p 1)) (wait (overlay_of v p current current source) Add)

  abbrev second : Bool → ChangeStep
  second b = next tracked t r (started b)

  abbrev third : Bool → ChangeStep
  third b = next tracked t r (second b)

  abbrev fourth : Bool → ChangeStep
  fourth b = next tracked t r (third b)

  abbrev fifth : Bool → ChangeStep
  fifth b = next tracked t r (fourth b)

  -- without new flags: entered at once, then Wait, Flush, TlbWait on its VTL; 3 operations
  pub without_flags : ltb new 16 ≡ false → (start_new tracked v p source current new ≡ started false) × ((started false).answer ≡ Ask Wait) × ((started false).entry ≡ Add)
      × ((second false).answer ≡ Ask (Flush v)) × ((third false).answer ≡ Ask (TlbWait v)) × ((fourth false).answer ≡ Done 3)
  unfolding start_new protect wait ask done_of finish
  without_flags h = (ap started h, refl, refl, refl, refl, refl)

  -- with new flags: Protect, entered as it is done; 4 operations
  pub with_flags : ltb new 16 ≡ true → (start_new tracked v p source current new ≡ started true) × ((started true).answer ≡ Ask (Protect v (flags_of new) (run p 1))) × ((started true).entry ≡ Keep)
      × ((second true).answer ≡ Ask Wait) × ((second true).entry ≡ Add) × ((third true).answer ≡ Ask (Flush v)) × ((fourth true).answer ≡ Ask (TlbWait v)) × ((fifth true).answer ≡ Done 4)
  unfolding start_new protect wait ask done_of finish
  with_flags h = (ap started h, refl, refl, refl, refl, refl, refl, refl)

-- ---- what is entered and taken out, where the words of the VTL are the table of a list

module _ (q : Change) (t : List ℕ) (es : List OverlayPage) (len : length t ≡ tables_len) (is : overlays_of t q.vtl ≡ table_of es) where
  pub entered_last : length es < 128 → overlays_of (entered Add q t) q.vtl ≡ table_of (es ++ (entry q.at q.previous q.flags 1 q.source ∷ []))
  unfolding entered
  entered_last h =
      let e : OverlayPage = entry q.at q.previous q.flags 1 q.source in
      let d : add_words (overlays_of t q.vtl) e ≡ table_of (es ++ (e ∷ []))
      = ap (λ (o : List ℕ). add_words o e) is ∙ table_add es (omega (arith, h)) e ∙ ap (λ (b : Bool). cond b (table_of (es ++ (e ∷ []))) (table_of es)) (lt-ltb (length es) 128 h) in
      let m : length (es ++ (e ∷ [])) ≤ 128 = omega (arith, h, length-append es (e ∷ [])) in
      overlays_written t (add_words (overlays_of t q.vtl) e) q.vtl len (ap (length {A = ℕ}) d ∙ table_length (es ++ (e ∷ [])) m) ∙ d

  pub taken_out : length es ≤ 128 → knows es q.at ≡ true → overlays_of (entered Remove q t) q.vtl ≡ table_of (drop_first es q.at)
  unfolding entered
  taken_out h k =
      let d : without_page (overlays_of t q.vtl) q.at ≡ table_of (drop_first es q.at)
      = ap (λ (o : List ℕ). without_page o q.at) is
      ∙ ap (λ (b : Bool). cond b (remove_words (table_of es) (place_of (table_of es) q.at)) (table_of es)) (table_overlay es h q.at ∙ k) ∙ table_remove es h q.at (first es q.at k) in
      let m : length (drop_first es q.at) ≤ 128 = omega (arith, h, drop-length es q.at) in
      overlays_written t (without_page (overlays_of t q.vtl) q.at) q.vtl len (ap (length {A = ℕ}) d ∙ table_length (drop_first es q.at) m) ∙ d

-- ---- a registration that is taken has room for a new page

add_left : (es : List MemoryRangeWithNode) (shared o locks : List ℕ) (p source : ℕ) (current : HvMapGpaFlags) (checked new : ℕ) → is_overlay o p ≡ false
    → page_refusal es shared o locks p source current checked new ≡ 0 → add_code o ≡ 0
unfolding page_refusal dma_refusal guest_refusal
add_left es shared o locks p source current checked new h z =
    go (bool_of source)
    (sym (ap (λ (b : Bool). cond b (known_refusal (entry_at o (place_of o p)) checked new) (cond (bool_of source) (dma_refusal es o locks p) (guest_refusal es shared o locks p current checked))) h) ∙ z)
  where
    go : (b : Bool) → cond b (dma_refusal es o locks p) (guest_refusal es shared o locks p current checked) ≡ 0 → add_code o ≡ 0
    go true z = (when_passed (is_locked o locks p) 9 _ (when_passed (is_ram es p) 6 _ z).1).1
    go false z =
        (when_passed (is_locked o locks p) 9 _ (when_passed (bit_at 8 shared p) 11 _ (passed (within current (flags_of checked)) 12 _ (passed (is_ram es p) 6 _ z).1).1).1).1

few_entries : (es : List OverlayPage) → length es ≤ 128 → add_code (table_of es) ≡ 0 → length es < 128
few_entries es h z = go (ltb (length es) 128) refl (sym (table_add_code es h) ∙ z)
  where
    go : (b : Bool) → ltb (length es) 128 ≡ b → ◌≡◌ {A = ℕ} (cond b 0 17) 0 → length es < 128
    go true e d = ltb-true (length es) 128 e
    go false e d = absurd (omega (arith, d))

module _ (w : Buffers) (vtl p source checked new : ℕ) (z : register_refusal w.state (fits w) w.maps.shared w.tables (current_in w (vtl_of vtl) p source) vtl p source checked new ≡ 0)
    (es : List OverlayPage) (few : length es ≤ 128) (len : length w.tables ≡ tables_len) (is : overlays_of w.tables (vtl_of vtl) ≡ table_of es) (k : knows es p ≡ false) where
  abbrev v : GuestVtl
  v = vtl_of vtl

  abbrev made : ChangeStep
  made = start_new (settings_of w.state).tracked v p source (bits_of (current_in w v p source)) new

  room : length es < 128
  unfolding register_refusal
  room =
      few_entries es few
      (ap add_code (sym is)
      ∙ add_left (entries_in w.state) w.maps.shared (overlays_of w.tables v) (locks_of w.tables v) p source (current_in w v p source) checked new (known_in w vtl p es few len is ∙ k)
      (laws.flags_passed source checked new _ (laws.call_passed w.state (fits w) vtl _ z).4).3)

  taken : register_of w vtl p source checked new ≡ carried_change w w.pages made
  unfolding register_of register_taken
  taken =
      ap (λ (b : Bool). cond b (register_taken w v p source new) (refused_by w (register_refusal w.state (fits w) w.maps.shared w.tables (current_in w v p source) vtl p source checked new))) (eq-eqb _ 0 z)
      ∙ ap (λ (b : Bool). cond b (counting w v p ((entry_in w.tables v p).ref_count + 1)) (carried_change w w.pages made)) (known_in w vtl p es few len is ∙ k)

  -- without new flags it is the last entry at once: current flags as previous and own, counted once
  pub register_enters : ltb new 16 ≡ false
      → (overlays_of (register_of w vtl p source checked new).buffers.tables v ≡ table_of (es ++ (entry p (bits_of (current_in w v p source)) (bits_of (current_in w v p source)) 1 source ∷ [])))
      × ((register_of w vtl p source checked new).reply ≡ asked_of (settings_of w.state).isolation Wait)
  unfolding carried_change flat_of wait ask
  register_enters h =
      let c : ℕ = bits_of (current_in w v p source) in
      let d : register_of w vtl p source checked new ≡ carried_change w w.pages (wait (overlay_of v p c c source) Add)
      = taken ∙ ap (carried_change w w.pages) (without_flags (settings_of w.state).tracked v p source c new [] (run 0 0) h).0 in (
        ap (λ (y : Outcome). overlays_of y.buffers.tables v) d ∙ entered_last (wait (overlay_of v p c c source) Add).change w.tables es len is room,
        ap (λ (y : Outcome). y.reply) d,
      )

  -- with new flags they are asked for first, and no entry is written
  pub register_protects : ltb new 16 ≡ true
      → ((register_of w vtl p source checked new).buffers.tables ≡ w.tables) × ((register_of w vtl p source checked new).reply ≡ asked_of (settings_of w.state).isolation (Protect v (flags_of new) (run p 1)))
  unfolding carried_change flat_of protect entered
  register_protects h =
      let c : ℕ = bits_of (current_in w v p source) in
      let tracked : Bool = (settings_of w.state).tracked in
      let d : register_of w vtl p source checked new ≡ carried_change w w.pages (protect tracked at.ProtectNew (overlay_of v p new c source) p (run p 1))
      = taken ∙ ap (carried_change w w.pages) (with_flags tracked v p source c new [] (run 0 0) h).0 in
      (ap (λ (y : Outcome). y.buffers.tables) d, ap (λ (y : Outcome). y.reply) d)

-- ---- an unregistration of a count that isn't above 1 asks for the previous permissions, and leaves the entry until they are given

module _ (w : Buffers) (vtl p : ℕ) (z : unregister_refusal w.state (fits w) w.tables vtl p ≡ 0) (es : List OverlayPage) (few : length es ≤ 128) (len : length w.tables ≡ tables_len)
    (is : overlays_of w.tables (vtl_of vtl) ≡ table_of es) (k : knows es p ≡ true) (one : (entry_of es p).ref_count ≤ 1) where
  pub unregister_restores : ((unregister_of w vtl p).buffers.tables ≡ w.tables)
      × ((unregister_of w vtl p).reply ≡ asked_of (settings_of w.state).isolation (Protect (vtl_of vtl) (flags_of (entry_of es p).previous_permissions) (run p 1)))
  unfolding unregister_of unregister_taken carried_change flat_of start_old protect entered
  unregister_restores =
      let e : OverlayPage = entry_in w.tables (vtl_of vtl) p in
      let same : e ≡ entry_of es p = entry_in_lem w vtl p es few len is k in
      let x : Outcome = carried_change w w.pages (start_old (settings_of w.state).tracked (vtl_of vtl) p e.previous_permissions e.gpn_source) in
      let d : unregister_of w vtl p ≡ x
      = ap (λ (b : Bool). cond b (unregister_taken w (vtl_of vtl) p) (refused_by w (unregister_refusal w.state (fits w) w.tables vtl p))) (eq-eqb _ 0 z)
      ∙ ap (λ (b : Bool). cond b (counting w (vtl_of vtl) p (e.ref_count - 1)) x) (le-ltb 1 e.ref_count (subst (λ (y : OverlayPage). y.ref_count ≤ 1) (sym same) one)) in (
        ap (λ (y : Outcome). y.buffers.tables) d,
        ap (λ (y : Outcome). y.reply) d ∙ ap (λ (y : OverlayPage). asked_of (settings_of w.state).isolation (Protect (vtl_of vtl) (flags_of y.previous_permissions) (run p 1))) same,
      )
