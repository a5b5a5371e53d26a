-- What the definitions give: the limits, and the entries as a list. Assumes nothing.
use mathlib.Core.Path.{◌≡◌, sym, ap, subst, ◌∙◌}
use mathlib.Core.Bool.{Bool, true, cond}
use mathlib.Core.List.{List}
use Prim.Native.Nat.{ℕ, ◌+◌, ◌-◌, ◌≤◌, ◌<◌}
use lib.ListN.{length, length-set}
use borrow.Author.Tests.{eq-eqb, lt-ltb}
use Rattle.permissions.specs.Flags.{vtl_of, bits_of}
use Rattle.overlay_table.specs.declared.OverlayPage.{OverlayPage}
use Rattle.overlay_table.specs.Overlays.{knows, entry_of, changed, with_count, table_of, is_overlay, place_of, entry_at, count_words}
use Rattle.overlay_table.proofs.Lists.{first, table_length, table_overlay, table_entry, table_count}
use Rattle.change_steps.specs.Changes.{start_new, start_old}
use Rattle.protector_state.specs.State.{settings_of}
use Rattle.protector_state.specs.Reply.{finished}
use Rattle.call_refusals.specs.Buffers.{Buffers, Outcome, tables_len, overlays_of, fits}
use Rattle.protector.specs.Calls.{refused_by, carried_change}
use Rattle.protector.proofs.Tables.{overlays_written}
use Rattle.overlay_refusals.specs.Refusals.{unregister_refusal, register_refusal}
use Rattle.overlay_entries.specs.Calls.{entry_in, recounted, counting, unregister_taken, unregister_of, current_in, register_taken, register_of}

-- ---- where the words of the VTL are the table of a list: the calls on the list

module _ (w : Buffers) (vtl p : ℕ) (es : List OverlayPage) (few : length es ≤ 128) (len : length w.tables ≡ tables_len) (is : overlays_of w.tables (vtl_of vtl) ≡ table_of es) where
  pub known_in : is_overlay (overlays_of w.tables (vtl_of vtl)) p ≡ knows es p
  known_in = ap (λ (o : List ℕ). is_overlay o p) is ∙ table_overlay es few p

  pub entry_in_lem : knows es p ≡ true → entry_in w.tables (vtl_of vtl) p ≡ entry_of es p
  entry_in_lem k = ap (λ (o : List ℕ). entry_at o (place_of o p)) is ∙ table_entry es few p (first es p k)

  recounted_in : knows es p ≡ true → (n : ℕ) → overlays_of (recounted w.tables (vtl_of vtl) p n) (vtl_of vtl) ≡ table_of (changed (with_count n) es p)
  recounted_in k n =
      let o : List ℕ = overlays_of w.tables (vtl_of vtl) in
      let d : length (count_words o (place_of o p) n) ≡ 641 = length-set o (place_of o p + 3) n ∙ ap (length {A = ℕ}) is ∙ table_length es few in
      overlays_written w.tables (count_words o (place_of o p) n) (vtl_of vtl) len d
      ∙ ap (λ (x : List ℕ). count_words x (place_of x p) n) is ∙ table_count es few p (first es p k) n

  -- a known page is counted once more, and nothing is asked
  pub register_known : (source checked new : ℕ) → register_refusal w.state (fits w) w.maps.shared w.tables (current_in w (vtl_of vtl) p source) vtl p source checked new ≡ 0 → knows es p ≡ true
      → (overlays_of (register_of w vtl p source checked new).buffers.tables (vtl_of vtl) ≡ table_of (changed (with_count ((entry_of es p).ref_count + 1)) es p))
      × ((register_of w vtl p source checked new).buffers.maps ≡ w.maps) × ((register_of w vtl p source checked new).buffers.state ≡ w.state) × ((register_of w vtl p source checked new).reply ≡ finished 0 0 0 0)
  unfolding register_of register_taken
  register_known source checked new z k =
      let x : Outcome = counting w (vtl_of vtl) p ((entry_in w.tables (vtl_of vtl) p).ref_count + 1) in
      let d : register_of w vtl p source checked new ≡ x
      = ap (λ (b : Bool). cond b (register_taken w (vtl_of vtl) p source new) (refused_by w (register_refusal w.state (fits w) w.maps.shared w.tables (current_in w (vtl_of vtl) p source) vtl p source checked new))) (eq-eqb _ 0 z)
      ∙ ap (λ (b : Bool). cond b x (carried_change w w.pages (start_new (settings_of w.state).tracked (vtl_of vtl) p source (bits_of (current_in w (vtl_of vtl) p source)) new))) (known_in ∙ k) in (
        ap (λ (y : Outcome). overlays_of y.buffers.tables (vtl_of vtl)) d ∙ recounted_in k ((entry_in w.tables (vtl_of vtl) p).ref_count + 1)
            ∙ ap (λ (y : OverlayPage). table_of (changed (with_count (y.ref_count + 1)) es p)) (entry_in_lem k),
        ap (λ (y : Outcome). y.buffers.maps) d,
        ap (λ (y : Outcome). y.buffers.state) d,
        ap (λ (y : Outcome). y.reply) d,
      )

  -- a count above 1 is lowered, and nothing is asked
  pub unregister_lowers : unregister_refusal w.state (fits w) w.tables vtl p ≡ 0 → knows es p ≡ true → 1 < (entry_of es p).ref_count
      → (overlays_of (unregister_of w vtl p).buffers.tables (vtl_of vtl) ≡ table_of (changed (with_count ((entry_of es p).ref_count - 1)) es p))
      × ((unregister_of w vtl p).buffers.maps ≡ w.maps) × ((unregister_of w vtl p).buffers.state ≡ w.state) × ((unregister_of w vtl p).reply ≡ finished 0 0 0 0)
  unfolding unregister_of unregister_taken
  unregister_lowers z k h =
      let e : OverlayPage = entry_in w.tables (vtl_of vtl) p in
      let x : Outcome = counting w (vtl_of vtl) p (e.ref_count - 1) in
      let d : unregister_of w vtl p ≡ x
      = ap (λ (b : Bool). cond b (unregister_taken w (vtl_of vtl) p) (refused_by w (unregister_refusal w.state (fits w) w.tables vtl p))) (eq-eqb _ 0 z)
      ∙ ap (λ (b : Bool). cond b x (carried_change w w.pages (start_old (settings_of w.state).tracked (vtl_of vtl) p e.previous_permissions e.gpn_source)))
      (lt-ltb 1 e.ref_count (subst (λ (y : OverlayPage). 1 < y.ref_count) (sym (entry_in_lem k)) h)) in (
        ap (λ (y : Outcome). overlays_of y.buffers.tables (vtl_of vtl)) d ∙ recounted_in k (e.ref_count - 1)
            ∙ ap (λ (y : OverlayPage). table_of (changed (with_count (y.ref_count - 1)) es p)) (entry_in_lem k),
        ap (λ (y : Outcome). y.buffers.maps) d,
        ap (λ (y : Outcome). y.buffers.state) d,
        ap (λ (y : Outcome). y.reply) d,
      )
