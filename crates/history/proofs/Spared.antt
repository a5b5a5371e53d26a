-- What each call that may write spares of what it is lent. Assumes nothing.
use Prim.Native.Nat.{ℕ, ◌+◌, ◌-◌}
use mathlib.Core.Path.{◌≡◌, refl}
use mathlib.Core.List.{List}
use mathlib.Core.Bool.{Bool, true, false, cond}
use lib.Dec.{eqb, ltb}
use Rattle.permissions.specs.declared.GuestVtl.{GuestVtl}
use Rattle.permissions.specs.Flags.{vtl_of, bool_of, bits_of}
use Rattle.overlay_table.specs.Overlays.{is_overlay}
use Rattle.change_steps.specs.declared.ChangeStep.{ChangeStep}
use Rattle.change_steps.specs.Changes.{start_new, start_old}
use Rattle.protector_state.specs.State.{settings_of}
use Rattle.call_refusals.specs.Buffers.{Buffers, buffers, Outcome, overlays_of, fits}
use Rattle.protector.specs.Calls.{refused_by, carried_out, carried_change, visibility_taken, visibility_of}
use Rattle.call_refusals.specs.Refusals.{visibility_refusal}
use Rattle.protection_entries.specs.Calls.{protection_refusal, protection_taken, protection_of, default_refusal, stored_default, stored, barred, renewed_in, default_started, default_taken, default_of}
use Rattle.overlay_refusals.specs.Refusals.{register_refusal, unregister_refusal}
use Rattle.overlay_entries.specs.Calls.{current_in, entry_in, counting, register_taken, register_of, unregister_taken, unregister_of}
use Rattle.history.specs.Made.{but_tables, but_marks_tables, but_marks_pages}
use Rattle.history.proofs.Effects.{protection_alone}

-- a visibility change spares the tables
visibility_tables : (w : Buffers) (vtl share : ℕ) (l : List ℕ) → (visibility_of w vtl share l).buffers.tables ≡ w.tables
unfolding visibility_of visibility_taken carried_out
visibility_tables w vtl share l = go (eqb n 0)
  where
    n : ℕ
    n = visibility_refusal w.state (fits w) w.tables vtl share l

    go : (b : Bool) → (cond b (visibility_taken w (vtl_of vtl) (bool_of share) l) (refused_by w n)).buffers.tables ≡ w.tables
    go true = refl
    go false = refl

pub record Spares (w : Buffers) (X : Outcome) : Type 0 where
  pub private : X.buffers.maps.private ≡ w.maps.private
  pub shared : X.buffers.maps.shared ≡ w.maps.shared

choose : (w : Buffers) (b : Bool) (X Y : Outcome) → Spares w X → Spares w Y → Spares w (cond b X Y)
choose w true X Y f g = f
choose w false X Y f g = g

spared : (w : Buffers) (s tables t : List ℕ) (x : ChangeStep) → Spares w (carried_change (buffers w.maps s w.pages tables) t x)
unfolding carried_change
spared w s tables t x = record { private = refl; shared = refl }

kept_by : (b : Bool) (X Y : Outcome) (f : Buffers → List ℕ) (l : List ℕ) → f X.buffers ≡ l → f Y.buffers ≡ l → f (cond b X Y).buffers ≡ l
kept_by true X Y f l a c = a
kept_by false X Y f l a c = c

refused : (w : Buffers) (n : ℕ) → Spares w (refused_by w n)
refused w n = record { private = refl; shared = refl }

module _ (w : Buffers) where
  protection_spares : (vtl flags : ℕ) (l : List ℕ) → Spares w (protection_of w vtl flags l)
  unfolding protection_of protection_taken
  protection_spares vtl flags l = choose w (eqb (protection_refusal w.state (fits w) w.maps.shared w.tables vtl flags l) 0) _ _ (spared w w.state w.tables _ _) (refused w _)

  default_spares : (vtl flags : ℕ) → Spares w (default_of w vtl flags)
  unfolding default_of default_taken default_started
  default_spares vtl flags =
      let v : GuestVtl = vtl_of vtl in
      choose w (eqb (default_refusal w.state (fits w) vtl flags) 0) _ _
      (choose w (barred w.maps.private (stored_default w.state v flags) w.tables v) _ _ (record { private = refl; shared = refl }) (spared w (stored_default w.state v flags) _ w.pages _)) (refused w _)

  default_pages : (vtl flags : ℕ) → (default_of w vtl flags).buffers.pages ≡ w.pages
  unfolding default_of default_taken default_started carried_change
  default_pages vtl flags =
      let v : GuestVtl = vtl_of vtl in
      kept_by (eqb (default_refusal w.state (fits w) vtl flags) 0) (default_taken (stored w v flags) v flags) _ (λ (w : Buffers). w.pages) w.pages
      (kept_by (barred w.maps.private (stored_default w.state v flags) w.tables v) _ (default_started (renewed_in (stored w v flags) v flags) v flags) (λ (w : Buffers). w.pages) w.pages refl refl) refl

  unregister_spares : (vtl p : ℕ) → Spares w (unregister_of w vtl p)
  unfolding unregister_of unregister_taken
  unregister_spares vtl p =
      choose w (eqb (unregister_refusal w.state (fits w) w.tables vtl p) 0) _ _
      (choose w (ltb 1 (entry_in w.tables (vtl_of vtl) p).ref_count) _ _ (record { private = refl; shared = refl }) (spared w w.state w.tables w.pages _)) (refused w _)

  unregister_pages : (vtl p : ℕ) → (unregister_of w vtl p).buffers.pages ≡ w.pages
  unfolding unregister_of unregister_taken carried_change
  unregister_pages vtl p =
      let v : GuestVtl = vtl_of vtl in
      kept_by (eqb (unregister_refusal w.state (fits w) w.tables vtl p) 0) (unregister_taken w v p) _ (λ (w : Buffers). w.pages) w.pages
      (kept_by (ltb 1 (entry_in w.tables v p).ref_count) (counting w v p ((entry_in w.tables v p).ref_count - 1))
      (carried_change w w.pages (start_old (settings_of w.state).tracked v p (entry_in w.tables v p).previous_permissions (entry_in w.tables v p).gpn_source)) (λ (w : Buffers). w.pages) w.pages refl refl) refl

  register_spares : (vtl p source checked new : ℕ) → Spares w (register_of w vtl p source checked new)
  unfolding register_of register_taken
  register_spares vtl p source checked new =
      choose w (eqb (register_refusal w.state (fits w) w.maps.shared w.tables (current_in w (vtl_of vtl) p source) vtl p source checked new) 0) _ _
      (choose w (is_overlay (overlays_of w.tables (vtl_of vtl)) p) _ _ (record { private = refl; shared = refl }) (spared w w.state w.tables w.pages _)) (refused w _)

  register_pages : (vtl p source checked new : ℕ) → (register_of w vtl p source checked new).buffers.pages ≡ w.pages
  unfolding register_of register_taken carried_change
  register_pages vtl p source checked new =
      let v : GuestVtl = vtl_of vtl in
      kept_by (eqb (register_refusal w.state (fits w) w.maps.shared w.tables (current_in w v p source) vtl p source checked new) 0) (register_taken w v p source new) _ (λ (w : Buffers). w.pages) w.pages
      (kept_by (is_overlay (overlays_of w.tables v) p) (counting w v p ((entry_in w.tables v p).ref_count + 1))
      (carried_change w w.pages (start_new (settings_of w.state).tracked v p source (bits_of (current_in w v p source)) new)) (λ (w : Buffers). w.pages) w.pages refl refl) refl

-- ---- so what is lent for reading alone is what it leaves there

same : (v : Buffers) (p s g t : List ℕ) → v.maps.private ≡ p → v.maps.shared ≡ s → v.pages ≡ g → v.tables ≡ t
    → buffers (record { private = p; shared = s; permissions = v.maps.permissions }) v.state g t ≡ v
same v p s g t a b c d = rw (← a, ← b, ← c, ← d)

module _ (w : Buffers) where
  pub visibility_same : (vtl share : ℕ) (l : List ℕ) → let v = (visibility_of w vtl share l).buffers in but_tables w v ≡ v
  visibility_same vtl share l = same (visibility_of w vtl share l).buffers _ _ _ _ refl refl refl (visibility_tables w vtl share l)

  pub protection_same : (vtl flags : ℕ) (l : List ℕ) → let v = (protection_of w vtl flags l).buffers in but_marks_tables w v ≡ v
  protection_same vtl flags l = let s = protection_spares w vtl flags l in same (protection_of w vtl flags l).buffers _ _ _ _ s.private s.shared refl (protection_alone w vtl flags l)

  pub default_same : (vtl flags : ℕ) → let v = (default_of w vtl flags).buffers in but_marks_pages w v ≡ v
  default_same vtl flags = let s = default_spares w vtl flags in same (default_of w vtl flags).buffers _ _ _ _ s.private s.shared (default_pages w vtl flags) refl

  pub register_same : (vtl p source checked new : ℕ) → let v = (register_of w vtl p source checked new).buffers in but_marks_pages w v ≡ v
  register_same vtl p source checked new =
      let s = register_spares w vtl p source checked new in same (register_of w vtl p source checked new).buffers _ _ _ _ s.private s.shared (register_pages w vtl p source checked new) refl

  pub unregister_same : (vtl p : ℕ) → let v = (unregister_of w vtl p).buffers in but_marks_pages w v ≡ v
  unregister_same vtl p = let s = unregister_spares w vtl p in same (unregister_of w vtl p).buffers _ _ _ _ s.private s.shared (unregister_pages w vtl p) refl
