-- Calls of the protector other than visibility changes and answers keep what stands: none of them writes a mark, none asks for Modify. Assumes nothing.
use Prim.Native.Nat.{ℕ, ◌+◌, ◌-◌, ◌<◌}
use mathlib.Core.Path.{◌≡◌, refl}
use mathlib.Core.List.{List, []}
use mathlib.Core.Bool.{Bool, true, false, cond}
use native.Mathlib.Omega.{arith}
use lib.ListN.{length}
use lib.Dec.{eqb, ltb}
use Rattle.layout.specs.declared.MemoryRangeWithNode.{MemoryRangeWithNode}
use Rattle.permissions.specs.declared.GuestVtl.{GuestVtl}
use Rattle.permissions.specs.declared.GuestVtl.TheVariants.{Vtl0, Vtl1}
use Rattle.permissions.specs.Flags.{vtl_of, vtl_number, bits_of}
use Rattle.page_list.specs.declared.PageRun.{PageRun}
use Rattle.page_list.specs.Pages.{pages_of}
use Rattle.overlay_table.specs.Overlays.{is_overlay}
use Rattle.change_steps.specs.declared.ChangeStep.{ChangeStep}
use Rattle.change_steps.specs.declared.Change.{Change}
use Rattle.change_steps.specs.Changes.{protect, ask, wait, protect_pages, protect_ram, start_new, start_old}
use Rattle.protector_state.specs.State.{settings_of}
use Rattle.call_refusals.specs.Buffers.{Buffers, Outcome, overlays_of, fits, status_in}
use Rattle.protector.specs.Calls.{refused_by, carried_change}
use Rattle.protection_entries.specs.Calls.{default_refusal, stored_default, stored, barred, renewed_tables, renewed_in, default_step, default_started, default_taken, default_of, protection_refusal, all_listed, protection_step, protection_taken, protection_of}
use Rattle.overlay_refusals.specs.Refusals.{unregister_refusal, register_refusal}
use Rattle.overlay_entries.specs.Calls.{entry_in, counting, unregister_taken, unregister_of, current_in, register_taken, register_of}
use Rattle.history.specs.Observed.{Observed, sees_call}
use Rattle.history.specs.Call.{Protection, Default, Register, Unregister}
use Rattle.history.proofs.Passed.{passed_in}
use Rattle.history.proofs.Buffers.{Stands, stops}
use Rattle.history.proofs.Answers.{new_told, old_told, start_pages_told, start_ram_told}
use Rattle.history.proofs.Calls.{called, set_entries, set_stands, tables_stand, change_starts}

-- ---- a start is no halt

goes : (b : Bool) (x y : ChangeStep) → stops x.stage ≡ false → stops y.stage ≡ false → stops (cond b x y).stage ≡ false
goes true x y f g = f
goes false x y f g = g

pages_go : (tracked : Bool) (q : Change) (t : List ℕ) (a : ℕ) → stops (protect_pages tracked q t a).stage ≡ false
unfolding protect_pages protect wait ask
pages_go tracked q t a = goes (ltb a q.n) _ _ refl refl

ram_goes : (tracked : Bool) (q : Change) (r : PageRun) → stops (protect_ram tracked q r).stage ≡ false
unfolding protect_ram protect wait ask
ram_goes tracked q r = goes (eqb r.count 0) _ _ refl refl

new_goes : (tracked : Bool) (v : GuestVtl) (p source current new : ℕ) → stops (start_new tracked v p source current new).stage ≡ false
unfolding start_new protect wait ask
new_goes tracked v p source current new = goes (ltb new 16) _ _ refl refl

old_goes : (tracked : Bool) (v : GuestVtl) (p previous source : ℕ) → stops (start_old tracked v p previous source).stage ≡ false
unfolding start_old protect
old_goes tracked v p previous source = refl

-- ---- nothing is under way where a call is taken

module _ (es : List MemoryRangeWithNode) (w : Buffers) (o : Observed) (k : Stands es w o) where
  abbrev StandsAt : Outcome → Type 0
  StandsAt X = Stands es X.buffers (sees_call [] X.reply X.buffers.pages o)

  either_stands : (b : Bool) (A B : Outcome) → StandsAt A → StandsAt B → StandsAt (cond b A B)
  either_stands true A B f g = f
  either_stands false A B f g = g

  pub protection_stands : (vtl flags : ℕ) (l : List ℕ) → let X = protection_of w vtl flags l in Stands es X.buffers (sees_call [] X.reply X.buffers.pages o)
  unfolding protection_of protection_taken
  protection_stands vtl flags l =
      let t : List ℕ = all_listed l w.pages in
      called (Stands es) w o k [] (protection_refusal w.state (fits w) w.maps.shared w.tables vtl flags l) (protection_taken w (vtl_of vtl) flags l)
      (λ z. change_starts es w o k (passed_in (Protection vtl flags l) w z).idle w.state w.tables t (protection_step w.state t (vtl_of vtl) flags (length (pages_of l))) refl
      (start_pages_told (settings_of w.state).isolation (settings_of w.state).tracked (vtl_of vtl) flags (length (pages_of l)) t) (pages_go _ _ t 0))

  module _ (v : GuestVtl) (flags : ℕ) (idle : status_in w.state ≡ 0) where
    abbrev s' : List ℕ
    s' = stored_default w.state v flags

    place : (v : GuestVtl) → (9 < 20 + vtl_number v) × (20 + vtl_number v < 31)
    place Vtl0 = (omega arith, omega arith)
    place Vtl1 = (omega arith, omega arith)

    default_taken_lem : let T = default_taken (stored w v flags) v flags in Stands es T.buffers (sees_call [] T.reply T.buffers.pages o)
    unfolding default_taken default_started
    default_taken_lem = go (barred w.maps.private s' w.tables v)
      where
        S : Outcome
        S = default_started (renewed_in (stored w v flags) v flags) v flags

        go : (b : Bool) → let T = cond b (refused_by (stored w v flags) 10) S in Stands es T.buffers (sees_call [] T.reply T.buffers.pages o)
        go true = set_stands es w o k (20 + vtl_number v) flags (place v).0 (place v).1
        go false =
            let tables : List ℕ = renewed_tables w.maps.private s' w.tables v flags in
            change_starts es w o k idle s' tables w.pages (default_step w.maps.private s' tables v flags) (set_entries w.state (20 + vtl_number v) flags (place v).0 (place v).1)
            (start_ram_told (settings_of s').isolation (settings_of s').tracked v flags _) (ram_goes _ _ _)

  pub default_stands : (vtl flags : ℕ) → let X = default_of w vtl flags in Stands es X.buffers (sees_call [] X.reply X.buffers.pages o)
  unfolding default_of
  default_stands vtl flags =
      called (Stands es) w o k [] (default_refusal w.state (fits w) vtl flags) (default_taken (stored w (vtl_of vtl) flags) (vtl_of vtl) flags)
      (λ z. default_taken_lem (vtl_of vtl) flags (passed_in (Default vtl flags) w z).idle)

  pub unregister_stands : (vtl p : ℕ) → let X = unregister_of w vtl p in Stands es X.buffers (sees_call [] X.reply X.buffers.pages o)
  unfolding unregister_of unregister_taken
  unregister_stands vtl p =
      called (Stands es) w o k [] (unregister_refusal w.state (fits w) w.tables vtl p) (unregister_taken w (vtl_of vtl) p) (λ z. either_stands (ltb 1 (entry_in w.tables (vtl_of vtl) p).ref_count) A B (tables_stand es w o k A.buffers.tables)
      (change_starts es w o k (passed_in (Unregister vtl p) w z).idle w.state w.tables w.pages x refl (old_told _ _ _ _ _ _) (old_goes _ _ _ _ _)))
    where
      v : GuestVtl
      v = vtl_of vtl

      A : Outcome
      A = counting w v p ((entry_in w.tables v p).ref_count - 1)

      x : ChangeStep
      x = start_old (settings_of w.state).tracked v p (entry_in w.tables v p).previous_permissions (entry_in w.tables v p).gpn_source

      B : Outcome
      B = carried_change w w.pages x

  pub register_stands : (vtl p source checked new : ℕ) → let X = register_of w vtl p source checked new in Stands es X.buffers (sees_call [] X.reply X.buffers.pages o)
  unfolding register_of register_taken
  register_stands vtl p source checked new =
      called (Stands es) w o k [] (register_refusal w.state (fits w) w.maps.shared w.tables (current_in w (vtl_of vtl) p source) vtl p source checked new) (register_taken w (vtl_of vtl) p source new)
      (λ z. either_stands (is_overlay (overlays_of w.tables (vtl_of vtl)) p) A B (tables_stand es w o k A.buffers.tables)
      (change_starts es w o k (passed_in (Register vtl p source checked new) w z).idle w.state w.tables w.pages x refl (new_told _ _ _ _ _ _ _) (new_goes _ _ _ _ _ _)))
    where
      v : GuestVtl
      v = vtl_of vtl

      x : ChangeStep
      x = start_new (settings_of w.state).tracked v p source (bits_of (current_in w v p source)) new

      A : Outcome
      A = counting w v p ((entry_in w.tables v p).ref_count + 1)

      B : Outcome
      B = carried_change w w.pages x
