-- What is lent has its lengths after each call that found it so. Assumes nothing.
use native.Mathlib.Omega.{arith}
use Prim.Native.Nat.{ℕ, ◌+◌, ◌-◌, ◌*◌}
use mathlib.Core.Path.{◌≡◌, refl, sym, ◌∙◌}
use mathlib.Core.List.{List}
use mathlib.Core.Bool.{Bool, true, false, cond}
use lib.Dec.{eqb, ltb}
use lib.ListN.{length, take, length-set, length-take}
use Rattle.permissions.specs.declared.GuestVtl.{GuestVtl}
use Rattle.permissions.specs.declared.GuestVtl.TheVariants.{Vtl0, Vtl1}
use Rattle.permissions.specs.Flags.{vtl_number, vtl_of, bool_of}
use Rattle.page_list.specs.Pages.{pages_of}
use Rattle.overlay_table.specs.Overlays.{is_overlay, used, place_of, count_words}
use Rattle.lock_table.specs.Locks.{lock_words, unlock_words}
use Rattle.default_change.specs.Renewed.{renewed}
use Rattle.request_pages.specs.Request.{wanted}
use Rattle.request_pages.proofs.Table.{length_table, pages_few}
use Rattle.protector_state.specs.State.{entries_in}
use Rattle.protector_state.specs.Changing.{is_changing}
use Rattle.call_refusals.specs.Buffers.{Buffers, overlays_of, locks_of, fits}
use Rattle.protector.specs.Calls.{refused_by, stop_of, table_for, visibility_taken, visibility_of, visibility_done, visibility_failed, change_done, change_failed, answer_done, answer_failed}
use Rattle.call_refusals.specs.Refusals.{visibility_refusal, answer_refusal}
use Rattle.protection_entries.specs.Calls.{protection_refusal, all_listed, protection_taken, protection_of, default_refusal, stored, barred, renewed_in, default_started, default_taken, default_of}
use Rattle.protection_entries.proofs.Laws.{protection_passed}
use Rattle.overlay_refusals.specs.Refusals.{register_refusal, unregister_refusal}
use Rattle.overlay_entries.specs.Calls.{current_in, entry_in, counting, register_taken, register_of, unregister_taken, unregister_of}
use Rattle.lock_entries.specs.Calls.{ended, lock_refusal, lock_taken, lock_of, unlock_taken, unlock_of}
use Rattle.visibility_claims.specs.Whole.{BackendAnswer, Succeeds, Fails}
use Rattle.visibility_claims.specs.Calls.{answer_of}
use Rattle.call_refusals.proofs.Laws.{fits_pages}
use Rattle.change_claims.proofs.Tables.{renewed_long}
use Rattle.history.proofs.Calls.{taken}
use Rattle.history.proofs.Deciding.{decides, either}
use Rattle.history.proofs.Passed.{Fitting}
use Rattle.history.proofs.Lengths.{step_fitting, change_fitting, tables_fitting, set_fitting, replaced_long, lock_long, unlock_long}

module _ (w : Buffers) (k : Fitting w) where
  pub visibility_long : (vtl share : ℕ) (l : List ℕ) → Fitting (visibility_of w vtl share l).buffers
  unfolding visibility_of visibility_taken
  visibility_long vtl share l =
      let v : GuestVtl = vtl_of vtl in
      let b : Bool = bool_of share in
      let p = fits_pages w k.fit in
      decides Fitting w (visibility_refusal w.state (fits w) w.tables vtl share l) (visibility_taken w v b l) k
      (λ z. step_fitting w (table_for w v b l) _ (length_table (wanted w.maps.shared b) (take (stop_of w v b l) (pages_of l)) w.pages p (omega (arith, length-take (stop_of w v b l) (pages_of l), pages_few l (taken w vtl share l z).short)) ∙ sym p) k)

  pub answer_long : (g : BackendAnswer) → Fitting (answer_of g w).buffers
  unfolding answer_done answer_failed
  answer_long Succeeds =
      decides Fitting w (answer_refusal w.state (fits w) false) _ k (λ _. either Fitting (is_changing w.state) (change_done w) (visibility_done w) (change_fitting w w.pages _ refl k) (step_fitting w w.pages _ refl k))
  answer_long (Fails code n) =
      decides Fitting w (answer_refusal w.state (fits w) true) _ k (λ _. either Fitting (is_changing w.state) (change_failed w) (visibility_failed w code n) (change_fitting w w.pages _ refl k) (step_fitting w w.pages _ refl k))

  pub protection_long : (vtl flags : ℕ) (l : List ℕ) → Fitting (protection_of w vtl flags l).buffers
  unfolding protection_of protection_taken
  protection_long vtl flags l =
      let p = fits_pages w k.fit in
      decides Fitting w (protection_refusal w.state (fits w) w.maps.shared w.tables vtl flags l) (protection_taken w (vtl_of vtl) flags l) k
      (λ z. change_fitting w (all_listed l w.pages) _ (length_table (λ p. true) (pages_of l) w.pages p (pages_few l (protection_passed w vtl flags l _ refl z).2) ∙ sym p) k)

  counted : (v : GuestVtl) (p n : ℕ) → Fitting (counting w v p n).buffers
  counted v p n =
      let o : List ℕ = overlays_of w.tables v in
      tables_fitting w _ (replaced_long (641 * vtl_number v) 641 w.tables (count_words o (place_of o p) n) (length-set o (place_of o p + 3) n)) k

  pub register_long : (vtl p source checked new : ℕ) → Fitting (register_of w vtl p source checked new).buffers
  unfolding register_of register_taken
  register_long vtl p source checked new =
      let v : GuestVtl = vtl_of vtl in
      decides Fitting w (register_refusal w.state (fits w) w.maps.shared w.tables (current_in w v p source) vtl p source checked new) (register_taken w v p source new) k
      (λ _. either Fitting (is_overlay (overlays_of w.tables v) p) (counting w v p ((entry_in w.tables v p).ref_count + 1)) _ (counted v p _) (change_fitting w w.pages _ refl k))

  pub unregister_long : (vtl p : ℕ) → Fitting (unregister_of w vtl p).buffers
  unfolding unregister_of unregister_taken
  unregister_long vtl p =
      let v : GuestVtl = vtl_of vtl in
      decides Fitting w (unregister_refusal w.state (fits w) w.tables vtl p) (unregister_taken w v p) k
      (λ _. either Fitting (ltb 1 (entry_in w.tables v p).ref_count) (counting w v p ((entry_in w.tables v p).ref_count - 1)) _ (counted v p _) (change_fitting w w.pages _ refl k))

  stored_long : (v : GuestVtl) (flags : ℕ) → Fitting (stored w v flags)
  stored_long Vtl0 flags = set_fitting w 20 flags (omega arith) (omega arith) k
  stored_long Vtl1 flags = set_fitting w 21 flags (omega arith) (omega arith) k

started_long : (w : Buffers) (v : GuestVtl) (flags : ℕ) → Fitting w → Fitting (default_taken w v flags).buffers
unfolding default_taken default_started
started_long w v flags k =
    let o : List ℕ = overlays_of w.tables v in
    let r = tables_fitting w _ (replaced_long (641 * vtl_number v) 641 w.tables (renewed w.maps.private (entries_in w.state) flags o) (renewed_long w.maps.private (entries_in w.state) flags (used o) o 1)) k in
    either Fitting (barred w.maps.private w.state w.tables v) (refused_by w 10) (default_started (renewed_in w v flags) v flags) k (change_fitting (renewed_in w v flags) w.pages _ refl r)

pub default_long : (w : Buffers) → Fitting w → (vtl flags : ℕ) → Fitting (default_of w vtl flags).buffers
unfolding default_of
default_long w k vtl flags =
    decides Fitting w (default_refusal w.state (fits w) vtl flags) (default_taken (stored w (vtl_of vtl) flags) (vtl_of vtl) flags) k
    (λ _. started_long (stored w (vtl_of vtl) flags) (vtl_of vtl) flags (stored_long w k (vtl_of vtl) flags))

-- locks keep the tables' length
pub lock_tables_long : (s t : List ℕ) (vtl : ℕ) (l : List ℕ) → length (lock_of s t vtl l).tables ≡ length t
unfolding lock_of
lock_tables_long s t vtl l = go (eqb (lock_refusal s (length t) vtl l) 0)
  where
    go : (b : Bool) → length (cond b (lock_taken t (vtl_of vtl) (pages_of l)) (ended t (lock_refusal s (length t) vtl l))).tables ≡ length t
    go true = replaced_long (1282 + 1089 * vtl_number (vtl_of vtl)) 1089 t (lock_words (locks_of t (vtl_of vtl)) (pages_of l)) (lock_long (locks_of t (vtl_of vtl)) (pages_of l))
    go false = refl

pub unlock_tables_long : (s t : List ℕ) (vtl : ℕ) (l : List ℕ) → length (unlock_of s t vtl l).tables ≡ length t
unfolding unlock_of
unlock_tables_long s t vtl l = go (eqb (lock_refusal s (length t) vtl l) 0)
  where
    go : (b : Bool) → length (cond b (unlock_taken t (vtl_of vtl) (pages_of l)) (ended t (lock_refusal s (length t) vtl l))).tables ≡ length t
    go true = replaced_long (1282 + 1089 * vtl_number (vtl_of vtl)) 1089 t (unlock_words (locks_of t (vtl_of vtl)) (pages_of l)) (unlock_long (locks_of t (vtl_of vtl)) (pages_of l))
    go false = refl
