-- How many operations a finished call reports, and what a failed Protect of an overlay call leaves. Assumes nothing.
use mathlib.Core.Path.{◌≡◌, refl, sym, ap, ◌∙◌, subst}
use mathlib.Core.Bool.{Bool, true, false, cond, ◌&&◌}
use mathlib.Core.List.{List, [], ◌∷◌, append-nil}
use Prim.Native.Nat.{ℕ, ◌+◌, ◌-◌}
use lib.Dec.{eqb, ltb}
use lib.ListN.{length}
use Rattle.abi.specs.Codes.{operation_denied}
use Rattle.bitmap.specs.Pages as bits
use Rattle.permissions.specs.declared.GuestVtl.{GuestVtl}
use Rattle.permissions.specs.declared.IsolationType.{IsolationType}
use Rattle.permissions.specs.declared.HvMapGpaFlags.{HvMapGpaFlags}
use Rattle.permissions.specs.Flags.{vtl_of, flags_of}
use Rattle.mapping.specs.Maps.{Maps}
use Rattle.page_list.specs.declared.PageRun.{PageRun}
use Rattle.page_list.specs.Pages.{pages_of}
use Rattle.page_list.specs.Runs.{run, runs_of}
use Rattle.overlay_table.specs.declared.OverlayPage.{OverlayPage}
use Rattle.protector_state.specs.State.{entries_in}
use Rattle.protector_state.specs.Reply.{finished, flat_of}
use Rattle.call_refusals.specs.Buffers.{Buffers}
use Rattle.overlay_entries.specs.Calls.{entry_in}
use Rattle.visibility_claims.specs.Whole.{Protect, BackendAnswer, Fails, Status, Ok, FailedAt, Whole, stands, one, protecting}
use Rattle.visibility_claims.specs.Runs.{told, whole}
use Rattle.visibility_claims.specs.Calls.{Told, Says}
use Rattle.change_claims.specs.Whole.{Change, change, closing, ended, run_operations, ram_runs, whole_runs, whole_entry, protecting_page, whole_overlay}
use Rattle.change_claims.specs.Calls.{tracked_in, overlay_in, protection_whole, default_whole, count_whole, new_whole, register_whole, old_whole, unregister_whole, Agrees}
use Rattle.change_claims.specs.Pages.{within, Leaves}
use Rattle.change_claims.specs.Claims.{protection_call, stored_in, default_call, TakesRegister, register_call, TakesUnregister, unregister_call, AgreesIn, Counts, OverlayFails, Failures}
use Rattle.change_claims.proofs.Counts.{run_operations_lem}
use Rattle.change_claims.proofs.Calls.{protection_is_whole, register_is_whole, unregister_is_whole}
use Rattle.change_claims.proofs.Default.{default_is_whole}
use Rattle.change_claims.proofs.Through.{is_ok, begun, through_one, through}
use Rattle.change_claims.proofs.Left.{page_leaves}

-- ---- the operations of a whole call that is Ok: all of them

pub runs_asked : (tracked : Bool) (v : GuestVtl) (f : HvMapGpaFlags) (rs : List PageRun) (m : Maps) (gs : List BackendAnswer)
    → (whole_runs tracked v f rs m gs).status ≡ Ok → (whole_runs tracked v f rs m gs).asked ≡ run_operations v f rs
unfolding whole_runs
runs_asked tracked v f rs m gs e = (through is_ok refl refl (protecting tracked) (run_operations v f rs) m gs ended (ap is_ok e)).asked ∙ append-nil (run_operations v f rs)

entry_asked : (tracked : Bool) (v : GuestVtl) (m : Maps) (gs : List BackendAnswer) → (whole_entry tracked v m gs).status ≡ Ok → (whole_entry tracked v m gs).asked ≡ closing v v
unfolding whole_entry
entry_asked tracked v m gs e = (through is_ok refl refl (protecting tracked) (closing v v) m gs ended (ap is_ok e)).asked

overlay_asked : (tracked guest : Bool) (v : GuestVtl) (f : HvMapGpaFlags) (p : ℕ) (m : Maps) (gs : List BackendAnswer)
    → (whole_overlay tracked guest v f p m gs).status ≡ Ok → (whole_overlay tracked guest v f p m gs).asked ≡ Protect v f (run p 1) ∷ closing v v
unfolding whole_overlay whole_entry
overlay_asked tracked guest v f p m gs e =
    let m' : Maps = protecting_page tracked guest v f p m in
    (through_one is_ok refl (Protect v f (run p 1)) (closing v v) m' (begun (protecting tracked) (closing v v) m') ended (λ gs. whole_entry tracked v m' gs) (λ code k gs. stands m' (FailedAt operation_denied 0))
    (λ gs e. through is_ok refl refl (protecting tracked) (closing v v) m' gs ended e) (λ code k gs. refl) gs (ap is_ok e)).asked

-- a failed Protect ends an overlay call: one operation, the maps written, the tables as they were
overlay_failed : (tracked guest : Bool) (v : GuestVtl) (f : HvMapGpaFlags) (p : ℕ) (m : Maps) (code k : ℕ) (gs : List BackendAnswer)
    → whole_overlay tracked guest v f p m (Fails code k ∷ gs) ≡ record { asked = Protect v f (run p 1) ∷ []; maps = protecting_page tracked guest v f p m; status = FailedAt operation_denied 0 }
unfolding whole_overlay one
overlay_failed tracked guest v f p m code k gs = refl

-- ---- what the calls report

told_at : (rest t : List ℕ) (i : IsolationType) (w : Whole) (T : List ℕ) (x : Told) (s : Status) (n : ℕ) → Agrees rest t i (whole w) T x → w.status ≡ s → length w.asked ≡ n → Says i (told n s) x.last.reply
told_at rest t i w T x s n k e d = subst (λ (s : Status). Says i (told n s) x.last.reply) e (subst (λ (n : ℕ). Says i (told n w.status) x.last.reply) d k.same_reply)

told_ok : (rest t : List ℕ) (i : IsolationType) (w : Whole) (T : List ℕ) (x : Told) (n : ℕ) → Agrees rest t i (whole w) T x → w.status ≡ Ok → length w.asked ≡ n → x.last.reply ≡ finished 0 0 0 n
unfolding flat_of
told_ok rest t i w T x n k e d = told_at rest t i w T x Ok n k e d

module _ (w : Buffers) (vtl p source checked new : ℕ) (gs : List BackendAnswer) (z : TakesRegister w vtl p source checked new) where
  abbrev registered : Told
  registered = register_call w vtl p source checked new gs

  agrees_new : (c : Change) → register_whole w (vtl_of vtl) p source new gs ≡ c → AgreesIn w w.pages c registered
  agrees_new c e = subst (λ (c : Change). AgreesIn w w.pages c registered) e (register_is_whole w vtl p source checked new z gs)

  -- a known page: none
  register_known : overlay_in w.tables (vtl_of vtl) p ≡ true → registered.last.reply ≡ finished 0 0 0 0
  register_known k =
      let c : Change = count_whole w (vtl_of vtl) p ((entry_in w.tables (vtl_of vtl) p).ref_count + 1) in
      told_ok _ _ _ c.whole c.tables registered 0 (agrees_new c (ap (λ (b : Bool). cond b c (new_whole w (vtl_of vtl) p source new gs (ltb new 16))) k)) refl refl

  module _ (k : overlay_in w.tables (vtl_of vtl) p ≡ false) where
    is_new : (b : Bool) → ltb new 16 ≡ b → register_whole w (vtl_of vtl) p source new gs ≡ new_whole w (vtl_of vtl) p source new gs b
    is_new b e =
        ap (λ (b : Bool). cond b (count_whole w (vtl_of vtl) p ((entry_in w.tables (vtl_of vtl) p).ref_count + 1)) (new_whole w (vtl_of vtl) p source new gs (ltb new 16))) k
        ∙ ap (new_whole w (vtl_of vtl) p source new gs) e

    -- a new page: four with new flags, three without
    register_flags : ltb new 16 ≡ true → (new_whole w (vtl_of vtl) p source new gs true).whole.status ≡ Ok → registered.last.reply ≡ finished 0 0 0 4
    register_flags f e =
        let c : Change = new_whole w (vtl_of vtl) p source new gs true in
        told_ok _ _ _ c.whole c.tables registered 4 (agrees_new c (is_new true f)) e (ap length (overlay_asked _ _ (vtl_of vtl) (flags_of new) p w.maps gs e))

    register_none : ltb new 16 ≡ false → (new_whole w (vtl_of vtl) p source new gs false).whole.status ≡ Ok → registered.last.reply ≡ finished 0 0 0 3
    register_none f e =
        let c : Change = new_whole w (vtl_of vtl) p source new gs false in
        told_ok _ _ _ c.whole c.tables registered 3 (agrees_new c (is_new false f)) e (ap length (entry_asked _ (vtl_of vtl) w.maps gs e))

module _ (w : Buffers) (vtl p : ℕ) (gs : List BackendAnswer) (z : TakesUnregister w vtl p) where
  abbrev unregistered : Told
  unregistered = unregister_call w vtl p gs

  agrees_old : (c : Change) → unregister_whole w (vtl_of vtl) p gs ≡ c → AgreesIn w w.pages c unregistered
  agrees_old c e = subst (λ (c : Change). AgreesIn w w.pages c unregistered) e (unregister_is_whole w vtl p z gs)

  abbrev lowered : Change
  lowered = count_whole w (vtl_of vtl) p ((entry_in w.tables (vtl_of vtl) p).ref_count - 1)

  abbrev going : Change
  going = old_whole w (vtl_of vtl) p (entry_in w.tables (vtl_of vtl) p) gs

  -- a lowered count: none; else four
  unregister_lowered : ltb 1 (entry_in w.tables (vtl_of vtl) p).ref_count ≡ true → unregistered.last.reply ≡ finished 0 0 0 0
  unregister_lowered k = told_ok _ _ _ lowered.whole lowered.tables unregistered 0 (agrees_old lowered (ap (λ (b : Bool). cond b lowered going) k)) refl refl

  unregister_count : ltb 1 (entry_in w.tables (vtl_of vtl) p).ref_count ≡ false → going.whole.status ≡ Ok → unregistered.last.reply ≡ finished 0 0 0 4
  unregister_count k e =
      told_ok _ _ _ going.whole going.tables unregistered 4 (agrees_old going (ap (λ (b : Bool). cond b lowered going) k)) e
      (ap length (overlay_asked _ _ (vtl_of vtl) (flags_of (entry_in w.tables (vtl_of vtl) p).previous_permissions) p w.maps gs e))

-- ---- a failed Protect of either: 16, one operation, the maps written and the tables as they were

told_failed : (rest t : List ℕ) (i : IsolationType) (w : Whole) (T : List ℕ) (x : Told) → Agrees rest t i (whole w) T x → w.status ≡ FailedAt operation_denied 0 → length w.asked ≡ 1 → x.last.reply ≡ finished 16 8 0 1
unfolding flat_of
told_failed rest t i w T x k e d = told_at rest t i w T x (FailedAt operation_denied 0) 1 k e d

fails_so : (w : Buffers) (v : GuestVtl) (f : HvMapGpaFlags) (p source code k : ℕ) (gs : List BackendAnswer) (x : Told)
    → AgreesIn w w.pages (change (whole_overlay (tracked_in w) (eqb source 0) v f p w.maps (Fails code k ∷ gs)) w.tables) x → OverlayFails w v f p source x
fails_so w v f p source code k gs x a =
    let d = overlay_failed (tracked_in w) (eqb source 0) v f p w.maps code k gs in
    record {
      reply = told_failed _ _ _ (whole_overlay (tracked_in w) (eqb source 0) v f p w.maps (Fails code k ∷ gs)) w.tables x a (ap (λ (w : Whole). w.status) d) (ap (λ (w : Whole). length w.asked) d);
      tables = a.same_tables;
      maps = subst (Leaves (tracked_in w && eqb source 0) v (within (bits.one p)) f w.maps) (sym (a.same_maps ∙ ap (λ (w : Whole). w.maps) d)) (page_leaves (tracked_in w) (eqb source 0) v f p w.maps);
    }

-- THE CLAIMS
pub operations_counted : Counts
operations_counted =
    record {
      protection = λ w vtl flags l gs z e.
          told_ok _ _ _ (protection_whole w (vtl_of vtl) flags l gs).whole _ (protection_call w vtl flags l gs) _ (protection_is_whole w vtl flags l z gs) e
          (ap length (runs_asked _ (vtl_of vtl) (flags_of flags) (runs_of (pages_of l)) w.maps gs e) ∙ run_operations_lem (vtl_of vtl) (flags_of flags) (runs_of (pages_of l)));
      default = λ w vtl flags gs z o e.
          let rs : List PageRun = ram_runs (entries_in (stored_in w vtl flags).state) (overlay_in w.tables (vtl_of vtl)) w.maps in
          told_ok _ _ _ (default_whole (stored_in w vtl flags) (vtl_of vtl) flags gs).whole _ (default_call w vtl flags gs) _ (default_is_whole w vtl flags gs z.0 z.1 o) e
          (ap length (runs_asked _ (vtl_of vtl) (flags_of flags) rs w.maps gs e) ∙ run_operations_lem (vtl_of vtl) (flags_of flags) rs);
      register_known = register_known;
      register_flags = register_flags;
      register_none = register_none;
      unregister_lowered = unregister_lowered;
      unregister_removed = unregister_count;
    }

pub failed_overlays : Failures
failed_overlays =
    record {
      register = λ w vtl p source checked new code k gs z h f.
          fails_so w (vtl_of vtl) (flags_of new) p source code k gs _
          (agrees_new w vtl p source checked new (Fails code k ∷ gs) z (new_whole w (vtl_of vtl) p source new (Fails code k ∷ gs) true) (is_new w vtl p source checked new (Fails code k ∷ gs) z h true f));
      unregister = λ w vtl p code k gs z h.
          let e : OverlayPage = entry_in w.tables (vtl_of vtl) p in
          let c : Change = old_whole w (vtl_of vtl) p e (Fails code k ∷ gs) in
          fails_so w (vtl_of vtl) (flags_of e.previous_permissions) p e.gpn_source code k gs _
          (agrees_old w vtl p (Fails code k ∷ gs) z c (ap (λ (b : Bool). cond b (lowered w vtl p (Fails code k ∷ gs) z) c) h));
    }
