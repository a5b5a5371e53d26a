-- What every call keeps of the state block, where it keeps it as a request or a change is written, a default stored, and protections enabled. Assumes nothing.
use mathlib.Core.Path.{◌≡◌}
use mathlib.Core.Bool.{true, false}
use mathlib.Core.List.{List}
use Prim.Native.Nat.{ℕ, ◌+◌, ◌-◌, ◌<◌}
use lib.Dec.{ltb}
use lib.ListN.{length, set}
use Rattle.permissions.specs.declared.GuestVtl.{GuestVtl}
use Rattle.permissions.specs.Flags.{vtl_of}
use Rattle.overlay_table.specs.Overlays.{is_overlay}
use Rattle.visibility_steps.specs.declared.Phase.{Phase}
use Rattle.visibility_steps.specs.declared.Request.{Request}
use Rattle.visibility_steps.specs.declared.Step.{Step}
use Rattle.change_steps.specs.declared.Stage.{Stage}
use Rattle.change_steps.specs.declared.Change.{Change}
use Rattle.change_steps.specs.declared.ChangeStep.{ChangeStep}
use Rattle.protector_state.specs.State.{state_len, with_request, settings_of}
use Rattle.protector_state.specs.Changing.{is_changing, with_change}
use Rattle.call_refusals.specs.Buffers.{Buffers, overlays_of, fits}
use Rattle.protector.specs.Calls.{refused_by, carried_out, carried_change, visibility_taken, visibility_of, visibility_done, visibility_failed, change_done, change_failed, answer_done, answer_failed}
use Rattle.call_refusals.specs.Refusals.{visibility_refusal, answer_refusal}
use Rattle.protection_entries.specs.Calls.{stored_default, protection_refusal, protection_taken, protection_of, default_refusal, stored, barred, renewed_in, default_started, default_taken, default_of}
use Rattle.overlay_refusals.specs.Refusals.{unregister_refusal, register_refusal}
use Rattle.overlay_entries.specs.Calls.{entry_in, counting, unregister_taken, unregister_of, current_in, register_taken, register_of}
use Rattle.visibility_claims.specs.Whole.{BackendAnswer, Succeeds, Fails}
use Rattle.visibility_claims.specs.Calls.{answer_of}
use Rattle.history.specs.Observed.{Observed}
use Rattle.history.specs.Call.{Writer, Visibility, Protection, Default, Register, Unregister, Lock, Unlock, Enable, Call, Write, Read, Answer, gives_writer, gives}
use Rattle.history.proofs.Passed.{passed_in}
use Rattle.history.proofs.Deciding.{decides, either}
use Rattle.history.proofs.Frame.{setter_frame}
use Rattle.history.proofs.Histories.{InBuffers, KeepsWith}
use Rattle.history.proofs.Tabled.{flags_fit}

pub record Words (K : List ℕ → Type 0) : Type 0 where
  pub requested : (p : Phase) (q : Request) (s : List ℕ) → K s → K (with_request p q s)
  pub changing : (g : Stage) (q : Change) (s : List ℕ) → K s → K (with_change g q s)
  pub defaulted : (s : List ℕ) (v : GuestVtl) (flags : ℕ) → flags < 16 → length s ≡ state_len → K s → K (stored_default s v flags)
  pub enabling : (s : List ℕ) → (settings_of s).tracked ≡ true → length s ≡ state_len → K s → K (set s 19 1)

module _ (K : List ℕ → Type 0) (f : Words K) where
  abbrev S : Buffers → Type 0
  S w = K w.state

  carried : (w : Buffers) (p : List ℕ) (x : ChangeStep) → S w → S (carried_change w p x).buffers
  unfolding carried_change
  carried w p x k = f.changing x.stage x.change w.state k

  stepped : (w : Buffers) (p : List ℕ) (x : Step) → S w → S (carried_out w p x).buffers
  unfolding carried_out
  stepped w p x k = f.requested x.phase x.request w.state k

  default_set : (w : Buffers) (v : GuestVtl) (flags : ℕ) → S w → S (default_taken w v flags).buffers
  unfolding default_taken default_started
  default_set w v flags k =
      either S (barred w.maps.private w.state w.tables v) (refused_by w 10) (default_started (renewed_in w v flags) v flags) k (carried (renewed_in w v flags) w.pages _ k)

  module _ (w : Buffers) (k : S w) where
    set_writer : (a : Writer) → S (gives_writer a w).buffers
    unfolding visibility_of visibility_taken protection_of protection_taken default_of register_of register_taken unregister_of unregister_taken
    set_writer (Visibility vtl share list) = decides S w (visibility_refusal w.state (fits w) w.tables vtl share list) _ k (λ _. stepped w _ _ k)
    set_writer (Protection vtl flags list) = decides S w (protection_refusal w.state (fits w) w.maps.shared w.tables vtl flags list) _ k (λ _. carried w _ _ k)
    set_writer (Default vtl flags) =
        decides S w (default_refusal w.state (fits w) vtl flags) _ k
        (λ z. default_set (stored w (vtl_of vtl) flags) (vtl_of vtl) flags (f.defaulted w.state (vtl_of vtl) flags (flags_fit w vtl flags z) (passed_in (Default vtl flags) w z).long k))
    set_writer (Register vtl page source checked new) =
        decides S w (register_refusal w.state (fits w) w.maps.shared w.tables (current_in w (vtl_of vtl) page source) vtl page source checked new) _ k
        (λ _. either S (is_overlay (overlays_of w.tables (vtl_of vtl)) page) (counting w (vtl_of vtl) page ((entry_in w.tables (vtl_of vtl) page).ref_count + 1)) _ k (carried w w.pages _ k))
    set_writer (Unregister vtl page) =
        decides S w (unregister_refusal w.state (fits w) w.tables vtl page) _ k
        (λ _. either S (ltb 1 (entry_in w.tables (vtl_of vtl) page).ref_count) (counting w (vtl_of vtl) page ((entry_in w.tables (vtl_of vtl) page).ref_count - 1)) _ k (carried w w.pages _ k))
    set_writer (Lock vtl list) = k
    set_writer (Unlock vtl list) = k
    set_writer Enable = setter_frame K w.state k (λ tracked long. f.enabling w.state tracked long k)

    set_answer : (g : BackendAnswer) → S (answer_of g w).buffers
    unfolding answer_done answer_failed
    set_answer Succeeds =
        decides S w (answer_refusal w.state (fits w) false) _ k (λ _. either S (is_changing w.state) (change_done w) (visibility_done w) (carried w w.pages _ k) (stepped w w.pages _ k))
    set_answer (Fails code n) =
        decides S w (answer_refusal w.state (fits w) true) _ k (λ _. either S (is_changing w.state) (change_failed w) (visibility_failed w code n) (carried w w.pages _ k) (stepped w w.pages _ k))

    words_step : (c : Call) → S (gives c w).buffers
    words_step (Write a) = set_writer a
    words_step (Read q) = k
    words_step (Answer g) = set_answer g

  pub words_kept : (P : Buffers → Observed → Type 0) → KeepsWith P (InBuffers S)
  words_kept P c w o _ k = words_step w k c
