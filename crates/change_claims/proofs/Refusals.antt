-- A call with a number other than 0 leaves all that is lent as it was; but a default change refused by 10 leaves the new default, and nothing else.
-- Assumes nothing.
use native.Mathlib.Omega.{arith}
use mathlib.Core.Path.{◌≡◌, refl, sym, ◌∙◌}
use mathlib.Core.Bool.{Bool, true, false, cond}
use mathlib.Core.List.{List}
use Prim.Native.Nat.{ℕ, ◌+◌, ◌-◌}
use lib.Dec.{eqb, ltb}
use lib.ListN.{length, set}
use borrow.Author.Tests.{eq-eqb}
use Rattle.laws.specs.Bools.{false≢true}
use Rattle.laws.specs.Refusal.{unless}
use Rattle.permissions.specs.declared.GuestVtl.{GuestVtl}
use Rattle.permissions.specs.declared.IsolationType.{IsolationType}
use Rattle.permissions.specs.Flags.{fit_vtl, fit_flags, vtl_of, bits_of}
use Rattle.page_list.specs.declared.PageRun.{PageRun}
use Rattle.page_list.specs.Pages.{pages_of}
use Rattle.page_list.specs.Runs.{run_at, run}
use Rattle.overlay_table.specs.Overlays.{is_overlay}
use Rattle.visibility_steps.specs.declared.Operation.{Operation}
use Rattle.visibility_steps.specs.declared.Operation.TheVariants.{Wait, FlushAll, Protect, Invalidate, Release, Modify, Accept, Zero, Flush, TlbWait}
use Rattle.visibility_steps.specs.declared.Phase.{Phase}
use Rattle.visibility_steps.specs.declared.Phase.TheVariants as phase
use Rattle.change_steps.specs.declared.Stage.{Stage}
use Rattle.change_steps.specs.declared.Stage.TheVariants as stage
use Rattle.change_steps.specs.declared.Entry.{Entry}
use Rattle.change_steps.specs.declared.Entry.TheVariants.{Keep, Add}
use Rattle.change_steps.specs.declared.Change.{Change}
use Rattle.change_steps.specs.declared.ChangeStep.{ChangeStep}
use Rattle.change_steps.specs.Changes as changes
use Rattle.protector_state.specs.State.{state_len, phase_in, settings_of}
use Rattle.permissions.specs.HvError.{code_of}
use Rattle.protector_state.specs.Reply.{finished, asked_of, flat_of}
use Rattle.protector_state.specs.Changing.{is_changing}
use Rattle.call_refusals.specs.Refusals.{ready}
use Rattle.call_refusals.specs.Buffers.{Buffers, Outcome, overlays_of, fits, status_of, status_in}
use Rattle.protector.specs.Calls.{decided, refused_by, carried_change}
use Rattle.lock_entries.proofs.Lists.{lock_nothing, unlock_nothing}
use Rattle.setting_entries.specs.Calls.{enable_refusal, enabled, enable_of}
use Rattle.protection_entries.specs.Calls.{protection_refusal, all_listed, protection_taken, protection_of, default_refusal, stored, barred, renewed_in, first_piece, default_started, default_taken, default_of}
use Rattle.overlay_refusals.specs.Refusals.{register_refusal, unregister_refusal}
use Rattle.overlay_entries.specs.Calls.{entry_in, counting, current_in, register_taken, register_of, unregister_taken, unregister_of}
use Rattle.change_claims.specs.Claims.{Refusals}

-- ---- a step that asks has number 0

asked_0 : (i : IsolationType) (o : Operation) → (asked_of i o).number ≡ 0
unfolding asked_of
asked_0 i Wait = refl
asked_0 i FlushAll = refl
asked_0 i (Protect v f r) = refl
asked_0 i (Invalidate r) = refl
asked_0 i (Release r) = refl
asked_0 i (Modify share n) = refl
asked_0 i (Accept r) = refl
asked_0 i (Zero r) = refl
asked_0 i (Flush v) = refl
asked_0 i (TlbWait v) = refl

record Zeroed (i : IsolationType) (x : ChangeStep) : Type 0 where
  zeroed : (flat_of i x.answer).number ≡ 0

pick : (i : IsolationType) (b : Bool) (x y : ChangeStep) → Zeroed i x → Zeroed i y → Zeroed i (cond b x y)
pick i true x y f g = f
pick i false x y f g = g

module _ (i : IsolationType) (tr : Bool) (q : Change) where
  wait_0 : (e : Entry) → Zeroed i (changes.wait q e)
  unfolding changes.wait changes.ask flat_of
  wait_0 e = record { zeroed = asked_0 i Wait }

  protect_0 : (g : Stage) (a : ℕ) (r : PageRun) → Zeroed i (changes.protect tr g q a r)
  unfolding changes.protect flat_of
  protect_0 g a r = record { zeroed = asked_0 i (Protect _ _ r) }

  pages_0 : (t : List ℕ) (a : ℕ) → Zeroed i (changes.protect_pages tr q t a)
  unfolding changes.protect_pages
  pages_0 t a = pick i (ltb a q.n) _ _ (protect_0 stage.ProtectPages a (run_at t q.n a)) (wait_0 Keep)

  ram_0 : (r : PageRun) → Zeroed i (changes.protect_ram tr q r)
  unfolding changes.protect_ram
  ram_0 r = pick i (eqb r.count 0) _ _ (wait_0 Keep) (protect_0 stage.ProtectRam (r.first + r.count) r)

carried_0 : (w : Buffers) (t : List ℕ) (x : ChangeStep) → Zeroed (settings_of w.state).isolation x → (carried_change w t x).reply.number ≡ 0
unfolding carried_change
carried_0 w t x h = h.zeroed

-- a call that is decided: refused it changes nothing, taken it has number 0
keeps : (w : Buffers) (n : ℕ) (o : Outcome) → o.reply.number ≡ 0 → ((decided w n o).reply.number ≡ 0 → ⊥) → (decided w n o).buffers ≡ w
keeps w n o z h = go (eqb n 0) h
  where
    go : (b : Bool) → ((cond b o (refused_by w n)).reply.number ≡ 0 → ⊥) → (cond b o (refused_by w n)).buffers ≡ w
    go true h = absurd (h z)
    go false h = refl

-- ---- an overlay call that is taken

either_0 : (b : Bool) (x y : Outcome) → x.reply.number ≡ 0 → y.reply.number ≡ 0 → (cond b x y).reply.number ≡ 0
either_0 true x y f g = f
either_0 false x y f g = g

register_0 : (w : Buffers) (v : GuestVtl) (p source new : ℕ) → (register_taken w v p source new).reply.number ≡ 0
unfolding register_taken changes.start_new
register_0 w v p source new =
    let own : ℕ = bits_of (current_in w v p source) in
    let i : IsolationType = (settings_of w.state).isolation in
    either_0 (is_overlay (overlays_of w.tables v) p) (counting w v p ((entry_in w.tables v p).ref_count + 1)) (carried_change w w.pages (changes.start_new (settings_of w.state).tracked v p source own new)) refl
    (carried_0 w w.pages (changes.start_new (settings_of w.state).tracked v p source own new)
    (pick i (ltb new 16) _ _ (protect_0 i (settings_of w.state).tracked (changes.overlay_of v p new own source) stage.ProtectNew p (run p 1)) (wait_0 i (settings_of w.state).tracked (changes.overlay_of v p own own source) Add)))

unregister_0 : (w : Buffers) (v : GuestVtl) (p : ℕ) → (unregister_taken w v p).reply.number ≡ 0
unfolding unregister_taken changes.start_old
unregister_0 w v p =
    let n : ℕ = (entry_in w.tables v p).ref_count in
    let x : ChangeStep = changes.start_old (settings_of w.state).tracked v p (entry_in w.tables v p).previous_permissions (entry_in w.tables v p).gpn_source in
    either_0 (ltb 1 n) (counting w v p (n - 1)) (carried_change w w.pages x) refl
    (carried_0 w w.pages x (protect_0 _ _ (changes.overlay_of v p (entry_in w.tables v p).previous_permissions (entry_in w.tables v p).previous_permissions (entry_in w.tables v p).gpn_source) stage.ProtectOld p (run p 1)))

-- ---- a default change

status_10 : (ch : Bool) (p : Phase) → eqb (cond ch 19 (status_of p)) 10 ≡ false
status_10 true p = refl
status_10 false phase.Idle = refl
status_10 false phase.Halted = refl
status_10 false phase.Wait = refl
status_10 false phase.FlushAll = refl
status_10 false phase.ProtectNone0 = refl
status_10 false phase.ProtectNone1 = refl
status_10 false phase.Invalidate = refl
status_10 false phase.Release = refl
status_10 false phase.Modify = refl
status_10 false phase.Accept = refl
status_10 false phase.Zero = refl
status_10 false phase.ProtectDefault0 = refl
status_10 false phase.ProtectDefault1 = refl

-- its first tests never give 10
not_10 : (s : List ℕ) (fit : Bool) (vtl flags : ℕ) → eqb (default_refusal s fit vtl flags) 10 ≡ false
unfolding ready default_refusal
not_10 s fit vtl flags = go (eqb (length s) state_len) (status_in s) (eqb (status_in s) 0) (status_10 (is_changing s) (phase_in s)) fit (fit_vtl vtl) (fit_flags flags)
  where
    go : (a : Bool) (n : ℕ) (b : Bool) → eqb n 10 ≡ false → (c d e : Bool) → eqb (unless a 4 (cond b (unless c 4 (unless d 8 (unless e 8 0))) n)) 10 ≡ false
    go false n b h c d e = refl
    go true n false h c d e = h
    go true n true h false d e = refl
    go true n true h true false e = refl
    go true n true h true true false = refl
    go true n true h true true true = refl

module _ (w : Buffers) (vtl flags : ℕ) where
  abbrev w₁ : Buffers
  w₁ = stored w (vtl_of vtl) flags

  started_0 : (default_started (renewed_in w₁ (vtl_of vtl) flags) (vtl_of vtl) flags).reply.number ≡ 0
  unfolding default_started
  started_0 =
      let x : Buffers = renewed_in w₁ (vtl_of vtl) flags in
      carried_0 x x.pages _ (ram_0 (settings_of x.state).isolation (settings_of x.state).tracked (changes.change_of (vtl_of vtl) flags 0) (first_piece x.maps.private x.state x.tables (vtl_of vtl)))

  abbrev chosen : Bool → Bool → ℕ → Outcome
  chosen a b n = cond a (cond b (refused_by w₁ 10) (default_started (renewed_in w₁ (vtl_of vtl) flags) (vtl_of vtl) flags)) (refused_by w n)

  -- any number but 10 leaves all, 10 leaves the default stored
  default_keeps : ((default_of w vtl flags).reply.number ≡ 0 → ⊥) → ((default_of w vtl flags).reply.number ≡ 10 → ⊥) → (default_of w vtl flags).buffers ≡ w
  unfolding default_of default_taken
  default_keeps h k = go (eqb (default_refusal w.state (fits w) vtl flags) 0) (barred w.maps.private w₁.state w.tables (vtl_of vtl)) h k
    where
      go : (a b : Bool) → ((chosen a b (default_refusal w.state (fits w) vtl flags)).reply.number ≡ 0 → ⊥) → ((chosen a b (default_refusal w.state (fits w) vtl flags)).reply.number ≡ 10 → ⊥)
          → (chosen a b (default_refusal w.state (fits w) vtl flags)).buffers ≡ w
      go true true h k = absurd (k refl)
      go true false h k = absurd (h started_0)
      go false b h k = refl

  default_10 : (default_of w vtl flags).reply.number ≡ 10 → (default_of w vtl flags).buffers ≡ w₁
  unfolding default_of default_taken
  default_10 h = go (eqb (default_refusal w.state (fits w) vtl flags) 0) (barred w.maps.private w₁.state w.tables (vtl_of vtl)) h
    where
      go : (a b : Bool) → (chosen a b (default_refusal w.state (fits w) vtl flags)).reply.number ≡ 10 → (chosen a b (default_refusal w.state (fits w) vtl flags)).buffers ≡ w₁
      go true true h = refl
      go true false h = absurd (omega (arith, h, started_0))
      go false b h = false≢true (sym (not_10 w.state (fits w) vtl flags) ∙ eq-eqb (default_refusal w.state (fits w) vtl flags) 10 h)

-- THE CLAIMS
pub refusals_keep : Refusals
unfolding protection_of protection_taken register_of unregister_of enable_of
refusals_keep =
    record {
      protection = λ w vtl flags l h.
          let t : List ℕ = all_listed l w.pages in
          keeps w (protection_refusal w.state (fits w) w.maps.shared w.tables vtl flags l) (carried_change w t (changes.start_pages (settings_of w.state).tracked (vtl_of vtl) flags (length (pages_of l)) t))
          (carried_0 w t _ (pages_0 _ _ (changes.change_of (vtl_of vtl) flags (length (pages_of l))) t 0)) h;
      default = default_keeps;
      default_10 = default_10;
      register = λ w vtl p source checked new h.
          keeps w (register_refusal w.state (fits w) w.maps.shared w.tables (current_in w (vtl_of vtl) p source) vtl p source checked new) (register_taken w (vtl_of vtl) p source new)
          (register_0 w (vtl_of vtl) p source new) h;
      unregister = λ w vtl p h. keeps w (unregister_refusal w.state (fits w) w.tables vtl p) (unregister_taken w (vtl_of vtl) p) (unregister_0 w (vtl_of vtl) p) h;
      lock = lock_nothing;
      unlock = unlock_nothing;
      enable = λ s h. enabled_or s (enable_refusal s) (eqb (enable_refusal s) 0) h;
    }
  where
    enabled_or : (s : List ℕ) (n : ℕ) (b : Bool) → ((cond b (enabled (set s 19 1) (finished 0 0 0 0)) (enabled s (finished n (code_of n) 0 0))).reply.number ≡ 0 → ⊥)
        → (cond b (enabled (set s 19 1) (finished 0 0 0 0)) (enabled s (finished n (code_of n) 0 0))).state ≡ s
    enabled_or s n true h = absurd (h refl)
    enabled_or s n false h = refl
