-- The settings stay as they should at every call, and so over every list of calls. Assumes nothing.
use native.Mathlib.Omega.{arith}
use mathlib.Core.Path.{◌≡◌, sym, ◌∙◌}
use mathlib.Core.Bool.{true}
use mathlib.Core.List.{List}
use Prim.Native.Nat.{ℕ, ◌<◌}
use lib.ListN.{length, get_or, set}
use lib.Seq.{get_or-drop, get_or-set_same, get_or-set_other}
use borrow.Author.Tests.{eqb-true}
use Rattle.permissions.specs.declared.GuestVtl.{GuestVtl}
use Rattle.permissions.specs.declared.GuestVtl.TheVariants.{Vtl0, Vtl1}
use Rattle.visibility_steps.specs.declared.Phase.{Phase}
use Rattle.visibility_steps.specs.declared.Request.{Request}
use Rattle.change_steps.specs.declared.Stage.{Stage}
use Rattle.change_steps.specs.declared.Change.{Change}
use Rattle.protector_state.specs.State.{state_len, with_request, settings_of}
use Rattle.protector_state.specs.Changing.{with_change}
use Rattle.protection_entries.specs.Calls.{stored_default}
use Rattle.history.specs.Settings.{SettingsFit}
use Rattle.history.proofs.StateWords.{Words}

module _ (i t r : ℕ) where
  requested : (p : Phase) (q : Request) (s : List ℕ) → SettingsFit i t r s → SettingsFit i t r (with_request p q s)
  requested p q s k =
      record {
        same_isolation = get_or-drop 10 s 6 0 ∙ k.same_isolation;
        same_tracked = get_or-drop 10 s 7 0 ∙ k.same_tracked;
        same_release = get_or-drop 10 s 8 0 ∙ k.same_release;
        fit_isolation_lem = k.fit_isolation_lem;
        fit_tracked = k.fit_tracked;
        fit_release = k.fit_release;
        enabled = omega (arith, get_or-drop 10 s 9 0, k.enabled);
        only_tracked = λ e. k.only_tracked (sym (get_or-drop 10 s 9 0) ∙ e);
        default0 = omega (arith, get_or-drop 10 s 10 0, k.default0);
        default1 = omega (arith, get_or-drop 10 s 11 0, k.default1);
      }

  changing : (g : Stage) (q : Change) (s : List ℕ) → SettingsFit i t r s → SettingsFit i t r (with_change g q s)
  changing g q s k =
      record {
        same_isolation = get_or-drop 14 s 2 0 ∙ k.same_isolation;
        same_tracked = get_or-drop 14 s 3 0 ∙ k.same_tracked;
        same_release = get_or-drop 14 s 4 0 ∙ k.same_release;
        fit_isolation_lem = k.fit_isolation_lem;
        fit_tracked = k.fit_tracked;
        fit_release = k.fit_release;
        enabled = omega (arith, get_or-drop 14 s 5 0, k.enabled);
        only_tracked = λ e. k.only_tracked (sym (get_or-drop 14 s 5 0) ∙ e);
        default0 = omega (arith, get_or-drop 14 s 6 0, k.default0);
        default1 = omega (arith, get_or-drop 14 s 7 0, k.default1);
      }

  -- another default, or protections enabled
  stored_set : (s : List ℕ) (v : GuestVtl) (flags : ℕ) → flags < 16 → length s ≡ state_len → SettingsFit i t r s → SettingsFit i t r (stored_default s v flags)
  stored_set s Vtl0 flags h l k =
      let o : (j : ℕ) → (j ≡ 20 → ⊥) → get_or (set s 20 flags) j 0 ≡ get_or s j 0 = λ j d. get_or-set_other s 20 j flags 0 d in
      record {
        same_isolation = o 16 (λ e. omega (arith, e)) ∙ k.same_isolation;
        same_tracked = o 17 (λ e. omega (arith, e)) ∙ k.same_tracked;
        same_release = o 18 (λ e. omega (arith, e)) ∙ k.same_release;
        fit_isolation_lem = k.fit_isolation_lem;
        fit_tracked = k.fit_tracked;
        fit_release = k.fit_release;
        enabled = omega (arith, o 19 (λ e. omega (arith, e)), k.enabled);
        only_tracked = λ e. k.only_tracked (sym (o 19 (λ e. omega (arith, e))) ∙ e);
        default0 = omega (arith, get_or-set_same s 20 flags 0 (omega (arith, l)), h);
        default1 = omega (arith, o 21 (λ e. omega (arith, e)), k.default1);
      }
  stored_set s Vtl1 flags h l k =
      let o : (j : ℕ) → (j ≡ 21 → ⊥) → get_or (set s 21 flags) j 0 ≡ get_or s j 0 = λ j d. get_or-set_other s 21 j flags 0 d in
      record {
        same_isolation = o 16 (λ e. omega (arith, e)) ∙ k.same_isolation;
        same_tracked = o 17 (λ e. omega (arith, e)) ∙ k.same_tracked;
        same_release = o 18 (λ e. omega (arith, e)) ∙ k.same_release;
        fit_isolation_lem = k.fit_isolation_lem;
        fit_tracked = k.fit_tracked;
        fit_release = k.fit_release;
        enabled = omega (arith, o 19 (λ e. omega (arith, e)), k.enabled);
        only_tracked = λ e. k.only_tracked (sym (o 19 (λ e. omega (arith, e))) ∙ e);
        default0 = omega (arith, o 20 (λ e. omega (arith, e)), k.default0);
        default1 = omega (arith, get_or-set_same s 21 flags 0 (omega (arith, l)), h);
      }

  enabled_set : (s : List ℕ) → (settings_of s).tracked ≡ true → length s ≡ state_len → SettingsFit i t r s → SettingsFit i t r (set s 19 1)
  enabled_set s h l k =
      let o : (j : ℕ) → (j ≡ 19 → ⊥) → get_or (set s 19 1) j 0 ≡ get_or s j 0 = λ j d. get_or-set_other s 19 j 1 0 d in
      record {
        same_isolation = o 16 (λ e. omega (arith, e)) ∙ k.same_isolation;
        same_tracked = o 17 (λ e. omega (arith, e)) ∙ k.same_tracked;
        same_release = o 18 (λ e. omega (arith, e)) ∙ k.same_release;
        fit_isolation_lem = k.fit_isolation_lem;
        fit_tracked = k.fit_tracked;
        fit_release = k.fit_release;
        enabled = omega (arith, get_or-set_same s 19 1 0 (omega (arith, l)));
        only_tracked = λ _. sym k.same_tracked ∙ eqb-true _ 1 h;
        default0 = omega (arith, o 20 (λ e. omega (arith, e)), k.default0);
        default1 = omega (arith, o 21 (λ e. omega (arith, e)), k.default1);
      }

  pub settings_words : Words (SettingsFit i t r)
  settings_words = record { requested = requested; changing = changing; defaulted = stored_set; enabling = enabled_set }
