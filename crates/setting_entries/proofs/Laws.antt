-- Laws of the setter and the getters: one for each way out. Assumes nothing.
use mathlib.Core.Path.{◌≡◌, refl, sym, ap, ◌∙◌}
use mathlib.Core.Bool.{true}
use mathlib.Core.List.{List}
use Prim.Native.Nat.{ℕ}
use lib.ListN.{length, get_or, set}
use borrow.Author.Tests.{eq-eqb, ne_eqb}
use Rattle.laws.specs.Bools.{digit}
use Rattle.laws.specs.Refusal.{unless, refuses, passes, refused, answered}
use Rattle.permissions.specs.Flags.{bits_of}
use Rattle.permissions.specs.HvError.{code_of}
use Rattle.visibility_steps.specs.declared.Settings.{Settings}
use Rattle.protector_state.specs.declared.Reply.{Reply}
use Rattle.protector_state.specs.State.{state_len, settings_of}
use Rattle.protector_state.specs.Reply.{finished, value}
use Rattle.call_refusals.proofs.Laws.{Ready, is_ready, goes_on_lem, state_refuses, state_long, state_passes}
use Rattle.protector_state.specs.declared.Value.{Value}
use Rattle.setting_entries.specs.Calls.{state_refusal, enable_refusal, enabled, enable_of, enabled_in, default_in}

-- ---- refused by the state block or not

-- ---- the setter

module _ (s : List ℕ) (n : ℕ) (e : n ≡ enable_refusal s) where
  enable_ready : n ≡ 0 → Ready s true (unless (settings_of s).tracked 24 0)
  unfolding enable_refusal
  enable_ready z = is_ready s true _ (sym e ∙ z)

  pub enable_state : n ≡ 0 → state_refusal s ≡ 0
  enable_state z = sym (goes_on_lem s true 0 0 (enable_ready z).long (enable_ready z).idle refl refl)

  pub enable_length : n ≡ 0 → length s ≡ state_len
  enable_length z = (enable_ready z).long
