-- set_vtl1_protections_enabled, vtl1_protections_enabled and default_vtl0_protections (01, "Bitmaps", "Defaults", "From the input" 4, "From the state" 19, 20 and
-- 24).
use Rattle.std.specs.Prelude.{true, cond, List, ℕ, eqb, set}
use Rattle.abi.specs.Places as place
use Rattle.abi.specs.Refusals as refusal
use Rattle.laws.specs.Bools.{digit}
use Rattle.laws.specs.Refusal.{unless}
use Rattle.permissions.specs.Flags.{bits_of}
use Rattle.permissions.specs.HvError.{code_of}
use Rattle.visibility_steps.specs.declared.Settings.{Settings}
use Rattle.protector_state.specs.declared.Reply.{Reply}
use Rattle.protector_state.specs.State.{settings_of}
use Rattle.protector_state.specs.Reply.{finished}
use Rattle.call_refusals.specs.Refusals.{ready}
use Rattle.protector_state.specs.declared.Value.{Value}
use Rattle.protector_state.specs.Reply.{value}

-- ---- all three: 4 of the state block, 20 or 19

abbrev pub state_refusal : List ℕ → ℕ
state_refusal state = ready state true 0

-- ---- the setter: then 24 where permissions aren't tracked

unfoldable pub enable_refusal : List ℕ → ℕ
enable_refusal state = ready state true (unless (settings_of state).tracked refusal.untracked 0)

-- what it gives: the state block, and the reply
pub record Enabled : Type 0 where
  pub state : List ℕ
  pub reply : Reply

abbrev pub enabled : List ℕ → Reply → Enabled
enabled state reply = record { state = state; reply = reply }

unfoldable pub enable_of : List ℕ → Enabled
enable_of state =
    cond (eqb (enable_refusal state) 0) (enabled (set state place.enabled 1) (finished 0 0 0 0))
    (enabled state (finished (enable_refusal state) (code_of (enable_refusal state)) 0 0))

-- the settings then
abbrev pub enabling : Settings → Settings
enabling settings = record { isolation = settings.isolation; tracked = settings.tracked; release = settings.release; enabled = true; defaults = settings.defaults }

-- ---- the getters

unfoldable pub enabled_in : List ℕ → Value
enabled_in state = cond (eqb (state_refusal state) 0) (value 0 (digit (settings_of state).enabled)) (value (state_refusal state) (code_of (state_refusal state)))

unfoldable pub default_in : List ℕ → Value
default_in state = cond (eqb (state_refusal state) 0) (value 0 (bits_of (settings_of state).defaults.vtl0)) (value (state_refusal state) (code_of (state_refusal state)))
