-- What the settings hold (01, "Defaults", "Bitmaps", "From the state" 24): as a build leaves them, and between calls.
use Rattle.std.specs.Prelude.{◌≡◌, true, false, List, ℕ, ◌+◌, ◌<◌, get_or}
use Rattle.abi.specs.Places as place
use Rattle.abi.specs.Flags.{flags_end}
use Rattle.permissions.specs.Flags.{fit_isolation, isolation_of, fit_bool, bool_of}
use Rattle.permissions.specs.Defaults.{first_defaults}
use Rattle.visibility_steps.specs.declared.Settings.{Settings}

-- at a build: what it was given, protections not enabled, all four flags for VTL0 and none given for VTL1
abbrev pub first_settings : (isolation tracked release : ℕ) → Settings
first_settings isolation tracked release =
    record { isolation = isolation_of isolation; tracked = bool_of tracked; release = bool_of release; enabled = false; defaults = first_defaults }

-- between calls, of the state block: those that the build was given stay, and are numbers of such; protections are enabled only where permissions are
-- tracked; the defaults are flags
pub record SettingsFit (isolation tracked release : ℕ) (state : List ℕ) : Type 0 where
  pub same_isolation : get_or state place.isolation 0 ≡ isolation
  pub same_tracked : get_or state place.tracked 0 ≡ tracked
  pub same_release : get_or state place.release 0 ≡ release
  pub fit_isolation_lem : fit_isolation isolation ≡ true
  pub fit_tracked : fit_bool tracked ≡ true
  pub fit_release : fit_bool release ≡ true
  pub enabled : get_or state place.enabled 0 < 2
  pub only_tracked : get_or state place.enabled 0 ≡ 1 → tracked ≡ 1
  pub default0 : get_or state place.default0 0 < flags_end
  -- or the number after them, where none is given
  pub default1 : get_or state place.default1 0 < flags_end + 1
