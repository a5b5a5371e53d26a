-- A call that nothing refuses: what the tests that all calls begin with have found. Assumes nothing.
use Prim.Native.Nat.{ℕ}
use mathlib.Core.Path.{◌≡◌}
use mathlib.Core.Bool.{Bool, true}
use lib.Dec.{eqb}
use lib.ListN.{length}
use Rattle.permissions.specs.Flags.{vtl_of}
use Rattle.protector_state.specs.State.{state_len}
use Rattle.call_refusals.specs.Buffers.{Buffers, tables_len, fits, status_in}
use Rattle.call_refusals.specs.Refusals.{ready, visibility_refusal}
use Rattle.call_refusals.proofs.Laws.{is_ready}
use Rattle.protection_entries.specs.Calls.{protection_refusal, default_refusal}
use Rattle.overlay_refusals.specs.Refusals.{call_refusal, register_refusal, unregister_refusal}
use Rattle.overlay_entries.specs.Calls.{current_in}
use Rattle.lock_entries.specs.Calls.{lock_refusal}
use Rattle.setting_entries.specs.Calls.{enable_refusal}
use Rattle.history.specs.Call.{Writer, Visibility, Protection, Default, Register, Unregister, Lock, Unlock, Enable}

-- ---- the number that a call is refused by, and the test of what it is lent beside the state block

abbrev pub refusal_in : Writer → Buffers → ℕ
refusal_in (Visibility vtl share list) x = visibility_refusal x.state (fits x) x.tables vtl share list
refusal_in (Protection vtl flags list) x = protection_refusal x.state (fits x) x.maps.shared x.tables vtl flags list
refusal_in (Default vtl flags) x = default_refusal x.state (fits x) vtl flags
refusal_in (Register vtl page source checked new) x = register_refusal x.state (fits x) x.maps.shared x.tables (current_in x (vtl_of vtl) page source) vtl page source checked new
refusal_in (Unregister vtl page) x = unregister_refusal x.state (fits x) x.tables vtl page
refusal_in (Lock vtl list) x = lock_refusal x.state (length x.tables) vtl list
refusal_in (Unlock vtl list) x = lock_refusal x.state (length x.tables) vtl list
refusal_in Enable x = enable_refusal x.state

abbrev pub lent_fits : Writer → Buffers → Bool
lent_fits (Visibility vtl share list) x = fits x
lent_fits (Protection vtl flags list) x = fits x
lent_fits (Default vtl flags) x = fits x
lent_fits (Register vtl page source checked new) x = fits x
lent_fits (Unregister vtl page) x = fits x
lent_fits (Lock vtl list) x = eqb (length x.tables) tables_len
lent_fits (Unlock vtl list) x = eqb (length x.tables) tables_len
lent_fits Enable x = true

pub record Passed (x : Buffers) (fit : Bool) : Type 0 where
  pub long : length x.state ≡ state_len
  pub idle : status_in x.state ≡ 0
  pub fits : fit ≡ true

by_ready : (x : Buffers) (fit : Bool) (rest : ℕ) → ready x.state fit rest ≡ 0 → Passed x fit
by_ready x fit rest z = let k = is_ready x.state fit rest z in record { long = k.long; idle = k.idle; fits = k.fits }

pub passed_in : (a : Writer) (x : Buffers) → refusal_in a x ≡ 0 → Passed x (lent_fits a x)
unfolding visibility_refusal protection_refusal default_refusal call_refusal register_refusal unregister_refusal lock_refusal enable_refusal
passed_in (Visibility vtl share list) x z = by_ready x _ _ z
passed_in (Protection vtl flags list) x z = by_ready x _ _ z
passed_in (Default vtl flags) x z = by_ready x _ _ z
passed_in (Register vtl page source checked new) x z = by_ready x _ _ z
passed_in (Unregister vtl page) x z = by_ready x _ _ z
passed_in (Lock vtl list) x z = by_ready x _ _ z
passed_in (Unlock vtl list) x z = by_ready x _ _ z
passed_in Enable x z = by_ready x _ _ z

-- ---- a state block of its length, and all else as it should be

pub record Fitting (x : Buffers) : Type 0 where
  pub long : length x.state ≡ state_len
  pub fit : fits x ≡ true

pub fitting : (x : Buffers) → Passed x (fits x) → Fitting x
fitting x k = record { long = k.long; fit = k.fits }
