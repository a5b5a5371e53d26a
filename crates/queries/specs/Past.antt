-- What faults and permission queries give past the last byte of the maps, and which page refuses one by 7 (02, (vi)): of any state block and any maps. Proved in `proofs/Past.antt`.
use Rattle.std.specs.Prelude.{true, false, cond, List, ◌≡◌, ℕ, Ok, ◌/◌, length}
use Rattle.abi.specs.Lengths.{page_size}
use Rattle.abi.specs.Refusals as refusal
use Rattle.layout.specs.Layout.{is_ram, map_len}
use Rattle.permissions.specs.Flags.{fit_vtl, vtl_of, fit_bool, bool_of, no_flags, all_flags, bits_of}
use Rattle.permissions.specs.HvError.{code_of}
use Rattle.mapping.specs.Maps.{Maps, maps_fit, lengths_of, in_maps}
use Rattle.access.specs.Query.{is_tracked}
use Rattle.fault.specs.declared.PageFaultAction.TheVariants.{NotMapped}
use Rattle.fault.specs.Fault.{fit_mapping, mapping_of, fit_view, unmarked}
use Rattle.protector_state.specs.State.{state_len, settings_of, entries_in}
use Rattle.protector_state.specs.Reply.{value}
use Rattle.queries.specs.Queries.{fault_value_of, fault_in, lower_in, access_in}

-- lengths that 4 doesn't refuse
pub record Lent (state : List ℕ) (m : Maps) : Type 0 where
  pub long : length state ≡ state_len
  pub fits : maps_fit (map_len (entries_in state)) (settings_of state).tracked (lengths_of m) ≡ true

-- numbers of a fault that name something
pub record Named (mapping view write failure : ℕ) : Type 0 where
  pub of_mapping : fit_mapping mapping ≡ true
  pub of_view : fit_view view ≡ true
  pub of_write : fit_bool write ≡ true
  pub of_failure : fit_bool failure ≡ true

pub record Past (state : List ℕ) (m : Maps) : Type 0 where
  pub fault_past : Lent state m → (mapping view address write failure : ℕ) → Named mapping view write failure
      → in_maps (entries_in state) (address / page_size) ≡ false
      → fault_in state m mapping view address write failure ≡ fault_value_of (Ok (cond (bool_of failure) (unmarked (mapping_of mapping)) NotMapped))
  pub access_past : Lent state m → (p : ℕ) → in_maps (entries_in state) p ≡ false
      → access_in state m p ≡ cond (settings_of state).tracked (value 0 0) (value refusal.untracked 0)
  pub lower_past : Lent state m → (vtl p : ℕ) → fit_vtl vtl ≡ true → in_maps (entries_in state) p ≡ false
      → lower_in state m vtl p ≡ value 0 (bits_of (cond (is_tracked (vtl_of vtl) (settings_of state).tracked) no_flags all_flags))
  -- a hole isn't past the maps
  pub lower_hole : Lent state m → (vtl p : ℕ) → fit_vtl vtl ≡ true → in_maps (entries_in state) p ≡ true → is_ram (entries_in state) p ≡ false
      → lower_in state m vtl p ≡ value refusal.not_ram (code_of refusal.not_ram)
  -- 7, whatever is lent
  pub fault_never_7 : (mapping view address write failure : ℕ) → (fault_in state m mapping view address write failure).number ≡ refusal.not_ram → ⊥
  pub access_never_7 : (p : ℕ) → (access_in state m p).number ≡ refusal.not_ram → ⊥
  pub lower_7 : (vtl p : ℕ) → (lower_in state m vtl p).number ≡ refusal.not_ram → (in_maps (entries_in state) p ≡ true) × (is_ram (entries_in state) p ≡ false)
