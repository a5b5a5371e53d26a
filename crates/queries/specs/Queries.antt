-- Faults and queries of the protector's block (01, "Bitmaps", "From the input" 4, 5, 7 and 8, "From the state" 24; 02, (vi)). A fault and the permission
-- queries look at no request: they have no 19 and no 20.
use Rattle.std.specs.Prelude.{cond, List, [], ◌∷◌, ℕ, Result, Err, eqb, ltb, length}
use Rattle.abi.specs.Refusals as refusal
use Rattle.laws.specs.Bools.{digit}
use Rattle.laws.specs.Refusal.{when}
use Rattle.bitmap.specs.Pages.{bit_at}
use Rattle.layout.specs.Layout.{is_ram, map_len}
use Rattle.permissions.specs.declared.HvMapGpaFlags.{HvMapGpaFlags}
use Rattle.permissions.specs.HvError.{code_of}
use Rattle.mapping.specs.Maps.{Maps}
use Rattle.access.specs.Query.{access_permission, lower_vtl_permissions, permissions_number, permissions_value}
use Rattle.fault.specs.declared.PageFaultAction.{PageFaultAction}
use Rattle.fault.specs.Fault.{page_fault, fault_number, fault_value}
use Rattle.page_list.specs.Pages.{pages_of, is_long, is_ragged}
use Rattle.request_pages.specs.Request.{stop_at}
use Rattle.protector_state.specs.declared.Reply.{Reply}
use Rattle.protector_state.specs.State.{state_len, settings_of, entries_in}
use Rattle.protector_state.specs.Reply.{finished, value}
use Rattle.call_refusals.specs.Refusals.{ready}
use Rattle.protector_state.specs.declared.Value.{Value}

-- ---- query_host_visibility: 20, 19, 4, 5, 8, then 7 at its own index

unfoldable pub query_refusal : List ℕ → ℕ → List ℕ → ℕ
query_refusal state shared list =
    ready state (eqb shared (map_len (entries_in state)))
    (when (is_long list) refusal.long_list
    (when (is_ragged list) refusal.unfit_number
    0))

-- how many of the pages come before the first that isn't RAM
abbrev pub ram_before : List ℕ → List ℕ → ℕ
ram_before state list = stop_at (is_ram (entries_in state)) (pages_of list)

-- a byte for each page: whether it is marked shared; written as far as the output goes
unfoldable pub visibilities : List ℕ → List ℕ → List ℕ
visibilities shared [] = []
visibilities shared (p ∷ ps) = digit (bit_at 8 shared p) ∷ visibilities shared ps

unfoldable pub filled_by : List ℕ → List ℕ → List ℕ
filled_by [] out = out
filled_by (b ∷ bs) [] = []
filled_by (b ∷ bs) (x ∷ out) = b ∷ filled_by bs out

-- what the query gives: its output, and the reply
pub record Query : Type 0 where
  pub out : List ℕ
  pub reply : Reply

abbrev pub query : List ℕ → Reply → Query
query out reply = record { out = out; reply = reply }

-- the pages are RAM, or the first that isn't gives 7
abbrev pub query_taken : List ℕ → List ℕ → List ℕ → List ℕ → Query
query_taken state shared list out =
    cond (ltb (ram_before state list) (length (pages_of list))) (query out (finished refusal.not_ram (code_of refusal.not_ram) (ram_before state list) 0))
    (query (filled_by (visibilities shared (pages_of list)) out) (finished 0 0 0 0))

unfoldable pub query_of : List ℕ → List ℕ → List ℕ → List ℕ → Query
query_of state shared list out =
    cond (eqb (query_refusal state (length shared) list) 0) (query_taken state shared list out)
    (query out (finished (query_refusal state (length shared) list) (code_of (query_refusal state (length shared) list)) 0 0))

-- ---- faults and permissions: 4 for a state block of another length, else as the maps have it

abbrev pub fault_value_of : Result PageFaultAction ℕ → Value
fault_value_of a = value (fault_number a) (fault_value a)

abbrev pub permissions_value_of : Result HvMapGpaFlags ℕ → Value
permissions_value_of a = value (permissions_number a) (permissions_value a)

unfoldable pub fault_in : List ℕ → Maps → ℕ → ℕ → ℕ → ℕ → ℕ → Value
fault_in state maps mapping view address write failure =
    fault_value_of
    (cond (eqb (length state) state_len) (page_fault (entries_in state) maps (settings_of state).tracked mapping view address write failure)
    (Err refusal.wrong_length))

unfoldable pub lower_in : List ℕ → Maps → ℕ → ℕ → Value
lower_in state maps vtl gpn =
    permissions_value_of
    (cond (eqb (length state) state_len) (lower_vtl_permissions (entries_in state) maps (settings_of state).tracked vtl gpn) (Err refusal.wrong_length))

unfoldable pub access_in : List ℕ → Maps → ℕ → Value
access_in state maps gpn =
    permissions_value_of (cond (eqb (length state) state_len) (access_permission (entries_in state) maps (settings_of state).tracked gpn) (Err refusal.wrong_length))
