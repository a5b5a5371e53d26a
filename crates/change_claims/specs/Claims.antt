-- What is claimed of protection and default changes and of overlay calls (document 01, "The request under way", its last paragraph, "Overlays and locks", "Defaults",
-- "From the state" 16), and of the permission maps that visibility changes leave.
use Rattle.std.specs.Prelude.{◌≡◌, Bool, true, false, ◌&&◌, List, ◌∷◌, ℕ, ◌+◌, ◌<◌, eqb, ltb, length, get_or, take, drop}
use Rattle.abi.specs.Codes.{operation_denied}
use Rattle.abi.specs.Flags.{flags_end}
use Rattle.abi.specs.Places as place
use Rattle.abi.specs.Refusals as refusal
use Rattle.bitmap.specs.Pages as bits
use Rattle.layout.specs.declared.MemoryRangeWithNode.{MemoryRangeWithNode}
use Rattle.layout.specs.Layout.{is_ram, ordered, refusal_of}
use Rattle.permissions.specs.declared.GuestVtl.{GuestVtl}
use Rattle.permissions.specs.declared.GuestVtl.TheVariants.{Vtl0}
use Rattle.permissions.specs.declared.HvMapGpaFlags.{HvMapGpaFlags}
use Rattle.permissions.specs.Flags.{vtl_of, bool_of, flags_of, no_flags}
use Rattle.mapping.specs.Maps.{Maps}
use Rattle.page_list.specs.Pages.{among, strict, pages_of}
use Rattle.page_list.specs.Runs.{runs_of}
use Rattle.default_change.specs.Visit.{up_to, pick}
use Rattle.visibility_steps.specs.declared.Settings.{Settings}
use Rattle.protector_state.specs.State.{settings_of, ram_of, entries_in}
use Rattle.protector_state.specs.declared.Reply.{Reply}
use Rattle.protector_state.specs.Reply.{finished}
use Rattle.call_refusals.specs.Buffers.{Buffers, fits}
use Rattle.call_refusals.specs.Refusals.{visibility_refusal}
use Rattle.protector.specs.Calls.{visibility_of}
use Rattle.lock_entries.specs.Calls.{lock_of, unlock_of}
use Rattle.setting_entries.specs.Calls.{enable_of}
use Rattle.protection_entries.specs.Calls.{protection_refusal, all_listed, protection_of, default_refusal, stored, barred, default_of}
use Rattle.overlay_refusals.specs.Refusals.{register_refusal, unregister_refusal}
use Rattle.overlay_entries.specs.Calls.{entry_in, current_in, register_of, unregister_of}
use Rattle.visibility_claims.specs.Whole.{BackendAnswer, Fails, Status, Ok, FailedAt, whole_share, whole_return}
use Rattle.visibility_claims.specs.Runs.{whole}
use Rattle.visibility_claims.specs.Requested.{requested_of, pages_in, places_in}
use Rattle.visibility_claims.specs.Calls.{whole_of, Told, follow}
use Rattle.visibility_claims.specs.Ends.{page_end}
use Rattle.change_claims.specs.Whole.{Change, is_protected, ram_runs, whole_pages, whole_ram}
use Rattle.change_claims.specs.Calls.{tracked_in, overlay_in, protection_whole, default_whole, new_whole, register_whole, old_whole, unregister_whole, Agrees}
use Rattle.change_claims.specs.Pages.{protected_in, all, within, PermitsFor, Leaves}

-- ---- calls that are taken, and what they and their answers in turn give

abbrev pub TakesProtection : Buffers → ℕ → ℕ → List ℕ → Type 0
TakesProtection buffers vtl flags list = protection_refusal buffers.state (fits buffers) buffers.maps.shared buffers.tables vtl flags list ≡ 0

abbrev pub protection_call : Buffers → ℕ → ℕ → List ℕ → List BackendAnswer → Told
protection_call buffers vtl flags list answers = follow (protection_of buffers vtl flags list) answers

-- the default is stored first; no lock bars the change (10)
abbrev pub stored_in : Buffers → ℕ → ℕ → Buffers
stored_in buffers vtl flags = stored buffers (vtl_of vtl) flags

abbrev pub TakesDefault : Buffers → ℕ → ℕ → Type 0
TakesDefault buffers vtl flags =
    (default_refusal buffers.state (fits buffers) vtl flags ≡ 0) × (barred buffers.maps.private (stored_in buffers vtl flags).state buffers.tables (vtl_of vtl) ≡ false)

abbrev pub default_call : Buffers → ℕ → ℕ → List BackendAnswer → Told
default_call buffers vtl flags answers = follow (default_of buffers vtl flags) answers

abbrev pub TakesRegister : Buffers → ℕ → ℕ → ℕ → ℕ → ℕ → Type 0
TakesRegister buffers vtl gpn source checked new =
    register_refusal buffers.state (fits buffers) buffers.maps.shared buffers.tables (current_in buffers (vtl_of vtl) gpn source) vtl gpn source checked new ≡ 0

abbrev pub register_call : Buffers → ℕ → ℕ → ℕ → ℕ → ℕ → List BackendAnswer → Told
register_call buffers vtl gpn source checked new answers = follow (register_of buffers vtl gpn source checked new) answers

abbrev pub TakesUnregister : Buffers → ℕ → ℕ → Type 0
TakesUnregister buffers vtl gpn = unregister_refusal buffers.state (fits buffers) buffers.tables vtl gpn ≡ 0

abbrev pub unregister_call : Buffers → ℕ → ℕ → List BackendAnswer → Told
unregister_call buffers vtl gpn answers = follow (unregister_of buffers vtl gpn) answers

abbrev pub TakesVisibility : Buffers → ℕ → ℕ → List ℕ → Type 0
TakesVisibility buffers vtl visibility list = visibility_refusal buffers.state (fits buffers) buffers.tables vtl visibility list ≡ 0

abbrev pub visibility_call : Buffers → ℕ → ℕ → List ℕ → List BackendAnswer → Told
visibility_call buffers vtl visibility list answers = follow (visibility_of buffers vtl visibility list) answers

-- the pages that a visibility change asks for, and their places in the list as sent
abbrev pub requested_pages : Buffers → GuestVtl → Bool → List ℕ → List ℕ
requested_pages buffers vtl share list = pages_in (requested_of buffers vtl share list).listed

abbrev pub requested_places : Buffers → GuestVtl → Bool → List ℕ → List ℕ
requested_places buffers vtl share list = places_in (requested_of buffers vtl share list).listed

-- a layout that a build takes; and one whose entries ascend within 01's bounds, aligned or not
abbrev pub FitLayout : Buffers → Type 0
FitLayout buffers = refusal_of (ram_of buffers.state) ≡ 0

abbrev pub InOrder : Buffers → Type 0
InOrder buffers = ordered 0 (entries_in buffers.state) ≡ true

-- ---- a call is its whole call: operations, answer with its count, maps and tables; the request's pages are `pages`, settings and layout stand

abbrev pub AgreesIn : Buffers → List ℕ → Change → Told → Type 0
AgreesIn buffers pages change told = Agrees (drop place.after_change buffers.state) pages (settings_of buffers.state).isolation (whole change.whole) change.tables told

pub record WholeCalls : Type 0 where
  pub protection : (buffers : Buffers) (vtl flags : ℕ) (list : List ℕ) (answers : List BackendAnswer) → TakesProtection buffers vtl flags list
      → AgreesIn buffers (all_listed list buffers.pages) (protection_whole buffers (vtl_of vtl) flags list answers) (protection_call buffers vtl flags list answers)
  pub default : (buffers : Buffers) (vtl flags : ℕ) (answers : List BackendAnswer) → TakesDefault buffers vtl flags → InOrder buffers
      → AgreesIn (stored_in buffers vtl flags) buffers.pages (default_whole (stored_in buffers vtl flags) (vtl_of vtl) flags answers) (default_call buffers vtl flags answers)
  pub register : (buffers : Buffers) (vtl gpn source checked new : ℕ) (answers : List BackendAnswer) → TakesRegister buffers vtl gpn source checked new
      → AgreesIn buffers buffers.pages (register_whole buffers (vtl_of vtl) gpn source new answers) (register_call buffers vtl gpn source checked new answers)
  pub unregister : (buffers : Buffers) (vtl gpn : ℕ) (answers : List BackendAnswer) → TakesUnregister buffers vtl gpn
      → AgreesIn buffers buffers.pages (unregister_whole buffers (vtl_of vtl) gpn answers) (unregister_call buffers vtl gpn answers)

-- ---- a call with a number other than 0 leaves all that is lent; a default change with 10 leaves the default stored

pub record Refusals : Type 0 where
  pub protection : (buffers : Buffers) (vtl flags : ℕ) (list : List ℕ) → ((protection_of buffers vtl flags list).reply.number ≡ 0 → ⊥) → (protection_of buffers vtl flags list).buffers ≡ buffers
  pub default : (buffers : Buffers) (vtl flags : ℕ) → ((default_of buffers vtl flags).reply.number ≡ 0 → ⊥) → ((default_of buffers vtl flags).reply.number ≡ refusal.locked → ⊥) → (default_of buffers vtl flags).buffers ≡ buffers
  pub default_10 : (buffers : Buffers) (vtl flags : ℕ) → (default_of buffers vtl flags).reply.number ≡ refusal.locked → (default_of buffers vtl flags).buffers ≡ stored_in buffers vtl flags
  pub register : (buffers : Buffers) (vtl gpn source checked new : ℕ) → ((register_of buffers vtl gpn source checked new).reply.number ≡ 0 → ⊥) → (register_of buffers vtl gpn source checked new).buffers ≡ buffers
  pub unregister : (buffers : Buffers) (vtl gpn : ℕ) → ((unregister_of buffers vtl gpn).reply.number ≡ 0 → ⊥) → (unregister_of buffers vtl gpn).buffers ≡ buffers
  pub lock : (state tables : List ℕ) (vtl : ℕ) (list : List ℕ) → ((lock_of state tables vtl list).reply.number ≡ 0 → ⊥) → (lock_of state tables vtl list).tables ≡ tables
  pub unlock : (state tables : List ℕ) (vtl : ℕ) (list : List ℕ) → ((unlock_of state tables vtl list).reply.number ≡ 0 → ⊥) → (unlock_of state tables vtl list).tables ≡ tables
  pub enable : (state : List ℕ) → ((enable_of state).reply.number ≡ 0 → ⊥) → (enable_of state).state ≡ state

-- ---- how many operations a call that is Ok reports

abbrev pub ok : ℕ → Reply
ok count = finished 0 0 0 count

pub record Counts : Type 0 where
  -- its runs and three more
  pub protection : (buffers : Buffers) (vtl flags : ℕ) (list : List ℕ) (answers : List BackendAnswer) → TakesProtection buffers vtl flags list → (protection_whole buffers (vtl_of vtl) flags list answers).whole.status ≡ Ok
      → (protection_call buffers vtl flags list answers).last.reply ≡ ok (length (runs_of (pages_of list)) + 3)
  pub default : (buffers : Buffers) (vtl flags : ℕ) (answers : List BackendAnswer) → TakesDefault buffers vtl flags → InOrder buffers → (default_whole (stored_in buffers vtl flags) (vtl_of vtl) flags answers).whole.status ≡ Ok
      → (default_call buffers vtl flags answers).last.reply ≡ ok (length (ram_runs (entries_in (stored_in buffers vtl flags).state) (overlay_in buffers.tables (vtl_of vtl)) buffers.maps) + 3)
  -- a known page none, a new one four with new flags and three without
  pub register_known : (buffers : Buffers) (vtl gpn source checked new : ℕ) (answers : List BackendAnswer) → TakesRegister buffers vtl gpn source checked new
      → overlay_in buffers.tables (vtl_of vtl) gpn ≡ true → (register_call buffers vtl gpn source checked new answers).last.reply ≡ ok 0
  pub register_flags : (buffers : Buffers) (vtl gpn source checked new : ℕ) (answers : List BackendAnswer) → TakesRegister buffers vtl gpn source checked new
      → overlay_in buffers.tables (vtl_of vtl) gpn ≡ false → ltb new flags_end ≡ true → (new_whole buffers (vtl_of vtl) gpn source new answers true).whole.status ≡ Ok
      → (register_call buffers vtl gpn source checked new answers).last.reply ≡ ok 4
  pub register_none : (buffers : Buffers) (vtl gpn source checked new : ℕ) (answers : List BackendAnswer) → TakesRegister buffers vtl gpn source checked new
      → overlay_in buffers.tables (vtl_of vtl) gpn ≡ false → ltb new flags_end ≡ false → (new_whole buffers (vtl_of vtl) gpn source new answers false).whole.status ≡ Ok
      → (register_call buffers vtl gpn source checked new answers).last.reply ≡ ok 3
  -- a lowered count none, a removed entry four
  pub unregister_lowered : (buffers : Buffers) (vtl gpn : ℕ) (answers : List BackendAnswer) → TakesUnregister buffers vtl gpn
      → ltb 1 (entry_in buffers.tables (vtl_of vtl) gpn).ref_count ≡ true → (unregister_call buffers vtl gpn answers).last.reply ≡ ok 0
  pub unregister_removed : (buffers : Buffers) (vtl gpn : ℕ) (answers : List BackendAnswer) → TakesUnregister buffers vtl gpn
      → ltb 1 (entry_in buffers.tables (vtl_of vtl) gpn).ref_count ≡ false → (old_whole buffers (vtl_of vtl) gpn (entry_in buffers.tables (vtl_of vtl) gpn) answers).whole.status ≡ Ok
      → (unregister_call buffers vtl gpn answers).last.reply ≡ ok 4

-- ---- the pages that a default change's Protects name, all of them done, the overlays being those of the tables that it leaves: each private RAM page without an overlay, once, ascending

abbrev pub taken_ram : List MemoryRangeWithNode → List ℕ → (ℕ → Bool) → ℕ → Bool
taken_ram entries private overlay gpn = is_ram entries gpn && is_protected private overlay gpn

pub record DefaultPages (buffers : Buffers) (vtl : ℕ) (told : Told) : Type 0 where
  pub pages : protected_in told.asked ≡ pick (taken_ram (entries_in buffers.state) buffers.maps.private (overlay_in told.last.buffers.tables (vtl_of vtl))) (up_to 0 (page_end (entries_in buffers.state)))
  pub ascends : strict true (protected_in told.asked) ≡ true
  pub visits : (gpn : ℕ) → among (protected_in told.asked) gpn ≡ taken_ram (entries_in buffers.state) buffers.maps.private (overlay_in told.last.buffers.tables (vtl_of vtl)) gpn
  pub overlays : (gpn : ℕ) → overlay_in told.last.buffers.tables (vtl_of vtl) gpn ≡ overlay_in buffers.tables (vtl_of vtl) gpn

abbrev pub DefaultVisits : Type 0
DefaultVisits =
    (buffers : Buffers) (vtl flags : ℕ) (answers : List BackendAnswer) → TakesDefault buffers vtl flags → InOrder buffers → (default_whole (stored_in buffers vtl flags) (vtl_of vtl) flags answers).whole.status ≡ Ok
    → DefaultPages buffers vtl (default_call buffers vtl flags answers)

-- ---- the permission maps page by page, of whole calls on any maps

-- a return of `pages` that failed at place i of its list (16): the page there wasn't processed, those before it were
pub record DoneBefore (pages places : List ℕ) (i : ℕ) (holds : List ℕ → Type 0) : Type 0 where
  pub count : ℕ
  pub below : count < length pages
  pub place : get_or places count 0 ≡ i
  pub done : holds (take count pages)

pub record PermissionMaps : Type 0 where
  pub protection : (tracked : Bool) (vtl : GuestVtl) (flags : HvMapGpaFlags) (pages : List ℕ) (maps : Maps) (answers : List BackendAnswer) → (whole_pages tracked vtl flags pages maps answers).status ≡ Ok
      → Leaves tracked vtl (within (among pages)) flags maps (whole_pages tracked vtl flags pages maps answers).maps
  pub default : (tracked : Bool) (vtl : GuestVtl) (flags : HvMapGpaFlags) (entries : List MemoryRangeWithNode) (overlay : ℕ → Bool) (maps : Maps) (answers : List BackendAnswer)
      → (whole_ram tracked vtl flags entries overlay maps answers).status ≡ Ok → Leaves tracked vtl (within (taken_ram entries maps.private overlay)) flags maps (whole_ram tracked vtl flags entries overlay maps answers).maps
  -- a return that ends in Ok or 16 leaves VTL0's default at the pages that were processed
  pub return_ok : (settings : Settings) (pages places : List ℕ) (maps : Maps) (answers : List BackendAnswer) → (whole_return settings pages places maps answers).status ≡ Ok
      → PermitsFor settings.tracked Vtl0 (within (among pages)) settings.defaults.vtl0 maps.permissions (whole_return settings pages places maps answers).maps.permissions
  pub return_16 : (settings : Settings) (pages places : List ℕ) (maps : Maps) (answers : List BackendAnswer) (code i : ℕ) → (whole_return settings pages places maps answers).status ≡ FailedAt code i
      → DoneBefore pages places i (λ processed. PermitsFor settings.tracked Vtl0 (within (among processed)) settings.defaults.vtl0 maps.permissions (whole_return settings pages places maps answers).maps.permissions)
  -- a share clears, at the call, and its Protects write none: under any answers
  pub share : (settings : Settings) (vtl : GuestVtl) (pages : List ℕ) (end : Status) (maps : Maps) (answers : List BackendAnswer)
      → PermitsFor settings.tracked vtl (within (among pages)) no_flags maps.permissions (whole_share settings vtl pages end maps answers).maps.permissions

-- and of calls as they are made in a layout that fits: there the maps have every page of RAM, and any other page is refused by 7

pub record PermissionsLeft : Type 0 where
  pub protection : (buffers : Buffers) (vtl flags : ℕ) (list : List ℕ) (answers : List BackendAnswer) → TakesProtection buffers vtl flags list → FitLayout buffers → (protection_whole buffers (vtl_of vtl) flags list answers).whole.status ≡ Ok
      → Leaves (tracked_in buffers) (vtl_of vtl) (all (among (pages_of list))) (flags_of flags) buffers.maps (protection_call buffers vtl flags list answers).last.buffers.maps
  pub default : (buffers : Buffers) (vtl flags : ℕ) (answers : List BackendAnswer) → TakesDefault buffers vtl flags → FitLayout buffers → (default_whole (stored_in buffers vtl flags) (vtl_of vtl) flags answers).whole.status ≡ Ok
      → Leaves (tracked_in buffers) (vtl_of vtl) (all (taken_ram (entries_in buffers.state) buffers.maps.private (overlay_in buffers.tables (vtl_of vtl)))) (flags_of flags) buffers.maps
      (default_call buffers vtl flags answers).last.buffers.maps
  pub return_ok : (buffers : Buffers) (vtl visibility : ℕ) (list : List ℕ) (answers : List BackendAnswer) → TakesVisibility buffers vtl visibility list → FitLayout buffers → bool_of visibility ≡ false
      → (whole_of buffers (vtl_of vtl) false list answers).status ≡ Ok
      → PermitsFor (tracked_in buffers) Vtl0 (all (among (requested_pages buffers (vtl_of vtl) false list))) (settings_of buffers.state).defaults.vtl0 buffers.maps.permissions
      (visibility_call buffers vtl visibility list answers).last.buffers.maps.permissions
  pub return_16 : (buffers : Buffers) (vtl visibility : ℕ) (list : List ℕ) (answers : List BackendAnswer) (code i : ℕ) → TakesVisibility buffers vtl visibility list → FitLayout buffers → bool_of visibility ≡ false
      → (whole_of buffers (vtl_of vtl) false list answers).status ≡ FailedAt code i
      → DoneBefore (requested_pages buffers (vtl_of vtl) false list) (requested_places buffers (vtl_of vtl) false list) i
      (λ processed. PermitsFor (tracked_in buffers) Vtl0 (all (among processed)) (settings_of buffers.state).defaults.vtl0 buffers.maps.permissions (visibility_call buffers vtl visibility list answers).last.buffers.maps.permissions)
  pub share : (buffers : Buffers) (vtl visibility : ℕ) (list : List ℕ) (answers : List BackendAnswer) → TakesVisibility buffers vtl visibility list → FitLayout buffers → bool_of visibility ≡ true
      → PermitsFor (tracked_in buffers) (vtl_of vtl) (all (among (requested_pages buffers (vtl_of vtl) true list))) no_flags buffers.maps.permissions
      (visibility_call buffers vtl visibility list answers).last.buffers.maps.permissions

-- ---- an overlay call whose Protect fails: 16, OperationDenied, one operation; the entries are unchanged; of guest memory (source 0) the permission maps are written, a Dma
-- page being in none

pub record OverlayFails (buffers : Buffers) (vtl : GuestVtl) (flags : HvMapGpaFlags) (gpn source : ℕ) (told : Told) : Type 0 where
  pub reply : told.last.reply ≡ finished refusal.backend_failed operation_denied 0 1
  pub tables : told.last.buffers.tables ≡ buffers.tables
  pub maps : Leaves (tracked_in buffers && eqb source 0) vtl (within (bits.one gpn)) flags buffers.maps told.last.buffers.maps

pub record Failures : Type 0 where
  pub register : (buffers : Buffers) (vtl gpn source checked new code processed : ℕ) (answers : List BackendAnswer) → TakesRegister buffers vtl gpn source checked new
      → overlay_in buffers.tables (vtl_of vtl) gpn ≡ false → ltb new flags_end ≡ true
      → OverlayFails buffers (vtl_of vtl) (flags_of new) gpn source (register_call buffers vtl gpn source checked new (Fails code processed ∷ answers))
  pub unregister : (buffers : Buffers) (vtl gpn code processed : ℕ) (answers : List BackendAnswer) → TakesUnregister buffers vtl gpn → ltb 1 (entry_in buffers.tables (vtl_of vtl) gpn).ref_count ≡ false
      → OverlayFails buffers (vtl_of vtl) (flags_of (entry_in buffers.tables (vtl_of vtl) gpn).previous_permissions) gpn (entry_in buffers.tables (vtl_of vtl) gpn).gpn_source
      (unregister_call buffers vtl gpn (Fails code processed ∷ answers))
