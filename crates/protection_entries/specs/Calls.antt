-- The protection change and the default change, each as a definition of what it gives (01, "Defaults", "The request under way", its last paragraph,
-- refusals 4, 5, 7, 8, 10 to 12, 19 and 20, and the order of refusals).
use Rattle.std.specs.Prelude.{Bool, true, cond, List, ℕ, ◌+◌, length, set}
use Rattle.abi.specs.Places as place
use Rattle.abi.specs.Refusals as refusal
use Rattle.bitmap.specs.Pages.{bit_at}
use Rattle.laws.specs.Refusal.{unless, when, first}
use Rattle.permissions.specs.declared.GuestVtl.{GuestVtl}
use Rattle.permissions.specs.Flags.{fit_vtl, vtl_of, vtl_number, fit_flags}
use Rattle.page_list.specs.declared.PageRun.{PageRun}
use Rattle.page_list.specs.Pages.{pages_of, is_long, is_ragged}
use Rattle.request_pages.specs.Request.{table_of}
use Rattle.default_change.specs.Pieces.{next_piece}
use Rattle.default_change.specs.Barred as barring
use Rattle.default_change.specs.Renewed.{renewed}
use Rattle.change_steps.specs.declared.ChangeStep.{ChangeStep}
use Rattle.change_steps.specs.Changes as changes
use Rattle.protector_state.specs.State.{settings_of, entries_in}
use Rattle.call_refusals.specs.Buffers.{Buffers, Outcome, buffers, overlays_of, locks_of, fits}
use Rattle.protector.specs.Writes.{with_overlays}
use Rattle.protector.specs.Calls.{decided, refused_by, carried_change}
use Rattle.call_refusals.specs.Refusals.{ready, page_refusal, first_refusal}

-- ---- a default change: 4, 20, 19, 4, 8

unfoldable pub default_refusal : List ℕ → Bool → ℕ → ℕ → ℕ
default_refusal state fit vtl flags =
    ready state fit
    (unless (fit_vtl vtl) refusal.unfit_number
    (unless (fit_flags flags) refusal.unfit_number
    0))

-- the default is stored before locks are looked at ("Defaults"): that of VTL1 stands behind that of VTL0
abbrev pub stored_default : List ℕ → GuestVtl → ℕ → List ℕ
stored_default state vtl flags = set state (place.default0 + vtl_number vtl) flags

abbrev pub stored : Buffers → GuestVtl → ℕ → Buffers
stored lent vtl flags = buffers lent.maps (stored_default lent.state vtl flags) lent.pages lent.tables

-- 10: a private RAM page without an overlay is locked, in the target VTL
abbrev pub barred : List ℕ → List ℕ → List ℕ → GuestVtl → Bool
barred private state tables vtl = barring.barred private (overlays_of tables vtl) (locks_of tables vtl) (entries_in state)

-- the target VTL's overlays on private RAM pages get the new previous permissions, before the first Protect
abbrev pub renewed_tables : List ℕ → List ℕ → List ℕ → GuestVtl → ℕ → List ℕ
renewed_tables private state tables vtl flags = with_overlays tables vtl (renewed private (entries_in state) flags (overlays_of tables vtl))

abbrev pub renewed_in : Buffers → GuestVtl → ℕ → Buffers
renewed_in lent vtl flags = buffers lent.maps lent.state lent.pages (renewed_tables lent.maps.private lent.state lent.tables vtl flags)

-- the first piece is looked for from page 0 on
abbrev pub first_piece : List ℕ → List ℕ → List ℕ → GuestVtl → PageRun
first_piece private state tables vtl = next_piece private (overlays_of tables vtl) (entries_in state) 0

abbrev pub default_step : List ℕ → List ℕ → List ℕ → GuestVtl → ℕ → ChangeStep
default_step private state tables vtl flags = changes.start_ram (settings_of state).tracked vtl flags (first_piece private state tables vtl)

unfoldable pub default_started : Buffers → GuestVtl → ℕ → Outcome
default_started lent vtl flags = carried_change lent lent.pages (default_step lent.maps.private lent.state lent.tables vtl flags)

-- once the default is stored: a refusal by 10 leaves it
unfoldable pub default_taken : Buffers → GuestVtl → ℕ → Outcome
default_taken lent vtl flags = cond (barred lent.maps.private lent.state lent.tables vtl) (refused_by lent refusal.locked) (default_started (renewed_in lent vtl flags) vtl flags)

unfoldable pub default_of : Buffers → ℕ → ℕ → Outcome
default_of lent vtl flags = decided lent (default_refusal lent.state (fits lent) vtl flags) (default_taken (stored lent (vtl_of vtl) flags) (vtl_of vtl) flags)

-- ---- a protection change: 4, 20, 19, 4, 5, 8; each page in turn, 7, 10 and 11 as of a page to be shared; then 12 where any page is shared

abbrev pub any_shared : List ℕ → List ℕ → Bool
any_shared shared ps = barring.any_of (bit_at 8 shared) ps

abbrev pub each_refusal : List ℕ → List ℕ → GuestVtl → List ℕ → ℕ
each_refusal state tables vtl list = first_refusal (page_refusal (entries_in state) (overlays_of tables vtl) (locks_of tables vtl) true) (pages_of list)

abbrev pub pages_refusal : List ℕ → List ℕ → List ℕ → GuestVtl → List ℕ → ℕ
pages_refusal state shared tables vtl list =
    first (each_refusal state tables vtl list)
    (when (any_shared shared (pages_of list)) refusal.shared
    0)

unfoldable pub protection_refusal : List ℕ → Bool → List ℕ → List ℕ → ℕ → ℕ → List ℕ → ℕ
protection_refusal state fit shared tables vtl flags list =
    ready state fit
    (when (is_long list) refusal.long_list
    (unless (fit_vtl vtl) refusal.unfit_number
    (unless (fit_flags flags) refusal.unfit_number
    (when (is_ragged list) refusal.unfit_number
    (pages_refusal state shared tables (vtl_of vtl) list)))))

-- all listed pages with their places, in list order
abbrev pub all_listed : List ℕ → List ℕ → List ℕ
all_listed list pages = table_of (λ p. true) (pages_of list) pages

abbrev pub protection_step : List ℕ → List ℕ → GuestVtl → ℕ → ℕ → ChangeStep
protection_step state pages vtl flags count = changes.start_pages (settings_of state).tracked vtl flags count pages

unfoldable pub protection_taken : Buffers → GuestVtl → ℕ → List ℕ → Outcome
protection_taken lent vtl flags list = carried_change lent (all_listed list lent.pages) (protection_step lent.state (all_listed list lent.pages) vtl flags (length (pages_of list)))

unfoldable pub protection_of : Buffers → ℕ → ℕ → List ℕ → Outcome
protection_of lent vtl flags list =
    decided lent (protection_refusal lent.state (fits lent) lent.maps.shared lent.tables vtl flags list) (protection_taken lent (vtl_of vtl) flags list)
