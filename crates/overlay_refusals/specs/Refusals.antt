-- What refuses the calls on overlay pages (01, "Overlays and locks", "From the input" 4, 7 and 8, "From the state" 10, 12 to 14, 17, 19 and 20, and the
-- order of refusals).
use Rattle.std.specs.Prelude.{Bool, true, cond, ◌&&◌, List, ℕ, ◌+◌, ltb}
use Rattle.abi.specs.Flags as bits
use Rattle.abi.specs.Limits as limit
use Rattle.abi.specs.Refusals as refusal
use Rattle.laws.specs.Refusal.{unless, when}
use Rattle.bitmap.specs.Pages.{bit_at}
use Rattle.layout.specs.declared.MemoryRangeWithNode.{MemoryRangeWithNode}
use Rattle.layout.specs.Layout.{is_ram}
use Rattle.permissions.specs.declared.GuestVtl.{GuestVtl}
use Rattle.permissions.specs.declared.HvMapGpaFlags.{HvMapGpaFlags}
use Rattle.permissions.specs.Flags.{fit_vtl, vtl_of, fit_flags, flags_of, no_flags, fit_bool, bool_of}
use Rattle.mapping.specs.Maps.{Permissions}
use Rattle.access.specs.Query.{lower_flags}
use Rattle.overlay_table.specs.declared.OverlayPage.{OverlayPage}
use Rattle.overlay_table.specs.Overlays.{is_overlay, place_of, entry_at, add_code}
use Rattle.protector_state.specs.State.{settings_of, entries_in}
use Rattle.call_refusals.specs.Buffers.{overlays_of, locks_of, is_locked}
use Rattle.call_refusals.specs.Refusals.{ready}

-- ---- what all of them test first: 4 of the state, 20, 19, 4 of what else is lent, 8 of the VTL

unfoldable pub call_refusal : List ℕ → Bool → ℕ → ℕ → ℕ
call_refusal state fit vtl rest =
    ready state fit
    (unless (fit_vtl vtl) refusal.unfit_number
    rest)

-- ---- unregister_overlay_page: 14

unfoldable pub unregister_refusal : List ℕ → Bool → List ℕ → ℕ → ℕ → ℕ
unregister_refusal state fit tables vtl gpn = call_refusal state fit vtl (unless (is_overlay (overlays_of tables (vtl_of vtl)) gpn) refusal.no_overlay 0)

-- ---- register_overlay_page: a source as it crosses, guest memory 0 and Dma 1; new flags, 16 where none are given

abbrev pub flags_refusal : ℕ → ℕ → ℕ → ℕ → ℕ
flags_refusal source checked new rest =
    unless (fit_bool source) refusal.unfit_number
    (unless (fit_flags checked) refusal.unfit_number
    (unless (ltb new (bits.no_flags + 1)) refusal.unfit_number
    rest))

-- each flag that is needed is among a page's own
abbrev pub holds : Bool → Bool → Bool
holds own needed = cond needed own true

unfoldable pub within : HvMapGpaFlags → HvMapGpaFlags → Bool
within own needed =
    holds own.readable needed.readable
    && (holds own.writable needed.writable
    && (holds own.kernel_executable needed.kernel_executable && holds own.user_executable needed.user_executable))

-- a known page: the new flags, else the checked, within the overlay's own; then room in its count
abbrev pub needed_of : ℕ → ℕ → ℕ
needed_of checked new = cond (ltb new bits.no_flags) new checked

unfoldable pub known_refusal : OverlayPage → ℕ → ℕ → ℕ
known_refusal entry checked new =
    unless (within (flags_of entry.overlay_permissions) (flags_of (needed_of checked new))) refusal.narrow
    (unless (ltb entry.ref_count limit.ref_count_limit) refusal.full
    0)

-- a new page of guest memory: 7, 13 unless its current flags hold the checked, 12 where it is shared, 10, 17
unfoldable pub guest_refusal : List MemoryRangeWithNode → List ℕ → List ℕ → List ℕ → ℕ → HvMapGpaFlags → ℕ → ℕ
guest_refusal es shared overlays locks gpn current checked =
    unless (is_ram es gpn) refusal.not_ram
    (unless (within current (flags_of checked)) refusal.narrow
    (when (bit_at 8 shared gpn) refusal.shared
    (when (is_locked overlays locks gpn) refusal.locked
    (add_code overlays))))

-- a new Dma page: 7 where it is RAM, 10, 17
unfoldable pub dma_refusal : List MemoryRangeWithNode → List ℕ → List ℕ → ℕ → ℕ
dma_refusal es overlays locks gpn =
    when (is_ram es gpn) refusal.not_ram
    (when (is_locked overlays locks gpn) refusal.locked
    (add_code overlays))

unfoldable pub page_refusal : List MemoryRangeWithNode → List ℕ → List ℕ → List ℕ → ℕ → ℕ → HvMapGpaFlags → ℕ → ℕ → ℕ
page_refusal es shared overlays locks gpn source current checked new =
    cond (is_overlay overlays gpn) (known_refusal (entry_at overlays (place_of overlays gpn)) checked new)
    (cond (bool_of source) (dma_refusal es overlays locks gpn) (guest_refusal es shared overlays locks gpn current checked))

unfoldable pub register_refusal : List ℕ → Bool → List ℕ → List ℕ → HvMapGpaFlags → ℕ → ℕ → ℕ → ℕ → ℕ → ℕ
register_refusal state fit shared tables current vtl gpn source checked new =
    call_refusal state fit vtl
    (flags_refusal source checked new
    (page_refusal (entries_in state) shared (overlays_of tables (vtl_of vtl)) (locks_of tables (vtl_of vtl)) gpn source current checked new))

-- the flags that a page has: a Dma page none, guest memory those of the VTL
unfoldable pub current_of : List ℕ → Permissions → GuestVtl → ℕ → ℕ → HvMapGpaFlags
current_of state maps vtl gpn source = cond (bool_of source) no_flags (lower_flags maps (settings_of state).tracked vtl gpn)
