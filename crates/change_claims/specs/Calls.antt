-- The whole calls on what the protector is lent, and what it is for the calls to give the same.
use Rattle.std.specs.Prelude.{◌≡◌, Bool, true, false, cond, List, ℕ, ◌+◌, ◌-◌, eqb, ltb, drop}
use Rattle.abi.specs.Flags.{flags_end}
use Rattle.abi.specs.Places as place
use Rattle.permissions.specs.declared.GuestVtl.{GuestVtl}
use Rattle.permissions.specs.declared.IsolationType.{IsolationType}
use Rattle.permissions.specs.Flags.{flags_of, bits_of}
use Rattle.page_list.specs.Pages.{pages_of}
use Rattle.overlay_table.specs.declared.OverlayPage.{OverlayPage}
use Rattle.overlay_table.specs.Overlays.{is_overlay, entry, add_words}
use Rattle.protector_state.specs.State.{settings_of, entries_in}
use Rattle.call_refusals.specs.Buffers.{Buffers, overlays_of}
use Rattle.protector.specs.Writes.{with_overlays, without_page}
use Rattle.protection_entries.specs.Calls.{renewed_tables}
use Rattle.overlay_entries.specs.Calls.{entry_in, recounted, current_in}
use Rattle.visibility_claims.specs.Whole.{BackendAnswer, Ok, stands}
use Rattle.visibility_claims.specs.Runs.{Ran}
use Rattle.visibility_claims.specs.Calls.{Told, replies, Says}
use Rattle.change_claims.specs.Whole.{Change, change, whole_pages, whole_ram, whole_entry, whole_overlay, once_done}

abbrev pub tracked_in : Buffers → Bool
tracked_in buffers = (settings_of buffers.state).tracked

-- ---- change_vtl_protections

abbrev pub protection_whole : Buffers → GuestVtl → ℕ → List ℕ → List BackendAnswer → Change
protection_whole buffers vtl flags list answers = change (whole_pages (tracked_in buffers) vtl (flags_of flags) (pages_of list) buffers.maps answers) buffers.tables

-- ---- change_default_vtl_protections: the target VTL's overlays on private RAM pages have the new previous permissions at once

abbrev pub renewed_for : Buffers → GuestVtl → ℕ → List ℕ
renewed_for buffers vtl flags = renewed_tables buffers.maps.private buffers.state buffers.tables vtl flags

-- the pages that are overlays of a VTL: renewing leaves them
abbrev pub overlay_in : List ℕ → GuestVtl → ℕ → Bool
overlay_in tables vtl gpn = is_overlay (overlays_of tables vtl) gpn

abbrev pub default_whole : Buffers → GuestVtl → ℕ → List BackendAnswer → Change
default_whole buffers vtl flags answers =
    change (whole_ram (tracked_in buffers) vtl (flags_of flags) (entries_in buffers.state) (overlay_in buffers.tables vtl) buffers.maps answers) (renewed_for buffers vtl flags)

-- ---- register_overlay_page, unregister_overlay_page

-- one entry more, or the page's first less
abbrev pub added_to : List ℕ → GuestVtl → OverlayPage → List ℕ
added_to tables vtl entry = with_overlays tables vtl (add_words (overlays_of tables vtl) entry)

abbrev pub removed_from : List ℕ → GuestVtl → ℕ → List ℕ
removed_from tables vtl gpn = with_overlays tables vtl (without_page (overlays_of tables vtl) gpn)

-- a count changed, with no operation
abbrev pub count_whole : Buffers → GuestVtl → ℕ → ℕ → Change
count_whole buffers vtl gpn count = change (stands buffers.maps Ok) (recounted buffers.tables vtl gpn count)

-- a new page: with new flags, and with none
abbrev pub new_whole : Buffers → GuestVtl → ℕ → ℕ → ℕ → List BackendAnswer → Bool → Change
new_whole buffers vtl gpn source new answers true =
    change (whole_overlay (tracked_in buffers) (eqb source 0) vtl (flags_of new) gpn buffers.maps answers)
    (once_done answers buffers.tables (added_to buffers.tables vtl (entry gpn (bits_of (current_in buffers vtl gpn source)) new 1 source)))
new_whole buffers vtl gpn source new answers false =
    change (whole_entry (tracked_in buffers) vtl buffers.maps answers)
    (added_to buffers.tables vtl (entry gpn (bits_of (current_in buffers vtl gpn source)) (bits_of (current_in buffers vtl gpn source)) 1 source))

abbrev pub register_whole : Buffers → GuestVtl → ℕ → ℕ → ℕ → List BackendAnswer → Change
register_whole buffers vtl gpn source new answers =
    cond (is_overlay (overlays_of buffers.tables vtl) gpn) (count_whole buffers vtl gpn ((entry_in buffers.tables vtl gpn).ref_count + 1))
    (new_whole buffers vtl gpn source new answers (ltb new flags_end))

abbrev pub old_whole : Buffers → GuestVtl → ℕ → OverlayPage → List BackendAnswer → Change
old_whole buffers vtl gpn entry answers =
    change (whole_overlay (tracked_in buffers) (eqb entry.gpn_source 0) vtl (flags_of entry.previous_permissions) gpn buffers.maps answers)
    (once_done answers buffers.tables (removed_from buffers.tables vtl gpn))

abbrev pub unregister_whole : Buffers → GuestVtl → ℕ → List BackendAnswer → Change
unregister_whole buffers vtl gpn answers =
    cond (ltb 1 (entry_in buffers.tables vtl gpn).ref_count) (count_whole buffers vtl gpn ((entry_in buffers.tables vtl gpn).ref_count - 1))
    (old_whole buffers vtl gpn (entry_in buffers.tables vtl gpn) answers)

-- ---- the same operations, maps, tables and answer; the request's pages stay `pages`, settings and layout as in `rest`

pub record Agrees (rest pages : List ℕ) (isolation : IsolationType) (ran : Ran) (tables : List ℕ) (told : Told) : Type 0 where
  pub same_asked : told.asked ≡ replies isolation ran.asked
  pub same_maps : told.last.buffers.maps ≡ ran.maps
  pub same_reply : Says isolation ran.last told.last.reply
  pub same_pages : told.last.buffers.pages ≡ pages
  pub same_tables : told.last.buffers.tables ≡ tables
  pub same_rest : drop place.after_change told.last.buffers.state ≡ rest
