-- The rows of what lies above the last page and in holes, computed. Assumes nothing.
use mathlib.Core.Path.{refl}
use Rattle.bitmap.specs.Pages.{word, written_from}
use Rattle.layout.specs.Layout.{entries_of, ram_byte}
use Rattle.permissions.specs.Rmpadjust.{operand_of}
use Rattle.access.specs.Query.{access_permission, lower_vtl_permissions}
use Rattle.fault.specs.Fault.{fault_of, fault_refusal, page_fault}
use Rattle.page_list.specs.Pages.{number_of, number_at, numbers_from, among, repeats}
use Rattle.page_list.specs.Runs.{neighbours, run_at}
use Rattle.request_pages.specs.Request.{pick, pick_places, table_of, stop_at, run_end, put}
use Rattle.overlay_table.specs.Overlays.{place_from}
use Rattle.lock_table.specs.Locks.{lists_from}
use Rattle.default_change.specs.Barred.{any_of}
use Rattle.visibility_steps.specs.Steps.{operation_of, ask, keep, cleared, start_of}
use Rattle.change_steps.specs.Changes as changes
use Rattle.change_steps.specs.Changes.{protect, wait, protect_pages, start_new}
use Rattle.protector_state.specs.State.{first_phases, phase_of}
use Rattle.protector_state.specs.Reply.{asked_of, flat_of}
use Rattle.protector_state.specs.Changing.{stage_of}
use Rattle.protector.specs.Writes.{applied, entered}
use Rattle.protector.specs.Calls.{carried_out, carried_change, visibility_taken, visibility_of}
use Rattle.call_refusals.specs.Refusals.{ready, first_refusal, visibility_refusal}
use Rattle.protection_entries.specs.Calls.{protection_refusal, protection_taken, protection_of}
use Rattle.overlay_refusals.specs.Refusals.{call_refusal, within, guest_refusal, dma_refusal, page_refusal, register_refusal, current_of}
use Rattle.overlay_entries.specs.Calls.{register_taken, register_of}
use Rattle.queries.specs.Queries.{query_refusal, visibilities, filled_by, query_of, fault_in, lower_in, access_in}
use Rattle.worked.specs.Past.{PastFaults, PastPermissions, PastLists}

pub past_faults : PastFaults
unfolding word written_from entries_of ram_byte fault_of fault_refusal page_fault number_of number_at numbers_from among repeats neighbours run_at pick pick_places
    table_of stop_at run_end put place_from lists_from operation_of ask keep cleared start_of first_phases phase_of asked_of flat_of applied carried_out first_refusal ready
    visibility_refusal visibility_taken visibility_of fault_in
past_faults =
    record {
      encrypted = refl;
      encrypted_write = refl;
      encrypted_untracked = refl;
      encrypted_untracked_write = refl;
      encrypted_waiting = refl;
      shared = refl;
      shared_write = refl;
      shared_untracked = refl;
      denied_read = refl;
      denied_kernel = refl;
      denied_user = refl;
      denied_write = refl;
      unfailed = refl;
      unfailed_shared = refl;
      unfailed_untracked = refl;
      unfailed_untracked_shared = refl;
      mapping_2 = refl;
      length = refl;
    }

pub past_permissions : PastPermissions
unfolding entries_of ram_byte access_permission lower_vtl_permissions fault_of fault_refusal page_fault fault_in lower_in access_in
past_permissions =
    record {
      lower_vtl0 = refl;
      access = refl;
      lower_vtl1 = refl;
      lower_untracked = refl;
      lower_untracked_vtl1 = refl;
      access_untracked = refl;
      access_length = refl;
      lower_vtl2 = refl;
      lower_length = refl;
      hole_vtl0 = refl;
      hole_vtl1 = refl;
      hole_untracked = refl;
      gaps_holes = refl;
      gaps_holes_vtl1 = refl;
      gaps_ram = refl;
      gaps_past = refl;
      hole_access = refl;
      hole_fault = refl;
      hole_fault_shared = refl;
      unaligned_vtl0 = refl;
      unaligned_vtl1 = refl;
      lent = record { long = refl; fits = refl };
      inside = refl;
      outside = refl;
    }

pub past_lists : PastLists
unfolding word written_from entries_of ram_byte operand_of number_of number_at numbers_from among repeats neighbours run_at pick pick_places table_of stop_at run_end put
    place_from lists_from any_of operation_of ask keep cleared start_of protect changes.ask changes.keep wait protect_pages start_new first_phases phase_of asked_of flat_of stage_of applied entered
    carried_out carried_change first_refusal ready visibility_refusal visibility_taken visibility_of protection_refusal protection_taken protection_of call_refusal within guest_refusal
    dma_refusal page_refusal register_refusal current_of register_taken register_of query_refusal visibilities filled_by query_of
past_lists =
    record {
      share = refl;
      share_vtl1 = refl;
      share_untracked = refl;
      return = refl;
      return_vtl1 = refl;
      protect = refl;
      protect_vtl1 = refl;
      protect_untracked = refl;
      query = refl;
      share_keeps = refl;
      protect_keeps = refl;
      overlay = refl;
      overlay_checked = refl;
      overlay_new = refl;
      overlay_vtl1 = refl;
      overlay_vtl1_checked = refl;
      overlay_untracked = refl;
      overlay_untracked_vtl1 = refl;
      overlay_keeps = refl;
      dma_vtl0 = refl;
      dma_vtl1 = refl;
      dma_untracked = refl;
      dma_vtl1_entry = refl;
      dma_untracked_entry = refl;
    }
