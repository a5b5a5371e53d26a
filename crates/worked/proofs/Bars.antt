-- The rows of what bars a call, of locks, of the visibility query and of turns, computed. Assumes nothing.
use mathlib.Core.Path.{refl}
use Rattle.bitmap.specs.Pages.{word, written_from}
use Rattle.words.specs.Words.{closed, closed_to, swapped}
use Rattle.layout.specs.Layout.{entries_of, ram_byte}
use Rattle.permissions.specs.Rmpadjust.{operand_of}
use Rattle.access.specs.Query.{access_permission, lower_vtl_permissions}
use Rattle.fault.specs.Fault.{fault_of, fault_refusal, page_fault}
use Rattle.page_list.specs.Pages.{number_of, number_at, numbers_from, among, repeats}
use Rattle.page_list.specs.Runs.{neighbours, run_at}
use Rattle.request_pages.specs.Request.{pick, pick_places, table_of, stop_at, run_end, put}
use Rattle.overlay_table.specs.Overlays.{place_from}
use Rattle.lock_table.specs.Locks.{lists_from, same, kept, equal_from, moved, without}
use Rattle.default_change.specs.Pieces.{span, next_of}
use Rattle.default_change.specs.Barred.{any_of}
use Rattle.default_change.specs.Renewed.{renewed_from}
use Rattle.visibility_steps.specs.Steps.{operation_of, ask, end, halt, keep, share_run, default_run, return_run, after_flush, after_wait, after_modify, after_accept, failed_modify, done_of, failed_of, cleared, start_of}
use Rattle.change_steps.specs.Changes as changes
use Rattle.change_steps.specs.Changes.{protect, wait, finish, protect_pages, protect_ram, start_new, start_old}
use Rattle.protector_state.specs.State.{first_phases, phase_of}
use Rattle.protector_state.specs.Reply.{asked_of, flat_of}
use Rattle.protector_state.specs.Changing.{stage_of}
use Rattle.protector.specs.Writes.{applied, entered}
use Rattle.protector.specs.Calls.{carried_out, carried_change, visibility_taken, visibility_of, after_done, after_failed, answer_done, answer_failed}
use Rattle.call_refusals.specs.Refusals.{ready, first_refusal, visibility_refusal, answer_refusal}
use Rattle.protection_entries.specs.Calls.{protection_refusal, protection_taken, protection_of, default_refusal, default_started, default_taken, default_of}
use Rattle.lock_entries.specs.Calls.{lock_refusal, lock_of, unlock_of}
use Rattle.setting_entries.specs.Calls.{enable_refusal, enable_of, enabled_in, default_in}
use Rattle.overlay_refusals.specs.Refusals.{call_refusal, within, known_refusal, guest_refusal, dma_refusal, page_refusal, register_refusal, current_of, unregister_refusal}
use Rattle.overlay_entries.specs.Calls.{is_overlay_in, register_taken, register_of, unregister_taken, unregister_of}
use Rattle.queries.specs.Queries.{query_refusal, visibilities, filled_by, query_of, fault_in, lower_in, access_in}
use Rattle.visibility_claims.specs.Calls.{follow}
use Rattle.worked.specs.Bars.{Bars, Locks, Queries, Turns}

pub bars : Bars
unfolding word written_from closed closed_to swapped entries_of ram_byte operand_of number_of number_at numbers_from among repeats neighbours run_at pick
    pick_places table_of stop_at run_end put place_from lists_from same kept equal_from moved without span next_of any_of renewed_from
    operation_of ask end halt keep share_run default_run return_run after_flush after_wait after_modify after_accept failed_modify done_of failed_of cleared
    start_of protect changes.ask wait finish changes.halt changes.keep protect_pages protect_ram changes.done_of changes.failed_of start_new start_old
    first_phases phase_of asked_of flat_of stage_of applied entered carried_out carried_change first_refusal ready visibility_refusal visibility_taken visibility_of
    answer_refusal after_done after_failed answer_done answer_failed protection_refusal protection_taken protection_of default_refusal default_started
    default_taken default_of lock_refusal lock_of unlock_of call_refusal within known_refusal guest_refusal dma_refusal page_refusal register_refusal current_of
    unregister_refusal is_overlay_in register_taken register_of unregister_taken unregister_of follow
bars =
    record {
      held0_made = refl;
      held1_made = refl;
      share_own = refl;
      share_own_vtl1 = refl;
      share_other = refl;
      share_other_vtl0 = refl;
      return_own = refl;
      return_own_vtl1 = refl;
      return_other = refl;
      return_other_vtl0 = refl;
      protect_own = refl;
      protect_own_vtl1 = refl;
      protect_other = refl;
      protect_other_vtl0 = refl;
      register_own = refl;
      register_locked = refl;
      register_other = refl;
      register_other_locked = refl;
      register_vtl1_locked = refl;
      register_dma_locked = refl;
      locked = refl;
      overlaid_page = refl;
      hole = refl;
      each_list = refl;
      overlay_first = refl;
      locked_first = refl;
      hole_first = refl;
      protect_overlay_first = refl;
      again_locked = refl;
      default_own = refl;
      default_own_vtl1 = refl;
      default_keeps_vtl1 = refl;
      default_keeps_vtl0 = refl;
      default_first_list = refl;
      default_other = refl;
      default_other_vtl0 = refl;
      default_overlay = refl;
      default_shared = refl;
      default_hole = refl;
    }

pub locks : Locks
unfolding closed closed_to swapped number_of number_at numbers_from lists_from same kept equal_from moved without among first_phases phase_of
    ready lock_refusal lock_of unlock_of
locks =
    record {
      lists_made = refl;
      first_equal = refl;
      last_itself = refl;
      last_moved = refl;
      reordered = refl;
      part = refl;
      other_vtl = refl;
      any_page = refl;
      vtl_2 = refl;
      over = refl;
      past_64 = refl;
    }

pub queries : Queries
unfolding entries_of ram_byte number_of number_at numbers_from stop_at first_phases phase_of ready query_refusal visibilities filled_by query_of
queries =
    record {
      marks = refl;
      short = refl;
      none = refl;
      long = refl;
      hole = refl;
      past = refl;
      over = refl;
      length = refl;
    }

pub turns : Turns
unfolding word written_from closed closed_to swapped entries_of ram_byte operand_of access_permission lower_vtl_permissions fault_of fault_refusal
    page_fault number_of number_at numbers_from among repeats neighbours run_at pick pick_places table_of stop_at run_end put place_from lists_from same kept equal_from moved without span next_of any_of renewed_from operation_of ask end halt keep share_run default_run return_run after_flush
    after_wait after_modify after_accept failed_modify done_of failed_of cleared start_of protect changes.ask wait finish changes.halt changes.keep
    protect_pages protect_ram changes.done_of changes.failed_of start_new start_old first_phases phase_of asked_of flat_of stage_of applied entered carried_out
    carried_change first_refusal ready visibility_refusal visibility_taken visibility_of answer_refusal after_done after_failed answer_done answer_failed
    protection_refusal protection_taken protection_of default_refusal default_started default_taken default_of lock_refusal lock_of unlock_of
    enable_refusal enable_of enabled_in default_in call_refusal within known_refusal guest_refusal dma_refusal page_refusal register_refusal current_of
    unregister_refusal is_overlay_in register_taken register_of unregister_taken unregister_of query_refusal visibilities filled_by query_of fault_in lower_in
    access_in follow
turns =
    record {
      busy_19 = refl;
      halted_20 = refl;
      idle_input = refl;
      busy_passes = refl;
      halted_passes = refl;
      busy_keeps = refl;
      busy_short = refl;
      halted_short = refl;
      idle_short = refl;
      busy_short_map = refl;
      busy_longer = refl;
      halted_longer = refl;
      idle_shorter = refl;
      halted_longer_done = refl;
      busy_untracked = refl;
      halted_short_done = refl;
      idle_short_done = refl;
      busy_short_failed = refl;
      halted_done = refl;
      halted_failed = refl;
      halted_maps = refl;
    }
