-- The rows of visibility changes, computed. Assumes nothing.
use mathlib.Core.Path.{refl}
use Rattle.bitmap.specs.Pages.{word, written_from}
use Rattle.words.specs.Words.{closed, closed_to}
use Rattle.layout.specs.Layout.{entries_of, ram_byte}
use Rattle.permissions.specs.Rmpadjust.{operand_of}
use Rattle.page_list.specs.Pages.{number_of, number_at, numbers_from, among, repeats}
use Rattle.page_list.specs.Runs.{neighbours, run_at}
use Rattle.request_pages.specs.Request.{pick, pick_places, table_of, stop_at, run_end, put}
use Rattle.overlay_table.specs.Overlays.{place_from}
use Rattle.default_change.specs.Pieces.{span, next_of}
use Rattle.default_change.specs.Barred.{any_of}
use Rattle.default_change.specs.Renewed.{renewed_from}
use Rattle.visibility_steps.specs.Steps.{operation_of, ask, end, halt, keep, share_run, default_run, return_run, after_flush, after_wait, after_modify, after_accept, failed_modify, done_of, failed_of, cleared, start_of}
use Rattle.change_steps.specs.Changes as changes
use Rattle.change_steps.specs.Changes.{protect, wait, finish, protect_pages, protect_ram, start_new, start_old}
use Rattle.protector_state.specs.State.{first_phases, phase_of}
use Rattle.protector_state.specs.Reply.{asked_of, flat_of}
use Rattle.protector_state.specs.Changing.{stage_of}
use Rattle.protector.specs.Writes.{applied, entered}
use Rattle.protector.specs.Calls.{carried_out, carried_change, visibility_taken, visibility_of, after_done, after_failed, answer_done, answer_failed}
use Rattle.call_refusals.specs.Refusals.{ready, first_refusal, visibility_refusal, answer_refusal}
use Rattle.protection_entries.specs.Calls.{protection_refusal, protection_taken, protection_of, default_refusal, default_started, default_taken, default_of}
use Rattle.visibility_claims.specs.Calls.{follow}
use Rattle.worked.specs.Shares.{Operations, Moves, Stops, Calls, Failures}

pub operations : Operations
unfolding word written_from entries_of ram_byte operand_of number_of number_at numbers_from among repeats neighbours run_at pick pick_places table_of stop_at
    run_end put place_from operation_of ask end halt keep share_run default_run return_run after_flush after_wait after_modify after_accept
    failed_modify done_of failed_of cleared start_of first_phases phase_of asked_of flat_of applied carried_out first_refusal ready visibility_refusal visibility_taken
    visibility_of answer_refusal answer_done answer_failed follow
operations =
    record {
      snp_share = refl;
      tdx_share = refl;
      tdx_share_unreleased = refl;
      cca_share = refl;
      snp_return = refl;
      tdx_return = refl;
      tdx_return_unreleased = refl;
      cca_return = refl;
      none_given = refl;
      nothing_given = refl;
      share_names = refl;
      return_names = refl;
      share_drops = refl;
      return_drops = refl;
      all_drop = refl;
    }

pub moves : Moves
unfolding word written_from entries_of ram_byte operand_of number_of number_at numbers_from among repeats neighbours run_at pick pick_places table_of stop_at
    run_end put place_from operation_of ask end halt keep share_run default_run return_run after_flush after_wait after_modify after_accept
    failed_modify done_of failed_of cleared start_of first_phases phase_of asked_of flat_of applied carried_out first_refusal ready visibility_refusal visibility_taken
    visibility_of answer_refusal answer_done answer_failed follow
moves =
    record {
      share_called = refl;
      share_modifies = refl;
      share_done = refl;
      share_vtl1 = refl;
      share_untracked = refl;
      return_called = refl;
      snp_zeroing = refl;
      snp_zeroed = refl;
      snp_returned = refl;
      tdx_accepting = refl;
      tdx_accepted = refl;
      cca_modifying = refl;
      cca_modified = refl;
      default_6 = refl;
    }

pub stops : Stops
unfolding word written_from closed closed_to entries_of ram_byte operand_of number_of number_at numbers_from among repeats neighbours run_at pick pick_places
    table_of stop_at run_end put place_from span next_of any_of renewed_from operation_of ask end halt keep share_run default_run return_run
    after_flush after_wait after_modify after_accept failed_modify done_of failed_of cleared start_of protect changes.ask wait finish changes.halt
    changes.keep protect_pages protect_ram changes.done_of changes.failed_of start_new start_old first_phases phase_of asked_of flat_of stage_of applied entered
    carried_out carried_change first_refusal ready visibility_refusal visibility_taken visibility_of answer_refusal after_done after_failed answer_done answer_failed
    protection_refusal protection_taken protection_of default_refusal default_started default_taken default_of follow
stops =
    record {
      read_only_made = refl;
      write_only_made = refl;
      mixed_made = refl;
      closed_made = refl;
      read_only_off = refl;
      read_only_on = refl;
      read_only_vtl1 = refl;
      write_only_on = refl;
      five_on = refl;
      five_names = refl;
      five_left = refl;
      five_off = refl;
      five_vtl1 = refl;
      closed_on = refl;
      closed_off = refl;
      hole_first = refl;
      returned = refl;
    }

pub calls : Calls
unfolding word written_from entries_of ram_byte operand_of number_of number_at numbers_from among repeats neighbours run_at pick pick_places table_of stop_at
    run_end put place_from operation_of ask end halt keep share_run default_run return_run after_flush after_wait after_modify after_accept
    failed_modify done_of failed_of cleared start_of first_phases phase_of asked_of flat_of applied carried_out first_refusal ready visibility_refusal visibility_taken
    visibility_of answer_refusal answer_done answer_failed follow
calls =
    record {
      P2 = refl;
      p2_left = refl;
      P3 = refl;
      p3_left = refl;
      P4 = refl;
      p5_first = refl;
      p5_left = refl;
      p5_second = refl;
      p5_vtl1_first = refl;
      p5_vtl1_left = refl;
      p5_vtl1_second = refl;
    }

pub failures : Failures
unfolding word written_from entries_of ram_byte operand_of number_of number_at numbers_from among repeats neighbours run_at pick pick_places table_of stop_at
    run_end put place_from operation_of ask end halt keep share_run default_run return_run after_flush after_wait after_modify after_accept
    failed_modify done_of failed_of cleared start_of first_phases phase_of asked_of flat_of applied carried_out first_refusal ready visibility_refusal visibility_taken
    visibility_of answer_refusal answer_done answer_failed follow
failures =
    record {
      none_processed = refl;
      one_processed = refl;
      two_processed = refl;
      all_processed = refl;
      more_processed = refl;
      empty_failed = refl;
      none_maps = refl;
      one_maps = refl;
      one_private = refl;
      all_maps = refl;
      share_halts = refl;
      protect_halts = refl;
      accept_halts = refl;
      wait_fails = refl;
      flush_fails = refl;
      nothing_asked_lem = refl;
      nothing_failed = refl;
    }
