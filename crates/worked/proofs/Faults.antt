-- The rows of `Faults` and `Permissions`, computed. Assumes nothing.
use mathlib.Core.Path.{refl}
use Rattle.bitmap.specs.Pages.{word, written_from}
use Rattle.layout.specs.Layout.{entries_of, ram_byte}
use Rattle.permissions.specs.Rmpadjust.{operand_of}
use Rattle.access.specs.Query.{access_permission, lower_vtl_permissions}
use Rattle.fault.specs.Fault.{fault_of, fault_refusal, page_fault}
use Rattle.page_list.specs.Pages.{number_of, number_at, numbers_from, among, repeats}
use Rattle.page_list.specs.Runs.{runs_of, neighbours, run_at}
use Rattle.request_pages.specs.Request.{pick, pick_places, table_of, stop_at, run_end, put}
use Rattle.overlay_table.specs.Overlays.{place_from}
use Rattle.visibility_steps.specs.Steps.{operation_of, ask, end, halt, keep, share_run, default_run, return_run, after_flush, after_wait, after_modify, after_accept, failed_modify, done_of, failed_of, cleared, start_of}
use Rattle.protector_state.specs.State.{first_phases, phase_of}
use Rattle.protector_state.specs.Reply.{asked_of, flat_of}
use Rattle.protector.specs.Writes.{applied}
use Rattle.protector.specs.Calls.{carried_out, visibility_taken, visibility_of, answer_done, answer_failed}
use Rattle.call_refusals.specs.Refusals.{ready, first_refusal, visibility_refusal, answer_refusal}
use Rattle.queries.specs.Queries.{fault_in, lower_in, access_in}
use Rattle.visibility_claims.specs.Whole.{one, in_turn, per_run, whole_share}
use Rattle.visibility_claims.specs.Requested.{denial, requested_from, pages_in}
use Rattle.visibility_claims.specs.Calls.{follow}
use Rattle.worked.specs.Faults.{Faults, Permissions}

pub faults : Faults
unfolding word written_from entries_of ram_byte operand_of fault_of fault_refusal page_fault number_of number_at numbers_from among repeats runs_of
    neighbours run_at pick pick_places table_of stop_at run_end put place_from operation_of ask end halt keep share_run default_run return_run
    after_flush after_wait after_modify after_accept failed_modify done_of failed_of cleared start_of first_phases phase_of asked_of flat_of applied carried_out
    first_refusal ready visibility_refusal visibility_taken visibility_of answer_refusal answer_done answer_failed fault_in
    denial requested_from pages_in one in_turn per_run whole_share follow
faults =
    record {
      read_flag = refl;
      write_flag = refl;
      kernel_flag = refl;
      user_flag = refl;
      kernel_write = refl;
      user_write = refl;
      not_mapped_lem = refl;
      not_mapped_hole = refl;
      p10_private = refl;
      p10_shared = refl;
      shared_write = refl;
      last_byte = refl;
      next_byte = refl;
      hole_private = refl;
      hole_shared = refl;
      untracked_write = refl;
      mapping_2 = refl;
      view_3 = refl;
      write_2 = refl;
      failure_2 = refl;
      unfit_unfailed = refl;
      view_3_shared = refl;
      view_3_write = refl;
      length_first = refl;
      state_length = refl;
      waiting = refl;
      waiting_shared = refl;
    }

pub permissions : Permissions
unfolding entries_of ram_byte access_permission lower_vtl_permissions lower_in access_in
permissions =
    record {
      lower_vtl0 = refl;
      lower_vtl1 = refl;
      lower_untracked = refl;
      lower_vtl2 = refl;
      lower_length = refl;
      lower_state_length = refl;
      access = refl;
      access_hole = refl;
      access_untracked = refl;
      access_length = refl;
      access_state_length = refl;
    }
