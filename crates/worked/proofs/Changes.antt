-- The rows of protection and default changes, computed. Assumes nothing.
use mathlib.Core.Path.{refl}
use Rattle.bitmap.specs.Pages.{word, written_from}
use Rattle.words.specs.Words.{closed, closed_to}
use Rattle.layout.specs.Layout.{entries_of, ram_byte}
use Rattle.permissions.specs.Rmpadjust.{operand_of}
use Rattle.page_list.specs.Pages.{number_of, number_at, numbers_from, among, repeats}
use Rattle.page_list.specs.Runs.{neighbours, run_at}
use Rattle.request_pages.specs.Request.{pick, pick_places, table_of, stop_at, run_end, put}
use Rattle.overlay_table.specs.Overlays.{place_from}
use Rattle.default_change.specs.Pieces.{span, next_of}
use Rattle.default_change.specs.Barred.{any_of}
use Rattle.default_change.specs.Renewed.{renewed_from}
use Rattle.visibility_steps.specs.Steps.{operation_of, ask, end, halt, keep, share_run, default_run, return_run, after_flush, after_wait, after_modify, after_accept, failed_modify, done_of, failed_of, cleared, start_of}
use Rattle.change_steps.specs.Changes as changes
use Rattle.change_steps.specs.Changes.{protect, wait, finish, protect_pages, protect_ram, start_new, start_old}
use Rattle.protector_state.specs.State.{first_phases, phase_of}
use Rattle.protector_state.specs.Reply.{asked_of, flat_of}
use Rattle.protector_state.specs.Changing.{stage_of}
use Rattle.protector.specs.Writes.{applied, entered}
use Rattle.protector.specs.Calls.{carried_out, carried_change, visibility_taken, visibility_of, after_done, after_failed, answer_done, answer_failed}
use Rattle.call_refusals.specs.Refusals.{ready, first_refusal, visibility_refusal, answer_refusal}
use Rattle.protection_entries.specs.Calls.{protection_refusal, protection_taken, protection_of, default_refusal, default_started, default_taken, default_of}
use Rattle.visibility_claims.specs.Calls.{follow}
use Rattle.worked.specs.Changes.{Protections, DefaultChanges}

pub protections : Protections
unfolding word written_from closed closed_to entries_of ram_byte operand_of number_of number_at numbers_from neighbours run_at pick pick_places table_of run_end
    place_from among span next_of any_of renewed_from protect changes.ask wait finish changes.halt changes.keep protect_pages protect_ram
    changes.done_of changes.failed_of start_new start_old first_phases phase_of asked_of flat_of stage_of entered carried_change first_refusal answer_refusal
    after_done after_failed answer_done answer_failed ready protection_refusal protection_taken protection_of default_refusal default_started default_taken default_of
    follow
protections =
    record {
      vtl0_kernel = refl;
      vtl0_user = refl;
      vtl1_kernel = refl;
      vtl1_user = refl;
      tdx_vtl1 = refl;
      cca_vtl0 = refl;
      kernel_asked = refl;
      kernel_left = refl;
      user_left = refl;
      vtl1_left = refl;
      untracked_left = refl;
      split_made = refl;
      shared_page = refl;
      shared_hole = refl;
      vtl_2 = refl;
      flags_16 = refl;
      fails = refl;
      fails_left = refl;
      cannot_fail = refl;
    }

pub default_changes : DefaultChanges
unfolding word written_from closed closed_to entries_of ram_byte operand_of number_of number_at numbers_from among repeats neighbours run_at pick pick_places
    table_of stop_at run_end put place_from span next_of any_of renewed_from operation_of ask end halt keep share_run default_run return_run
    after_flush after_wait after_modify after_accept failed_modify done_of failed_of cleared start_of protect changes.ask wait finish changes.halt
    changes.keep protect_pages protect_ram changes.done_of changes.failed_of start_new start_old first_phases phase_of asked_of flat_of stage_of applied entered
    carried_out carried_change first_refusal ready visibility_refusal visibility_taken visibility_of answer_refusal after_done after_failed answer_done answer_failed
    protection_refusal protection_taken protection_of default_refusal default_started default_taken default_of follow
default_changes =
    record {
      vtl0_kernel = refl;
      vtl0_left = refl;
      vtl0_user_left = refl;
      vtl1_user = refl;
      vtl1_given = refl;
      tdx_given = refl;
      cca_given = refl;
      shared_page = refl;
      cut = refl;
      not_cut = refl;
      overlay_split = refl;
      overlay_renewed = refl;
      overlay_other = refl;
      overlay_other_kept = refl;
      shared_kept = refl;
      dma_kept = refl;
      flags_16 = refl;
      vtl_2 = refl;
      fails = refl;
    }
