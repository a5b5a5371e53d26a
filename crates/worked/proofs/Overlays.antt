-- The rows of overlay pages, computed. Assumes nothing.
use mathlib.Core.Path.{refl}
use Rattle.bitmap.specs.Pages.{word, written_from}
use Rattle.words.specs.Words.{closed, closed_to}
use Rattle.layout.specs.Layout.{entries_of, ram_byte}
use Rattle.permissions.specs.Rmpadjust.{operand_of}
use Rattle.page_list.specs.Pages.{number_of, number_at, numbers_from, among}
use Rattle.page_list.specs.Runs.{neighbours, run_at}
use Rattle.request_pages.specs.Request.{pick, pick_places, table_of, run_end}
use Rattle.overlay_table.specs.Overlays.{place_from}
use Rattle.default_change.specs.Pieces.{span, next_of}
use Rattle.default_change.specs.Barred.{any_of}
use Rattle.default_change.specs.Renewed.{renewed_from}
use Rattle.change_steps.specs.Changes as changes
use Rattle.change_steps.specs.Changes.{protect, wait, finish, protect_pages, protect_ram, start_new, start_old}
use Rattle.protector_state.specs.State.{first_phases, phase_of}
use Rattle.protector_state.specs.Reply.{asked_of, flat_of}
use Rattle.protector_state.specs.Changing.{stage_of}
use Rattle.protector.specs.Writes.{entered}
use Rattle.protector.specs.Calls.{carried_change, after_done, after_failed, answer_done, answer_failed}
use Rattle.call_refusals.specs.Refusals.{ready, first_refusal, answer_refusal}
use Rattle.protection_entries.specs.Calls.{protection_refusal, protection_taken, protection_of, default_refusal, default_started, default_taken, default_of}
use Rattle.overlay_refusals.specs.Refusals.{call_refusal, within, known_refusal, guest_refusal, dma_refusal, page_refusal, register_refusal, current_of, unregister_refusal}
use Rattle.overlay_entries.specs.Calls.{is_overlay_in, register_taken, register_of, unregister_taken, unregister_of}
use Rattle.visibility_claims.specs.Calls.{follow}
use Rattle.worked.specs.Overlays.{NewOverlays, KnownOverlays}

pub new_overlays : NewOverlays
unfolding word written_from closed closed_to entries_of ram_byte operand_of number_of number_at numbers_from among neighbours run_at pick pick_places table_of
    run_end
    place_from span next_of any_of renewed_from protect changes.ask wait finish changes.halt changes.keep protect_pages protect_ram
    changes.done_of changes.failed_of start_new start_old first_phases phase_of asked_of flat_of stage_of entered carried_change first_refusal answer_refusal
    after_done after_failed answer_done answer_failed ready protection_refusal protection_taken protection_of default_refusal default_started default_taken default_of
    call_refusal within known_refusal guest_refusal dma_refusal page_refusal register_refusal current_of unregister_refusal is_overlay_in register_taken
    register_of unregister_taken unregister_of follow
new_overlays =
    record {
      vtl0_kernel = refl;
      vtl1_user = refl;
      tdx_vtl1 = refl;
      vtl0_asked = refl;
      vtl0_asked_tables = refl;
      vtl0_left = refl;
      vtl1_left = refl;
      read_left = refl;
      own_left = refl;
      none = refl;
      none_tables = refl;
      vtl0_within = refl;
      vtl0_narrow = refl;
      vtl0_both = refl;
      vtl1_all = refl;
      vtl1_all_tables = refl;
      untracked_all = refl;
      untracked_all_tables = refl;
      user_flag = refl;
      kernel_not_user = refl;
      dma_none = refl;
      dma_kernel = refl;
      dma_left = refl;
      dma_high = refl;
      dma_ram = refl;
      guest_hole = refl;
      shared_page = refl;
      shared_narrow = refl;
      hole_narrow = refl;
      shared_locked = refl;
      narrow_locked = refl;
      locked = refl;
      dma_ram_locked = refl;
      dma_locked = refl;
      other_locked = refl;
      vtl_2 = refl;
      source_2 = refl;
      checked_16 = refl;
      new_17 = refl;
      fails = refl;
      fails_left = refl;
    }

pub known_overlays : KnownOverlays
unfolding word written_from closed closed_to entries_of ram_byte operand_of number_of number_at numbers_from neighbours run_at pick pick_places table_of run_end
    place_from among span next_of any_of renewed_from protect changes.ask wait finish changes.halt changes.keep protect_pages protect_ram
    changes.done_of changes.failed_of start_new start_old first_phases phase_of asked_of flat_of stage_of entered carried_change first_refusal answer_refusal
    after_done after_failed answer_done answer_failed ready protection_refusal protection_taken protection_of default_refusal default_started default_taken default_of
    call_refusal within known_refusal guest_refusal dma_refusal page_refusal register_refusal current_of unregister_refusal is_overlay_in register_taken
    register_of unregister_taken unregister_of follow
known_overlays =
    record {
      new_kernel = refl;
      new_both = refl;
      new_write = refl;
      new_user = refl;
      checked_read = refl;
      checked_user = refl;
      as_dma = refl;
      last = refl;
      too_many = refl;
      narrow_first = refl;
      lowered = refl;
      gone = refl;
      gone_asked = refl;
      gone_left = refl;
      gone_fails = refl;
      gone_fails_left = refl;
      gone_vtl1 = refl;
      closes = refl;
      unknown = refl;
      other_vtl = refl;
      tells = refl;
      tells_other = refl;
      past_128 = refl;
    }
