-- The worked calls tell what the table says: each is computed. Assumes nothing.
use mathlib.Core.Path.{refl}
use Rattle.bitmap.specs.Pages.{word, written_from}
use Rattle.layout.specs.Layout.{entries_of, ram_byte}
use Rattle.page_list.specs.Pages.{number_of, number_at, numbers_from, among, repeats}
use Rattle.page_list.specs.Runs.{neighbours, run_at}
use Rattle.request_pages.specs.Request.{pick, pick_places, table_of, stop_at, run_end, put}
use Rattle.overlay_table.specs.Overlays.{place_from}
use Rattle.visibility_steps.specs.Steps.{operation_of, ask, end, halt, keep, share_run, default_run, return_run, after_flush, after_wait, after_modify, after_accept, failed_modify, done_of, failed_of, cleared, start_of}
use Rattle.protector_state.specs.State.{first_phases, phase_of}
use Rattle.protector_state.specs.Reply.{asked_of, flat_of}
use Rattle.protector.specs.Writes.{applied}
use Rattle.protector.specs.Calls.{carried_out, visibility_taken, visibility_of, answer_done, answer_failed}
use Rattle.call_refusals.specs.Refusals.{ready, first_refusal, visibility_refusal, answer_refusal}
use Rattle.visibility_claims.specs.Calls.{follow}
use Rattle.visibility_claims.specs.Table.{Replies}

pub replies : Replies
unfolding word written_from entries_of ram_byte number_of number_at numbers_from among repeats neighbours run_at pick pick_places table_of stop_at run_end put place_from
    operation_of ask end halt keep share_run default_run return_run after_flush after_wait after_modify after_accept failed_modify done_of failed_of cleared
    start_of first_phases phase_of asked_of flat_of applied carried_out first_refusal ready visibility_refusal visibility_taken visibility_of answer_refusal answer_done
    answer_failed follow
replies =
    record {
      p2_told = refl;
      p2_private = refl;
      p2_shared = refl;
      p3_told = refl;
      p3_private = refl;
      p3_shared = refl;
      p5_first = refl;
      p5_second = refl;
      p5_vtl1_first = refl;
      p5_vtl1_second = refl;
      read_only_told = refl;
      read_only_stopped = refl;
      stopped_told = refl;
    }
