-- The worked cases hold: each is computed. Assumes nothing.
use mathlib.Core.Path.{refl}
use Rattle.bitmap.specs.Pages.{word, written_from}
use Rattle.layout.specs.Layout.{entries_of, ram_byte}
use Rattle.page_list.specs.Pages.{number_of, number_at, numbers_from, among, repeats}
use Rattle.page_list.specs.Runs.{runs_of}
use Rattle.overlay_table.specs.Overlays as overlays
use Rattle.lock_table.specs.Locks as locks
use Rattle.visibility_steps.specs.Steps.{start_of}
use Rattle.protector_state.specs.State.{first_phases, phase_of}
use Rattle.protector_state.specs.Reply.{asked_of, flat_of}
use Rattle.protector.specs.Calls.{carried_out, visibility_taken, visibility_of}
use Rattle.call_refusals.specs.Refusals.{ready, first_refusal, visibility_refusal}
use Rattle.visibility_claims.specs.Whole.{one, in_turn, per_run, whole_share, returned, modified, whole_return}
use Rattle.visibility_claims.specs.Requested.{denial, requested_from, pages_in, places_in}
use Rattle.visibility_claims.specs.Table.{Stops, Bars, Visibility}
use Rattle.visibility_claims.proofs.Examples.{replies}
use Rattle.visibility_claims.proofs.Long.{lists}

stops : Stops
unfolding word written_from entries_of ram_byte number_of number_at numbers_from among repeats runs_of overlays.place_from denial requested_from pages_in places_in one in_turn per_run whole_share returned modified whole_return
stops =
    record {
      read_only_before = refl;
      read_only_after = refl;
      write_only_before = refl;
      write_only_after = refl;
      read_only_vtl1 = refl;
      read_only_private = refl;
      stopped_pages = refl;
      stopped_places = refl;
      stopped_asked = refl;
      stopped_stands = refl;
      stopped_private = refl;
      stopped_shared = refl;
    }

bars : Bars
unfolding word written_from entries_of ram_byte number_of number_at numbers_from among repeats runs_of overlays.place_from overlays.flat overlays.table_of locks.ends locks.joined locks.table_of phase_of first_phases start_of asked_of flat_of carried_out first_refusal ready visibility_refusal visibility_taken visibility_of denial requested_from pages_in one in_turn per_run whole_share
bars =
    record {
      overlaid_shared = refl;
      overlaid_returned = refl;
      locked_shared = refl;
      locked_returned = refl;
      hole_locked = refl;
      locked_first = refl;
      overlaid_first = refl;
      hole_first = refl;
      vtl1s_own = refl;
      vtl0s_own = refl;
      vtl1_overlaid = refl;
      vtl1_locked = refl;
    }

pub visibility : Visibility
unfolding word written_from entries_of ram_byte number_of number_at numbers_from among repeats runs_of overlays.place_from phase_of first_phases first_refusal ready visibility_refusal visibility_of denial requested_from pages_in places_in one in_turn per_run whole_share returned modified whole_return
visibility =
    record {
      p2_asked = refl;
      p2_counted = refl;
      p2_private = refl;
      p2_shared = refl;
      p2_ok = refl;
      p3_asked = refl;
      p3_private = refl;
      p3_shared = refl;
      p3_failed = refl;
      dropped_asked = refl;
      dropped_failed = refl;
      P4 = refl;
      p5_first = refl;
      p5_second = refl;
      p5_vtl1_first = refl;
      p5_vtl1_second = refl;
      long_refused = refl;
      replies = replies;
      stops = stops;
      bars = bars;
      lists = lists;
    }
