-- The rows of `Builds`, computed. Assumes nothing.
use mathlib.Core.Path.{refl}
use Rattle.bitmap.specs.Pages.{word, written_from}
use Rattle.layout.specs.Layout.{entries_of, ram_byte, ordered, aligned, refusal_of}
use Rattle.protector_state.specs.State.{first_phases, phase_of}
use Rattle.call_refusals.specs.Refusals.{ready, build_refusal}
use Rattle.protector.specs.Calls.{build_taken, build_of}
use Rattle.setting_entries.specs.Calls.{enable_refusal, enable_of, enabled_in, default_in}
use Rattle.worked.specs.Builds.{Builds}

pub builds : Builds
unfolding word written_from entries_of ram_byte ordered aligned refusal_of first_phases phase_of build_refusal build_taken build_of ready enable_refusal
    enable_of enabled_in default_in
builds =
    record {
      P1 = refl;
      p1_untracked = refl;
      is_fresh = refl;
      is_enabled = refl;
      enables = refl;
      enables_untracked = refl;
      tells_off = refl;
      tells_on = refl;
      tells_default = refl;
      p6_refused = refl;
      p6_taken = refl;
      isolation_0 = refl;
      isolation_1 = refl;
      isolation_3 = refl;
      isolation_4 = refl;
      isolation_5 = refl;
      none = refl;
      ragged = refl;
      empty = refl;
      overlapping = refl;
      touching = refl;
      node = refl;
      highest = refl;
      too_high = refl;
      unfit_first = refl;
      unaligned_first = refl;
      isolation_first = refl;
      length_first = refl;
      too_long = refl;
      too_short = refl;
      one_map_short = refl;
      state_short = refl;
      pages_short = refl;
      tables_short = refl;
      pages_short_unfit = refl;
      tracked_2 = refl;
      release_2 = refl;
    }
