-- The worked cases of changes, computed. Assumes nothing.
use mathlib.Core.Path.{refl}
use Rattle.bitmap.specs.Pages.{word, written_from}
use Rattle.words.specs.Words.{closed, closed_to}
use Rattle.layout.specs.Layout.{entries_of, ram_byte}
use Rattle.page_list.specs.Pages.{number_of, number_at, numbers_from}
use Rattle.page_list.specs.Runs.{runs_of}
use Rattle.overlay_table.specs.Overlays.{place_from}
use Rattle.default_change.specs.Renewed.{renewed_from}
use Rattle.default_change.specs.Visit.{up_to, pick}
use Rattle.overlay_refusals.specs.Refusals.{current_of}
use Rattle.visibility_claims.specs.Whole.{one, in_turn, per_run}
use Rattle.change_claims.specs.Whole.{whole_runs, ram_runs, whole_entry, whole_overlay}
use Rattle.change_claims.specs.Table.{Changes}

pub changes : Changes
unfolding word written_from entries_of ram_byte number_of number_at numbers_from runs_of place_from up_to pick renewed_from current_of one in_turn per_run whole_runs ram_runs whole_entry whole_overlay closed closed_to
changes =
    record {
      default_asked = refl;
      default_ok = refl;
      default_kernel = refl;
      default_renewed = refl;
      repeated_asked = refl;
      repeated_ok = refl;
      halted_asked = refl;
      halted_read = refl;
      halted_stands = refl;
      new_asked = refl;
      new_entered = refl;
      new_failed = refl;
      old_asked = refl;
      old_gone = refl;
    }
