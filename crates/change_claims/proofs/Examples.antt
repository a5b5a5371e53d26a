-- The limits of the tables, and the worked changes through their calls. Assumes nothing.
use mathlib.Core.List.{[]}
use mathlib.Core.Path.{◌≡◌, refl}
use Rattle.bitmap.specs.Pages.{word, written_from}
use Rattle.words.specs.Words.{closed, closed_to}
use Rattle.layout.specs.Layout.{entries_of, ram_byte, ordered, aligned, refusal_of}
use Rattle.page_list.specs.Pages.{number_of, number_at, numbers_from, among, repeats}
use Rattle.page_list.specs.Runs.{neighbours, run_at}
use Rattle.request_pages.specs.Request.{pick, pick_places, table_of, run_end}
use Rattle.overlay_table.specs.Overlays.{place_from}
use Rattle.default_change.specs.Pieces.{span, next_of}
use Rattle.default_change.specs.Barred.{any_of}
use Rattle.default_change.specs.Renewed.{renewed_from}
use Rattle.change_steps.specs.Changes.{protect, ask, wait, finish, halt, protect_pages, protect_ram, done_of, failed_of, start_new, start_old}
use Rattle.protector_state.specs.State.{first_phases, phase_of}
use Rattle.protector_state.specs.Reply.{finished, asked_of, flat_of}
use Rattle.protector_state.specs.Changing.{stage_of}
use Rattle.protector.specs.Writes.{entered}
use Rattle.protector.specs.Calls.{carried_change, after_done, after_failed, answer_done, answer_failed}
use Rattle.call_refusals.specs.Refusals.{ready, first_refusal, visibility_refusal, answer_refusal}
use Rattle.lock_entries.proofs.Limits as limits
use Rattle.lock_entries.proofs.Lists.{held_as_listed}
use Rattle.protection_entries.specs.Calls.{protection_refusal, protection_taken, protection_of, default_refusal, default_started, default_taken, default_of}
use Rattle.overlay_refusals.specs.Refusals.{call_refusal, within, known_refusal, guest_refusal, dma_refusal, page_refusal, register_refusal, current_of, unregister_refusal}
use Rattle.overlay_entries.specs.Calls.{register_taken, register_of, unregister_taken, unregister_of}
use Rattle.visibility_claims.specs.Calls.{follow}
use Rattle.visibility_claims.specs.Table.{page, dones, fresh}
use Rattle.change_claims.specs.Table.{two, Limits}
use Rattle.change_claims.specs.Claims.{TakesProtection, TakesDefault, TakesRegister, TakesUnregister, TakesVisibility, FitLayout}

pub full : Limits
unfolding word written_from entries_of ram_byte place_from among first_phases phase_of flat_of asked_of ask wait start_new entered carried_change ready
    call_refusal within known_refusal guest_refusal dma_refusal page_refusal register_refusal current_of register_taken register_of
full =
    record {
      count_65535 = refl;
      count_full = refl;
      held_as_listed = held_as_listed;
      list_64 = limits.list_64;
      list_65 = limits.list_65;
      pages_1024 = limits.pages_1024;
      pages_1025 = limits.pages_1025;
    }

pub record Worked : Type 0 where
  pub default_two_lem : (follow (default_of two 0 3) (dones 7)).last.reply ≡ finished 0 0 0 7
  pub repeated : (follow (protection_of fresh 1 3 (page 3 (page 4 (page 3 [])))) (dones 5)).last.reply ≡ finished 0 0 0 5
  pub registered : (follow (register_of fresh 0 5 0 15 1) (dones 4)).last.reply ≡ finished 0 0 0 4
  pub unregistered : (follow (unregister_of two 0 5) (dones 4)).last.reply ≡ finished 0 0 0 4

pub worked : Worked
unfolding word written_from entries_of ram_byte number_of number_at numbers_from neighbours run_at pick pick_places table_of run_end place_from among span next_of
    any_of renewed_from protect ask wait finish halt protect_pages protect_ram done_of failed_of start_new start_old first_phases phase_of flat_of asked_of stage_of
    entered carried_change first_refusal answer_refusal after_done after_failed answer_done answer_failed ready protection_refusal protection_taken protection_of
    default_refusal default_started default_taken default_of call_refusal within known_refusal guest_refusal dma_refusal page_refusal register_refusal current_of
    register_taken register_of unregister_refusal unregister_taken unregister_of follow closed closed_to
worked = record { default_two_lem = refl; repeated = refl; registered = refl; unregistered = refl }

-- what the claims ask is met: calls that are taken, in a layout that fits; with `default_ok` and `repeated_ok` of the table they end in Ok
pub record Taken : Type 0 where
  pub layout : FitLayout two
  pub default : TakesDefault two 0 3
  pub protection : TakesProtection fresh 1 3 (page 3 (page 4 (page 3 [])))
  pub register : TakesRegister fresh 0 5 0 15 1
  pub unregister : TakesUnregister two 0 5
  pub visibility : TakesVisibility fresh 0 1 (page 3 [])

pub taken : Taken
unfolding word written_from entries_of ordered aligned refusal_of ram_byte number_of number_at numbers_from among repeats place_from any_of
    first_refusal ready visibility_refusal protection_refusal default_refusal call_refusal within known_refusal guest_refusal dma_refusal page_refusal register_refusal
    current_of unregister_refusal phase_of first_phases
taken = record { layout = refl; default = (refl, refl); protection = refl; register = refl; unregister = refl; visibility = refl }
