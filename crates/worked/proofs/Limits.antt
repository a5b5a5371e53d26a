-- The rows of the limits, computed. Assumes nothing.
use mathlib.Core.Path.{refl}
use Rattle.bitmap.specs.Pages.{word, written_from}
use Rattle.words.specs.Words.{closed, closed_to, swapped}
use Rattle.layout.specs.Layout.{entries_of, ram_byte}
use Rattle.page_list.specs.Pages.{number_of, number_at, numbers_from, among}
use Rattle.overlay_table.specs.Overlays.{place_from}
use Rattle.lock_table.specs.Locks.{lists_from, same, kept, equal_from, moved, without}
use Rattle.change_steps.specs.Changes as changes
use Rattle.change_steps.specs.Changes.{protect, wait, finish, start_new}
use Rattle.protector_state.specs.State.{first_phases, phase_of}
use Rattle.protector_state.specs.Reply.{asked_of, flat_of}
use Rattle.protector_state.specs.Changing.{stage_of}
use Rattle.protector.specs.Writes.{entered}
use Rattle.protector.specs.Calls.{carried_change, after_done, answer_done}
use Rattle.call_refusals.specs.Refusals.{ready, answer_refusal}
use Rattle.lock_entries.specs.Calls.{lock_refusal, lock_of, unlock_of}
use Rattle.overlay_refusals.specs.Refusals.{call_refusal, within, known_refusal, guest_refusal, dma_refusal, page_refusal, register_refusal, current_of}
use Rattle.overlay_entries.specs.Calls.{register_taken, register_of}
use Rattle.visibility_claims.specs.Calls.{follow}
use Rattle.worked.specs.Limits.{dma_from, holdings, lock_blocks, lock_singles, registered, steps_from, tables_from, OverlayLimit, FirstOverlays, LastOverlays, LockLimits, PageLimits}

pub overlay_limit : OverlayLimit
unfolding word written_from entries_of ram_byte among place_from protect changes.ask wait finish changes.done_of start_new first_phases
    phase_of
    asked_of flat_of stage_of entered carried_change answer_refusal after_done answer_done ready call_refusal within known_refusal guest_refusal dma_refusal
    page_refusal register_refusal current_of register_taken register_of follow dma_from
overlay_limit =
    record {
      none = refl;
      full = refl;
      full_guest = refl;
      full_held = refl;
      full_known = refl;
      full_other = refl;
    }

pub first_overlays : FirstOverlays
unfolding word written_from entries_of ram_byte among place_from protect changes.ask wait finish changes.done_of start_new first_phases
    phase_of
    asked_of flat_of stage_of entered carried_change answer_refusal after_done answer_done ready call_refusal within known_refusal guest_refusal dma_refusal
    page_refusal register_refusal current_of register_taken register_of follow registered dma_from holdings
first_overlays =
    record {
      made = refl;
    }

pub last_overlays : LastOverlays
unfolding word written_from entries_of ram_byte among place_from protect changes.ask wait finish changes.done_of start_new first_phases
    phase_of
    asked_of flat_of stage_of entered carried_change answer_refusal after_done answer_done ready call_refusal within known_refusal guest_refusal dma_refusal
    page_refusal register_refusal current_of register_taken register_of follow registered dma_from holdings
last_overlays =
    record {
      made = refl;
    }

pub lock_limits : LockLimits
unfolding closed closed_to swapped number_of number_at numbers_from lists_from same kept equal_from moved without among first_phases phase_of
    ready lock_refusal lock_of unlock_of tables_from lock_singles steps_from
lock_limits =
    record {
      none = refl;
      lists_64 = refl;
      list_65 = refl;
      list_65_other = refl;
      freed = refl;
    }

pub page_limits : PageLimits
unfolding closed closed_to swapped number_of number_at numbers_from lists_from same kept equal_from moved without among first_phases phase_of
    ready lock_refusal lock_of unlock_of lock_blocks tables_from steps_from
page_limits =
    record {
      pages_1024 = refl;
      page_1025 = refl;
      no_page_more = refl;
    }
