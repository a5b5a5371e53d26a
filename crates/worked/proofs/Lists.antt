-- The rows of `Lists`, computed. Assumes nothing.
use mathlib.Core.Path.{◌≡◌, refl, ap, ap₂, ◌∙◌}
use mathlib.Core.Bool.{Bool, true}
use Prim.Native.Nat.{ℕ, zero, suc, ◌/◌, ◌%◌}
use mathlib.Core.List.{List, ◌∷◌}
use Rattle.bitmap.specs.Pages.{word, written_from}
use Rattle.words.specs.Words.{closed, closed_to, swapped}
use Rattle.layout.specs.Layout.{entries_of, ram_byte}
use Rattle.permissions.specs.Rmpadjust.{operand_of}
use Rattle.page_list.specs.Pages.{number_of, number_at, numbers_from, among, repeats}
use Rattle.page_list.specs.Runs.{neighbours, run_at}
use Rattle.request_pages.specs.Request.{pick, pick_places, table_of, stop_at, run_end, put}
use Rattle.overlay_table.specs.Overlays.{place_from}
use Rattle.lock_table.specs.Locks.{lists_from, same, kept, equal_from, moved, without}
use Rattle.default_change.specs.Pieces.{span, next_of}
use Rattle.default_change.specs.Barred.{any_of}
use Rattle.default_change.specs.Renewed.{renewed_from}
use Rattle.visibility_steps.specs.Steps.{operation_of, ask, end, halt, keep, share_run, default_run, return_run, after_flush, after_wait, after_modify, after_accept, failed_modify, done_of, failed_of, cleared, start_of}
use Rattle.change_steps.specs.Changes as changes
use Rattle.change_steps.specs.Changes.{protect, wait, finish, protect_pages, protect_ram, start_new, start_old}
use Rattle.protector_state.specs.State.{first_phases, phase_of}
use Rattle.protector_state.specs.Reply.{asked_of, flat_of}
use Rattle.protector_state.specs.Changing.{stage_of}
use Rattle.permissions.specs.declared.GuestVtl.TheVariants.{Vtl0}
use Rattle.call_refusals.specs.Buffers.{fits}
use Rattle.protector.specs.Writes.{applied, entered}
use Rattle.protector.specs.Calls.{decided, carried_out, carried_change, visibility_taken, visibility_of, after_done, after_failed, answer_done, answer_failed}
use Rattle.call_refusals.specs.Refusals.{ready, first_refusal, visibility_refusal, answer_refusal}
use Rattle.protection_entries.specs.Calls.{protection_refusal, protection_taken, protection_of, default_refusal, default_started, default_taken, default_of}
use Rattle.lock_entries.specs.Calls.{lock_refusal, lock_of, unlock_of}
use Rattle.queries.specs.Queries.{query_refusal, visibilities, filled_by, query_of}
use Rattle.visibility_claims.specs.Calls.{follow}
use Rattle.visibility_claims.specs.Table.{bytes_from, broad}
use Rattle.visibility_claims.proofs.Long as long
use Rattle.worked.specs.Crossing.{waits}
use Rattle.worked.specs.Lists.{wide, listed, Lists}

-- 512 pages: no computation of all of them, but the law of `visibility_claims`

listed_is : (n p : ℕ) → listed p n ≡ bytes_from p n
unfolding listed bytes_from
listed_is zero p = refl
listed_is (suc n) p = ap (λ (l : List ℕ). p % 256 ∷ p / 256 ∷ 0 ∷ 0 ∷ 0 ∷ 0 ∷ 0 ∷ 0 ∷ l) (listed_is n (suc p))

wide_fits : fits wide ≡ fits broad
unfolding entries_of
wide_fits = refl

accepted : visibility_refusal wide.state (fits wide) wide.tables 0 1 (listed 0 512) ≡ 0
accepted = ap₂ (λ (b : Bool) (l : List ℕ). visibility_refusal wide.state b wide.tables 0 1 l) wide_fits (listed_is 512 0) ∙ (long.lists).taken_512

begun : (l : List ℕ) → (visibility_taken wide Vtl0 true l).reply ≡ waits
unfolding visibility_taken start_of carried_out flat_of asked_of
begun l = refl

taken : (l : List ℕ) → visibility_refusal wide.state (fits wide) wide.tables 0 1 l ≡ 0 → (visibility_of wide 0 1 l).reply ≡ waits
unfolding visibility_of
taken l e = ap (λ (n : ℕ). (decided wide n (visibility_taken wide Vtl0 true l)).reply) e ∙ begun l

pub lists : Lists
unfolding word written_from closed closed_to swapped entries_of ram_byte operand_of number_of number_at numbers_from among repeats neighbours run_at pick
    pick_places table_of stop_at run_end put place_from lists_from same kept equal_from moved without span next_of any_of renewed_from
    operation_of ask end halt keep share_run default_run return_run after_flush after_wait after_modify after_accept failed_modify done_of failed_of cleared
    start_of protect changes.ask wait finish changes.halt changes.keep protect_pages protect_ram changes.done_of changes.failed_of start_new start_old
    first_phases phase_of asked_of flat_of stage_of applied entered carried_out carried_change first_refusal ready visibility_refusal visibility_taken visibility_of
    answer_refusal after_done after_failed answer_done answer_failed protection_refusal protection_taken protection_of default_refusal default_started
    default_taken default_of lock_refusal lock_of unlock_of query_refusal visibilities filled_by query_of follow listed
lists =
    record {
      taken_512 = taken (listed 0 512) accepted;
      refused_513 = refl;
      share_4097 = refl;
      share_4103 = refl;
      protect_4097 = refl;
      protect_4103 = refl;
      lock_4095 = refl;
      lock_4096 = refl;
      lock_4097 = refl;
      lock_4103 = refl;
      unlock_4096 = refl;
      unlock_4097 = refl;
      query_4097 = refl;
      query_4103 = refl;
      repeat_over = refl;
      byte_over = refl;
      seven_over = refl;
      repeat_apart = refl;
      protect_repeat = refl;
      protect_over = refl;
      query_repeat = refl;
      high_page = refl;
      highest_byte = refl;
      second_byte = refl;
      descending = refl;
      ascending = refl;
      empty = refl;
      empty_protection = refl;
    }
