-- Eight pages of RAM, on SNP with permissions tracked: a build that is taken, and calls that ask for an operation. Assumes nothing.
use mathlib.Core.Path.{◌≡◌, refl}
use mathlib.Core.Bool.{true}
use mathlib.Core.List.{List, [], ◌∷◌}
use Prim.Native.Nat.{ℕ}
use lib.ListN.{replicate}
use Rattle.bitmap.specs.Pages.{word, written_from}
use Rattle.words.specs.Words.{closed, closed_to}
use Rattle.layout.specs.Layout.{entries_of, ordered, aligned, refusal_of, ram_byte}
use Rattle.mapping.specs.Maps.{maps}
use Rattle.page_list.specs.Pages.{number_of, number_at, numbers_from, among, repeats}
use Rattle.page_list.specs.Runs.{neighbours, run_at}
use Rattle.request_pages.specs.Request.{pick, table_of, stop_at, put}
use Rattle.overlay_table.specs.Overlays.{place_from}
use Rattle.default_change.specs.Pieces.{span, next_of}
use Rattle.default_change.specs.Barred.{any_of}
use Rattle.default_change.specs.Renewed.{renewed_from}
use Rattle.visibility_steps.specs.Steps.{operation_of, ask, cleared, start_of}
use Rattle.change_steps.specs.Changes as changes
use Rattle.protector_state.specs.State.{first_phases, phase_of}
use Rattle.protector_state.specs.Reply.{asked_of, flat_of}
use Rattle.protector_state.specs.Changing.{stage_of}
use Rattle.call_refusals.specs.Buffers.{Buffers, buffers, Outcome}
use Rattle.protector.specs.Writes.{applied, entered}
use Rattle.protector.specs.Calls.{carried_out, carried_change, visibility_taken, visibility_of, after_done, answer_done, build_taken, build_of}
use Rattle.call_refusals.specs.Refusals.{ready, first_refusal, visibility_refusal, answer_refusal, build_refusal}
use Rattle.protection_entries.specs.Calls.{protection_refusal, protection_taken, protection_of, default_refusal, default_started, default_taken, default_of}
use Rattle.overlay_refusals.specs.Refusals.{call_refusal, within, known_refusal, guest_refusal, dma_refusal, page_refusal, register_refusal, current_of, unregister_refusal}
use Rattle.overlay_entries.specs.Calls.{register_taken, register_of, unregister_taken, unregister_of}
use Rattle.visibility_claims.specs.Ends.{after_all}
use Rattle.visibility_claims.specs.Table.{page, dones}
use Rattle.history.specs.Observed.{Observed, unseen, asks}
use Rattle.history.specs.Call.{Call, Visibility, Write, sees}
use Rattle.history.specs.Made.{Made, Built}
use Rattle.history.specs.History.{History, none, call, refused_build}
use Rattle.history.specs.Claim.{Claim}
use Rattle.history.proofs.Claim.{calls_hold}
use Rattle.history.proofs.Exists.{any_call}

abbrev ram8 : List ℕ
ram8 = 0 ∷ 0x8000 ∷ 0 ∷ []

abbrev before8 : Buffers
before8 = buffers (maps (0 ∷ []) (0 ∷ []) (0 ∷ []) (0 ∷ []) (0 ∷ []) (0 ∷ [])) (replicate 128 0) (replicate 1024 0) (replicate 3460 0)

abbrev building8 : Outcome
building8 = build_of before8 ram8 2 1 0

abbrev pub built8 : Buffers
built8 = building8.buffers

pub build8 : Built ram8 2 1 0 before8 built8 building8.reply
build8 = (any_call before8).built ram8 2 1 0

pub build8_taken : building8.reply.number ≡ 0
unfolding build_of build_refusal refusal_of entries_of ordered aligned build_taken
build8_taken = refl

-- so the claim holds of every list of calls from it
pub claim8 : {v : Buffers} {o : Observed} (h : History built8 unseen v o) → Claim ram8 2 1 0 before8 building8.reply h
claim8 h = calls_hold build8 build8_taken h

-- ---- and there its page 3 may be shared: a call that asks for an operation

abbrev pub sharing8 : Call
sharing8 = Write (Visibility 0 1 (page 3 []))

abbrev pub asking8 : Outcome
asking8 = visibility_of built8 0 1 (page 3 [])

pub share8 : Made sharing8 built8 asking8.buffers asking8.reply
share8 = (any_call built8).made sharing8

pub share8_asks : asks asking8.reply ≡ true
unfolding visibility_of ready visibility_refusal build_of build_refusal refusal_of entries_of ordered aligned build_taken word written_from ram_byte number_of number_at numbers_from among repeats pick table_of stop_at put place_from ask operation_of cleared start_of first_phases phase_of asked_of flat_of applied carried_out first_refusal visibility_taken
share8_asks = refl

-- ---- and while it waits a build with isolation 9, lent what stands, is refused: a step of the list

abbrev seen8 : Observed
seen8 = sees sharing8 asking8.reply asking8.buffers.pages unseen

pub refused8 : History built8 unseen asking8.buffers seen8
refused8 = refused_build (call none sharing8 asking8.reply share8) ram8 9 1 0 (build_of asking8.buffers ram8 9 1 0).reply ((any_call asking8.buffers).built ram8 9 1 0) ((any_call asking8.buffers).refused ram8 9 1 0 refl)

-- ---- so do the other calls that may ask: a protection change, a default change, and an overlay page registered and, with that over, unregistered

pub record Others8 : Type 0 where
  pub protects : asks (protection_of built8 0 3 (page 3 [])).reply ≡ true
  pub defaults : asks (default_of built8 0 3).reply ≡ true
  pub registers : asks (register_of built8 0 5 0 15 1).reply ≡ true
  pub unregisters : asks (unregister_of (after_all (register_of built8 0 5 0 15 1).buffers (dones 4)) 0 5).reply ≡ true

pub others8 : Others8
unfolding ready build_of build_refusal refusal_of entries_of ordered aligned build_taken word written_from ram_byte number_of number_at numbers_from neighbours run_at pick table_of place_from among span next_of any_of
    renewed_from changes.protect changes.ask changes.wait changes.finish changes.protect_pages changes.protect_ram changes.done_of changes.start_new changes.start_old first_phases phase_of flat_of asked_of stage_of entered carried_change first_refusal answer_refusal after_done answer_done protection_refusal protection_taken protection_of
    default_refusal default_started default_taken default_of call_refusal within known_refusal guest_refusal dma_refusal page_refusal register_refusal current_of register_taken register_of unregister_refusal unregister_taken unregister_of closed closed_to after_all
others8 = record { protects = refl; defaults = refl; registers = refl; unregisters = refl }
