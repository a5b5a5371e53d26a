-- A build, a visibility change and the answers to all requests, each as a definition of what it gives (01, "The request under way", "From the input", "From the state", and the order of refusals).
use Rattle.std.specs.Prelude.{Bool, true, false, cond, ◌&&◌, List, ℕ, eqb, ltb, length, take, replicate}
use Rattle.layout.specs.declared.MemoryRangeWithNode.{MemoryRangeWithNode}
use Rattle.layout.specs.Layout.{entries_of, map_len}
use Rattle.permissions.specs.declared.GuestVtl.{GuestVtl}
use Rattle.permissions.specs.declared.HvMapGpaFlags.{HvMapGpaFlags}
use Rattle.permissions.specs.Flags.{vtl_of, flags_of, bool_of}
use Rattle.permissions.specs.HvError.{code_of}
use Rattle.mapping.specs.Maps.{Maps, built}
use Rattle.page_list.specs.declared.PageRun.{PageRun}
use Rattle.page_list.specs.Pages.{pages_of}
use Rattle.request_pages.specs.Request.{pick, table_of, stop_at, is_readable_and_writable, wanted}
use Rattle.default_change.specs.Pieces.{next_piece}
use Rattle.visibility_steps.specs.declared.Settings.{Settings}
use Rattle.visibility_steps.specs.declared.Step.{Step}
use Rattle.visibility_steps.specs.Steps.{is_vtl0, start_of, done_of, failed_of}
use Rattle.change_steps.specs.declared.Stage.{Stage}
use Rattle.change_steps.specs.declared.Stage.TheVariants as stage
use Rattle.change_steps.specs.declared.ChangeStep.{ChangeStep}
use Rattle.change_steps.specs.Changes as changes
use Rattle.protector_state.specs.State.{phase_in, request_of, with_request, settings_of, entries_in, built_state}
use Rattle.protector_state.specs.Reply.{finished, flat_of}
use Rattle.protector_state.specs.Changing.{stage_in, is_changing, change_in, with_change}
use Rattle.call_refusals.specs.Buffers.{Buffers, Outcome, outcome, overlays_of, lengths_in, fits}
use Rattle.call_refusals.specs.Refusals.{build_fits, build_refusal, visibility_refusal, answer_refusal}
use Rattle.protector.specs.Writes.{applied, permitted_run, entered}

-- a call refused by a number changes nothing; else it gives what it does
abbrev pub refused_by : Buffers → ℕ → Outcome
refused_by buffers number = record { buffers = buffers; reply = finished number (code_of number) 0 0 }

abbrev pub decided : Buffers → ℕ → Outcome → Outcome
decided buffers number taken = cond (eqb number 0) taken (refused_by buffers number)

-- a step carried out: its writes made, its phase and request kept
unfoldable pub carried_out : Buffers → List ℕ → Step → Outcome
carried_out buffers table step =
    outcome (applied table step.writes buffers.maps) (with_request step.phase step.request buffers.state) table buffers.tables
    (flat_of (settings_of buffers.state).isolation step.answer)

-- a step of another change carried out: its permissions and its entry written, its stage and change kept
abbrev pub with_permissions : Maps → PageRun → HvMapGpaFlags → Maps
with_permissions maps run flags = record { private = maps.private; shared = maps.shared; permissions = permitted_run run flags maps.permissions }

unfoldable pub carried_change : Buffers → List ℕ → ChangeStep → Outcome
carried_change buffers table step =
    outcome (with_permissions buffers.maps step.written (flags_of step.change.flags)) (with_change step.stage step.change buffers.state) table
    (entered step.entry step.change buffers.tables) (flat_of (settings_of buffers.state).isolation step.answer)

-- ---- build

-- every map, the state and the tables as a build leaves them, whatever they held
unfoldable pub build_taken : Buffers → List ℕ → ℕ → ℕ → ℕ → Outcome
build_taken buffers ram isolation tracked release =
    outcome (built (entries_of ram) buffers.maps) (built_state ram isolation tracked release) (replicate (length buffers.pages) 0)
    (replicate (length buffers.tables) 0) (finished 0 0 0 0)

unfoldable pub build_of : Buffers → List ℕ → ℕ → ℕ → ℕ → Outcome
build_of buffers ram isolation tracked release =
    decided buffers (build_refusal ram isolation tracked release (build_fits (map_len (entries_of ram)) tracked (length buffers.state) (lengths_in buffers))) (build_taken buffers ram isolation tracked release)

-- ---- a visibility change

-- whether the permission maps are looked at: a share that VTL0 asks for, once protections are enabled
abbrev pub checks_permissions : Settings → GuestVtl → Bool → Bool
checks_permissions settings vtl share = share && (is_vtl0 vtl && settings.enabled)

-- where it stops (15): how many pages come before the first that isn't readable and writable
abbrev pub stop_of : Buffers → GuestVtl → Bool → List ℕ → ℕ
stop_of buffers vtl share list =
    stop_at (is_readable_and_writable buffers.maps.permissions.read buffers.maps.permissions.write (checks_permissions (settings_of buffers.state) vtl share)) (pages_of list)

-- the pages before the stop that aren't yet as asked, and the table that has them with their places in the list
abbrev pub asked_for : Buffers → GuestVtl → Bool → List ℕ → List ℕ
asked_for buffers vtl share list = pick (wanted buffers.maps.shared share) (take (stop_of buffers vtl share list) (pages_of list))

abbrev pub table_for : Buffers → GuestVtl → Bool → List ℕ → List ℕ
table_for buffers vtl share list = table_of (wanted buffers.maps.shared share) (take (stop_of buffers vtl share list) (pages_of list)) buffers.pages

unfoldable pub visibility_taken : Buffers → GuestVtl → Bool → List ℕ → Outcome
visibility_taken buffers vtl share list =
    carried_out buffers (table_for buffers vtl share list)
    (start_of (settings_of buffers.state) vtl share (length (asked_for buffers vtl share list)) (stop_of buffers vtl share list) (ltb (stop_of buffers vtl share list) (length (pages_of list))))

unfoldable pub visibility_of : Buffers → ℕ → ℕ → List ℕ → Outcome
visibility_of buffers vtl visibility list = decided buffers (visibility_refusal buffers.state (fits buffers) buffers.tables vtl visibility list) (visibility_taken buffers (vtl_of vtl) (bool_of visibility) list)

-- ---- the answer

-- what waits is a default change's Protect: its next piece
abbrev pub piece_after : Stage → List ℕ → List ℕ → List MemoryRangeWithNode → ℕ → PageRun
piece_after stage.Idle private overlays entries gpn = changes.no_run
piece_after stage.Halted private overlays entries gpn = changes.no_run
piece_after stage.ProtectPages private overlays entries gpn = changes.no_run
piece_after stage.ProtectRam private overlays entries gpn = next_piece private overlays entries gpn
piece_after stage.ProtectNew private overlays entries gpn = changes.no_run
piece_after stage.ProtectOld private overlays entries gpn = changes.no_run
piece_after stage.Wait private overlays entries gpn = changes.no_run
piece_after stage.Flush private overlays entries gpn = changes.no_run
piece_after stage.TlbWait private overlays entries gpn = changes.no_run

abbrev pub next_in : List ℕ → List ℕ → List ℕ → PageRun
next_in private state tables = piece_after (stage_in state) private (overlays_of tables (change_in state).vtl) (entries_in state) (change_in state).at

-- what the answer leads such a change to
unfoldable pub after_done : List ℕ → List ℕ → List ℕ → List ℕ → ChangeStep
after_done private state pages tables = changes.done_of (settings_of state).tracked (stage_in state) (change_in state) pages (next_in private state tables)

unfoldable pub after_failed : List ℕ → ChangeStep
after_failed state = changes.failed_of (stage_in state) (change_in state)

-- an answer that is taken: of a visibility change, or of another
abbrev pub done_in : List ℕ → List ℕ → Step
done_in state pages = done_of (settings_of state) (phase_in state) (request_of state) pages

abbrev pub visibility_done : Buffers → Outcome
visibility_done buffers = carried_out buffers buffers.pages (done_in buffers.state buffers.pages)

abbrev pub visibility_failed : Buffers → ℕ → ℕ → Outcome
visibility_failed buffers code processed =
    carried_out buffers buffers.pages (failed_of (settings_of buffers.state) (phase_in buffers.state) (request_of buffers.state) buffers.pages code processed)

abbrev pub change_done : Buffers → Outcome
change_done buffers = carried_change buffers buffers.pages (after_done buffers.maps.private buffers.state buffers.pages buffers.tables)

abbrev pub change_failed : Buffers → Outcome
change_failed buffers = carried_change buffers buffers.pages (after_failed buffers.state)

unfoldable pub answer_done : Buffers → Outcome
answer_done buffers = decided buffers (answer_refusal buffers.state (fits buffers) false) (cond (is_changing buffers.state) (change_done buffers) (visibility_done buffers))

unfoldable pub answer_failed : Buffers → ℕ → ℕ → Outcome
answer_failed buffers code processed =
    decided buffers (answer_refusal buffers.state (fits buffers) true) (cond (is_changing buffers.state) (change_failed buffers) (visibility_failed buffers code processed))
