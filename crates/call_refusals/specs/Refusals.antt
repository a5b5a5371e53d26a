-- What refuses the protector's calls (01, "From the input", "From the state", and the order of refusals): the tests that calls begin with, a build, a
-- visibility change, an answer.
use Rattle.std.specs.Prelude.{Bool, cond, ◌&&◌, List, [], ◌∷◌, ℕ, eqb, length}
use Rattle.abi.specs.Refusals as refusal
use Rattle.laws.specs.Refusal.{unless, when, first}
use Rattle.layout.specs.declared.MemoryRangeWithNode.{MemoryRangeWithNode}
use Rattle.layout.specs.Layout.{refusal_of, is_ram}
use Rattle.permissions.specs.Flags.{fit_vtl, vtl_of, fit_isolation, fit_bool, bool_of}
use Rattle.page_list.specs.Pages.{pages_of, is_long, repeats, is_ragged}
use Rattle.overlay_table.specs.Overlays.{is_overlay}
use Rattle.protector_state.specs.State.{state_len, entries_in}
use Rattle.call_refusals.specs.declared.Lengths.{Lengths}
use Rattle.call_refusals.specs.Buffers.{overlays_of, locks_of, is_locked, lengths_fit, status_in, takes_in}

-- ---- what every call but an answer tests first: 4 of the state block, 20 or 19, 4 of what else it is lent; then the call's own tests

unfoldable pub ready : List ℕ → Bool → ℕ → ℕ
ready state fit rest =
    unless (eqb (length state) state_len) refusal.wrong_length
    (first (status_in state)
    (unless fit refusal.wrong_length
    rest))

-- ---- a visibility change: each page in turn, 7 where it isn't RAM, 10 where it is locked, 11 where an overlay is to be shared

abbrev pub page_refusal : List MemoryRangeWithNode → List ℕ → List ℕ → Bool → ℕ → ℕ
page_refusal es overlays locks share gpn =
    unless (is_ram es gpn) refusal.not_ram
    (when (is_locked overlays locks gpn) refusal.locked
    (when (share && is_overlay overlays gpn) refusal.overlay
    0))

-- the number of the first page that is refused
unfoldable pub first_refusal : (ℕ → ℕ) → List ℕ → ℕ
first_refusal f [] = 0
first_refusal f (gpn ∷ ps) = first (f gpn) (first_refusal f ps)

-- then 5, 6, 8; a visibility as it crosses: private 0, shared 1
unfoldable pub visibility_refusal : List ℕ → Bool → List ℕ → ℕ → ℕ → List ℕ → ℕ
visibility_refusal state fit tables vtl visibility list =
    ready state fit
    (when (is_long list) refusal.long_list
    (when (repeats (pages_of list)) refusal.repeated_page
    (unless (fit_vtl vtl) refusal.unfit_number
    (unless (fit_bool visibility) refusal.unfit_number
    (when (is_ragged list) refusal.unfit_number
    (first_refusal (page_refusal (entries_in state) (overlays_of tables (vtl_of vtl)) (locks_of tables (vtl_of vtl)) (bool_of visibility)) (pages_of list)))))))

-- ---- an answer passes 19: 4 of the state block, 20, 4 of what else is lent, 21

unfoldable pub answer_refusal : List ℕ → Bool → Bool → ℕ
answer_refusal state fit failed =
    unless (eqb (length state) state_len) refusal.wrong_length
    (when (eqb (status_in state) refusal.halted) refusal.halted
    (unless fit refusal.wrong_length
    (unless (takes_in state failed) refusal.nothing_asked
    0)))

-- ---- a build: 1, 2, 3, 4, 8; where `tracked` is unfit no permission map has a length to be tested, and each counts as empty

abbrev pub tested_of : ℕ → Lengths → Lengths
tested_of tracked lengths =
    cond (fit_bool tracked) lengths
    (record { maps = record { private = lengths.maps.private; shared = lengths.maps.shared; read = 0; write = 0; kernel = 0; user = 0 }; pages = lengths.pages; tables = lengths.tables })

abbrev pub build_fits : ℕ → ℕ → ℕ → Lengths → Bool
build_fits len tracked state lengths = eqb state state_len && lengths_fit len (bool_of tracked) (tested_of tracked lengths)

unfoldable pub build_refusal : List ℕ → ℕ → ℕ → ℕ → Bool → ℕ
build_refusal ram isolation tracked release fit =
    first (refusal_of ram)
    (unless (fit_isolation isolation) refusal.unfit_isolation
    (unless fit refusal.wrong_length
    (unless (fit_bool tracked) refusal.unfit_number
    (unless (fit_bool release) refusal.unfit_number
    0))))
