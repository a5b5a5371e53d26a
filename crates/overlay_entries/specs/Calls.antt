-- The calls on overlay pages, each as a definition of what it gives (01, "Overlays and locks", "The request under way", its last paragraph).
use Rattle.std.specs.Prelude.{cond, List, ℕ, ◌+◌, ◌-◌, eqb, ltb, length}
use Rattle.laws.specs.Bools.{digit}
use Rattle.permissions.specs.declared.GuestVtl.{GuestVtl}
use Rattle.permissions.specs.declared.HvMapGpaFlags.{HvMapGpaFlags}
use Rattle.permissions.specs.Flags.{vtl_of, bits_of}
use Rattle.permissions.specs.HvError.{code_of}
use Rattle.overlay_table.specs.declared.OverlayPage.{OverlayPage}
use Rattle.overlay_table.specs.Overlays.{is_overlay, place_of, entry_at, count_words}
use Rattle.change_steps.specs.Changes.{start_new, start_old}
use Rattle.protector_state.specs.State.{settings_of}
use Rattle.protector_state.specs.Reply.{finished}
use Rattle.call_refusals.specs.Buffers.{Buffers, Outcome, outcome, tables_len, overlays_of, fits}
use Rattle.protector.specs.Writes.{with_overlays}
use Rattle.protector.specs.Calls.{decided, carried_change}
use Rattle.protector_state.specs.declared.Value.{Value}
use Rattle.protector_state.specs.Reply.{value}
use Rattle.overlay_refusals.specs.Refusals.{call_refusal, unregister_refusal, register_refusal, current_of}

-- ---- is_overlay_page: 0 or 1

abbrev pub is_overlay_refusal : List ℕ → List ℕ → ℕ → ℕ
is_overlay_refusal state tables vtl = call_refusal state (eqb (length tables) tables_len) vtl 0

unfoldable pub is_overlay_in : List ℕ → List ℕ → ℕ → ℕ → Value
is_overlay_in state tables vtl gpn =
    cond (eqb (is_overlay_refusal state tables vtl) 0) (value 0 (digit (is_overlay (overlays_of tables (vtl_of vtl)) gpn)))
    (value (is_overlay_refusal state tables vtl) (code_of (is_overlay_refusal state tables vtl)))

-- ---- the entry of a page: its first, zeros where it has none; the tables with another count there

abbrev pub entry_in : List ℕ → GuestVtl → ℕ → OverlayPage
entry_in tables vtl gpn = entry_at (overlays_of tables vtl) (place_of (overlays_of tables vtl) gpn)

abbrev pub recounted : List ℕ → GuestVtl → ℕ → ℕ → List ℕ
recounted tables vtl gpn count = with_overlays tables vtl (count_words (overlays_of tables vtl) (place_of (overlays_of tables vtl) gpn) count)

-- a count changed, with no operation
abbrev pub counting : Buffers → GuestVtl → ℕ → ℕ → Outcome
counting buffers vtl gpn count = outcome buffers.maps buffers.state buffers.pages (recounted buffers.tables vtl gpn count) (finished 0 0 0 0)

-- ---- unregister_overlay_page: a count above 1 is lowered, else the previous permissions are asked for

unfoldable pub unregister_taken : Buffers → GuestVtl → ℕ → Outcome
unregister_taken buffers vtl gpn =
    cond (ltb 1 (entry_in buffers.tables vtl gpn).ref_count) (counting buffers vtl gpn ((entry_in buffers.tables vtl gpn).ref_count - 1))
    (carried_change buffers buffers.pages (start_old (settings_of buffers.state).tracked vtl gpn (entry_in buffers.tables vtl gpn).previous_permissions (entry_in buffers.tables vtl gpn).gpn_source))

unfoldable pub unregister_of : Buffers → ℕ → ℕ → Outcome
unregister_of buffers vtl gpn = decided buffers (unregister_refusal buffers.state (fits buffers) buffers.tables vtl gpn) (unregister_taken buffers (vtl_of vtl) gpn)

-- ---- register_overlay_page: a known page is counted once more; a new one is entered, after its new flags are asked for where they are given

abbrev pub current_in : Buffers → GuestVtl → ℕ → ℕ → HvMapGpaFlags
current_in buffers vtl gpn source = current_of buffers.state buffers.maps.permissions vtl gpn source

unfoldable pub register_taken : Buffers → GuestVtl → ℕ → ℕ → ℕ → Outcome
register_taken buffers vtl gpn source new =
    cond (is_overlay (overlays_of buffers.tables vtl) gpn) (counting buffers vtl gpn ((entry_in buffers.tables vtl gpn).ref_count + 1))
    (carried_change buffers buffers.pages (start_new (settings_of buffers.state).tracked vtl gpn source (bits_of (current_in buffers vtl gpn source)) new))

unfoldable pub register_of : Buffers → ℕ → ℕ → ℕ → ℕ → ℕ → Outcome
register_of buffers vtl gpn source checked new =
    decided buffers (register_refusal buffers.state (fits buffers) buffers.maps.shared buffers.tables (current_in buffers (vtl_of vtl) gpn source) vtl gpn source checked new)
    (register_taken buffers (vtl_of vtl) gpn source new)
