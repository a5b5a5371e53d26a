-- What the protector is lent, and the tests that all its calls share (01, "Overlays and locks", "From the input" 4, "From the state" 19, 20 and 21).
use Rattle.std.specs.Prelude.{Bool, true, false, cond, not, ◌&&◌, List, ℕ, ◌+◌, ◌*◌, eqb, length, drop, take}
pub use Rattle.abi.specs.Lengths.{pages_len, tables_len}
use Rattle.abi.specs.Refusals as refusal
use Rattle.abi.specs.Lengths.{overlays_len, locks_len, locks_start}
use Rattle.permissions.specs.declared.GuestVtl.{GuestVtl}
use Rattle.permissions.specs.Flags.{vtl_number}
use Rattle.layout.specs.Layout.{map_len}
use Rattle.mapping.specs.Maps.{Maps, maps_fit, lengths_of}
use Rattle.overlay_table.specs.Overlays.{is_overlay}
use Rattle.lock_table.specs.Locks.{held_in}
use Rattle.visibility_steps.specs.declared.Phase.{Phase}
use Rattle.visibility_steps.specs.declared.Phase.TheVariants.{Idle, Halted, Wait, FlushAll, ProtectNone0, ProtectNone1, Invalidate, Release, Modify, Accept, Zero, ProtectDefault0, ProtectDefault1}
use Rattle.change_steps.specs.declared.Stage.{Stage}
use Rattle.change_steps.specs.declared.Stage.TheVariants as stage
use Rattle.protector_state.specs.declared.Reply.{Reply}
use Rattle.protector_state.specs.State.{phase_in, settings_of, entries_in}
use Rattle.protector_state.specs.Changing.{stage_in, is_changing}
use Rattle.call_refusals.specs.declared.Lengths.{Lengths}

-- the six maps, the state block, the table of the request's pages, and the tables of overlays and locks
pub record Buffers : Type 0 where
  pub maps : Maps
  pub state : List ℕ
  pub pages : List ℕ
  pub tables : List ℕ

abbrev pub buffers : Maps → List ℕ → List ℕ → List ℕ → Buffers
buffers maps state pages tables = record { maps = maps; state = state; pages = pages; tables = tables }

-- what a call gives: all that is lent as it is then, and the reply
pub record Outcome : Type 0 where
  pub buffers : Buffers
  pub reply : Reply

abbrev pub outcome : Maps → List ℕ → List ℕ → List ℕ → Reply → Outcome
outcome maps state pages tables reply = record { buffers = buffers maps state pages tables; reply = reply }

-- ---- the tables: overlays of VTL0 and VTL1, 641 words each, then locks of VTL0 and VTL1, 1,089 words each

abbrev pub overlays_of : List ℕ → GuestVtl → List ℕ
overlays_of tables vtl = take overlays_len (drop (overlays_len * vtl_number vtl) tables)

abbrev pub locks_of : List ℕ → GuestVtl → List ℕ
locks_of tables vtl = take locks_len (drop (locks_start + locks_len * vtl_number vtl) tables)

-- locked: in one of the lists, and not an overlay
abbrev pub is_locked : List ℕ → List ℕ → ℕ → Bool
is_locked overlays locks gpn = held_in locks gpn && not (is_overlay overlays gpn)

-- ---- 4: the lengths of what is lent beside the state block, of a layout whose maps have len bytes

abbrev pub lengths_fit : ℕ → Bool → Lengths → Bool
lengths_fit len tracked lengths = maps_fit len tracked lengths.maps && (eqb lengths.pages pages_len && eqb lengths.tables tables_len)

abbrev pub fits_in : List ℕ → Lengths → Bool
fits_in state lengths = lengths_fit (map_len (entries_in state)) (settings_of state).tracked lengths

abbrev pub lengths_in : Buffers → Lengths
lengths_in lent = record { maps = lengths_of lent.maps; pages = length lent.pages; tables = length lent.tables }

abbrev pub fits : Buffers → Bool
fits lent = fits_in lent.state (lengths_in lent)

-- ---- 20 where halted, 19 while an operation waits for its answer

abbrev pub status_of : Phase → ℕ
status_of Idle = 0
status_of Halted = refusal.halted
status_of Wait = refusal.busy
status_of FlushAll = refusal.busy
status_of ProtectNone0 = refusal.busy
status_of ProtectNone1 = refusal.busy
status_of Invalidate = refusal.busy
status_of Release = refusal.busy
status_of Modify = refusal.busy
status_of Accept = refusal.busy
status_of Zero = refusal.busy
status_of ProtectDefault0 = refusal.busy
status_of ProtectDefault1 = refusal.busy

abbrev pub status_in : List ℕ → ℕ
status_in state = cond (is_changing state) refusal.busy (status_of (phase_in state))

-- whether an answer is taken: not where halted (20), nor where nothing waits or what cannot fail is said to have failed (21)
abbrev pub takes : Phase → Bool → Bool
takes Idle failed = false
takes Halted failed = false
takes Wait failed = not failed
takes FlushAll failed = not failed
takes ProtectNone0 failed = true
takes ProtectNone1 failed = true
takes Invalidate failed = true
takes Release failed = true
takes Modify failed = true
takes Accept failed = true
takes Zero failed = true
takes ProtectDefault0 failed = true
takes ProtectDefault1 failed = true

-- of a change other than of visibility, a Protect alone can fail
abbrev pub takes_at : Stage → Bool → Bool
takes_at stage.Idle failed = false
takes_at stage.Halted failed = false
takes_at stage.ProtectPages failed = true
takes_at stage.ProtectRam failed = true
takes_at stage.ProtectNew failed = true
takes_at stage.ProtectOld failed = true
takes_at stage.Wait failed = not failed
takes_at stage.Flush failed = not failed
takes_at stage.TlbWait failed = not failed

abbrev pub takes_in : List ℕ → Bool → Bool
takes_in state failed = cond (is_changing state) (takes_at (stage_in state) failed) (takes (phase_in state) failed)
