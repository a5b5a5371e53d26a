-- What the tables hold between calls (01, "Overlays and locks"): for each VTL the words of overlay entries that fit and of locked lists that fit; and what an overlay
-- call under way still has to enter or to take out.
use Rattle.std.specs.Prelude.{◌≡◌, true, false, List, [], ◌∷◌, ℕ, ◌≤◌, ◌<◌, eqb, length}
use Rattle.abi.specs.Flags.{flags_end}
use Rattle.abi.specs.Limits as limit
use Rattle.layout.specs.declared.MemoryRangeWithNode.{MemoryRangeWithNode}
use Rattle.layout.specs.Layout.{is_ram}
use Rattle.permissions.specs.declared.GuestVtl.{GuestVtl}
use Rattle.overlay_table.specs.declared.OverlayPage.{OverlayPage}
use Rattle.overlay_table.specs.Overlays as overlays
use Rattle.overlay_table.specs.Overlays.{knows, entry, used, is_overlay, place_of, entry_at}
use Rattle.lock_table.specs.Locks as locks
use Rattle.lock_table.specs.Locks.{Fit}
use Rattle.change_steps.specs.declared.Stage.{Stage}
use Rattle.change_steps.specs.declared.Stage.TheVariants as stage
use Rattle.change_steps.specs.declared.Change.{Change}
use Rattle.protector_state.specs.Changing.{stage_in, change_in}
use Rattle.call_refusals.specs.Buffers.{Buffers, tables_len, overlays_of, locks_of}

-- ---- overlay entries, of a layout

-- counted at least once and at most 65,535 times; its flags are flags; of guest memory (0) on a RAM page, of Dma (1) on one that isn't
pub record EntryFits (entries : List MemoryRangeWithNode) (entry : OverlayPage) : Type 0 where
  pub counted : 1 ≤ entry.ref_count
  pub most : entry.ref_count ≤ limit.ref_count_limit
  pub previous : entry.previous_permissions < flags_end
  pub own : entry.overlay_permissions < flags_end
  pub source : entry.gpn_source < 2
  pub page : is_ram entries entry.gpn ≡ eqb entry.gpn_source 0

-- each fits, and no page has two
unfoldable pub EachFits : List MemoryRangeWithNode → List OverlayPage → Type 0
EachFits entries [] = Unit {0}
EachFits entries (entry ∷ rest) = EntryFits entries entry × (knows rest entry.gpn ≡ false) × EachFits entries rest

-- words that are the table of such entries, at most 128
pub record Overlays (layout : List MemoryRangeWithNode) (table : List ℕ) : Type 0 where
  pub entries : List OverlayPage
  pub few : length entries ≤ limit.overlays
  pub fit : EachFits layout entries
  pub words : table ≡ overlays.table_of entries

-- ---- locked lists: at most 64, 512 pages each, 1,024 pages in all

unfoldable pub EachShort : List (List ℕ) → Type 0
EachShort [] = Unit {0}
EachShort (list ∷ rest) = (length list ≤ limit.listed_pages) × EachShort rest

pub record Locked (table : List ℕ) : Type 0 where
  pub lists : List (List ℕ)
  pub fit : Fit lists
  pub short : EachShort lists
  pub words : table ≡ locks.table_of lists

-- ---- the tables

pub record Tables (entries : List MemoryRangeWithNode) (tables : List ℕ) : Type 0 where
  pub long : length tables ≡ tables_len
  pub overlays : (vtl : GuestVtl) → Overlays entries (overlays_of tables vtl)
  pub locks : (vtl : GuestVtl) → Locked (locks_of tables vtl)

-- ---- an overlay call under way: while the Protect of a new page waits, its entry would fit, it has none, and there is room; while that of an old page waits, it
-- has an entry, counted once

pub record New (entries : List MemoryRangeWithNode) (entry : OverlayPage) (overlays : List ℕ) : Type 0 where
  pub fits : EntryFits entries entry
  pub none : is_overlay overlays entry.gpn ≡ false
  pub room : used overlays < limit.overlays

pub record Old (entry : OverlayPage) (overlays : List ℕ) : Type 0 where
  pub has : is_overlay overlays entry.gpn ≡ true
  pub once : (entry_at overlays (place_of overlays entry.gpn)).ref_count ≤ 1

abbrev pub Pending : List MemoryRangeWithNode → Stage → OverlayPage → List ℕ → Type 0
Pending entries stage.Idle entry overlays = Unit {0}
Pending entries stage.Halted entry overlays = Unit {0}
Pending entries stage.ProtectPages entry overlays = Unit {0}
Pending entries stage.ProtectRam entry overlays = Unit {0}
Pending entries stage.ProtectNew entry overlays = New entries entry overlays
Pending entries stage.ProtectOld entry overlays = Old entry overlays
Pending entries stage.Wait entry overlays = Unit {0}
Pending entries stage.Flush entry overlays = Unit {0}
Pending entries stage.TlbWait entry overlays = Unit {0}

-- the entry that a change makes
abbrev pub entry_for : Change → OverlayPage
entry_for change = entry change.at change.previous change.flags 1 change.source

abbrev pub PendingIn : List MemoryRangeWithNode → List ℕ → List ℕ → Type 0
PendingIn entries state tables = Pending entries (stage_in state) (entry_for (change_in state)) (overlays_of tables (change_in state).vtl)

-- ---- all of it, of buffers

pub record TablesFit (entries : List MemoryRangeWithNode) (buffers : Buffers) : Type 0 where
  pub tables : Tables entries buffers.tables
  pub pending : PendingIn entries buffers.state buffers.tables
