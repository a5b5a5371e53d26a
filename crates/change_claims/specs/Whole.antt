-- A whole protection change, default change or overlay call under a list of backend answers, written from document 01, "The request under way", its last
-- paragraph, "Overlays and locks" and "Defaults".
use Rattle.std.specs.Prelude.{Bool, not, cond, ◌&&◌, List, [], ◌∷◌, ◌++◌, ℕ, ◌-◌}
use Rattle.abi.specs.Codes.{operation_denied}
use Rattle.bitmap.specs.Pages.{bit_at}
use Rattle.permissions.specs.declared.GuestVtl.{GuestVtl}
use Rattle.permissions.specs.declared.GuestVtl.TheVariants.{Vtl0}
use Rattle.permissions.specs.declared.HvMapGpaFlags.{HvMapGpaFlags}
use Rattle.layout.specs.declared.MemoryRangeWithNode.{MemoryRangeWithNode}
use Rattle.mapping.specs.Maps.{Maps}
use Rattle.page_list.specs.declared.PageRun.{PageRun}
use Rattle.page_list.specs.Runs.{run, runs_of}
use Rattle.default_change.specs.Pieces.{page_up}
use Rattle.default_change.specs.Visit.{up_to, pick}
use Rattle.visibility_claims.specs.Whole.{Operation, Wait, Protect, Flush, TlbWait, BackendAnswer, Succeeds, Fails, Ok, FailedAt, Whole, stands, one, in_turn, per_run, protecting}

-- a call with the tables of overlays and locks that it leaves
pub record Change : Type 0 where
  pub whole : Whole
  pub tables : List ℕ

abbrev pub change : Whole → List ℕ → Change
change call tables = record { whole = call; tables = tables }

-- ---- what ends each of them: one VTL is flushed, the other is the target's

abbrev pub closing : GuestVtl → GuestVtl → List Operation
closing flushed vtl = Wait ∷ Flush flushed ∷ TlbWait vtl ∷ []

abbrev pub ended : Maps → List BackendAnswer → Whole
ended maps answers = stands maps Ok

-- ---- a protection or default change: a Protect for each run of pages, and VTL0 is flushed whichever VTL it is for; a failed Protect halts it (20)

abbrev pub protects : GuestVtl → HvMapGpaFlags → PageRun → List Operation
protects vtl flags run = Protect vtl flags run ∷ []

abbrev pub run_operations : GuestVtl → HvMapGpaFlags → List PageRun → List Operation
run_operations vtl flags runs = per_run (protects vtl flags) runs ++ closing Vtl0 vtl

unfoldable pub whole_runs : Bool → GuestVtl → HvMapGpaFlags → List PageRun → Maps → List BackendAnswer → Whole
whole_runs tracked vtl flags runs maps answers = in_turn (protecting tracked) (run_operations vtl flags runs) maps answers ended

-- of listed pages: runs of ascending neighbours, in list order
abbrev pub whole_pages : Bool → GuestVtl → HvMapGpaFlags → List ℕ → Maps → List BackendAnswer → Whole
whole_pages tracked vtl flags pages maps answers = whole_runs tracked vtl flags (runs_of pages) maps answers

-- ---- of all private RAM without an overlay in the target VTL ("Defaults"): entry by entry of the layout, the runs of such pages

-- the pages of an entry, ascending
abbrev pub entry_pages : MemoryRangeWithNode → List ℕ
entry_pages entry = up_to (page_up entry.start) (page_up entry.end - page_up entry.start)

-- marked private, and no overlay of the target VTL
abbrev pub is_protected : List ℕ → (ℕ → Bool) → ℕ → Bool
is_protected private overlay gpn = bit_at 8 private gpn && not (overlay gpn)

unfoldable pub ram_runs : List MemoryRangeWithNode → (ℕ → Bool) → Maps → List PageRun
ram_runs [] overlay maps = []
ram_runs (entry ∷ entries) overlay maps = runs_of (pick (is_protected maps.private overlay) (entry_pages entry)) ++ ram_runs entries overlay maps

abbrev pub whole_ram : Bool → GuestVtl → HvMapGpaFlags → List MemoryRangeWithNode → (ℕ → Bool) → Maps → List BackendAnswer → Whole
whole_ram tracked vtl flags entries overlay maps answers = whole_runs tracked vtl flags (ram_runs entries overlay maps) maps answers

-- ---- an overlay call

-- of an entry that is written: its VTL is flushed
unfoldable pub whole_entry : Bool → GuestVtl → Maps → List BackendAnswer → Whole
whole_entry tracked vtl maps answers = in_turn (protecting tracked) (closing vtl vtl) maps answers ended

-- what its Protect writes before it is asked for: a page that is no guest memory is in no map
abbrev pub protecting_page : Bool → Bool → GuestVtl → HvMapGpaFlags → ℕ → Maps → Maps
protecting_page tracked guest vtl flags gpn maps = cond guest (protecting tracked (Protect vtl flags (run gpn 1)) maps) maps

-- flags are Protected, and then the entry is written; a failed Protect ends the call (16)
unfoldable pub whole_overlay : Bool → Bool → GuestVtl → HvMapGpaFlags → ℕ → Maps → List BackendAnswer → Whole
whole_overlay tracked guest vtl flags gpn maps answers =
    one (Protect vtl flags (run gpn 1)) (protecting_page tracked guest vtl flags gpn maps) answers
    (λ answers. whole_entry tracked vtl (protecting_page tracked guest vtl flags gpn maps) answers)
    (λ code processed answers. stands (protecting_page tracked guest vtl flags gpn maps) (FailedAt operation_denied 0))

-- the tables: as they were, until the Protect is done
abbrev pub once_done : List BackendAnswer → List ℕ → List ℕ → List ℕ
once_done [] before after = before
once_done (Succeeds ∷ answers) before after = after
once_done (Fails code processed ∷ answers) before after = before
