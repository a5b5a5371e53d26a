-- Protection and default changes with the answers to what they ask for, as replies that cross: document 01, "Defaults", "The request under way", its last
-- paragraph, "From the state" 12, 20 and 21.
use Rattle.std.specs.Prelude.{List, [], ◌∷◌, ◌≡◌, ℕ, replicate}
use Rattle.mapping.specs.Maps.{Maps, maps}
use Rattle.protector_state.specs.Reply.{finished}
use Rattle.protector_state.specs.State.{built_state}
use Rattle.call_refusals.specs.Buffers.{Buffers}
use Rattle.protector.specs.Calls.{visibility_of}
use Rattle.protection_entries.specs.Calls.{protection_of, default_of}
use Rattle.visibility_claims.specs.Whole.{Succeeds, Fails}
use Rattle.visibility_claims.specs.Calls.{follow}
use Rattle.visibility_claims.specs.Table.{page, dones, fresh}
use Rattle.worked.specs.Crossing.{ok, refused, keeps, waits, flushes_all, protects, invalidates, shares, flushes, tlb_waits, replies, after, low, all_ram, only, clear, first, untracked, settings, tables, no_tables, rest, forgotten}
use Rattle.worked.specs.Faults.{split}
use Rattle.worked.specs.Shares.{on, off, closed, read_only}

-- ---- protection changes

-- pages 3, 4 and 9, and all RAM but these
abbrev pub apart : List ℕ
apart = page 3 (page 4 (page 9 []))

abbrev pub others : List ℕ
others = 0xe7 ∷ 0xfd ∷ 0x00 ∷ 0x00 ∷ 0xff ∷ []

-- one page of VTL0 gets one flag
abbrev pub given : Maps → ℕ → ℕ → Maps
given m p flags = (after 4 (protection_of (off m) 0 flags (page p []))).maps

pub record Protections : Type 0 where
  -- VTL0 is flushed whichever VTL it is for, and the target is waited on; kernel execute is 4 in flags and 8 in the operand's mask, user execute the other way round
  pub vtl0_kernel : replies (protection_of fresh 0 4 apart) (dones 5)
      ≡ protects 0 4 2050 3 2 ∷ protects 0 4 2050 9 1 ∷ waits ∷ flushes 0 ∷ tlb_waits 0 ∷ ok 5 ∷ []
  pub vtl0_user : replies (protection_of fresh 0 8 (page 3 [])) (dones 4) ≡ protects 0 8 1026 3 1 ∷ waits ∷ flushes 0 ∷ tlb_waits 0 ∷ ok 4 ∷ []
  pub vtl1_kernel : replies (protection_of fresh 1 4 (page 3 [])) (dones 4) ≡ protects 1 4 2049 3 1 ∷ waits ∷ flushes 0 ∷ tlb_waits 1 ∷ ok 4 ∷ []
  pub vtl1_user : replies (protection_of fresh 1 8 (page 3 [])) (dones 4) ≡ protects 1 8 1025 3 1 ∷ waits ∷ flushes 0 ∷ tlb_waits 1 ∷ ok 4 ∷ []
  pub tdx_vtl1 : replies (protection_of (on 3 1 first) 1 8 (page 3 [])) (dones 4) ≡ protects 1 8 0 3 1 ∷ waits ∷ flushes 0 ∷ tlb_waits 1 ∷ ok 4 ∷ []
  pub cca_vtl0 : replies (protection_of (on 4 1 first) 0 4 (page 3 [])) (dones 4) ≡ protects 0 4 0 3 1 ∷ waits ∷ flushes 0 ∷ tlb_waits 0 ∷ ok 4 ∷ []
  -- each flag to its map, before the Protect of its run is answered; of VTL1 none, nor where none are tracked
  pub kernel_asked : (protection_of fresh 0 4 apart).buffers.maps ≡ maps all_ram clear (low 0xe7) (low 0xe7) all_ram (low 0xe7)
  pub kernel_left : forgotten (after 5 (protection_of fresh 0 4 apart)) ≡ off (maps all_ram clear others others all_ram others)
  pub user_left : forgotten (after 4 (protection_of fresh 0 8 (page 3 []))) ≡ off (maps all_ram clear (low 0xf7) (low 0xf7) (low 0xf7) all_ram)
  pub vtl1_left : forgotten (after 4 (protection_of fresh 1 8 (page 3 []))) ≡ fresh
  pub untracked_left : (after 4 (protection_of (rest untracked (settings 2 0 0 0 15 16) no_tables) 0 4 (page 3 []))).maps ≡ untracked
  -- the maps that the rows on faults begin from
  pub split_made : given (given (given (given first 3 1) 4 2) 5 4) 6 8 ≡ split
  -- a shared page, with its code; 7 of any page comes before it
  pub shared_page : protection_of (off closed) 0 4 (page 4 (page 3 [])) ≡ keeps (off closed) (refused 12 8)
  pub shared_hole : (protection_of (off closed) 0 4 (page 3 (page 16 []))).reply ≡ refused 7 8
  pub vtl_2 : (protection_of fresh 2 4 (page 16 [])).reply ≡ refused 8 0
  pub flags_16 : (protection_of fresh 0 16 (page 16 [])).reply ≡ refused 8 0
  -- a failed Protect halts; its own run is written, later ones aren't
  pub fails : replies (protection_of fresh 0 4 apart) (Fails 77 0 ∷ []) ≡ protects 0 4 2050 3 2 ∷ finished 20 0 0 1 ∷ []
  pub fails_left : (follow (protection_of fresh 0 4 apart) (Fails 77 0 ∷ [])).last.buffers.maps ≡ maps all_ram clear (low 0xe7) (low 0xe7) all_ram (low 0xe7)
  -- Wait, Flush and TlbWait cannot fail: each is asked until it is done
  pub cannot_fail : replies (protection_of fresh 1 4 []) (Fails 1 0 ∷ Succeeds ∷ Fails 1 0 ∷ Succeeds ∷ Fails 1 0 ∷ Succeeds ∷ []) ≡ waits ∷ flushes 0 ∷ tlb_waits 1 ∷ ok 3 ∷ []

-- ---- default changes

-- an overlay of VTL0 on page 5, own flags 1, previous flags p; and page 5 with it, shared since by VTL1
abbrev pub overlay5 : ℕ → List ℕ
overlay5 p = tables (1 ∷ 5 ∷ p ∷ 1 ∷ 1 ∷ 0 ∷ []) [] [] []

abbrev pub overlaid : Buffers
overlaid = rest read_only (settings 2 1 0 0 15 16) (overlay5 15)

abbrev pub overlaid_shared : Buffers
overlaid_shared = rest (maps (low 0xdf) (only 0x20) all_ram (low 0xdf) (low 0xdf) (low 0xdf)) (settings 2 1 0 0 15 16) (overlay5 15)

-- a Dma overlay of VTL0 on page 16, which is no RAM
abbrev pub dma : Buffers
dma = rest first (settings 2 1 0 0 15 16) (tables (1 ∷ 16 ∷ 0 ∷ 0 ∷ 1 ∷ 1 ∷ []) [] [] [])

-- pages 0 to 39 are RAM, in two entries that touch at page 16
abbrev pub full : List ℕ
full = replicate 5 0xff

abbrev pub touching : Buffers
touching = rest (maps full clear full full full full) (built_state (0 ∷ 65536 ∷ 0 ∷ 65536 ∷ 163840 ∷ 1 ∷ []) 2 1 0) no_tables

pub record DefaultChanges : Type 0 where
  -- all private RAM; VTL0 is flushed, the target is waited on; the default is stored, its maps have its flags
  pub vtl0_kernel : replies (default_of fresh 0 4) (dones 5) ≡ protects 0 4 2050 0 16 ∷ protects 0 4 2050 32 8 ∷ waits ∷ flushes 0 ∷ tlb_waits 0 ∷ ok 5 ∷ []
  pub vtl0_left : forgotten (after 5 (default_of fresh 0 4)) ≡ rest (maps all_ram clear clear clear all_ram clear) (settings 2 1 0 0 4 16) no_tables
  pub vtl0_user_left : (after 5 (default_of fresh 0 8)).maps ≡ maps all_ram clear clear clear clear all_ram
  pub vtl1_user : replies (default_of fresh 1 8) (dones 5) ≡ protects 1 8 1025 0 16 ∷ protects 1 8 1025 32 8 ∷ waits ∷ flushes 0 ∷ tlb_waits 1 ∷ ok 5 ∷ []
  -- the protectors that the rows on operations begin from
  pub vtl1_given : forgotten (after 5 (default_of (rest first (settings 2 1 1 0 15 16) no_tables) 1 5)) ≡ on 2 1 first
  pub tdx_given : forgotten (after 5 (default_of (rest first (settings 3 1 0 0 15 16) no_tables) 1 5)) ≡ on 3 0 first
  pub cca_given : forgotten (after 5 (default_of (rest first (settings 4 1 1 0 15 16) no_tables) 1 5)) ≡ on 4 1 first
  -- page 3 is shared: it isn't protected
  pub shared_page : replies (default_of (off closed) 1 1) (dones 6)
      ≡ protects 1 1 257 0 3 ∷ protects 1 1 257 4 12 ∷ protects 1 1 257 32 8 ∷ waits ∷ flushes 0 ∷ tlb_waits 1 ∷ ok 6 ∷ []
  -- cut at the end of an entry, unlike the run of a list
  pub cut : replies (default_of touching 1 2) (dones 5) ≡ protects 1 2 513 0 16 ∷ protects 1 2 513 16 24 ∷ waits ∷ flushes 0 ∷ tlb_waits 1 ∷ ok 5 ∷ []
  pub not_cut : replies (visibility_of touching 1 1 (page 15 (page 16 []))) (dones 6)
      ≡ waits ∷ flushes_all ∷ protects 0 0 2 15 2 ∷ protects 1 0 1 15 2 ∷ invalidates 15 2 ∷ shares 2 ∷ ok 6 ∷ []
  -- an overlay of the target VTL splits its run and gets the new previous flags at once; one of the other VTL does neither
  pub overlay_split : replies (default_of overlaid 0 4) (dones 6)
      ≡ protects 0 4 2050 0 5 ∷ protects 0 4 2050 6 10 ∷ protects 0 4 2050 32 8 ∷ waits ∷ flushes 0 ∷ tlb_waits 0 ∷ ok 6 ∷ []
  pub overlay_renewed : (default_of overlaid 0 4).buffers.tables ≡ overlay5 4
  pub overlay_other : replies (default_of overlaid 1 4) (dones 5) ≡ protects 1 4 2049 0 16 ∷ protects 1 4 2049 32 8 ∷ waits ∷ flushes 0 ∷ tlb_waits 1 ∷ ok 5 ∷ []
  pub overlay_other_kept : (after 5 (default_of overlaid 1 4)).tables ≡ overlay5 15
  -- nor does it of a page that is shared or no RAM: they keep their own
  pub shared_kept : (after 6 (default_of overlaid_shared 0 4)).tables ≡ overlay5 15
  pub dma_kept : (after 5 (default_of dma 0 4)).tables ≡ dma.tables
  -- 8 leaves the old default
  pub flags_16 : default_of fresh 0 16 ≡ keeps fresh (refused 8 0)
  pub vtl_2 : default_of fresh 2 4 ≡ keeps fresh (refused 8 0)
  pub fails : replies (default_of fresh 0 4) (Succeeds ∷ Fails 77 0 ∷ []) ≡ protects 0 4 2050 0 16 ∷ protects 0 4 2050 32 8 ∷ finished 20 0 0 2 ∷ []
