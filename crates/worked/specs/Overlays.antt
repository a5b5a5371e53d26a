-- Overlay pages with the answers to what they ask for, as replies that cross: document 01, "Overlays and locks", "From the state" 12 to 14, 16 and 17. A source
-- crosses as 0 guest memory or 1 Dma; new flags as 16 where none are given.
use Rattle.std.specs.Prelude.{List, [], ◌∷◌, ◌≡◌, ℕ, ◌+◌, ◌^◌}
use Rattle.mapping.specs.Maps.{Maps, maps}
use Rattle.protector_state.specs.declared.Reply.{Reply}
use Rattle.protector_state.specs.Reply.{finished}
use Rattle.call_refusals.specs.Buffers.{Buffers}
use Rattle.overlay_entries.specs.Calls.{register_of, unregister_of, is_overlay_in}
use Rattle.protector_state.specs.Reply.{value}
use Rattle.visibility_claims.specs.Whole.{Fails}
use Rattle.visibility_claims.specs.Calls.{follow}
use Rattle.visibility_claims.specs.Table.{dones, fresh}
use Rattle.worked.specs.Crossing.{ok, refused, keeps, waits, protects, flushes, tlb_waits, replies, after, low, all_ram, clear, first, untracked, settings, tables, lock_table, no_tables, rest, forgotten}
use Rattle.worked.specs.Faults.{split}
use Rattle.worked.specs.Shares.{on, off, closed}
use Rattle.worked.specs.Changes.{overlaid, dma}

-- these entries of VTL0, and of VTL1: how many, then page, previous flags, own flags, count and source of each
abbrev pub in0 : List ℕ → List ℕ
in0 o = tables o [] [] []

abbrev pub in1 : List ℕ → List ℕ
in1 o = tables [] o [] []

-- page 5 only executable in kernel mode (4)
abbrev pub kernel_only : Buffers
kernel_only = off (maps all_ram clear (low 0xdf) (low 0xdf) all_ram (low 0xdf))

abbrev pub without : Buffers
without = rest untracked (settings 2 0 0 0 15 16) no_tables

-- VTL0 has page 5 as an overlay, readable and executable in kernel mode (5), counted n times
abbrev pub counted : ℕ → Buffers
counted n = rest (maps all_ram clear all_ram (low 0xdf) all_ram (low 0xdf)) (settings 2 1 0 0 15 16) (in0 (1 ∷ 5 ∷ 15 ∷ 5 ∷ n ∷ 0 ∷ []))

-- these maps, with pages 3, 5 and 16 locked by VTL0
abbrev pub locking : Maps → Buffers
locking m = rest m (settings 2 1 0 0 15 16) (tables [] [] (lock_table 1 (3 ∷ []) (3 ∷ 5 ∷ 16 ∷ [])) [])

abbrev pub register : Buffers → ℕ → ℕ → ℕ → ℕ → ℕ → Reply
register w vtl p source checked new = (register_of w vtl p source checked new).reply

pub record NewOverlays : Type 0 where
  -- what a new page asks for, each on the VTL that registers it
  pub vtl0_kernel : replies (register_of fresh 0 5 0 15 4) (dones 4) ≡ protects 0 4 2050 5 1 ∷ waits ∷ flushes 0 ∷ tlb_waits 0 ∷ ok 4 ∷ []
  pub vtl1_user : replies (register_of fresh 1 5 0 15 8) (dones 4) ≡ protects 1 8 1025 5 1 ∷ waits ∷ flushes 1 ∷ tlb_waits 1 ∷ ok 4 ∷ []
  pub tdx_vtl1 : replies (register_of (on 3 1 first) 1 5 0 15 8) (dones 4) ≡ protects 1 8 0 5 1 ∷ waits ∷ flushes 1 ∷ tlb_waits 1 ∷ ok 4 ∷ []
  -- the maps of VTL0 are written before it, the entry once it is done
  pub vtl0_asked : (register_of fresh 0 5 0 15 4).buffers.maps ≡ kernel_only.maps
  pub vtl0_asked_tables : (register_of fresh 0 5 0 15 4).buffers.tables ≡ no_tables
  pub vtl0_left : forgotten (after 4 (register_of fresh 0 5 0 15 4)) ≡ rest kernel_only.maps (settings 2 1 0 0 15 16) (in0 (1 ∷ 5 ∷ 15 ∷ 4 ∷ 1 ∷ 0 ∷ []))
  pub vtl1_left : forgotten (after 4 (register_of fresh 1 5 0 15 8)) ≡ rest first (settings 2 1 0 0 15 16) (in1 (1 ∷ 5 ∷ 15 ∷ 8 ∷ 1 ∷ 0 ∷ []))
  pub read_left : forgotten (after 4 (register_of fresh 0 5 0 15 1)) ≡ overlaid
  pub own_left : forgotten (after 4 (register_of fresh 0 5 0 15 5)) ≡ counted 1
  -- no new flags: no Protect, and the entry at once, with the current flags
  pub none : replies (register_of fresh 1 5 0 15 16) (dones 3) ≡ waits ∷ flushes 1 ∷ tlb_waits 1 ∷ ok 3 ∷ []
  pub none_tables : (register_of kernel_only 0 5 0 4 16).buffers.tables ≡ in0 (1 ∷ 5 ∷ 4 ∷ 4 ∷ 1 ∷ 0 ∷ [])
  -- current flags: the maps for VTL0, all four for VTL1 and where none are tracked; the checked ones are within them, the new ones need not be
  pub vtl0_within : register kernel_only 0 5 0 4 8 ≡ protects 0 8 1026 5 1
  pub vtl0_narrow : register kernel_only 0 5 0 8 4 ≡ refused 13 8
  pub vtl0_both : register kernel_only 0 5 0 12 16 ≡ refused 13 8
  pub vtl1_all : register kernel_only 1 5 0 15 16 ≡ waits
  pub vtl1_all_tables : (register_of kernel_only 1 5 0 8 16).buffers.tables ≡ in1 (1 ∷ 5 ∷ 15 ∷ 15 ∷ 1 ∷ 0 ∷ [])
  pub untracked_all : register without 0 5 0 15 16 ≡ waits
  pub untracked_all_tables : (register_of without 0 5 0 1 16).buffers.tables ≡ in0 (1 ∷ 5 ∷ 15 ∷ 15 ∷ 1 ∷ 0 ∷ [])
  pub user_flag : register (off split) 0 6 0 8 16 ≡ waits
  pub kernel_not_user : register (off split) 0 6 0 4 16 ≡ refused 13 8
  -- a Dma page isn't RAM; its checked flags aren't looked at, and it has no previous ones; no map has it
  pub dma_none : forgotten (after 3 (register_of fresh 0 16 1 15 16)) ≡ dma
  pub dma_kernel : replies (register_of fresh 0 16 1 15 4) (dones 4) ≡ protects 0 4 2050 16 1 ∷ waits ∷ flushes 0 ∷ tlb_waits 0 ∷ ok 4 ∷ []
  pub dma_left : forgotten (after 4 (register_of fresh 0 16 1 15 4)) ≡ rest first (settings 2 1 0 0 15 16) (in0 (1 ∷ 16 ∷ 0 ∷ 4 ∷ 1 ∷ 1 ∷ []))
  pub dma_high : register fresh 0 (2 ^ 52 + 5) 1 0 4 ≡ protects 0 4 2050 (2 ^ 52 + 5) 1
  pub dma_ram : register fresh 0 5 1 0 16 ≡ refused 7 8
  pub guest_hole : register fresh 0 16 0 0 16 ≡ refused 7 8
  -- 13 before 12, both with their code; 8 before either
  pub shared_page : register (off closed) 0 3 0 0 16 ≡ refused 12 8
  pub shared_narrow : register (off closed) 0 3 0 1 16 ≡ refused 13 8
  -- 7 before 13, 12 and 13 before 10, 7 before 10 of a Dma page; a lock of VTL0 bars VTL0 alone
  pub hole_narrow : register fresh 0 16 0 15 16 ≡ refused 7 8
  pub shared_locked : register (locking closed) 0 3 0 0 16 ≡ refused 12 8
  pub narrow_locked : register (locking kernel_only.maps) 0 5 0 8 16 ≡ refused 13 8
  pub locked : register (locking first) 0 5 0 15 16 ≡ refused 10 8
  pub dma_ram_locked : register (locking first) 0 5 1 0 16 ≡ refused 7 8
  pub dma_locked : register (locking first) 0 16 1 0 16 ≡ refused 10 8
  pub other_locked : register (locking first) 1 5 0 15 16 ≡ waits
  pub vtl_2 : register fresh 2 16 0 0 16 ≡ refused 8 0
  pub source_2 : register fresh 0 16 2 0 16 ≡ refused 8 0
  pub checked_16 : register fresh 0 5 1 16 16 ≡ refused 8 0
  pub new_17 : register fresh 0 16 0 0 17 ≡ refused 8 0
  -- a failed Protect: OperationDenied whatever its code, the maps written, no entry
  pub fails : replies (register_of fresh 0 5 0 15 4) (Fails 77 0 ∷ dones 3) ≡ protects 0 4 2050 5 1 ∷ finished 16 8 0 1 ∷ []
  pub fails_left : forgotten (follow (register_of fresh 0 5 0 15 4) (Fails 77 0 ∷ [])).last.buffers ≡ kernel_only

pub record KnownOverlays : Type 0 where
  -- its own flags (5) hold the new ones, or the checked where none are new: one registration more, and nothing is asked
  pub new_kernel : register_of (counted 1) 0 5 0 15 4 ≡ keeps (counted 2) (ok 0)
  pub new_both : register_of (counted 2) 0 5 0 2 5 ≡ keeps (counted 3) (ok 0)
  pub new_write : register_of (counted 1) 0 5 0 0 2 ≡ keeps (counted 1) (refused 13 8)
  pub new_user : register_of (counted 1) 0 5 0 0 12 ≡ keeps (counted 1) (refused 13 8)
  pub checked_read : register_of (counted 1) 0 5 0 1 16 ≡ keeps (counted 2) (ok 0)
  pub checked_user : register_of (counted 1) 0 5 0 8 16 ≡ keeps (counted 1) (refused 13 8)
  -- its source isn't looked at
  pub as_dma : register_of (counted 1) 0 5 1 4 16 ≡ keeps (counted 2) (ok 0)
  -- 65,535 is the last
  pub last : register_of (counted 65534) 0 5 0 1 16 ≡ keeps (counted 65535) (ok 0)
  pub too_many : register_of (counted 65535) 0 5 0 1 16 ≡ keeps (counted 65535) (refused 17 0)
  pub narrow_first : register (counted 65535) 0 5 0 2 16 ≡ refused 13 8
  -- a count above 1 is lowered with no operation; else the previous flags, and the entry goes once they are set
  pub lowered : unregister_of (counted 2) 0 5 ≡ keeps (counted 1) (ok 0)
  pub gone : replies (unregister_of (counted 1) 0 5) (dones 4) ≡ protects 0 15 3842 5 1 ∷ waits ∷ flushes 0 ∷ tlb_waits 0 ∷ ok 4 ∷ []
  pub gone_asked : (unregister_of (counted 1) 0 5).buffers.tables ≡ (counted 1).tables
  pub gone_left : forgotten (after 4 (unregister_of (counted 1) 0 5)) ≡ fresh
  pub gone_fails : replies (unregister_of (counted 1) 0 5) (Fails 77 0 ∷ []) ≡ protects 0 15 3842 5 1 ∷ finished 16 8 0 1 ∷ []
  pub gone_fails_left : forgotten (follow (unregister_of (counted 1) 0 5) (Fails 77 0 ∷ [])).last.buffers ≡ rest first (settings 2 1 0 0 15 16) (counted 1).tables
  pub gone_vtl1 : replies (unregister_of (rest first (settings 2 1 0 0 15 16) (in1 (1 ∷ 5 ∷ 9 ∷ 1 ∷ 1 ∷ 0 ∷ []))) 1 5) (dones 4)
      ≡ protects 1 9 1281 5 1 ∷ waits ∷ flushes 1 ∷ tlb_waits 1 ∷ ok 4 ∷ []
  -- the gap is closed
  pub closes : (after 4 (unregister_of (rest first (settings 2 1 0 0 15 16) (in0 (3 ∷ 5 ∷ 15 ∷ 1 ∷ 1 ∷ 0 ∷ 6 ∷ 15 ∷ 2 ∷ 1 ∷ 0 ∷ 7 ∷ 15 ∷ 4 ∷ 3 ∷ 0 ∷ []))) 0 6)).tables
      ≡ in0 (2 ∷ 5 ∷ 15 ∷ 1 ∷ 1 ∷ 0 ∷ 7 ∷ 15 ∷ 4 ∷ 3 ∷ 0 ∷ [])
  pub unknown : unregister_of (counted 1) 0 6 ≡ keeps (counted 1) (refused 14 8)
  pub other_vtl : unregister_of (counted 1) 1 5 ≡ keeps (counted 1) (refused 14 8)
  pub tells : is_overlay_in (counted 1).state (counted 1).tables 0 5 ≡ value 0 1
  pub tells_other : is_overlay_in (counted 1).state (counted 1).tables 1 5 ≡ value 0 0
  -- a first word above 128 counts as 128
  pub past_128 : is_overlay_in (counted 1).state (in0 (129 ∷ 5 ∷ 15 ∷ 5 ∷ 1 ∷ 0 ∷ [])) 0 5 ≡ value 0 1
