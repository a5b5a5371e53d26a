-- Faults and permission queries, computed through `fault_in`, `lower_in` and `access_in`: document 01, "Bitmaps", "From the input" 4, 7 and 8; above the last page see `Past`. The numbers that
-- cross: mapping encrypted 0, shared 1; view Read 0, KernelExecute 1, UserExecute 2; a write 1; a bitmap failure 1. A fault gives 0 Retry, 1 NotMapped, 2 NotShared,
-- 3 NotPrivate, 4 VtlProtected.
use Rattle.std.specs.Prelude.{List, [], ◌∷◌, ◌≡◌, ℕ, ◌*◌, replicate}
use Rattle.mapping.specs.Maps.{Maps, maps}
use Rattle.call_refusals.specs.Buffers.{Buffers}
use Rattle.protector.specs.Calls.{visibility_of}
use Rattle.protector_state.specs.declared.Value.{Value}
use Rattle.queries.specs.Queries.{fault_in, lower_in, access_in}
use Rattle.protector_state.specs.Reply.{value}
use Rattle.visibility_claims.specs.Table.{page, fresh, P2}
use Rattle.worked.specs.Crossing.{low, all_ram, clear, untracked, settings}

-- pages 3, 4, 5 and 6 have one flag each, 1, 2, 4 and 8: four protection changes leave them so (`Changes`, `split_made`)
abbrev pub split : Maps
split = maps all_ram clear (low 0x8f) (low 0x97) (low 0xa7) (low 0xc7)

abbrev pub tracks : List ℕ
tracks = settings 2 1 0 0 15 16

abbrev pub tracks_not : List ℕ
tracks_not = settings 2 0 0 0 15 16

-- at the first byte of a page, the bitmap having failed
abbrev pub at : ℕ → ℕ → ℕ → ℕ → Value
at mapping view write p = fault_in tracks split mapping view (p * 4096) write 1

-- a page by a read in each view, then by a write
abbrev pub answers : ℕ → List ℕ
answers p = (at 0 0 0 p).value ∷ (at 0 1 0 p).value ∷ (at 0 2 0 p).value ∷ (at 0 0 1 p).value ∷ []

-- VTL0 has begun to share page 3: Wait is outstanding
abbrev pub under_way_lem : Buffers
under_way_lem = (visibility_of fresh 0 1 (page 3 [])).buffers

pub record Faults : Type 0 where
  -- each view has its map, a write the write map
  pub read_flag : answers 3 ≡ 0 ∷ 4 ∷ 4 ∷ 4 ∷ []
  pub write_flag : answers 4 ≡ 4 ∷ 4 ∷ 4 ∷ 0 ∷ []
  pub kernel_flag : answers 5 ≡ 4 ∷ 0 ∷ 4 ∷ 4 ∷ []
  pub user_flag : answers 6 ≡ 4 ∷ 4 ∷ 0 ∷ 4 ∷ []
  -- whatever the view
  pub kernel_write : at 0 1 1 4 ≡ value 0 0
  pub user_write : at 0 2 1 6 ≡ value 0 4
  -- no bitmap failure, also of a page that isn't marked
  pub not_mapped_lem : fault_in tracks split 0 0 12288 0 0 ≡ value 0 1
  pub not_mapped_hole : fault_in tracks split 1 0 65536 0 0 ≡ value 0 1
  pub p10_private : fault_in tracks P2.maps 0 0 12288 0 1 ≡ value 0 3
  pub p10_shared : fault_in tracks P2.maps 1 0 16384 0 1 ≡ value 0 2
  -- a shared page's permissions are cleared, and the shared mapping has none
  pub shared_write : fault_in tracks P2.maps 1 2 12288 1 1 ≡ value 0 0
  -- the page is the address's, its last byte included
  pub last_byte : fault_in tracks P2.maps 0 0 16383 0 1 ≡ value 0 3
  pub next_byte : fault_in tracks P2.maps 0 0 16384 0 1 ≡ value 0 0
  pub hole_private : at 0 0 0 16 ≡ value 0 3
  pub hole_shared : at 1 0 0 16 ≡ value 0 2
  pub untracked_write : fault_in tracks_not untracked 0 2 12288 1 1 ≡ value 0 0
  -- 8, and 4 before it, past the maps too
  pub mapping_2 : fault_in tracks split 2 0 163840 0 1 ≡ value 8 0
  pub view_3 : fault_in tracks split 0 3 163840 0 1 ≡ value 8 0
  pub write_2 : fault_in tracks split 0 0 163840 2 1 ≡ value 8 0
  pub failure_2 : fault_in tracks split 0 0 163840 0 2 ≡ value 8 0
  -- without a bitmap failure, on the shared mapping and for a write too
  pub unfit_unfailed : fault_in tracks split 2 0 12288 0 0 ∷ fault_in tracks split 0 3 12288 0 0 ∷ fault_in tracks split 0 0 12288 2 0 ∷ [] ≡ replicate 3 (value 8 0)
  pub view_3_shared : fault_in tracks split 1 3 12288 0 1 ≡ value 8 0
  pub view_3_write : fault_in tracks split 0 3 12288 1 1 ≡ value 8 0
  pub length_first : fault_in tracks_not split 2 0 163840 0 1 ≡ value 4 0
  pub state_length : fault_in (replicate 127 0) split 2 0 0 0 1 ≡ value 4 0
  -- while an operation waits, and the private mark is gone by then; no shared one is set yet
  pub waiting : fault_in under_way_lem.state under_way_lem.maps 0 0 12288 0 1 ≡ value 0 3
  pub waiting_shared : fault_in under_way_lem.state under_way_lem.maps 1 0 12288 0 1 ≡ value 0 2

-- the four flags of a page, in both queries
abbrev pub flags_of : (ℕ → Value) → List ℕ
flags_of f = (f 3).value ∷ (f 4).value ∷ (f 5).value ∷ (f 6).value ∷ (f 7).value ∷ []

pub record Permissions : Type 0 where
  pub lower_vtl0 : flags_of (lower_in tracks split 0) ≡ 1 ∷ 2 ∷ 4 ∷ 8 ∷ 15 ∷ []
  pub lower_vtl1 : flags_of (lower_in tracks split 1) ≡ 15 ∷ 15 ∷ 15 ∷ 15 ∷ 15 ∷ []
  pub lower_untracked : lower_in tracks_not untracked 0 3 ≡ value 0 15
  pub lower_vtl2 : lower_in tracks split 2 16 ≡ value 8 0
  pub lower_length : lower_in tracks_not split 2 16 ≡ value 4 0
  pub lower_state_length : lower_in (replicate 127 0) split 2 16 ≡ value 4 0
  pub access : flags_of (access_in tracks split) ≡ 1 ∷ 2 ∷ 4 ∷ 8 ∷ 15 ∷ []
  pub access_hole : access_in tracks split 16 ≡ value 0 0
  pub access_untracked : access_in tracks_not untracked 3 ≡ value 24 0
  pub access_length : access_in tracks_not split 3 ≡ value 4 0
  pub access_state_length : access_in (replicate 129 0) split 3 ≡ value 4 0
