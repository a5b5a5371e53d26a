-- Above the last page, page 39, and in holes below it: document 02, (vi), computed through the entries' own definitions. The numbers that cross stand in `Faults`.
use Rattle.std.specs.Prelude.{true, false, List, [], ◌∷◌, map, ◌≡◌, ℕ, ◌+◌, ◌-◌, ◌^◌, replicate}
use Rattle.mapping.specs.Maps.{Maps, maps, in_maps}
use Rattle.protector_state.specs.declared.Reply.{Reply}
use Rattle.protector_state.specs.declared.Value.{Value}
use Rattle.protector_state.specs.State.{entries_in, built_state}
use Rattle.protector_state.specs.Reply.{value}
use Rattle.call_refusals.specs.Buffers.{Buffers}
use Rattle.protector.specs.Calls.{visibility_of}
use Rattle.protection_entries.specs.Calls.{protection_of}
use Rattle.overlay_entries.specs.Calls.{register_of}
use Rattle.queries.specs.Past.{Lent}
use Rattle.queries.specs.Queries.{query_of, fault_in, lower_in, access_in}
use Rattle.visibility_claims.specs.Table.{page, fresh}
use Rattle.worked.specs.Crossing.{ok, refused, keeps, waits, protects, all_ram, clear, untracked}
use Rattle.worked.specs.Faults.{split, tracks, tracks_not, under_way_lem}
use Rattle.worked.specs.Overlays.{in0, in1, without}

-- ---- faults: at the last address of the last page, the next, 2^52 and the highest, whose page is 2^52 - 1

abbrev pub addresses : List ℕ
addresses = 163839 ∷ 163840 ∷ (2 ^ 52) ∷ (2 ^ 64 - 1) ∷ []

abbrev pub faults : List ℕ → Maps → ℕ → ℕ → ℕ → ℕ → List Value
faults state m mapping view write failure = map (λ a. fault_in state m mapping view a write failure) addresses

-- RAM is private and has no permission; RAM is shared
abbrev pub no_permission : Maps
no_permission = maps all_ram clear clear clear clear clear

abbrev pub all_shared : Maps
all_shared = maps clear all_ram clear clear clear clear

pub record PastFaults : Type 0 where
  -- after a bitmap failure: NotPrivate or NotShared, though the last page gives Retry
  pub encrypted : faults tracks split 0 0 0 1 ≡ value 0 0 ∷ replicate 3 (value 0 3)
  pub encrypted_write : faults tracks split 0 1 1 1 ≡ value 0 0 ∷ replicate 3 (value 0 3)
  pub encrypted_untracked : faults tracks_not untracked 0 2 0 1 ≡ value 0 0 ∷ replicate 3 (value 0 3)
  pub encrypted_untracked_write : faults tracks_not untracked 0 0 1 1 ≡ value 0 0 ∷ replicate 3 (value 0 3)
  pub encrypted_waiting : faults under_way_lem.state under_way_lem.maps 0 0 0 1 ≡ value 0 0 ∷ replicate 3 (value 0 3)
  pub shared : faults tracks all_shared 1 0 0 1 ≡ value 0 0 ∷ replicate 3 (value 0 2)
  pub shared_write : faults tracks all_shared 1 2 1 1 ≡ value 0 0 ∷ replicate 3 (value 0 2)
  pub shared_untracked : faults tracks_not untracked 1 0 0 1 ≡ replicate 4 (value 0 2)
  -- though it gives VtlProtected
  pub denied_read : faults tracks no_permission 0 0 0 1 ≡ value 0 4 ∷ replicate 3 (value 0 3)
  pub denied_kernel : faults tracks no_permission 0 1 0 1 ≡ value 0 4 ∷ replicate 3 (value 0 3)
  pub denied_user : faults tracks no_permission 0 2 0 1 ≡ value 0 4 ∷ replicate 3 (value 0 3)
  pub denied_write : faults tracks no_permission 0 0 1 1 ≡ value 0 4 ∷ replicate 3 (value 0 3)
  -- without one: NotMapped
  pub unfailed : faults tracks split 0 0 0 0 ≡ replicate 4 (value 0 1)
  pub unfailed_shared : faults tracks all_shared 1 2 1 0 ≡ replicate 4 (value 0 1)
  pub unfailed_untracked : faults tracks_not untracked 0 0 1 0 ≡ replicate 4 (value 0 1)
  pub unfailed_untracked_shared : faults tracks_not untracked 1 1 0 0 ≡ replicate 4 (value 0 1)
  -- numbers that name nothing
  pub mapping_2 : faults tracks split 2 0 0 1 ≡ replicate 4 (value 8 0)
  pub length : faults tracks_not split 0 0 0 1 ≡ replicate 4 (value 4 0)

-- ---- permission queries: at the last page, the first past the maps, 2^52, 2^52 + 3 and the highest

abbrev pub pages : List ℕ
pages = 39 ∷ 40 ∷ (2 ^ 52) ∷ (2 ^ 52 + 3) ∷ (2 ^ 64 - 1) ∷ []

-- pages 8 to 15, 24 to 31 and 40 to 47 are RAM, and no other
abbrev pub thirds : List ℕ
thirds = 0x00 ∷ 0xff ∷ 0x00 ∷ 0xff ∷ 0x00 ∷ 0xff ∷ []

abbrev pub gaps : List ℕ
gaps = built_state (32768 ∷ 65536 ∷ 0 ∷ 98304 ∷ 131072 ∷ 0 ∷ 163840 ∷ 196608 ∷ 0 ∷ []) 2 1 0

abbrev pub gaps_maps : Maps
gaps_maps = maps thirds (replicate 6 0) thirds thirds thirds thirds

-- entries that no build takes, page 0 and page 10: the maps have one byte
abbrev pub unaligned : List ℕ
unaligned = built_state (0 ∷ 4096 ∷ 0 ∷ 40960 ∷ 45056 ∷ 0 ∷ []) 2 1 0

abbrev pub one_byte : Maps
one_byte = maps (0xff ∷ []) (0x00 ∷ []) (0xff ∷ []) (0xff ∷ []) (0xff ∷ []) (0xff ∷ [])

-- page 16, in the hole, is marked and readable
abbrev pub hole_set : List ℕ
hole_set = 0xff ∷ 0xff ∷ 0x01 ∷ 0x00 ∷ 0xff ∷ []

abbrev pub set_in_a_hole : Maps
set_in_a_hole = maps hole_set clear hole_set all_ram all_ram all_ram

pub record PastPermissions : Type 0 where
  -- VTL0's permissions, if tracked, are those of the maps
  pub lower_vtl0 : map (lower_in tracks split 0) pages ≡ value 0 15 ∷ replicate 4 (value 0 0)
  pub access : map (access_in tracks split) pages ≡ value 0 15 ∷ replicate 4 (value 0 0)
  -- others are all four
  pub lower_vtl1 : map (lower_in tracks split 1) pages ≡ replicate 5 (value 0 15)
  pub lower_untracked : map (lower_in tracks_not untracked 0) pages ≡ replicate 5 (value 0 15)
  pub lower_untracked_vtl1 : map (lower_in tracks_not untracked 1) pages ≡ replicate 5 (value 0 15)
  -- refused on any page
  pub access_untracked : map (access_in tracks_not untracked) pages ≡ replicate 5 (value 24 0)
  pub access_length : map (access_in tracks_not split) pages ≡ replicate 5 (value 4 0)
  pub lower_vtl2 : map (lower_in tracks split 2) pages ≡ replicate 5 (value 8 0)
  pub lower_length : map (lower_in tracks_not split 0) pages ≡ replicate 5 (value 4 0)
  -- a hole: 7 of a VTL's permissions at its first and last page, not at its neighbours
  pub hole_vtl0 : map (lower_in tracks split 0) (15 ∷ 16 ∷ 31 ∷ 32 ∷ []) ≡ value 0 15 ∷ value 7 8 ∷ value 7 8 ∷ value 0 15 ∷ []
  pub hole_vtl1 : map (lower_in tracks split 1) (15 ∷ 16 ∷ 31 ∷ 32 ∷ []) ≡ value 0 15 ∷ value 7 8 ∷ value 7 8 ∷ value 0 15 ∷ []
  pub hole_untracked : map (lower_in tracks_not untracked 0) (15 ∷ 16 ∷ 31 ∷ 32 ∷ []) ≡ value 0 15 ∷ value 7 8 ∷ value 7 8 ∷ value 0 15 ∷ []
  -- three of them, one below the first entry
  pub gaps_holes : map (lower_in gaps gaps_maps 0) (0 ∷ 7 ∷ 16 ∷ 23 ∷ 32 ∷ 39 ∷ []) ≡ replicate 6 (value 7 8)
  pub gaps_holes_vtl1 : map (lower_in gaps gaps_maps 1) (0 ∷ 7 ∷ 16 ∷ 23 ∷ 32 ∷ 39 ∷ []) ≡ replicate 6 (value 7 8)
  pub gaps_ram : map (lower_in gaps gaps_maps 0) (8 ∷ 15 ∷ 24 ∷ 31 ∷ 40 ∷ 47 ∷ []) ≡ replicate 6 (value 0 15)
  pub gaps_past : lower_in gaps gaps_maps 0 48 ∷ lower_in gaps gaps_maps 1 48 ∷ [] ≡ value 0 0 ∷ value 0 15 ∷ []
  -- the maps' own bits count, in a hole too
  pub hole_access : access_in tracks set_in_a_hole 16 ∷ lower_in tracks set_in_a_hole 0 16 ∷ [] ≡ value 0 1 ∷ value 7 8 ∷ []
  pub hole_fault : fault_in tracks set_in_a_hole 0 0 65536 0 1 ∷ fault_in tracks set_in_a_hole 0 1 65536 0 1 ∷ [] ≡ value 0 0 ∷ value 0 4 ∷ []
  pub hole_fault_shared : fault_in tracks (maps clear hole_set clear clear clear clear) 1 1 65536 1 1 ≡ value 0 0
  -- it is the maps' length that counts, also where the entries don't fit it
  pub unaligned_vtl0 : map (lower_in unaligned one_byte 0) (0 ∷ 1 ∷ 8 ∷ 10 ∷ []) ≡ value 0 15 ∷ value 7 8 ∷ value 0 0 ∷ value 0 0 ∷ []
  pub unaligned_vtl1 : map (lower_in unaligned one_byte 1) (0 ∷ 1 ∷ 8 ∷ 10 ∷ []) ≡ value 0 15 ∷ value 7 8 ∷ value 0 15 ∷ value 0 15 ∷ []
  -- what the laws of `queries` ask for (its record `Past`) is met
  pub lent : Lent tracks split
  pub inside : in_maps (entries_in tracks) 39 ≡ true
  pub outside : in_maps (entries_in tracks) 40 ≡ false

-- ---- lists and overlays of guest memory: at the last page, the first past the maps, 2^52, 2^52 + 3 and the highest

-- page 2^52 + n in a list
abbrev pub high : ℕ → List ℕ
high n = n ∷ 0 ∷ 0 ∷ 0 ∷ 0 ∷ 0 ∷ 16 ∷ 0 ∷ []

abbrev pub lists : List (List ℕ)
lists = page 39 [] ∷ page 40 [] ∷ high 0 ∷ high 3 ∷ replicate 8 255 ∷ []

abbrev pub overlays : Buffers → ℕ → ℕ → ℕ → List Reply
overlays w vtl checked new = map (λ p. (register_of w vtl p 0 checked new).reply) pages

abbrev pub dma : Buffers → ℕ → List Reply
dma w vtl = map (λ p. (register_of w vtl p 1 0 16).reply) pages

pub record PastLists : Type 0 where
  pub share : map (λ l. (visibility_of fresh 0 1 l).reply) lists ≡ waits ∷ replicate 4 (refused 7 8)
  pub share_vtl1 : map (λ l. (visibility_of fresh 1 1 l).reply) lists ≡ waits ∷ replicate 4 (refused 7 8)
  pub share_untracked : map (λ l. (visibility_of without 0 1 l).reply) lists ≡ waits ∷ replicate 4 (refused 7 8)
  pub return : map (λ l. (visibility_of fresh 0 0 l).reply) lists ≡ waits ∷ replicate 4 (refused 7 8)
  pub return_vtl1 : map (λ l. (visibility_of fresh 1 0 l).reply) lists ≡ waits ∷ replicate 4 (refused 7 8)
  pub protect : map (λ l. (protection_of fresh 0 15 l).reply) lists ≡ protects 0 15 3842 39 1 ∷ replicate 4 (refused 7 8)
  pub protect_vtl1 : map (λ l. (protection_of fresh 1 15 l).reply) lists ≡ protects 1 15 3841 39 1 ∷ replicate 4 (refused 7 8)
  pub protect_untracked : map (λ l. (protection_of without 0 15 l).reply) lists ≡ protects 0 15 3842 39 1 ∷ replicate 4 (refused 7 8)
  pub query : map (λ l. (query_of fresh.state fresh.maps.shared l (9 ∷ [])).reply) lists ≡ ok 0 ∷ replicate 4 (refused 7 8)
  -- with nothing changed, behind a RAM page too
  pub share_keeps : visibility_of fresh 0 1 (page 3 (page 40 [])) ≡ keeps fresh (refused 7 8)
  pub protect_keeps : protection_of fresh 0 4 (page 3 (page 40 [])) ≡ keeps fresh (refused 7 8)
  -- an overlay by its own test, for either VTL, tracked or not, before 13
  pub overlay : overlays fresh 0 0 16 ≡ waits ∷ replicate 4 (refused 7 8)
  pub overlay_checked : overlays fresh 0 15 16 ≡ waits ∷ replicate 4 (refused 7 8)
  pub overlay_new : overlays fresh 0 15 4 ≡ protects 0 4 2050 39 1 ∷ replicate 4 (refused 7 8)
  pub overlay_vtl1 : overlays fresh 1 0 16 ≡ waits ∷ replicate 4 (refused 7 8)
  pub overlay_vtl1_checked : overlays fresh 1 15 16 ≡ waits ∷ replicate 4 (refused 7 8)
  pub overlay_untracked : overlays without 0 15 16 ≡ waits ∷ replicate 4 (refused 7 8)
  pub overlay_untracked_vtl1 : overlays without 1 15 16 ≡ waits ∷ replicate 4 (refused 7 8)
  pub overlay_keeps : register_of fresh 1 40 0 15 4 ≡ keeps fresh (refused 7 8)
  -- a Dma page may be there
  pub dma_vtl0 : dma fresh 0 ≡ refused 7 8 ∷ replicate 4 waits
  pub dma_vtl1 : dma fresh 1 ≡ refused 7 8 ∷ replicate 4 waits
  pub dma_untracked : dma without 0 ≡ refused 7 8 ∷ replicate 4 waits
  -- and has no flags, whatever a VTL has on guest memory
  pub dma_vtl1_entry : (register_of fresh 1 40 1 15 16).buffers.tables ≡ in1 (1 ∷ 40 ∷ 0 ∷ 0 ∷ 1 ∷ 1 ∷ [])
  pub dma_untracked_entry : (register_of without 0 40 1 15 16).buffers.tables ≡ in0 (1 ∷ 40 ∷ 0 ∷ 0 ∷ 1 ∷ 1 ∷ [])
