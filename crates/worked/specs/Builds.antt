-- Builds, computed through `build_of`: document 01, "RAM layout", "Bitmaps", "Defaults", "From the input" 1 to 4 and 8.
use Rattle.std.specs.Prelude.{List, [], ◌∷◌, ◌≡◌, ℕ, ◌+◌, ◌^◌, replicate}
use Rattle.mapping.specs.Maps.{Maps, maps}
use Rattle.protector_state.specs.declared.Reply.{Reply}
use Rattle.call_refusals.specs.Buffers.{Buffers, buffers, outcome}
use Rattle.protector.specs.Calls.{build_of}
use Rattle.setting_entries.specs.Calls.{enable_of, enabled_in, default_in}
use Rattle.setting_entries.specs.Calls as calls
use Rattle.protector_state.specs.Reply.{value}
use Rattle.visibility_claims.specs.Table.{ram, lent, fresh, enabled}
use Rattle.worked.specs.Crossing.{ok, refused, keeps, first, all_ram, clear, settings, no_tables, rest}

-- bytes and words of any content, and maps of these lengths
abbrev pub dirty : Maps → Buffers
dirty m = buffers m (replicate 128 7) (replicate 1024 7) (replicate 3460 7)

abbrev pub unbuilt : Buffers
unbuilt = dirty (maps lent lent lent lent lent lent)

abbrev pub unbuilt_untracked : Buffers
unbuilt_untracked = dirty (maps lent lent [] [] [] [])

abbrev pub one : List ℕ
one = 0xa5 ∷ []

abbrev pub eight : Buffers
eight = dirty (maps one one one one one one)

abbrev pub told : Buffers → List ℕ → ℕ → ℕ → ℕ → Reply
told w layout isolation tracked release = (build_of w layout isolation tracked release).reply

pub record Builds : Type 0 where
  -- RAM private, none shared, every permission; no request, protections off, VTL0's default all four flags, VTL1's none given (16); no overlay, no lock
  pub P1 : build_of unbuilt ram 2 1 0 ≡ outcome (maps all_ram clear all_ram all_ram all_ram all_ram) (settings 2 1 0 0 15 16) (replicate 1024 0) no_tables (ok 0)
  pub p1_untracked : build_of unbuilt_untracked ram 4 0 1 ≡ outcome (maps all_ram clear [] [] [] []) (settings 4 0 1 0 15 16) (replicate 1024 0) no_tables (ok 0)
  -- what the other rows begin from
  pub is_fresh : fresh ≡ rest first (settings 2 1 0 0 15 16) no_tables
  pub is_enabled : enabled ≡ rest first (settings 2 1 0 1 15 16) no_tables
  pub enables : enable_of (settings 2 1 0 0 15 16) ≡ calls.enabled (settings 2 1 0 1 15 16) (ok 0)
  pub enables_untracked : enable_of (settings 2 0 0 0 15 16) ≡ calls.enabled (settings 2 0 0 0 15 16) (refused 24 0)
  pub tells_off : enabled_in (settings 2 1 0 0 15 16) ≡ value 0 0
  pub tells_on : enabled_in (settings 2 1 0 1 15 16) ≡ value 0 1
  pub tells_default : default_in (settings 2 1 0 0 6 9) ≡ value 0 6
  pub p6_refused : build_of eight (0 ∷ 28672 ∷ 0 ∷ []) 2 1 0 ≡ keeps eight (refused 2 0)
  pub p6_taken : told eight (0 ∷ 32768 ∷ 0 ∷ []) 2 1 0 ≡ ok 0
  -- SNP 2, TDX 3, CCA 4 and no other
  pub isolation_0 : told unbuilt ram 0 1 0 ≡ refused 3 0
  pub isolation_1 : told unbuilt ram 1 1 0 ≡ refused 3 0
  pub isolation_3 : told unbuilt ram 3 1 0 ≡ ok 0
  pub isolation_4 : told unbuilt ram 4 1 0 ≡ ok 0
  pub isolation_5 : told unbuilt ram 5 1 0 ≡ refused 3 0
  -- entries: some, ascending, disjoint, not empty, up to 2^52, nodes of 32 bits; they may touch
  pub none : told unbuilt [] 2 1 0 ≡ refused 1 0
  pub ragged : told unbuilt (0 ∷ 65536 ∷ 0 ∷ 131072 ∷ []) 2 1 0 ≡ refused 1 0
  pub empty : told unbuilt (0 ∷ 65536 ∷ 0 ∷ 163840 ∷ 163840 ∷ 0 ∷ []) 2 1 0 ≡ refused 1 0
  pub overlapping : told unbuilt (0 ∷ 65536 ∷ 0 ∷ 32768 ∷ 163840 ∷ 0 ∷ []) 2 1 0 ≡ refused 1 0
  pub touching : told unbuilt (0 ∷ 65536 ∷ 0 ∷ 65536 ∷ 163840 ∷ 0 ∷ []) 2 1 0 ≡ ok 0
  pub node : told unbuilt (0 ∷ 163840 ∷ (2 ^ 32) ∷ []) 2 1 0 ≡ refused 1 0
  -- up to 2^52 the maps are too short, past it the layout is unfit
  pub highest : told unbuilt (0 ∷ (2 ^ 52) ∷ 0 ∷ []) 2 1 0 ≡ refused 4 0
  pub too_high : told unbuilt (0 ∷ (2 ^ 52 + 32768) ∷ 0 ∷ []) 2 1 0 ≡ refused 1 0
  -- 1 before 2, 2 before 3, 3 before 4, 4 before 8; untracked, a permission map has no byte
  pub unfit_first : told unbuilt (0 ∷ 28672 ∷ 0 ∷ 0 ∷ 32768 ∷ 0 ∷ []) 2 1 0 ≡ refused 1 0
  pub unaligned_first : told eight (0 ∷ 28672 ∷ 0 ∷ []) 9 1 0 ≡ refused 2 0
  pub isolation_first : told eight ram 9 1 0 ≡ refused 3 0
  pub length_first : told eight ram 2 2 2 ≡ refused 4 0
  pub too_long : told unbuilt ram 2 0 0 ≡ refused 4 0
  pub too_short : told unbuilt_untracked ram 2 1 0 ≡ refused 4 0
  pub one_map_short : told (dirty (maps lent lent lent lent lent one)) ram 2 1 0 ≡ refused 4 0
  -- the blocks beside the maps, also where `tracked` is unfit
  pub state_short : told (buffers unbuilt.maps (replicate 127 7) (replicate 1024 7) (replicate 3460 7)) ram 2 1 0 ≡ refused 4 0
  pub pages_short : told (buffers unbuilt.maps (replicate 128 7) (replicate 1023 7) (replicate 3460 7)) ram 2 1 0 ≡ refused 4 0
  pub tables_short : told (buffers unbuilt.maps (replicate 128 7) (replicate 1024 7) (replicate 3459 7)) ram 2 1 0 ≡ refused 4 0
  pub pages_short_unfit : told (buffers unbuilt.maps (replicate 128 7) [] (replicate 3460 7)) ram 2 2 0 ≡ refused 4 0
  pub tracked_2 : told unbuilt ram 2 2 0 ≡ refused 8 0
  pub release_2 : told unbuilt ram 2 1 2 ≡ refused 8 0
