-- What bars a call, each refusal with its number and code, locked lists, and the visibility query: document 01, "Overlays and locks", "From the input" 7,
-- "From the state" 10, 11, 17 to 20, "Misreadings to shut out".
use Rattle.std.specs.Prelude.{List, [], ◌∷◌, ◌++◌, ◌≡◌, ℕ, replicate}
use Rattle.mapping.specs.Maps.{Maps, maps}
use Rattle.protector_state.specs.declared.Reply.{Reply}
use Rattle.protector_state.specs.Reply.{finished}
use Rattle.call_refusals.specs.Buffers.{Buffers, buffers}
use Rattle.protector.specs.Calls.{visibility_of, answer_done, answer_failed}
use Rattle.protection_entries.specs.Calls.{protection_of, default_of}
use Rattle.overlay_entries.specs.Calls.{register_of, unregister_of, is_overlay_in}
use Rattle.lock_entries.specs.Calls.{kept, lock_of, unlock_of}
use Rattle.setting_entries.specs.Calls.{enable_of, enabled_in, default_in}
use Rattle.queries.specs.Queries.{query, query_of, fault_in, lower_in, access_in}
use Rattle.visibility_claims.specs.Whole.{Succeeds, Fails}
use Rattle.visibility_claims.specs.Calls.{follow}
use Rattle.visibility_claims.specs.Table.{page, fresh}
use Rattle.worked.specs.Crossing.{ok, refused, keeps, waits, protects, after, low, clear, first, settings, tables, lock_table, one_locked, no_tables, rest, untracked}
use Rattle.worked.specs.Shares.{closed, read_only}
use Rattle.worked.specs.Changes.{overlaid}

-- ---- a VTL has page 5 as an overlay and has locked pages 5 and 6

abbrev pub overlay : List ℕ
overlay = 1 ∷ 5 ∷ 15 ∷ 1 ∷ 1 ∷ 0 ∷ []

abbrev pub list56 : List ℕ
list56 = lock_table 1 (2 ∷ []) (5 ∷ 6 ∷ [])

abbrev pub rests : Maps → List ℕ → Buffers
rests m t = rest m (settings 2 1 0 0 15 16) t

abbrev pub held0 : Buffers
held0 = rests read_only (tables overlay [] list56 [])

abbrev pub held1 : Buffers
held1 = rests first (tables [] overlay [] list56)

-- VTL0 has locked page 5 and, in another list, page n
abbrev pub two : ℕ → List ℕ
two n = tables [] [] (lock_table 2 (1 ∷ 2 ∷ []) (5 ∷ n ∷ [])) []

-- neither default is the one that a build stores
abbrev pub others : Maps → ℕ → ℕ → List ℕ → Buffers
others m a b t = rest m (settings 2 1 0 0 a b) t

-- of pages 5 and 6, each by itself, the number that refuses it
abbrev pub both : (List ℕ → Reply) → List ℕ
both f = (f (page 5 [])).number ∷ (f (page 6 [])).number ∷ []

abbrev pub sharing : Buffers → ℕ → List ℕ → Reply
sharing w vtl l = (visibility_of w vtl 1 l).reply

abbrev pub returning : Buffers → ℕ → List ℕ → Reply
returning w vtl l = (visibility_of w vtl 0 l).reply

abbrev pub protecting : Buffers → ℕ → List ℕ → Reply
protecting w vtl l = (protection_of w vtl 4 l).reply

abbrev pub registering : Buffers → ℕ → ℕ → Reply
registering w vtl p = (register_of w vtl p 0 1 16).reply

pub record Bars : Type 0 where
  -- the calls that make them so
  pub held0_made : lock_of overlaid.state overlaid.tables 0 (page 5 (page 6 [])) ≡ kept held0.tables (ok 0)
  pub held1_made : lock_of fresh.state (after 4 (register_of fresh 1 5 0 15 1)).tables 1 (page 5 (page 6 [])) ≡ kept held1.tables (ok 0)
  -- a locked page that is an overlay isn't locked, but an overlay: it may be returned; either bars its own VTL alone
  pub share_own : both (sharing held0 0) ≡ 11 ∷ 10 ∷ []
  pub share_own_vtl1 : both (sharing held1 1) ≡ 11 ∷ 10 ∷ []
  pub share_other : both (sharing held0 1) ≡ 0 ∷ 0 ∷ []
  pub share_other_vtl0 : both (sharing held1 0) ≡ 0 ∷ 0 ∷ []
  pub return_own : both (returning held0 0) ≡ 0 ∷ 10 ∷ []
  pub return_own_vtl1 : both (returning held1 1) ≡ 0 ∷ 10 ∷ []
  pub return_other : both (returning held0 1) ≡ 0 ∷ 0 ∷ []
  pub return_other_vtl0 : both (returning held1 0) ≡ 0 ∷ 0 ∷ []
  pub protect_own : both (protecting held0 0) ≡ 11 ∷ 10 ∷ []
  pub protect_own_vtl1 : both (protecting held1 1) ≡ 11 ∷ 10 ∷ []
  pub protect_other : both (protecting held0 1) ≡ 0 ∷ 0 ∷ []
  pub protect_other_vtl0 : both (protecting held1 0) ≡ 0 ∷ 0 ∷ []
  pub register_own : registering held0 0 5 ≡ ok 0
  pub register_locked : registering held0 0 6 ≡ refused 10 8
  pub register_other : registering held0 1 5 ≡ waits
  pub register_other_locked : registering held0 1 6 ≡ waits
  pub register_vtl1_locked : registering held1 1 6 ≡ refused 10 8
  pub register_dma_locked : (register_of (rests first (tables [] [] (one_locked 16) [])) 0 16 1 0 16).reply ≡ refused 10 8
  -- with code 8 and index 0, nothing changed
  pub locked : visibility_of held0 0 1 (page 3 (page 6 [])) ≡ keeps held0 (refused 10 8)
  pub overlaid_page : visibility_of held0 0 1 (page 3 (page 5 [])) ≡ keeps held0 (refused 11 8)
  pub hole : visibility_of held0 0 1 (page 3 (page 16 [])) ≡ keeps held0 (refused 7 8)
  -- every list of a VTL bars
  pub each_list : both (sharing (rests first (two 6)) 0) ≡ 10 ∷ 10 ∷ []
  -- page by page, in list order
  pub overlay_first : sharing held0 0 (page 5 (page 6 (page 16 []))) ≡ refused 11 8
  pub locked_first : sharing held0 0 (page 6 (page 16 (page 5 []))) ≡ refused 10 8
  pub hole_first : sharing held0 0 (page 16 (page 5 (page 6 []))) ≡ refused 7 8
  pub protect_overlay_first : protecting (rests closed (tables overlay [] [] [])) 0 (page 3 (page 5 [])) ≡ refused 11 8
  -- no overlay any more: locked
  pub again_locked : sharing (after 4 (unregister_of held0 0 5)) 0 (page 5 []) ≡ refused 10 8
  -- a default change: the default is stored all the same; only private RAM pages without an overlay of its VTL are looked at
  pub default_own : default_of held0 0 4 ≡ keeps (rest read_only (settings 2 1 0 0 4 16) held0.tables) (refused 10 8)
  pub default_own_vtl1 : default_of held1 1 4 ≡ keeps (rest first (settings 2 1 0 0 15 4) held1.tables) (refused 10 8)
  pub default_keeps_vtl1 : default_of (others read_only 6 9 held0.tables) 0 4 ≡ keeps (others read_only 4 9 held0.tables) (refused 10 8)
  pub default_keeps_vtl0 : default_of (others first 6 9 held1.tables) 1 4 ≡ keeps (others first 6 4 held1.tables) (refused 10 8)
  pub default_first_list : (default_of (rests closed (two 3)) 0 4).reply ≡ refused 10 8
  pub default_other : (default_of held0 1 4).reply ≡ protects 1 4 2049 0 16
  pub default_other_vtl0 : (default_of held1 0 4).reply ≡ protects 0 4 2050 0 16
  pub default_overlay : (default_of (rests read_only (tables overlay [] (one_locked 5) [])) 0 4).reply ≡ protects 0 4 2050 0 5
  pub default_shared : (default_of (rests closed (tables [] [] (one_locked 3) [])) 0 4).reply ≡ protects 0 4 2050 0 3
  pub default_hole : (default_of (rests first (tables [] [] (one_locked 16) [])) 0 4).reply ≡ protects 0 4 2050 0 16

-- ---- locked lists

abbrev pub state : List ℕ
state = fresh.state

-- VTL1 has locked [1], [2, 1], [1], [3] and the empty list
abbrev pub lists : List ℕ
lists = tables [] [] [] (lock_table 5 (1 ∷ 3 ∷ 4 ∷ 5 ∷ 5 ∷ []) (1 ∷ 2 ∷ 1 ∷ 1 ∷ 3 ∷ []))

-- all but the empty one
abbrev pub four : List ℕ
four = tables [] [] [] (lock_table 4 (1 ∷ 3 ∷ 4 ∷ 5 ∷ []) (1 ∷ 2 ∷ 1 ∷ 1 ∷ 3 ∷ []))

pub record Locks : Type 0 where
  pub lists_made : lock_of state four 1 [] ≡ kept lists (ok 0)
  -- of two equal lists the earlier goes, and its place is taken by the list at the end
  pub first_equal : unlock_of state lists 1 (page 1 []) ≡ kept (tables [] [] [] (lock_table 4 (0 ∷ 2 ∷ 3 ∷ 4 ∷ []) (2 ∷ 1 ∷ 1 ∷ 3 ∷ []))) (ok 0)
  pub last_itself : unlock_of state lists 1 [] ≡ kept four (ok 0)
  pub last_moved : unlock_of state four 1 (page 2 (page 1 [])) ≡ kept (tables [] [] [] (lock_table 3 (1 ∷ 2 ∷ 3 ∷ []) (1 ∷ 3 ∷ 1 ∷ []))) (ok 0)
  -- equal in every place, and in its VTL
  pub reordered : unlock_of state lists 1 (page 1 (page 2 [])) ≡ kept lists (refused 18 0)
  pub part : unlock_of state lists 1 (page 2 []) ≡ kept lists (refused 18 0)
  pub other_vtl : unlock_of state lists 0 (page 3 []) ≡ kept lists (refused 18 0)
  -- RAM or not, repeated or not, by the eight bytes
  pub any_page : lock_of state no_tables 0 (page 16 (page 16 (0 ∷ 0 ∷ 0 ∷ 0 ∷ 0 ∷ 0 ∷ 16 ∷ 0 ∷ []))) ≡ kept (tables [] [] (lock_table 1 (3 ∷ []) (16 ∷ 16 ∷ 4503599627370496 ∷ [])) []) (ok 0)
  pub vtl_2 : lock_of state no_tables 2 (page 1 []) ≡ kept no_tables (refused 8 0)
  pub over : lock_of state no_tables 0 (page 1 (1 ∷ [])) ≡ kept no_tables (refused 8 0)
  -- a first word above 64 counts as 64
  pub past_64 : lock_of state (tables [] [] [] (lock_table 65 (1 ∷ []) (1 ∷ []))) 1 (page 2 []) ≡ kept (tables [] [] [] (lock_table 65 (1 ∷ []) (1 ∷ []))) (refused 17 0)

-- ---- the visibility query: 0 private, 1 shared; page 3 is shared

abbrev pub told : List ℕ → List ℕ → Reply → List ℕ → Type 0
told l out r filled = query_of state closed.shared l out ≡ query filled r

pub record Queries : Type 0 where
  pub marks : told (page 2 (page 3 (page 4 []))) (9 ∷ 9 ∷ 9 ∷ []) (ok 0) (0 ∷ 1 ∷ 0 ∷ [])
  -- an output that is short is filled as far as it goes, one that is long is left from there on: Ok either way
  pub short : told (page 3 (page 4 (page 3 []))) (9 ∷ 9 ∷ []) (ok 0) (1 ∷ 0 ∷ [])
  pub none : told (page 3 (page 4 [])) [] (ok 0) []
  pub long : told (page 3 []) (9 ∷ 9 ∷ []) (ok 0) (1 ∷ 9 ∷ [])
  -- 7 at its own index, before any byte, also past a short output
  pub hole : told (page 3 (page 4 (page 16 []))) (9 ∷ 9 ∷ 9 ∷ []) (finished 7 8 2 0) (9 ∷ 9 ∷ 9 ∷ [])
  pub past : told (page 3 (page 40 [])) (9 ∷ []) (finished 7 8 1 0) (9 ∷ [])
  pub over : told (page 16 (1 ∷ [])) (9 ∷ []) (refused 8 0) (9 ∷ [])
  pub length : query_of state (0 ∷ []) (page 3 (1 ∷ [])) (9 ∷ []) ≡ query (9 ∷ []) (refused 4 0)

-- ---- busy (19) and halted (20)

-- Wait of a share of page 3 is outstanding; a failed Protect has halted it
abbrev pub busy : Buffers
busy = (visibility_of fresh 0 1 (page 3 [])).buffers

abbrev pub halted : Buffers
halted = (follow (visibility_of fresh 0 1 (page 3 [])) (Succeeds ∷ Succeeds ∷ Fails 77 0 ∷ [])).last.buffers

-- the calls that wait their turn, each unfit besides
abbrev pub refusals : Buffers → List ℕ
refusals w =
    (visibility_of w 2 1 (page 3 (page 3 (1 ∷ [])))).reply.number ∷ (protection_of w 2 4 (1 ∷ [])).reply.number ∷ (default_of w 2 16).reply.number
    ∷ (register_of w 2 5 2 16 17).reply.number ∷ (unregister_of w 2 5).reply.number ∷ (is_overlay_in w.state w.tables 2 5).number
    ∷ (lock_of w.state w.tables 2 (1 ∷ [])).reply.number ∷ (unlock_of w.state w.tables 2 (1 ∷ [])).reply.number ∷ (enable_of w.state).reply.number
    ∷ (enabled_in w.state).number ∷ (default_in w.state).number ∷ (query_of w.state w.maps.shared (1 ∷ []) []).reply.number ∷ []

-- those that don't: of page 4, and of page 40, past the maps
abbrev pub passes : Buffers → List ℕ
passes w =
    (fault_in w.state w.maps 0 0 16384 0 1).number ∷ (lower_in w.state w.maps 0 4).number ∷ (access_in w.state w.maps 4).number
    ∷ (fault_in w.state w.maps 0 0 163840 0 1).number ∷ (lower_in w.state w.maps 0 40).number ∷ (access_in w.state w.maps 40).number ∷ []

-- lent no `pages` run and no tables
abbrev pub short : Buffers → Buffers
short w = buffers w.maps w.state [] []

-- lent a state block of a word too many, and of a word too few
abbrev pub longer : Buffers → Buffers
longer w = buffers w.maps (w.state ++ (0 ∷ [])) w.pages w.tables

abbrev pub shorter : Buffers → Buffers
shorter w = buffers w.maps (replicate 127 0) w.pages w.tables

pub record Turns : Type 0 where
  pub busy_19 : refusals busy ≡ replicate 12 19
  pub halted_20 : refusals halted ≡ replicate 12 20
  pub idle_input : refusals fresh ≡ 6 ∷ 8 ∷ 8 ∷ 8 ∷ 8 ∷ 8 ∷ 8 ∷ 8 ∷ 0 ∷ 0 ∷ 0 ∷ 8 ∷ []
  pub busy_passes : passes busy ≡ replicate 6 0
  pub halted_passes : passes halted ≡ replicate 6 0
  pub busy_keeps : visibility_of busy 0 1 (page 4 []) ≡ keeps busy (refused 19 0)
  -- 19 and 20 before a run of wrong length, and that before the other input; the setter, the getters and the query are not lent these runs
  pub busy_short : refusals (short busy) ≡ replicate 12 19
  pub halted_short : refusals (short halted) ≡ replicate 12 20
  pub idle_short : refusals (short fresh) ≡ 4 ∷ 4 ∷ 4 ∷ 4 ∷ 4 ∷ 4 ∷ 4 ∷ 4 ∷ 0 ∷ 0 ∷ 0 ∷ 8 ∷ []
  pub busy_short_map : query_of busy.state (0 ∷ []) (page 3 []) (9 ∷ []) ≡ query (9 ∷ []) (refused 19 0)
  -- a state block of another length before all else, answers included
  pub busy_longer : refusals (longer busy) ≡ replicate 12 4
  pub halted_longer : refusals (longer halted) ≡ replicate 12 4
  pub idle_shorter : refusals (shorter fresh) ≡ replicate 12 4
  pub halted_longer_done : answer_done (longer halted) ≡ keeps (longer halted) (refused 4 0)
  -- 19 before 24
  pub busy_untracked : (enable_of (visibility_of (rest untracked (settings 2 0 0 0 15 16) no_tables) 0 1 (page 3 [])).buffers.state).reply ≡ refused 19 0
  -- of an answer too, and before 21: nothing is asked, or a Wait is said to have failed
  pub halted_short_done : answer_done (short halted) ≡ keeps (short halted) (refused 20 0)
  pub idle_short_done : answer_done (short fresh) ≡ keeps (short fresh) (refused 4 0)
  pub busy_short_failed : answer_failed (short busy) 77 0 ≡ keeps (short busy) (refused 4 0)
  -- an answer after a halt isn't taken
  pub halted_done : answer_done halted ≡ keeps halted (refused 20 0)
  pub halted_failed : answer_failed halted 77 0 ≡ keeps halted (refused 20 0)
  -- the marks as they were then
  pub halted_maps : halted.maps ≡ maps (low 0xf7) clear (low 0xf7) (low 0xf7) (low 0xf7) (low 0xf7)
