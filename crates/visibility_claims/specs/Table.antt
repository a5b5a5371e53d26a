-- P2 to P5 of document 01, its longest list, and cases that tell a right reading from one that is nearly right, computed by the definitions: RAM
-- pages 0 to 15 and 32 to 39.
use Rattle.std.specs.Prelude.{true, false, List, [], ◌∷◌, ◌++◌, ◌≡◌, ℕ, zero, suc, ◌/◌, ◌%◌, length, replicate, set}
use Rattle.abi.specs.Codes as code
use Rattle.abi.specs.Lengths.{pages_len, tables_len}
use Rattle.abi.specs.Operations as operation
use Rattle.abi.specs.Places as place
use Rattle.abi.specs.Refusals as refusal
use Rattle.layout.specs.Layout.{entries_of}
use Rattle.permissions.specs.declared.GuestVtl.{GuestVtl}
use Rattle.permissions.specs.declared.GuestVtl.TheVariants.{Vtl0, Vtl1}
use Rattle.permissions.specs.Flags.{no_flags, all_flags}
use Rattle.permissions.specs.HvError.{code_of}
use Rattle.mapping.specs.Maps.{Maps, maps, built}
use Rattle.page_list.specs.Runs.{run}
use Rattle.overlay_table.specs.Overlays as overlays
use Rattle.lock_table.specs.Locks as locks
use Rattle.protector_state.specs.State.{built_state}
use Rattle.protector_state.specs.Reply.{finished, plain}
use Rattle.call_refusals.specs.Buffers.{Buffers, buffers, fits}
use Rattle.call_refusals.specs.Refusals.{visibility_refusal}
use Rattle.protector.specs.Calls.{visibility_of}
use Rattle.visibility_claims.specs.Whole.{Wait, FlushAll, Protect, Invalidate, Modify, Accept, Zero, BackendAnswer, Succeeds, Fails, Denied, Ok, StoppedAt, FailedAt, Whole}
use Rattle.visibility_claims.specs.Requested.{requested_of, pages_in, places_in}
use Rattle.visibility_claims.specs.Calls.{whole_of, Told, follow}

abbrev pub ram : List ℕ
ram = 0 ∷ 65536 ∷ 0 ∷ 131072 ∷ 163840 ∷ 1 ∷ []

-- a page below 256 in a list
abbrev pub page : ℕ → List ℕ → List ℕ
page gpn list = gpn ∷ 0 ∷ 0 ∷ 0 ∷ 0 ∷ 0 ∷ 0 ∷ 0 ∷ list

abbrev pub dones : ℕ → List BackendAnswer
dones n = replicate n Succeeds

-- five bytes of any content, and a protector built over them on SNP with tracked permissions
abbrev pub lent : List ℕ
lent = 0xa5 ∷ 0xa5 ∷ 0xa5 ∷ 0xa5 ∷ 0xa5 ∷ []

abbrev pub fresh : Buffers
fresh = buffers (built (entries_of ram) (maps lent lent lent lent lent lent)) (built_state ram 2 1 0) (replicate pages_len 0) (replicate tables_len 0)

-- it with these maps, and with protections enabled
abbrev with : Buffers → Maps → Buffers
with old maps = buffers maps old.state old.pages old.tables

abbrev pub enabled : Buffers
enabled = buffers fresh.maps (set fresh.state place.enabled 1) fresh.pages fresh.tables

abbrev pub P2 : Whole
P2 = whole_of fresh Vtl0 true (page 3 (page 9 (page 10 []))) (dones 9)

-- from what P2 left
abbrev P3 : Whole
P3 = whole_of (with fresh P2.maps) Vtl0 false (page 9 (page 10 [])) (Succeeds ∷ Succeeds ∷ Fails 77 1 ∷ dones 3)

-- the same with page 4 between the two, which is private
abbrev dropped : Whole
dropped = whole_of (with fresh P2.maps) Vtl0 false (page 9 (page 4 (page 10 []))) (Succeeds ∷ Succeeds ∷ Fails 77 1 ∷ dones 3)

abbrev P5 : GuestVtl → ℕ → Whole
P5 vtl n = whole_of enabled vtl true (page 3 []) (dones n)

-- again, from what that left
abbrev p5_again : GuestVtl → ℕ → Whole
p5_again vtl n = whole_of (with enabled (P5 vtl n).maps) vtl true (page 3 []) (dones 3)

-- ---- 15: the pages of RAM, without page 5, without page 3, and page 3 alone

abbrev all : List ℕ
all = 0xff ∷ 0xff ∷ 0x00 ∷ 0x00 ∷ 0xff ∷ []

abbrev but5 : List ℕ
but5 = 0xdf ∷ 0xff ∷ 0x00 ∷ 0x00 ∷ 0xff ∷ []

abbrev but3 : List ℕ
but3 = 0xf7 ∷ 0xff ∷ 0x00 ∷ 0x00 ∷ 0xff ∷ []

abbrev only3 : List ℕ
only3 = 0x08 ∷ 0x00 ∷ 0x00 ∷ 0x00 ∷ 0x00 ∷ []

-- page 5 readable and not writable, and writable and not readable
abbrev read_only : Maps
read_only = maps all fresh.maps.shared all but5 all all

abbrev write_only : Maps
write_only = maps all fresh.maps.shared but5 all all all

-- page 3 is shared already, and page 5 isn't writable
abbrev mixed : Buffers
mixed = with enabled (maps but3 only3 all but5 all all)

abbrev mixed_list : List ℕ
mixed_list = page 6 (page 3 (page 7 (page 5 (page 8 []))))

abbrev stopped : Whole
stopped = whole_of mixed Vtl0 true mixed_list (dones 6)

-- ---- the same through the calls, each from what the calls before it left

abbrev pub p2_calls : Told
p2_calls = follow (visibility_of fresh 0 1 (page 3 (page 9 (page 10 [])))) (dones 9)

abbrev pub p3_calls : Told
p3_calls = follow (visibility_of p2_calls.last.buffers 0 0 (page 9 (page 10 []))) (Succeeds ∷ Succeeds ∷ Fails 77 1 ∷ dones 3)

abbrev pub p5_calls : ℕ → ℕ → Told
p5_calls vtl n = follow (visibility_of enabled vtl 1 (page 3 [])) (dones n)

abbrev pub p5_calls_again : ℕ → ℕ → Told
p5_calls_again vtl n = follow (visibility_of (p5_calls vtl n).last.buffers vtl 1 (page 3 [])) (dones 3)

-- what they tell: number, code, index, count
pub record Replies : Type 0 where
  pub p2_told : p2_calls.last.reply ≡ finished 0 0 0 9
  pub p2_private : p2_calls.last.buffers.maps.private ≡ 0xf7 ∷ 0xf9 ∷ 0x00 ∷ 0x00 ∷ 0xff ∷ []
  pub p2_shared : p2_calls.last.buffers.maps.shared ≡ 0x08 ∷ 0x06 ∷ 0x00 ∷ 0x00 ∷ 0x00 ∷ []
  pub p3_told : p3_calls.last.reply ≡ finished refusal.backend_failed 77 1 6
  pub p3_private : p3_calls.last.buffers.maps.private ≡ 0xf7 ∷ 0xfb ∷ 0x00 ∷ 0x00 ∷ 0xff ∷ []
  pub p3_shared : p3_calls.last.buffers.maps.shared ≡ 0x08 ∷ 0x04 ∷ 0x00 ∷ 0x00 ∷ 0x00 ∷ []
  pub p5_first : (p5_calls 0 6).last.reply ≡ finished 0 0 0 6
  pub p5_second : (p5_calls_again 0 6).last.reply ≡ finished refusal.access_denied code.access_denied 0 3
  pub p5_vtl1_first : (p5_calls 1 6).last.reply ≡ finished 0 0 0 6
  pub p5_vtl1_second : (p5_calls_again 1 6).last.reply ≡ finished 0 0 0 3
  pub read_only_told : (follow (visibility_of (with fresh read_only) 0 1 (page 5 [])) (dones 6)).last.reply ≡ finished 0 0 0 6
  pub read_only_stopped : (follow (visibility_of (with enabled read_only) 0 1 (page 5 [])) (dones 3)).last.reply ≡ finished refusal.access_denied code.access_denied 0 3
  pub stopped_told : (follow (visibility_of mixed 0 1 mixed_list) (dones 6)).last.reply ≡ finished refusal.access_denied code.access_denied 3 6

-- ---- 7, 10 and 11: in VTL0 an overlay on page 4 and a locked list of pages 4, 6 and 20, in VTL1 an overlay on page 7 and a locked list of page 8; page 20 is no RAM

abbrev guarded : Buffers
guarded =
    buffers fresh.maps fresh.state fresh.pages
    (overlays.table_of (overlays.entry 4 15 15 1 0 ∷ []) ++ (overlays.table_of (overlays.entry 7 15 15 1 0 ∷ [])
    ++ (locks.table_of ((4 ∷ 6 ∷ 20 ∷ []) ∷ []) ++ locks.table_of ((8 ∷ []) ∷ []))))

-- ---- long lists: the pages from p on, n of them, below page 65,536; and a protector on SNP with 512 pages of RAM

unfoldable pub bytes_from : ℕ → ℕ → List ℕ
bytes_from gpn zero = []
bytes_from gpn (suc n) = gpn % 256 ∷ gpn / 256 ∷ 0 ∷ 0 ∷ 0 ∷ 0 ∷ 0 ∷ 0 ∷ bytes_from (suc gpn) n

abbrev pub broad : Buffers
broad =
    buffers (maps (replicate 64 0) (replicate 64 0) (replicate 64 0) (replicate 64 0) (replicate 64 0) (replicate 64 0)) (built_state (0 ∷ 2097152 ∷ 0 ∷ []) 2 1 0)
    (replicate pages_len 0) (replicate tables_len 0)

-- where a share stops (15)
pub record Stops : Type 0 where
  -- a page that isn't both readable and writable: VTL0 shares it until protections are enabled; no share of VTL1 and no return stops there
  pub read_only_before : (whole_of (with fresh read_only) Vtl0 true (page 5 []) (dones 6)).status ≡ Ok
  pub read_only_after : (whole_of (with enabled read_only) Vtl0 true (page 5 []) (dones 3)).status ≡ StoppedAt 0
  pub write_only_before : (whole_of (with fresh write_only) Vtl0 true (page 5 []) (dones 6)).status ≡ Ok
  pub write_only_after : (whole_of (with enabled write_only) Vtl0 true (page 5 []) (dones 3)).status ≡ StoppedAt 0
  pub read_only_vtl1 : (whole_of (with enabled read_only) Vtl1 true (page 5 []) (dones 6)).status ≡ Ok
  pub read_only_private : (whole_of (with enabled read_only) Vtl0 false (page 5 []) (dones 3)).status ≡ Ok
  -- 6, 3, 7, 5, 8: 3 drops out, 5 stops the list at its own place, and 8 isn't asked for
  pub stopped_pages : pages_in (requested_of mixed Vtl0 true mixed_list).listed ≡ 6 ∷ 7 ∷ []
  pub stopped_places : places_in (requested_of mixed Vtl0 true mixed_list).listed ≡ 0 ∷ 2 ∷ []
  pub stopped_asked : stopped.asked ≡ Wait ∷ FlushAll ∷ Protect Vtl0 no_flags (run 6 2) ∷ Protect Vtl1 no_flags (run 6 2) ∷ Invalidate (run 6 2) ∷ Modify true (6 ∷ 7 ∷ []) ∷ []
  pub stopped_stands : stopped.status ≡ StoppedAt 3
  pub stopped_private : stopped.maps.private ≡ 0x37 ∷ 0xff ∷ 0x00 ∷ 0x00 ∷ 0xff ∷ []
  pub stopped_shared : stopped.maps.shared ≡ 0xc8 ∷ 0x00 ∷ 0x00 ∷ 0x00 ∷ 0x00 ∷ []

-- what refuses a page (7, 10, 11)
pub record Bars : Type 0 where
  -- a page locked and overlaid isn't locked: shared it is 11, returned it is taken; locked alone it is 10 either way
  pub overlaid_shared : (visibility_of guarded 0 1 (page 4 [])).reply ≡ finished refusal.overlay code.operation_denied 0 0
  pub overlaid_returned : (visibility_of guarded 0 0 (page 4 [])).reply ≡ plain operation.wait
  pub locked_shared : (visibility_of guarded 0 1 (page 6 [])).reply ≡ finished refusal.locked code.operation_denied 0 0
  pub locked_returned : (visibility_of guarded 0 0 (page 6 [])).reply ≡ finished refusal.locked code.operation_denied 0 0
  -- no RAM comes before locked, and the first refused page of the list before the others
  pub hole_locked : (visibility_of guarded 0 1 (page 20 [])).reply ≡ finished refusal.not_ram code.operation_denied 0 0
  pub locked_first : (whole_of guarded Vtl0 true (page 6 (page 4 (page 20 []))) []).status ≡ Denied refusal.locked
  pub overlaid_first : (whole_of guarded Vtl0 true (page 4 (page 20 (page 6 []))) []).status ≡ Denied refusal.overlay
  pub hole_first : (whole_of guarded Vtl0 true (page 20 (page 6 (page 4 []))) []).status ≡ Denied refusal.not_ram
  -- overlays and locks of the other VTL are no bar
  pub vtl1s_own : (whole_of guarded Vtl0 true (page 7 (page 8 [])) (dones 6)).status ≡ Ok
  pub vtl0s_own : (whole_of guarded Vtl1 true (page 4 (page 6 [])) (dones 9)).status ≡ Ok
  pub vtl1_overlaid : (whole_of guarded Vtl1 true (page 7 []) []).status ≡ Denied refusal.overlay
  pub vtl1_locked : (whole_of guarded Vtl1 true (page 8 []) []).status ≡ Denied refusal.locked

-- how long a list may be (5), by 01's own numbers
pub record Lists : Type 0 where
  pub taken_512 : visibility_refusal broad.state (fits broad) broad.tables 0 1 (bytes_from 0 512) ≡ 0
  pub refused_513 : visibility_refusal broad.state (fits broad) broad.tables 0 1 (bytes_from 0 513) ≡ refusal.long_list

pub record Visibility : Type 0 where
  pub p2_asked : P2.asked
      ≡ Wait ∷ FlushAll ∷ Protect Vtl0 no_flags (run 3 1) ∷ Protect Vtl1 no_flags (run 3 1) ∷ Invalidate (run 3 1) ∷ Protect Vtl0 no_flags (run 9 2) ∷ Protect Vtl1 no_flags (run 9 2) ∷ Invalidate (run 9 2) ∷ Modify true (3 ∷ 9 ∷ 10 ∷ []) ∷ []
  pub p2_counted : length P2.asked ≡ 9
  pub p2_private : P2.maps.private ≡ 0xf7 ∷ 0xf9 ∷ 0x00 ∷ 0x00 ∷ 0xff ∷ []
  pub p2_shared : P2.maps.shared ≡ 0x08 ∷ 0x06 ∷ 0x00 ∷ 0x00 ∷ 0x00 ∷ []
  pub p2_ok : P2.status ≡ Ok
  pub p3_asked : P3.asked ≡ Wait ∷ FlushAll ∷ Modify false (9 ∷ 10 ∷ []) ∷ Accept (run 9 1) ∷ Zero (run 9 1) ∷ Protect Vtl0 all_flags (run 9 1) ∷ []
  pub p3_private : P3.maps.private ≡ 0xf7 ∷ 0xfb ∷ 0x00 ∷ 0x00 ∷ 0xff ∷ []
  pub p3_shared : P3.maps.shared ≡ 0x08 ∷ 0x04 ∷ 0x00 ∷ 0x00 ∷ 0x00 ∷ []
  pub p3_failed : P3.status ≡ FailedAt 77 1
  -- page 4 drops out and counts in the index of 16
  pub dropped_asked : dropped.asked ≡ P3.asked
  pub dropped_failed : dropped.status ≡ FailedAt 77 2
  pub P4 : visibility_of fresh 0 1 (page 3 (page 16 [])) ≡ record { buffers = fresh; reply = finished refusal.not_ram (code_of refusal.not_ram) 0 0 }
  pub p5_first : (P5 Vtl0 6).status ≡ Ok
  pub p5_second : (p5_again Vtl0 6).status ≡ StoppedAt 0
  pub p5_vtl1_first : (P5 Vtl1 6).status ≡ Ok
  pub p5_vtl1_second : (p5_again Vtl1 6).status ≡ Ok
  pub long_refused : (visibility_of fresh 0 1 (replicate 4104 0)).reply ≡ finished refusal.long_list (code_of refusal.long_list) 0 0
  pub replies : Replies
  pub stops : Stops
  pub bars : Bars
  pub lists : Lists
