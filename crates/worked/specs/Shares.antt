-- Visibility changes with the answers to what they ask for, as replies that cross: document 01, "The request under way", its two bullets, "From the state" 15, 16,
-- 20 and 21.
use Rattle.std.specs.Prelude.{List, [], ◌∷◌, ◌≡◌, ℕ}
use Rattle.mapping.specs.Maps.{Maps, maps}
use Rattle.protector_state.specs.declared.Reply.{Reply}
use Rattle.protector_state.specs.Reply.{finished}
use Rattle.call_refusals.specs.Buffers.{Buffers}
use Rattle.protector.specs.Calls.{visibility_of, answer_done, answer_failed}
use Rattle.protection_entries.specs.Calls.{protection_of}
use Rattle.visibility_claims.specs.Whole.{BackendAnswer, Succeeds, Fails}
use Rattle.visibility_claims.specs.Calls.{follow}
use Rattle.visibility_claims.specs.Table.{page, dones, fresh, enabled}
use Rattle.worked.specs.Crossing.{ok, refused, keeps, waits, flushes_all, protects, invalidates, releases, shares, returns, accepts, zeroes, replies, after, named, low, all_ram, only, clear, first, untracked, settings, no_tables, rest, forgotten}

-- ---- operations: VTL0's default is all four flags, VTL1's is read and kernel execute (5)

abbrev pub on : ℕ → ℕ → Maps → Buffers
on isolation release m = rest m (settings isolation 1 release 0 15 5) no_tables

abbrev pub three : List ℕ
three = page 3 (page 9 (page 10 []))

-- without pages 3, 9 and 10, and with these alone
abbrev pub less : List ℕ
less = 0xf7 ∷ 0xf9 ∷ 0x00 ∷ 0x00 ∷ 0xff ∷ []

abbrev pub these : List ℕ
these = 0x08 ∷ 0x06 ∷ 0x00 ∷ 0x00 ∷ 0x00 ∷ []

-- as P2 leaves them
abbrev pub shared : Maps
shared = maps less these less less less less

abbrev pub sharing : ℕ → ℕ → List Reply
sharing isolation release = replies (visibility_of (on isolation release first) 0 1 three) (dones 9)

abbrev pub returning : ℕ → ℕ → List Reply
returning isolation release = replies (visibility_of (on isolation release shared) 0 0 three) (dones 11)

pub record Operations : Type 0 where
  pub snp_share : sharing 2 1
      ≡ waits ∷ flushes_all ∷ protects 0 0 2 3 1 ∷ protects 1 0 1 3 1 ∷ invalidates 3 1 ∷ protects 0 0 2 9 2 ∷ protects 1 0 1 9 2 ∷ invalidates 9 2 ∷ shares 3 ∷ ok 9 ∷ []
  -- Release only on TDX, and only by its flag
  pub tdx_share : sharing 3 1 ≡ waits ∷ releases 3 1 ∷ releases 9 2 ∷ shares 3 ∷ ok 4 ∷ []
  pub tdx_share_unreleased : sharing 3 0 ≡ waits ∷ shares 3 ∷ ok 2 ∷ []
  pub cca_share : sharing 4 1 ≡ waits ∷ shares 3 ∷ ok 2 ∷ []
  -- acceptance run by run, then permissions run by run; operands on SNP alone, user and kernel execute having changed places in them
  pub snp_return : returning 2 1
      ≡ waits ∷ flushes_all ∷ returns 3 ∷ accepts 3 1 ∷ zeroes 3 1 ∷ accepts 9 2 ∷ zeroes 9 2 ∷ protects 0 15 3842 3 1 ∷ protects 1 5 2305 3 1 ∷ protects 0 15 3842 9 2 ∷ protects 1 5 2305 9 2 ∷ ok 11 ∷ []
  pub tdx_return : returning 3 1
      ≡ waits ∷ returns 3 ∷ accepts 3 1 ∷ accepts 9 2 ∷ protects 0 15 0 3 1 ∷ protects 1 5 0 3 1 ∷ protects 0 15 0 9 2 ∷ protects 1 5 0 9 2 ∷ ok 8 ∷ []
  pub tdx_return_unreleased : returning 3 0
      ≡ waits ∷ returns 3 ∷ accepts 3 1 ∷ accepts 9 2 ∷ protects 0 15 0 3 1 ∷ protects 1 5 0 3 1 ∷ protects 0 15 0 9 2 ∷ protects 1 5 0 9 2 ∷ ok 8 ∷ []
  pub cca_return : returning 4 1 ≡ waits ∷ returns 3 ∷ protects 0 15 0 3 1 ∷ protects 1 5 0 3 1 ∷ protects 0 15 0 9 2 ∷ protects 1 5 0 9 2 ∷ ok 6 ∷ []
  -- no default of VTL1 given: none is asked for it
  pub none_given : replies (visibility_of (rest shared (settings 4 1 0 0 15 16) no_tables) 0 0 three) (dones 4) ≡ waits ∷ returns 3 ∷ protects 0 15 0 3 1 ∷ protects 0 15 0 9 2 ∷ ok 4 ∷ []
  -- given as no flag: it is asked for
  pub nothing_given : replies (visibility_of (rest shared (settings 2 1 0 0 4 0) no_tables) 0 0 (page 3 [])) (dones 7)
      ≡ waits ∷ flushes_all ∷ returns 1 ∷ accepts 3 1 ∷ zeroes 3 1 ∷ protects 0 4 2050 3 1 ∷ protects 1 0 1 3 1 ∷ ok 7 ∷ []
  -- Modify's pages in the run `pages`, in list order, and their places
  pub share_names : named 3 (after 8 (visibility_of (on 2 1 first) 0 1 three)) ≡ 3 ∷ 9 ∷ 10 ∷ 0 ∷ 1 ∷ 2 ∷ []
  pub return_names : named 3 (after 2 (visibility_of (on 2 1 shared) 0 0 (page 10 (page 3 (page 9 []))))) ≡ 10 ∷ 3 ∷ 9 ∷ 0 ∷ 1 ∷ 2 ∷ []
  -- what is already so drops out
  pub share_drops : named 2 (visibility_of (on 2 1 shared) 1 1 (page 2 (page 3 (page 4 [])))).buffers ≡ 2 ∷ 4 ∷ 0 ∷ 2 ∷ []
  pub return_drops : named 2 (visibility_of (on 2 1 shared) 0 0 (page 2 (page 3 (page 4 (page 9 []))))).buffers ≡ 3 ∷ 9 ∷ 1 ∷ 3 ∷ []
  pub all_drop : replies (visibility_of (on 2 1 first) 0 0 three) (dones 3) ≡ waits ∷ flushes_all ∷ returns 0 ∷ ok 3 ∷ []

-- ---- when marks and permissions move: after n answers, each done

abbrev pub share_after : ℕ → ℕ → Maps
share_after vtl n = (after n (visibility_of (on 2 1 first) vtl 1 three)).maps

abbrev pub return_after : ℕ → ℕ → Maps
return_after isolation n = (after n (visibility_of (on isolation 1 shared) 1 0 three)).maps

pub record Moves : Type 0 where
  -- VTL0: private marks and permissions at once, shared marks when Modify is done
  pub share_called : share_after 0 0 ≡ maps less clear less less less less
  pub share_modifies : share_after 0 8 ≡ maps less clear less less less less
  pub share_done : share_after 0 9 ≡ shared
  -- VTL1 clears no permission, and neither does anyone where none are tracked
  pub share_vtl1 : share_after 1 9 ≡ maps less these all_ram all_ram all_ram all_ram
  pub share_untracked : (after 9 (visibility_of (rest untracked (settings 2 0 0 0 15 16) no_tables) 0 1 three)).maps ≡ maps less these [] [] [] []
  -- a return clears shared marks at the call; its private marks come after Zero on SNP, after Accept on TDX, after Modify on CCA; then a Protect of VTL0 writes permissions
  pub return_called : return_after 2 0 ≡ maps less clear less less less less
  pub snp_zeroing : return_after 2 6 ≡ maps less clear less less less less
  pub snp_zeroed : return_after 2 7 ≡ maps all_ram clear (0xff ∷ 0xf9 ∷ 0x00 ∷ 0x00 ∷ 0xff ∷ []) (0xff ∷ 0xf9 ∷ 0x00 ∷ 0x00 ∷ 0xff ∷ []) (0xff ∷ 0xf9 ∷ 0x00 ∷ 0x00 ∷ 0xff ∷ []) (0xff ∷ 0xf9 ∷ 0x00 ∷ 0x00 ∷ 0xff ∷ [])
  pub snp_returned : return_after 2 11 ≡ first
  pub tdx_accepting : (return_after 3 3).private ≡ less
  pub tdx_accepted : (return_after 3 4).private ≡ all_ram
  pub cca_modifying : (return_after 4 1).private ≡ less
  pub cca_modified : (return_after 4 2).private ≡ all_ram
  -- each flag of VTL0's default to its map: write and kernel execute (6)
  pub default_6 : (after 7 (visibility_of (rest shared (settings 2 1 0 0 6 16) no_tables) 1 0 (page 9 (page 10 [])))).maps
      ≡ maps (low 0xf7) (only 0x08) less (low 0xf7) (low 0xf7) less

-- ---- where sharing stops (15)

-- page 5 read-only, and write-only
abbrev pub read_only : Maps
read_only = maps all_ram clear all_ram (low 0xdf) (low 0xdf) (low 0xdf)

abbrev pub write_only_lem : Maps
write_only_lem = maps all_ram clear (low 0xdf) all_ram (low 0xdf) (low 0xdf)

-- page 3 is shared already, by VTL1, page 5 is read-only; and shared by VTL0
abbrev pub mixed : Maps
mixed = maps (low 0xf7) (only 0x08) all_ram (low 0xdf) (low 0xdf) (low 0xdf)

abbrev pub closed : Maps
closed = maps (low 0xf7) (only 0x08) (low 0xf7) (low 0xf7) (low 0xf7) (low 0xf7)

abbrev pub off : Maps → Buffers
off m = rest m (settings 2 1 0 0 15 16) no_tables

abbrev pub guarded : Maps → Buffers
guarded m = rest m (settings 2 1 0 1 15 16) no_tables

abbrev pub last : Buffers → ℕ → List ℕ → Reply
last w vtl l = (follow (visibility_of w vtl 1 l) (dones 14)).last.reply

abbrev pub five : List ℕ
five = page 6 (page 3 (page 7 (page 5 (page 8 []))))

pub record Stops : Type 0 where
  -- the calls that leave these maps
  pub read_only_made : forgotten (after 4 (protection_of fresh 0 1 (page 5 []))) ≡ off read_only
  pub write_only_made : forgotten (after 4 (protection_of fresh 0 2 (page 5 []))) ≡ off write_only_lem
  pub mixed_made : forgotten (after 6 (visibility_of (off read_only) 1 1 (page 3 []))) ≡ off mixed
  pub closed_made : forgotten (after 6 (visibility_of fresh 0 1 (page 3 []))) ≡ off closed
  -- a read-only page before protections are enabled, and after; VTL1 isn't asked
  pub read_only_off : last (off read_only) 0 (page 5 []) ≡ ok 6
  pub read_only_on : last (guarded read_only) 0 (page 5 []) ≡ finished 15 6 0 3
  pub read_only_vtl1 : last (guarded read_only) 1 (page 5 []) ≡ ok 6
  -- both readable and writable are needed
  pub write_only_on : last (guarded write_only_lem) 0 (page 5 []) ≡ finished 15 6 0 3
  -- the index is a place in the list as sent; earlier pages are done, later ones aren't
  pub five_on : replies (visibility_of (guarded mixed) 0 1 five) (dones 6)
      ≡ waits ∷ flushes_all ∷ protects 0 0 2 6 2 ∷ protects 1 0 1 6 2 ∷ invalidates 6 2 ∷ shares 2 ∷ finished 15 6 3 6 ∷ []
  pub five_names : named 2 (visibility_of (guarded mixed) 0 1 five).buffers ≡ 6 ∷ 7 ∷ 0 ∷ 2 ∷ []
  pub five_left : (after 6 (visibility_of (guarded mixed) 0 1 five)).maps ≡ maps (low 0x37) (only 0xc8) (low 0x3f) (low 0x1f) (low 0x1f) (low 0x1f)
  pub five_off : last (off mixed) 0 five ≡ ok 12
  pub five_vtl1 : last (guarded mixed) 1 five ≡ ok 12
  -- the stop is looked for before what drops out: a page that VTL0 shared has no permission left (alone in its list: `p5_second`)
  pub closed_on : last (guarded closed) 0 five ≡ finished 15 6 1 6
  pub closed_off : last (off closed) 0 (page 3 []) ≡ ok 3
  -- 7, 10 and 11 of any page come first; a return has no stop
  pub hole_first : (visibility_of (guarded closed) 0 1 (page 3 (page 16 []))).reply ≡ refused 7 8
  pub returned : (follow (visibility_of (guarded closed) 0 0 (page 3 [])) (dones 6)).last.reply ≡ ok 6

-- ---- P2 to P5

pub record Calls : Type 0 where
  pub P2 : replies (visibility_of fresh 0 1 three) (dones 9)
      ≡ waits ∷ flushes_all ∷ protects 0 0 2 3 1 ∷ protects 1 0 1 3 1 ∷ invalidates 3 1 ∷ protects 0 0 2 9 2 ∷ protects 1 0 1 9 2 ∷ invalidates 9 2 ∷ shares 3 ∷ ok 9 ∷ []
  pub p2_left : forgotten (after 9 (visibility_of fresh 0 1 three)) ≡ off shared
  pub P3 : replies (visibility_of (off shared) 0 0 (page 9 (page 10 []))) (Succeeds ∷ Succeeds ∷ Fails 77 1 ∷ dones 3)
      ≡ waits ∷ flushes_all ∷ returns 2 ∷ accepts 9 1 ∷ zeroes 9 1 ∷ protects 0 15 3842 9 1 ∷ finished 16 77 1 6 ∷ []
  pub p3_left : (follow (visibility_of (off shared) 0 0 (page 9 (page 10 []))) (Succeeds ∷ Succeeds ∷ Fails 77 1 ∷ dones 3)).last.buffers.maps
      ≡ maps (0xf7 ∷ 0xfb ∷ 0x00 ∷ 0x00 ∷ 0xff ∷ []) (0x08 ∷ 0x04 ∷ 0x00 ∷ 0x00 ∷ 0x00 ∷ []) (0xf7 ∷ 0xfb ∷ 0x00 ∷ 0x00 ∷ 0xff ∷ []) (0xf7 ∷ 0xfb ∷ 0x00 ∷ 0x00 ∷ 0xff ∷ []) (0xf7 ∷ 0xfb ∷ 0x00 ∷ 0x00 ∷ 0xff ∷ []) (0xf7 ∷ 0xfb ∷ 0x00 ∷ 0x00 ∷ 0xff ∷ [])
  pub P4 : visibility_of fresh 0 1 (page 3 (page 16 [])) ≡ keeps fresh (refused 7 8)
  pub p5_first : last enabled 0 (page 3 []) ≡ ok 6
  pub p5_left : forgotten (after 6 (visibility_of enabled 0 1 (page 3 []))) ≡ guarded closed
  pub p5_second : last (guarded closed) 0 (page 3 []) ≡ finished 15 6 0 3
  pub p5_vtl1_first : last enabled 1 (page 3 []) ≡ ok 6
  pub p5_vtl1_left : forgotten (after 6 (visibility_of enabled 1 1 (page 3 []))) ≡ guarded (maps (low 0xf7) (only 0x08) all_ram all_ram all_ram all_ram)
  pub p5_vtl1_second : last (guarded (maps (low 0xf7) (only 0x08) all_ram all_ram all_ram all_ram)) 1 (page 3 []) ≡ ok 3

-- ---- failures, of a return of 4, 3, 9 and 10, of which 4 is private already

abbrev pub four : List ℕ
four = page 4 three

abbrev pub failing : ℕ → List BackendAnswer
failing k = Succeeds ∷ Succeeds ∷ Fails 77 k ∷ dones 9

abbrev pub failed : ℕ → List Reply
failed k = replies (visibility_of (off shared) 0 0 four) (failing k)

abbrev pub failed_maps : ℕ → Maps
failed_maps k = (follow (visibility_of (off shared) 0 0 four) (failing k)).last.buffers.maps

pub record Failures : Type 0 where
  -- the code at the place of the first page not processed; what was processed goes on
  pub none_processed : failed 0 ≡ waits ∷ flushes_all ∷ returns 3 ∷ finished 16 77 1 3 ∷ []
  pub one_processed : failed 1 ≡ waits ∷ flushes_all ∷ returns 3 ∷ accepts 3 1 ∷ zeroes 3 1 ∷ protects 0 15 3842 3 1 ∷ finished 16 77 2 6 ∷ []
  pub two_processed : failed 2
      ≡ waits ∷ flushes_all ∷ returns 3 ∷ accepts 3 1 ∷ zeroes 3 1 ∷ accepts 9 1 ∷ zeroes 9 1 ∷ protects 0 15 3842 3 1 ∷ protects 0 15 3842 9 1 ∷ finished 16 77 3 9 ∷ []
  -- all of them, or more: halted, also where none was asked for
  pub all_processed : failed 3 ≡ waits ∷ flushes_all ∷ returns 3 ∷ finished 20 0 0 3 ∷ []
  pub more_processed : failed 4 ≡ waits ∷ flushes_all ∷ returns 3 ∷ finished 20 0 0 3 ∷ []
  pub empty_failed : replies (visibility_of (off first) 0 0 []) (failing 0) ≡ waits ∷ flushes_all ∷ returns 0 ∷ finished 20 0 0 3 ∷ []
  -- the marks then: what wasn't processed is shared again; a halt leaves them as they were
  pub none_maps : failed_maps 0 ≡ shared
  pub one_maps : (failed_maps 1).shared ≡ 0x00 ∷ 0x06 ∷ 0x00 ∷ 0x00 ∷ 0x00 ∷ []
  pub one_private : (failed_maps 1).private ≡ 0xff ∷ 0xf9 ∷ 0x00 ∷ 0x00 ∷ 0xff ∷ []
  pub all_maps : failed_maps 3 ≡ maps less clear less less less less
  -- a share whose Modify fails halts, whatever was processed; so do a failed Protect and a failed Accept
  pub share_halts : replies (visibility_of (off first) 0 1 (page 3 [])) (Succeeds ∷ Succeeds ∷ Succeeds ∷ Succeeds ∷ Succeeds ∷ Fails 77 0 ∷ [])
      ≡ waits ∷ flushes_all ∷ protects 0 0 2 3 1 ∷ protects 1 0 1 3 1 ∷ invalidates 3 1 ∷ shares 1 ∷ finished 20 0 0 6 ∷ []
  pub protect_halts : replies (visibility_of (off first) 0 1 (page 3 [])) (Succeeds ∷ Succeeds ∷ Fails 77 0 ∷ []) ≡ waits ∷ flushes_all ∷ protects 0 0 2 3 1 ∷ finished 20 0 0 3 ∷ []
  pub accept_halts : replies (visibility_of (off shared) 0 0 four) (Succeeds ∷ Succeeds ∷ Fails 77 1 ∷ Fails 5 0 ∷ [])
      ≡ waits ∷ flushes_all ∷ returns 3 ∷ accepts 3 1 ∷ finished 20 0 0 4 ∷ []
  -- a failure of Wait or FlushAll is refused, and the same operation still waits for its answer
  pub wait_fails : answer_failed (visibility_of fresh 0 1 three).buffers 77 0 ≡ keeps (visibility_of fresh 0 1 three).buffers (refused 21 0)
  pub flush_fails : replies (visibility_of (off first) 0 1 []) (Fails 77 0 ∷ Succeeds ∷ Fails 77 0 ∷ Succeeds ∷ Succeeds ∷ []) ≡ waits ∷ flushes_all ∷ shares 0 ∷ ok 3 ∷ []
  pub nothing_asked_lem : answer_done fresh ≡ keeps fresh (refused 21 0)
  pub nothing_failed : answer_failed fresh 77 0 ≡ keeps fresh (refused 21 0)
