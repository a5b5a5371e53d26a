-- Page lists as they cross, computed through the calls that take them: document 01, the opening, "From the input" 5, 6 and 8, "Worked", its last line.
use Rattle.std.specs.Prelude.{List, [], ◌∷◌, ◌≡◌, ℕ, zero, suc, ◌/◌, ◌%◌, replicate}
use Rattle.mapping.specs.Maps.{maps}
use Rattle.protector_state.specs.declared.Reply.{Reply}
use Rattle.protector_state.specs.State.{built_state}
use Rattle.call_refusals.specs.Buffers.{Buffers}
use Rattle.protector.specs.Calls.{visibility_of}
use Rattle.protection_entries.specs.Calls.{protection_of}
use Rattle.lock_entries.specs.Calls.{lock_of, unlock_of}
use Rattle.queries.specs.Queries.{query, query_of}
use Rattle.visibility_claims.specs.Table.{page, dones, fresh}
use Rattle.worked.specs.Crossing.{ok, refused, keeps, waits, flushes_all, protects, invalidates, shares, flushes, tlb_waits, replies, named, rest, no_tables}

-- 512 pages of RAM on SNP, tracked
abbrev pub all512 : List ℕ
all512 = replicate 64 0xff

abbrev pub wide : Buffers
wide = rest (maps all512 (replicate 64 0) all512 all512 all512 all512) (built_state (0 ∷ 2097152 ∷ 0 ∷ []) 2 1 0) no_tables

-- k pages from p on, below 65,536
unfoldable pub listed : ℕ → ℕ → List ℕ
listed p zero = []
listed p (suc k) = p % 256 ∷ p / 256 ∷ 0 ∷ 0 ∷ 0 ∷ 0 ∷ 0 ∷ 0 ∷ listed (suc p) k

-- page 0 again and again, in this many bytes
abbrev pub zeros : ℕ → List ℕ
zeros n = replicate n 0

abbrev pub share : List ℕ → Reply
share l = (visibility_of fresh 0 1 l).reply

abbrev pub protect : List ℕ → Reply
protect l = (protection_of fresh 0 1 l).reply

abbrev pub lock : List ℕ → Reply
lock l = (lock_of fresh.state fresh.tables 0 l).reply

abbrev pub unlock : List ℕ → Reply
unlock l = (unlock_of fresh.state fresh.tables 0 l).reply

abbrev pub ask : List ℕ → Reply
ask l = (query_of fresh.state fresh.maps.shared l []).reply

pub record Lists : Type 0 where
  -- different pages, all RAM: 512 of them are taken, 513 are refused before any is looked at
  pub taken_512 : (visibility_of wide 0 1 (listed 0 512)).reply ≡ waits
  pub refused_513 : visibility_of wide 0 1 (listed 0 513) ≡ keeps wide (refused 5 0)
  -- in bytes: 5 comes before 6 and before 8, in every call that takes a list
  pub share_4097 : share (zeros 4097) ≡ refused 5 0
  pub share_4103 : share (zeros 4103) ≡ refused 5 0
  pub protect_4097 : protect (zeros 4097) ≡ refused 5 0
  pub protect_4103 : protect (zeros 4103) ≡ refused 5 0
  pub lock_4095 : lock (zeros 4095) ≡ refused 8 0
  pub lock_4096 : lock (zeros 4096) ≡ ok 0
  pub lock_4097 : lock (zeros 4097) ≡ refused 5 0
  pub lock_4103 : lock (zeros 4103) ≡ refused 5 0
  pub unlock_4096 : unlock (zeros 4096) ≡ refused 18 0
  pub unlock_4097 : unlock (zeros 4097) ≡ refused 5 0
  pub query_4097 : ask (zeros 4097) ≡ refused 5 0
  pub query_4103 : ask (zeros 4103) ≡ refused 5 0
  -- a repeat among the whole numbers comes before a byte over; only visibility changes have 6
  pub repeat_over : share (page 3 (page 3 (1 ∷ []))) ≡ refused 6 0
  pub byte_over : share (page 3 (page 4 (3 ∷ []))) ≡ refused 8 0
  pub seven_over : share (page 3 (page 4 (3 ∷ 0 ∷ 0 ∷ 0 ∷ 0 ∷ 0 ∷ 0 ∷ []))) ≡ refused 8 0
  pub repeat_apart : share (page 3 (page 16 (page 3 []))) ≡ refused 6 0
  pub protect_repeat : replies (protection_of fresh 0 1 (page 3 (page 4 (page 3 [])))) (dones 5)
      ≡ protects 0 1 258 3 2 ∷ protects 0 1 258 3 1 ∷ waits ∷ flushes 0 ∷ tlb_waits 0 ∷ ok 5 ∷ []
  pub protect_over : protect (page 3 (page 3 (1 ∷ []))) ≡ refused 8 0
  pub query_repeat : query_of fresh.state fresh.maps.shared (page 3 (page 3 [])) (9 ∷ 9 ∷ []) ≡ query (0 ∷ 0 ∷ []) (ok 0)
  -- the lowest byte first, all eight: 2^52 + 3 is another page than 3, and no RAM
  pub high_page : share (page 3 (3 ∷ 0 ∷ 0 ∷ 0 ∷ 0 ∷ 0 ∷ 16 ∷ 0 ∷ [])) ≡ refused 7 8
  pub highest_byte : share (3 ∷ 0 ∷ 0 ∷ 0 ∷ 0 ∷ 0 ∷ 0 ∷ 1 ∷ []) ≡ refused 7 8
  pub second_byte : named 1 (visibility_of wide 0 1 (2 ∷ 1 ∷ 0 ∷ 0 ∷ 0 ∷ 0 ∷ 0 ∷ 0 ∷ [])).buffers ≡ 258 ∷ 0 ∷ []
  -- neighbours make a run where they ascend, also across a byte of the maps
  pub descending : replies (visibility_of fresh 0 1 (page 8 (page 7 []))) (dones 9)
      ≡ waits ∷ flushes_all ∷ protects 0 0 2 8 1 ∷ protects 1 0 1 8 1 ∷ invalidates 8 1 ∷ protects 0 0 2 7 1 ∷ protects 1 0 1 7 1 ∷ invalidates 7 1 ∷ shares 2 ∷ ok 9 ∷ []
  pub ascending : replies (visibility_of fresh 0 1 (page 7 (page 8 []))) (dones 6)
      ≡ waits ∷ flushes_all ∷ protects 0 0 2 7 2 ∷ protects 1 0 1 7 2 ∷ invalidates 7 2 ∷ shares 2 ∷ ok 6 ∷ []
  -- no page at all: the sequence with no run
  pub empty : replies (visibility_of fresh 0 1 []) (dones 3) ≡ waits ∷ flushes_all ∷ shares 0 ∷ ok 3 ∷ []
  pub empty_protection : replies (protection_of fresh 1 4 []) (dones 3) ≡ waits ∷ flushes 0 ∷ tlb_waits 1 ∷ ok 3 ∷ []
