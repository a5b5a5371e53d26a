-- What the rows of the table are made of: replies as they cross, number by number (docs/ABI.md), and the protectors that the rows begin from. RAM is pages 0
-- to 15 and 32 to 39.
use Rattle.std.specs.Prelude.{List, [], ◌∷◌, ◌++◌, ℕ, replicate, take, drop}
use Rattle.words.specs.Words.{padded}
use Rattle.mapping.specs.Maps.{Maps, maps}
use Rattle.protector_state.specs.declared.Reply.{Reply}
use Rattle.protector_state.specs.Reply.{finished}
use Rattle.call_refusals.specs.Buffers.{Buffers, buffers, Outcome}
use Rattle.visibility_claims.specs.Whole.{BackendAnswer}
use Rattle.visibility_claims.specs.Calls.{Told, follow}
use Rattle.visibility_claims.specs.Table.{ram, dones}

-- ---- a call that is finished after n operations, and one that is refused by n with an error code

abbrev pub ok : ℕ → Reply
ok n = finished 0 0 0 n

abbrev pub refused : ℕ → ℕ → Reply
refused n code = finished n code 0 0

-- a refused call leaves all that it is lent
abbrev pub keeps : Buffers → Reply → Outcome
keeps w r = record { buffers = w; reply = r }

-- ---- a reply that asks for an operation

abbrev pub asks : ℕ → ℕ → ℕ → ℕ → ℕ → ℕ → ℕ → Reply
asks operation vtl flags operand first pages shared =
    record { number = 0; code = 0; index = 0; count = 0; operation = operation; vtl = vtl; flags = flags; operand = operand; first = first; pages = pages; shared = shared }

abbrev pub waits : Reply
waits = asks 1 0 0 0 0 0 0

abbrev pub flushes_all : Reply
flushes_all = asks 2 0 0 0 0 0 0

-- VTL, flags, RMPADJUST operand (0 off SNP), first page, number of pages
abbrev pub protects : ℕ → ℕ → ℕ → ℕ → ℕ → Reply
protects vtl flags operand first n = asks 3 vtl flags operand first n 0

abbrev pub invalidates : ℕ → ℕ → Reply
invalidates first n = asks 4 0 0 0 first n 0

abbrev pub releases : ℕ → ℕ → Reply
releases first n = asks 5 0 0 0 first n 0

-- Modify to shared, and to private
abbrev pub shares : ℕ → Reply
shares n = asks 6 0 0 0 0 n 1

abbrev pub returns : ℕ → Reply
returns n = asks 6 0 0 0 0 n 0

abbrev pub accepts : ℕ → ℕ → Reply
accepts first n = asks 7 0 0 0 first n 0

abbrev pub zeroes : ℕ → ℕ → Reply
zeroes first n = asks 8 0 0 0 first n 0

abbrev pub flushes : ℕ → Reply
flushes vtl = asks 9 vtl 0 0 0 0 0

abbrev pub tlb_waits : ℕ → Reply
tlb_waits vtl = asks 10 vtl 0 0 0 0 0

-- ---- a call and the answers to what it asks for, in turn: every reply that asks, then the last

abbrev pub heard : Told → List Reply
heard t = t.asked ++ (t.last.reply ∷ [])

abbrev pub replies : Outcome → List BackendAnswer → List Reply
replies o gs = heard (follow o gs)

-- what is lent once n operations are done
abbrev pub after : ℕ → Outcome → Buffers
after n o = (follow o (dones n)).last.buffers

-- the pages that a Modify of n asks for, in the run `pages`, and their places in the list as sent
abbrev pub named : ℕ → Buffers → List ℕ
named n w = take n w.pages ++ take n (drop 512 w.pages)

-- ---- maps: all RAM, no page, and either with another first byte (pages 0 to 7)

abbrev pub low : ℕ → List ℕ
low b = b ∷ 0xff ∷ 0x00 ∷ 0x00 ∷ 0xff ∷ []

abbrev pub all_ram : List ℕ
all_ram = low 0xff

abbrev pub only : ℕ → List ℕ
only b = b ∷ 0x00 ∷ 0x00 ∷ 0x00 ∷ 0x00 ∷ []

abbrev pub clear : List ℕ
clear = only 0x00

-- as a build leaves them, tracked and not
abbrev pub first : Maps
first = maps all_ram clear all_ram all_ram all_ram all_ram

abbrev pub untracked : Maps
untracked = maps all_ram clear [] [] [] []

-- ---- the state block where nothing waits: isolation, tracked, release flag, protections enabled, the defaults of VTL0 and VTL1

abbrev pub settings : ℕ → ℕ → ℕ → ℕ → ℕ → ℕ → List ℕ
settings isolation tracked release enabled vtl0 vtl1 =
    replicate 16 0 ++ (isolation ∷ tracked ∷ release ∷ enabled ∷ vtl0 ∷ vtl1 ∷ replicate 9 0 ++ (2 ∷ ram ++ replicate 90 0))

-- ---- the tables: overlays of VTL0 and VTL1, locks of VTL0 and VTL1

abbrev pub tables : List ℕ → List ℕ → List ℕ → List ℕ → List ℕ
tables o0 o1 l0 l1 = padded 641 o0 ++ (padded 641 o1 ++ (padded 1089 l0 ++ padded 1089 l1))

-- locked lists: how many, how many pages the first k have together, and the pages of all
abbrev pub lock_table : ℕ → List ℕ → List ℕ → List ℕ
lock_table n ends ps = n ∷ (padded 64 ends ++ ps)

abbrev pub one_locked : ℕ → List ℕ
one_locked p = lock_table 1 (1 ∷ []) (p ∷ [])

abbrev pub no_tables : List ℕ
no_tables = replicate 3460 0

-- ---- a protector at rest; and what is lent without the pages that a request has left behind

abbrev pub rest : Maps → List ℕ → List ℕ → Buffers
rest m s t = buffers m s (replicate 1024 0) t

abbrev pub forgotten : Buffers → Buffers
forgotten w = rest w.maps w.state w.tables
