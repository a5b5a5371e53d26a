-- The registrar's calls and the answers to what they ask for, as replies that cross: document 01, "Registrar", "From the input" 1, 2, 4, 8 and 9, "From the state" 19,
-- 21, 22 and 23.
use Rattle.std.specs.Prelude.{List, [], ◌∷◌, ◌++◌, ◌≡◌, ℕ, ◌+◌, ◌-◌, ◌^◌, replicate}
use Rattle.registrar_state.specs.declared.Reply.{Reply}
use Rattle.registrar_state.specs.Buffers.{Buffers, buffers, Outcome, outcome, built_state, build_of, register_of, all_of, done_of, failed_of}
use Rattle.visibility_claims.specs.Table.{ram}

-- ---- replies: finished after n operations; Register; 23 at an address; refused

abbrev pub plain : ℕ → ℕ → ℕ → ℕ → ℕ → ℕ → Reply
plain number asked count start end address =
    record { number = number; asked = asked; count = count; start = start; end = end; address = address; span_start = 0; span_end = 0; edge_start = 0; edge_end = 0; vnode = 0; node_start = 0; node_end = 0; alignment = 0 }

abbrev pub ok : ℕ → Reply
ok n = plain 0 0 n 0 0 0

abbrev pub registers : ℕ → ℕ → Reply
registers start end = plain 0 1 0 start end 0

abbrev pub failed : ℕ → ℕ → Reply
failed address n = plain 23 0 n 0 0 address

abbrev pub refused : ℕ → Reply
refused n = plain n 0 0 0 0 0

-- 22: the span, its edge, the node of that edge and the node's range
abbrev pub unaligned : ℕ → ℕ → ℕ → ℕ → ℕ → ℕ → ℕ → ℕ → ℕ → Reply
unaligned n span_start span_end edge_start edge_end node node_start node_end al =
    record { number = 22; asked = 0; count = n; start = 0; end = 0; address = 0; span_start = span_start; span_end = span_end; edge_start = edge_start; edge_end = edge_end; vnode = node; node_start = node_start; node_end = node_end; alignment = al }

abbrev pub keeps : Buffers → Reply → Outcome
keeps w r = record { buffers = w; reply = r }

-- ---- registrars as a build leaves them, with one word of each bitmap, at offset 2^40

abbrev pub offset : ℕ
offset = 2 ^ 40

abbrev pub at : List ℕ → ℕ → Buffers
at layout g = buffers (built_state layout offset g) (0 ∷ []) (0 ∷ [])

-- lent no bitmaps
abbrev pub short : Buffers → Buffers
short w = buffers w.state [] []

-- these chunks registered, and these failed
abbrev pub with : List ℕ → ℕ → ℕ → ℕ → Buffers
with layout g registered failed = buffers (built_state layout offset g) (registered ∷ []) (failed ∷ [])

abbrev pub unbuilt : ℕ → Buffers
unbuilt words = buffers (replicate 108 7) (replicate words 7) (replicate words 7)

-- RAM from a to before b, of node 7
abbrev pub span : ℕ → ℕ → List ℕ
span a b = a ∷ b ∷ 7 ∷ []

abbrev pub built : ℕ → List ℕ → ℕ → ℕ → Reply
built words layout offset g = (build_of (unbuilt words) layout offset g).reply

pub record RegistrarBuilds : Type 0 where
  pub taken : build_of (unbuilt 1) ram offset 65536
      ≡ outcome (replicate 9 0 ++ (offset ∷ 65536 ∷ 2 ∷ ram ++ replicate 90 0)) (0 ∷ []) (0 ∷ []) (ok 0)
  -- 64 chunks are one word, 65 are two
  pub chunks_64 : built 1 (span 0 2097152) offset 32768 ≡ ok 0
  pub chunks_64_long : built 2 (span 0 2097152) offset 32768 ≡ refused 4
  pub chunks_65 : built 2 (span 0 2129920) offset 32768 ≡ ok 0
  pub chunks_65_short : built 1 (span 0 2129920) offset 32768 ≡ refused 4
  -- a last chunk that is half filled is one
  pub half : built 2 (span 0 4227072) offset 65536 ≡ ok 0
  pub layout_1 : built 1 [] offset 65536 ≡ refused 1
  pub layout_2 : built 1 (span 0 28672) offset 65536 ≡ refused 2
  pub offset_1 : built 1 (span 0 28672) 2048 65536 ≡ refused 1
  pub offset_high : built 1 (span 0 32768) (2 ^ 64 - 32768) 65536 ≡ refused 1
  pub offset_highest : built 1 (span 0 32768) (2 ^ 64 - 36864) 65536 ≡ ok 0
  pub granularity_2048 : built 1 ram offset 2048 ≡ refused 9
  pub granularity_4096 : built 1 ram offset 4096 ≡ ok 0
  pub granularity_12288 : built 1 ram offset 12288 ≡ refused 9
  -- a state block of another length is told before an unfit granularity, bitmaps of another length after it
  pub block_first : (build_of (buffers [] (0 ∷ []) (0 ∷ [])) ram offset 2048).reply ≡ refused 4
  pub bitmaps_last : built 2 ram offset 2048 ≡ refused 9

-- ---- register: granularity 131,072; chunk 0 has no RAM, chunk 1 has a hole before each of two spans

abbrev pub holed : List ℕ
holed = 163840 ∷ 196608 ∷ 0 ∷ 229376 ∷ 262144 ∷ 0 ∷ []

abbrev pub first : Outcome
first = register_of (at holed 131072) 0 262144

abbrev pub second : Outcome
second = done_of first.buffers

-- four chunks of 32,768
abbrev pub four : List ℕ
four = span 0 131072

-- chunk 64 alone is the 65th
abbrev pub wide : ℕ → ℕ → Buffers
wide low high = buffers (built_state (span 0 2129920) offset 32768) (low ∷ high ∷ []) (0 ∷ 0 ∷ [])

pub record Registers : Type 0 where
  pub p8_nothing : register_of (at ram 65536) 0 0 ≡ keeps (at ram 65536) (ok 0)
  pub p8_asked : (register_of (at ram 65536) 4096 0).reply ≡ registers offset (offset + 65536)
  pub p8_registered : done_of (register_of (at ram 65536) 4096 0).buffers ≡ keeps (with ram 65536 1 0) (ok 1)
  pub registered_again : register_of (with ram 65536 1 0) 0 65536 ≡ keeps (with ram 65536 1 0) (ok 0)
  -- the first chunk has no RAM and asks for nothing; the second has two pieces, both with the offset added, and is marked after the last
  pub first_asked : first.reply ≡ registers (offset + 163840) (offset + 196608)
  pub first_passed : first.buffers.registered ≡ 1 ∷ []
  pub second_asked : second.reply ≡ registers (offset + 229376) (offset + 262144)
  pub second_marks : second.buffers.registered ≡ 1 ∷ []
  pub both_done : done_of second.buffers ≡ keeps (with holed 131072 3 0) (ok 2)
  -- failing at either: the start of its range, without the offset; then the chunk's start, and never tried again
  pub first_fails : failed_of first.buffers ≡ keeps (with holed 131072 1 2) (failed 163840 1)
  pub second_fails : failed_of second.buffers ≡ keeps (with holed 131072 1 2) (failed 229376 2)
  pub failed_again : register_of (with holed 131072 1 2) 229376 1 ≡ keeps (with holed 131072 1 2) (failed 131072 0)
  -- without bitmaps: 19 first, then 4, which comes before 9 and before the 21 of an answer
  pub short_busy : register_of (short first.buffers) 0 1 ≡ keeps (short first.buffers) (refused 19)
  pub short_idle : register_of (short (at holed 131072)) (2 ^ 40) 1 ≡ keeps (short (at holed 131072)) (refused 4)
  pub short_done : done_of (short (at holed 131072)) ≡ keeps (short (at holed 131072)) (refused 4)
  pub short_failed : failed_of (short (at holed 131072)) ≡ keeps (short (at holed 131072)) (refused 4)
  -- two bytes, the last of chunk 0 and the first of chunk 1, ask for both chunks
  pub widened : (register_of (at four 32768) 32767 2).reply ≡ registers offset (offset + 32768)
  pub widened_on : (done_of (register_of (at four 32768) 32767 2).buffers).reply ≡ registers (offset + 32768) (offset + 65536)
  -- a fresh chunk before a failed one is offered
  pub before_failed : (register_of (with four 32768 0 2) 0 65536).reply ≡ registers offset (offset + 32768)
  pub before_failed_done : done_of (register_of (with four 32768 0 2) 0 65536).buffers ≡ keeps (with four 32768 1 2) (failed 32768 1)
  -- the 65th chunk is in the second word, and there is no 66th
  pub chunk_64 : done_of (register_of (wide 0 0) 2097152 1).buffers ≡ keeps (wide 0 1) (ok 1)
  pub chunk_63 : done_of (register_of (wide 0 1) 2097151 1).buffers ≡ keeps (wide (2 ^ 63) 1) (ok 1)
  pub chunk_65 : register_of (wide 0 0) 2097152 32769 ≡ keeps (wide 0 0) (refused 9)
  pub past_empty : register_of (wide 0 0) 3276800 0 ≡ keeps (wide 0 0) (ok 0)
  pub past_touched : register_of (wide 0 0) 3276801 0 ≡ keeps (wide 0 0) (refused 9)
  -- busy, and an answer with nothing asked
  pub busy : register_of first.buffers 0 1 ≡ keeps first.buffers (refused 19)
  pub busy_all : all_of first.buffers 3 2 ≡ keeps first.buffers (refused 19)
  pub nothing_done : done_of (at ram 65536) ≡ keeps (at ram 65536) (refused 21)
  pub nothing_failed : failed_of (at ram 65536) ≡ keeps (at ram 65536) (refused 21)

-- ---- register_all_aligned, aligned to 65,536 on chunks of 32,768

abbrev pub all : List ℕ → Outcome
all layout = all_of (at layout 32768) 65536 0

abbrev pub ignoring : List ℕ → Outcome
ignoring layout = all_of (at layout 32768) 65536 1

-- two nodes make one span
abbrev pub joined : List ℕ
joined = 0 ∷ 65536 ∷ 3 ∷ 65536 ∷ 98304 ∷ 9 ∷ []

abbrev pub joined_front : List ℕ
joined_front = 32768 ∷ 65536 ∷ 3 ∷ 65536 ∷ 131072 ∷ 9 ∷ []

pub record AllAligned : Type 0 where
  pub p9_asked : (all_of (at ram 65536) 65536 0).reply ≡ registers offset (offset + 65536)
  pub p9_unaligned : done_of (all_of (at ram 65536) 65536 0).buffers ≡ keeps (with ram 65536 1 0) (unaligned 1 131072 163840 131072 163840 1 131072 163840 65536)
  -- the edge: what lies before the aligned part, else what lies behind it; the whole span where it has none
  pub front : (all (span 32768 196608)).reply ≡ unaligned 0 32768 196608 32768 65536 7 32768 196608 65536
  pub back : (all (span 65536 229376)).reply ≡ unaligned 0 65536 229376 196608 229376 7 65536 229376 65536
  pub front_and_back : (all (span 32768 229376)).reply ≡ unaligned 0 32768 229376 32768 65536 7 32768 229376 65536
  pub no_aligned_part : (all (span 32768 98304)).reply ≡ unaligned 0 32768 98304 32768 98304 7 32768 98304 65536
  -- in a joined span the node of the edge, and its range
  pub second_node : (all joined).reply ≡ unaligned 0 0 98304 65536 98304 9 65536 98304 65536
  -- of an edge over both nodes the node that it begins in
  pub both_nodes : (all_of (at joined 32768) 131072 0).reply ≡ unaligned 0 0 98304 0 98304 3 0 65536 131072
  pub first_node : (all joined_front).reply ≡ unaligned 0 32768 131072 32768 65536 3 32768 65536 65536
  -- edges ignored: the aligned part alone, in one Register
  pub ignored_front : (ignoring (span 32768 196608)).reply ≡ registers (offset + 65536) (offset + 196608)
  pub ignored_both : done_of (ignoring (span 32768 229376)).buffers ≡ keeps (with (span 32768 229376) 32768 60 0) (ok 1)
  pub ignored_joined : (ignoring joined).reply ≡ registers offset (offset + 65536)
  pub ignored_none : ignoring (span 32768 98304) ≡ keeps (at (span 32768 98304) 32768) (ok 0)
  -- a span with both edges aligned
  pub aligned_span : (all (span 0 131072)).reply ≡ registers offset (offset + 131072)
  -- chunk 1 is registered: what lies on its two sides is asked for in turn; a failed chunk ends the call before what precedes it is asked for
  pub stretches : (all_of (with four 32768 2 0) 32768 0).reply ≡ registers offset (offset + 32768)
  pub stretches_on : (done_of (all_of (with four 32768 2 0) 32768 0).buffers).reply ≡ registers (offset + 65536) (offset + 131072)
  pub stretches_done : done_of (done_of (all_of (with four 32768 2 0) 32768 0).buffers).buffers ≡ keeps (with four 32768 15 0) (ok 2)
  pub before_failed : all_of (with four 32768 0 4) 32768 0 ≡ keeps (with four 32768 0 4) (failed 65536 0)
  pub before_registered : done_of (all_of (with four 32768 2 8) 32768 0).buffers ≡ keeps (with four 32768 3 8) (failed 98304 1)
  -- all chunks of a failed stretch are marked; its start without the offset
  pub stretch_fails : failed_of (all_of (with four 32768 1 0) 32768 0).buffers ≡ keeps (with four 32768 1 14) (failed 32768 1)
  -- 64 chunks and 65 in one Register
  pub all_64 : done_of (all_of (at (span 0 2097152) 32768) 32768 0).buffers ≡ keeps (with (span 0 2097152) 32768 (2 ^ 64 - 1) 0) (ok 1)
  pub all_65_asked : (all_of (wide 0 0) 32768 0).reply ≡ registers offset (offset + 2129920)
  pub all_65 : done_of (all_of (wide 0 0) 32768 0).buffers ≡ keeps (wide (2 ^ 64 - 1) 1) (ok 1)
  pub ignore_2 : all_of (at four 32768) 3 2 ≡ keeps (at four 32768) (refused 8)
  pub alignment_3 : all_of (at four 32768) 98304 0 ≡ keeps (at four 32768) (refused 9)
  pub alignment_low : all_of (at four 32768) 16384 0 ≡ keeps (at four 32768) (refused 9)
