-- Calls over document 01's worked layout, computed by the definitions; P8 and P9 stand in the table of `worked`. Assumes nothing.
use mathlib.Core.Path.{◌≡◌, refl}
use mathlib.Core.Bool.{true, false}
use mathlib.Core.List.{List, [], ◌∷◌}
use Prim.Native.Nat.{ℕ, ◌+◌, ◌-◌, ◌^◌}
use Rattle.bitmap.specs.Pages.{word, written_from}
use Rattle.layout.specs.Layout.{entries_of, ordered, aligned, refusal_of, spans, spans_from}
use Rattle.chunks.specs.Chunks.{power_from, pieces, first_not_of, entry_with}
use Rattle.registrar_steps.specs.Steps.{register_from, look_at, all_from}
use Rattle.registrar_state.specs.Buffers.{Buffers, buffers, Outcome, outcome, built_state, simple, build_refusal, build_of, register_refusal, all_refusal, register_of, all_of, answer_refusal, failed_of, done_of}
use Rattle.registrar_claims.specs.Runs.{Call, Build, RegisterRange, AnswerDone, give, awaits_after, built_with, settings_after}

-- RAM pages 0 to 15 and 32 to 39, in two nodes
abbrev worked : List ℕ
worked = 0 ∷ 65536 ∷ 0 ∷ 131072 ∷ 163840 ∷ 1 ∷ []

-- the registrar built over it, at offset 2^40 and granularity 65,536
abbrev built : Buffers
built = buffers (built_state worked (2 ^ 40) 65536) (0 ∷ []) (0 ∷ [])

built_fit : build_refusal built worked (2 ^ 40) 65536 ≡ 0
unfolding build_refusal entries_of ordered aligned refusal_of power_from
built_fit = refl

-- a state block of another length is 4 before the granularity's 9, and the bitmaps' 4 comes after it
short_block : build_refusal (buffers [] [] []) worked 0 1 ≡ 4
unfolding build_refusal entries_of ordered aligned refusal_of power_from
short_block = refl

unfit_granularity : build_refusal (buffers (built_state worked 0 1) [] []) worked 0 1 ≡ 9
unfolding build_refusal entries_of ordered aligned refusal_of power_from
unfit_granularity = refl

no_bitmaps : build_refusal (buffers (built_state worked 0 4096) [] []) worked 0 4096 ≡ 4
unfolding build_refusal entries_of ordered aligned refusal_of power_from
no_bitmaps = refl

-- ---- register, over all three chunks: the second has no RAM

abbrev over_all : Outcome
over_all = done_of (register_of built 0 163840).buffers

second_asked : over_all.reply ≡ simple 0 1 0 (2 ^ 40 + 131072) (2 ^ 40 + 163840) 0
unfolding done_of answer_refusal register_of register_refusal register_from entries_of spans spans_from pieces first_not_of word written_from
second_asked = refl

-- the chunk without RAM is marked with the first, by no operation
two_marked : over_all.buffers.registered ≡ 3 ∷ []
unfolding done_of answer_refusal register_of register_refusal register_from entries_of spans spans_from pieces first_not_of word written_from
two_marked = refl

all_marked : done_of over_all.buffers ≡ outcome (built_state worked (2 ^ 40) 65536) (7 ∷ []) (0 ∷ []) (simple 0 0 2 0 0 0)
unfolding done_of answer_refusal register_of register_refusal register_from entries_of spans spans_from pieces first_not_of word written_from
all_marked = refl

-- the second fails: 23 at its address without the offset, and the chunk is marked failed
second_fails : failed_of over_all.buffers ≡ outcome (built_state worked (2 ^ 40) 65536) (3 ∷ []) (4 ∷ []) (simple 23 0 2 0 0 131072)
unfolding failed_of done_of answer_refusal register_of register_refusal register_from entries_of spans spans_from pieces first_not_of word written_from
second_fails = refl

-- it is never tried again
abbrev with_failed_lem : Buffers
with_failed_lem = buffers (built_state worked (2 ^ 40) 65536) (3 ∷ []) (4 ∷ [])

not_again : register_of with_failed_lem 131072 1 ≡ record { buffers = with_failed_lem; reply = simple 23 0 0 0 0 131072 }
unfolding register_of register_refusal register_from entries_of spans spans_from pieces first_not_of word written_from
not_again = refl

-- past the last chunk: 9, also where the end does not fit in 64 bits; an empty request on a chunk's edge touches none
past_the_last : (register_of built (2 ^ 64 - 1) 0).reply ≡ simple 9 0 0 0 0 0
unfolding register_of register_refusal entries_of
past_the_last = refl

none_past_the_last : (register_of built (2 ^ 40) 0).reply ≡ simple 0 0 0 0 0 0
unfolding register_of register_refusal register_from entries_of spans spans_from pieces first_not_of
none_past_the_last = refl

-- ---- a list of calls, told by the replies

-- a call that is refused meanwhile tells nothing, and the second answer is the last
abbrev meanwhile : List Call
meanwhile = RegisterRange 0 163840 ∷ AnswerDone ∷ RegisterRange 0 1 ∷ []

still_awaited : awaits_after built false meanwhile ≡ true
unfolding awaits_after give done_of answer_refusal register_of register_refusal register_from entries_of spans spans_from pieces first_not_of word written_from
still_awaited = refl

none_awaited : awaits_after built false (RegisterRange 0 163840 ∷ AnswerDone ∷ AnswerDone ∷ []) ≡ false
unfolding awaits_after give done_of answer_refusal register_of register_refusal register_from entries_of spans spans_from pieces first_not_of word written_from
none_awaited = refl

-- a build that is refused changes no setting, one that is taken all of them
refused_build_lem : settings_after built (built_with worked (2 ^ 40) 65536) (Build worked 0 1 ∷ []) ≡ built_with worked (2 ^ 40) 65536
unfolding settings_after give build_of build_refusal entries_of ordered aligned refusal_of power_from
refused_build_lem = refl

taken_build : settings_after built (built_with worked (2 ^ 40) 65536) (Build worked 0 32768 ∷ []) ≡ built_with worked 0 32768
unfolding settings_after give build_of build_refusal entries_of ordered aligned refusal_of power_from
taken_build = refl

-- ---- register_all_aligned

-- aligned above all RAM: the first span is the edge; with edges ignored nothing is left to do
too_coarse : (all_of built (2 ^ 30) 0).reply
    ≡ record { number = 22; asked = 0; count = 0; start = 0; end = 0; address = 0; span_start = 0; span_end = 65536; edge_start = 0; edge_end = 65536; vnode = 0; node_start = 0; node_end = 65536; alignment = 2 ^ 30 }
unfolding all_of all_refusal all_from look_at entries_of entry_with spans spans_from power_from
too_coarse = refl

too_coarse_ignored : (all_of built (2 ^ 30) 1).reply ≡ simple 0 0 0 0 0 0
unfolding all_of all_refusal all_from look_at entries_of entry_with spans spans_from power_from
too_coarse_ignored = refl

-- chunks of 32,768: the second failed before, so the stretch before it is not offered
before_failed : (all_of (buffers (built_state worked (2 ^ 40) 32768) (0 ∷ []) (2 ∷ [])) 32768 0).reply ≡ simple 23 0 0 0 0 32768
unfolding all_of all_refusal all_from look_at entries_of entry_with spans spans_from power_from first_not_of
before_failed = refl

-- the first registered before: the second is a stretch of its own, and the last span another
abbrev one_before : Buffers
one_before = buffers (built_state worked (2 ^ 40) 32768) (1 ∷ []) (0 ∷ [])

second_chunk : (all_of one_before 32768 0).reply ≡ simple 0 1 0 (2 ^ 40 + 32768) (2 ^ 40 + 65536) 0
unfolding all_of all_refusal all_from look_at entries_of entry_with spans spans_from power_from first_not_of
second_chunk = refl

last_span : (done_of (all_of one_before 32768 0).buffers).reply ≡ simple 0 1 0 (2 ^ 40 + 131072) (2 ^ 40 + 163840) 0
unfolding done_of answer_refusal all_of all_refusal all_from look_at entries_of entry_with spans spans_from power_from first_not_of word written_from
last_span = refl
