-- The layout of document 01's worked examples, and each unfit one by its number: antt computes them. Assumes nothing.
use mathlib.Core.Bool.{true, false}
use mathlib.Core.List.{List, [], ◌∷◌, ◌++◌}
use mathlib.Core.Path.{◌≡◌, refl}
use Prim.Native.Nat.{ℕ, zero, suc, ◌+◌, ◌*◌, ◌^◌}
use Rattle.layout.specs.Layout.{entries_of, ram_byte, is_ram, place_of, ordered, aligned, refusal_of, map_len, range, spans_from, spans, reach, touching, span_at}

-- RAM pages 0 to 15 and 32 to 39
abbrev worked : List ℕ
worked = 0 ∷ 65536 ∷ 0 ∷ 131072 ∷ 163840 ∷ 1 ∷ []

-- the same with the first entry in two that touch
abbrev parted : List ℕ
parted = 0 ∷ 32768 ∷ 0 ∷ 32768 ∷ 65536 ∷ 2 ∷ 131072 ∷ 163840 ∷ 1 ∷ []

-- n entries of 8 pages, each with a hole after it
unfoldable apart : ℕ → List ℕ
apart zero = []
apart (suc n) = apart n ++ ((n * 65536) ∷ (n * 65536 + 32768) ∷ 0 ∷ [])

worked_fit : refusal_of worked ≡ 0
unfolding refusal_of entries_of ordered aligned
worked_fit = refl

-- refusal 1, and what is just fit
no_entry : refusal_of ([]) ≡ 1
unfolding refusal_of entries_of ordered aligned apart
no_entry = refl

ragged : refusal_of (0 ∷ 65536 ∷ 0 ∷ 131072 ∷ []) ≡ 1
unfolding refusal_of entries_of ordered aligned apart
ragged = refl

empty_entry : refusal_of (65536 ∷ 65536 ∷ 0 ∷ []) ≡ 1
unfolding refusal_of entries_of ordered aligned apart
empty_entry = refl

reversed : refusal_of (65536 ∷ 32768 ∷ 0 ∷ []) ≡ 1
unfolding refusal_of entries_of ordered aligned apart
reversed = refl

overlap : refusal_of (0 ∷ 65536 ∷ 0 ∷ 32768 ∷ 98304 ∷ 0 ∷ []) ≡ 1
unfolding refusal_of entries_of ordered aligned apart
overlap = refl

descending : refusal_of (65536 ∷ 98304 ∷ 0 ∷ 0 ∷ 32768 ∷ 0 ∷ []) ≡ 1
unfolding refusal_of entries_of ordered aligned apart
descending = refl

touching_taken : refusal_of (0 ∷ 65536 ∷ 0 ∷ 65536 ∷ 98304 ∷ 1 ∷ []) ≡ 0
unfolding refusal_of entries_of ordered aligned apart
touching_taken = refl

ends_at_limit : refusal_of (0 ∷ (2 ^ 52) ∷ 0 ∷ []) ≡ 0
unfolding refusal_of entries_of ordered aligned apart
ends_at_limit = refl

ends_past_limit : refusal_of (0 ∷ (2 ^ 52 + 32768) ∷ 0 ∷ []) ≡ 1
unfolding refusal_of entries_of ordered aligned apart
ends_past_limit = refl

node_at_limit : refusal_of (0 ∷ 32768 ∷ (2 ^ 32) ∷ []) ≡ 1
unfolding refusal_of entries_of ordered aligned apart
node_at_limit = refl

node_below_limit : refusal_of (0 ∷ 32768 ∷ 0xffff_ffff ∷ []) ≡ 0
unfolding refusal_of entries_of ordered aligned apart
node_below_limit = refl

thirty_two : refusal_of (apart 32) ≡ 0
unfolding refusal_of entries_of ordered aligned apart
thirty_two = refl

thirty_three : refusal_of (apart 33) ≡ 1
unfolding refusal_of entries_of ordered aligned apart
thirty_three = refl

one_before_two : refusal_of (0 ∷ (7 * 4096) ∷ 0 ∷ 4096 ∷ 65536 ∷ 0 ∷ []) ≡ 1
unfolding refusal_of entries_of ordered aligned apart
one_before_two = refl

-- which pages are RAM
page_15 : is_ram (entries_of worked) (15) ≡ true
unfolding entries_of ram_byte
page_15 = refl

page_16 : is_ram (entries_of worked) (16) ≡ false
unfolding entries_of ram_byte
page_16 = refl

page_32 : is_ram (entries_of worked) (32) ≡ true
unfolding entries_of ram_byte
page_32 = refl

page_2_52 : is_ram (entries_of worked) (2 ^ 52 + 3) ≡ false
unfolding entries_of ram_byte
page_2_52 = refl

place_of_35 : place_of (entries_of worked) 35 ≡ 1
unfolding entries_of place_of
place_of_35 = refl

place_of_20 : place_of (entries_of worked) 20 ≡ 2
unfolding entries_of place_of
place_of_20 = refl

map_of_5 : map_len (entries_of worked) ≡ 5
unfolding entries_of
map_of_5 = refl

-- touching entries are one span
two_spans : spans (entries_of parted) ≡ range 0 65536 ∷ range 131072 163840 ∷ []
unfolding entries_of spans spans_from
two_spans = refl

span_of_two : span_at (entries_of parted) 0 ≡ record { start = 0; end = 65536; next = 2 }
unfolding entries_of span_at reach touching
span_of_two = refl
