-- Worked examples of the definitions: antt computes them. Assumes nothing.
use mathlib.Core.Bool.{true, false}
use mathlib.Core.List.{[], ◌∷◌}
use mathlib.Core.Path.{◌≡◌, refl}
use Rattle.laws.specs.Ranges.{between}
use Rattle.bitmap.specs.Pages.{bit_at, word, written_from, written, one, filled, edges, tally}

-- pages 3 to 22 of four bytes: bits 3 to 7, all eight, bits 0 to 6
run_of_20 : written 8 (between 3 23) true (0 ∷ 0 ∷ 0 ∷ 0 ∷ []) ≡ 0xf8 ∷ 0xff ∷ 0x7f ∷ 0 ∷ []
unfolding word written_from
run_of_20 = refl

filled_of_20 : written 8 (filled 8 3 23) true (0 ∷ 0 ∷ 0 ∷ 0 ∷ []) ≡ 0 ∷ 0xff ∷ 0 ∷ 0 ∷ []
unfolding word written_from
filled_of_20 = refl

edges_of_20 : written 8 (edges 8 3 23) false (0xff ∷ 0xff ∷ 0xff ∷ 0xff ∷ []) ≡ 0x07 ∷ 0xff ∷ 0x80 ∷ 0xff ∷ []
unfolding word written_from
edges_of_20 = refl

-- pages 0 to 7 fill a byte: no single page is written
edges_of_8 : written 8 (edges 8 0 8) true (0 ∷ 0 ∷ []) ≡ 0 ∷ 0 ∷ []
unfolding word written_from
edges_of_8 = refl

filled_of_8 : written 8 (filled 8 0 8) true (0 ∷ 0 ∷ []) ≡ 0xff ∷ 0 ∷ []
unfolding word written_from
filled_of_8 = refl

-- pages 1 to 14 fill none: fourteen single pages
edges_of_14 : written 8 (edges 8 1 15) true (0 ∷ 0 ∷ []) ≡ 0xfe ∷ 0x7f ∷ []
unfolding word written_from
edges_of_14 = refl

-- pages 0 to 8 and 7 to 15 fill a byte and have one page beside it
edges_of_9 : written 8 (edges 8 0 9) true (0 ∷ 0 ∷ []) ≡ 0 ∷ 0x01 ∷ []
unfolding word written_from
edges_of_9 = refl

edges_of_9_back : written 8 (edges 8 7 16) true (0 ∷ 0 ∷ []) ≡ 0x80 ∷ 0 ∷ []
unfolding word written_from
edges_of_9_back = refl

-- pages 8 to 23: two bytes and no single page
edges_of_16 : written 8 (edges 8 8 24) true (0 ∷ 0 ∷ 0 ∷ []) ≡ 0 ∷ 0 ∷ 0 ∷ []
unfolding word written_from
edges_of_16 = refl

-- chunk 70 is bit 6 of word 1
chunk_70 : written 64 (one 70) true (0 ∷ 1 ∷ []) ≡ 0 ∷ 65 ∷ []
unfolding word written_from
chunk_70 = refl

-- past the end nothing is written, and a page is false
past : written 8 (between 30 70) true (0 ∷ 0 ∷ []) ≡ 0 ∷ 0 ∷ []
unfolding word written_from
past = refl

past_page : bit_at 8 (0xff ∷ 0xff ∷ []) 16 ≡ false
past_page = refl

tally_of : tally 16 (bit_at 8 (0x81 ∷ 0x07 ∷ [])) ≡ 5
unfolding tally
tally_of = refl
