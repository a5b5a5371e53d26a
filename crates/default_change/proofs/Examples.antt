-- Small cases by computation: document 01's layout, RAM pages 0 to 15 and 32 to 39, all private but 3, 9 and 10 (its P2). Assumes nothing.
use mathlib.Core.Bool.{true, false}
use mathlib.Core.List.{List, [], ◌∷◌}
use mathlib.Core.Path.{◌≡◌, refl}
use Prim.Native.Nat.{ℕ}
use Rattle.layout.specs.declared.MemoryRangeWithNode.{MemoryRangeWithNode}
use Rattle.layout.specs.Layout.{entry, ram_byte}
use Rattle.page_list.specs.Runs.{run}
use Rattle.overlay_table.specs.Overlays.{place_from}
use Rattle.lock_table.specs.Locks.{ends, joined, table_of}
use Rattle.default_change.specs.Pieces.{span, next_of}
use Rattle.default_change.specs.Barred.{any_of, barred}
use Rattle.default_change.specs.Renewed.{renewed_from, renewed}
use Rattle.default_change.specs.Visit.{pieces_from, pieces}

abbrev ram : List MemoryRangeWithNode
ram = entry 0 65536 0 ∷ entry 131072 163840 1 ∷ []

abbrev marks : List ℕ
marks = 247 ∷ 249 ∷ 0 ∷ 0 ∷ 255 ∷ []

-- overlays on 33, 0, 12 and 40, the last of which is no RAM, with previous permissions 1 to 4
abbrev table : List ℕ
table = 4 ∷ 33 ∷ 1 ∷ 7 ∷ 1 ∷ 0 ∷ 0 ∷ 2 ∷ 7 ∷ 1 ∷ 0 ∷ 12 ∷ 3 ∷ 7 ∷ 1 ∷ 0 ∷ 40 ∷ 4 ∷ 7 ∷ 1 ∷ 1 ∷ []

pub all_pieces : pieces 9 marks table ram ≡ run 1 2 ∷ run 4 5 ∷ run 11 1 ∷ run 13 3 ∷ run 32 1 ∷ run 34 6 ∷ []
unfolding pieces_from next_of span place_from
all_pieces = refl

-- a run of sixteen pages with two overlays in it: three pieces, in whatever order the two stand
pub two_overlays : pieces 9 (255 ∷ 255 ∷ []) (2 ∷ 5 ∷ 0 ∷ 0 ∷ 0 ∷ 0 ∷ 11 ∷ []) (entry 0 65536 0 ∷ []) ≡ run 0 5 ∷ run 6 5 ∷ run 12 4 ∷ []
unfolding pieces_from next_of span place_from
two_overlays = refl

pub two_swapped : pieces 9 (255 ∷ 255 ∷ []) (2 ∷ 11 ∷ 0 ∷ 0 ∷ 0 ∷ 0 ∷ 5 ∷ []) (entry 0 65536 0 ∷ []) ≡ run 0 5 ∷ run 6 5 ∷ run 12 4 ∷ []
unfolding pieces_from next_of span place_from
two_swapped = refl

-- touching entries are cut where they meet
pub cut_at_entries : pieces 9 (255 ∷ 255 ∷ []) [] (entry 0 32768 0 ∷ entry 32768 65536 1 ∷ []) ≡ run 0 8 ∷ run 8 8 ∷ []
unfolding pieces_from next_of span place_from
cut_at_entries = refl

-- locked: a shared page, an overlay page and no RAM bar nothing, a private page does
pub not_barred : barred marks table (table_of ((3 ∷ 12 ∷ []) ∷ (20 ∷ []) ∷ [])) ram ≡ false
unfolding any_of ends joined table_of ram_byte place_from
not_barred = refl

pub barred_by_4 : barred marks table (table_of ((3 ∷ 12 ∷ []) ∷ (20 ∷ 4 ∷ []) ∷ [])) ram ≡ true
unfolding any_of ends joined table_of ram_byte place_from
barred_by_4 = refl

-- the overlays on private RAM have the new previous permissions, the one on page 40 its own
pub all_renewed : renewed marks ram 15 table ≡ 4 ∷ 33 ∷ 15 ∷ 7 ∷ 1 ∷ 0 ∷ 0 ∷ 15 ∷ 7 ∷ 1 ∷ 0 ∷ 12 ∷ 15 ∷ 7 ∷ 1 ∷ 0 ∷ 40 ∷ 4 ∷ 7 ∷ 1 ∷ 1 ∷ []
unfolding renewed_from ram_byte
all_renewed = refl
