-- Lists of pages and layouts from runs of a first page and a count (crates/replay/README.md, "The file").
use Rattle.std.specs.Prelude.{ℕ, zero, suc, ◌+◌, ◌*◌, ◌/◌, ◌%◌, ◌^◌, cond, List, [], length, take, nat_le, nat_lt, slice_set}
use Rattle.recording.specs.Decode.{number_at}

-- ---- a run read at a place

abbrev pub first_at : List ℕ → ℕ → ℕ
first_at s at = (number_at s at).value

abbrev pub count_at : List ℕ → ℕ → ℕ
count_at s at = (number_at s (number_at s at).next).value

abbrev pub after_run : List ℕ → ℕ → ℕ
after_run s at = (number_at s (number_at s at).next).next

-- the place after so many runs
unfoldable pub after_runs : ℕ → List ℕ → ℕ → ℕ
after_runs zero s at = at
after_runs (suc n) s at = after_runs n s (after_run s at)

-- ---- a list of pages, 8 bytes a page

-- the bytes of a list, of which those before a place are filled
pub record Filling : Type 0 where
  pub bytes : List ℕ
  pub at : ℕ

abbrev pub filling : List ℕ → ℕ → Filling
filling l at = record { bytes = l; at = at }

-- a byte more, where there is room
abbrev pub with_byte : Filling → ℕ → Filling
with_byte f b = filling (slice_set f.bytes f.at (b % 256)) (cond (nat_lt f.at (length f.bytes)) (f.at + 1) f.at)

-- so many bytes of a number more, the low one first
unfoldable pub with_bytes : ℕ → Filling → ℕ → Filling
with_bytes zero f x = f
with_bytes (suc n) f x = with_bytes n (with_byte f x) (x / 256)

-- so many pages more, from a first one on
unfoldable pub with_pages : ℕ → Filling → ℕ → Filling
with_pages zero f p = f
with_pages (suc n) f p = with_pages n (with_bytes 8 f p) ((p + 1) % 2 ^ 64)

-- so many runs more, read at a place
unfoldable pub with_runs : ℕ → List ℕ → ℕ → Filling → Filling
with_runs zero s at f = f
with_runs (suc n) s at f = with_runs n s (after_run s at) (with_pages (count_at s at) f (first_at s at))

-- ---- a layout, three words an entry

abbrev pub entry_place : ℕ → ℕ
entry_place i = i % 65536 * 3

-- entry i: its first byte, the byte after its last, and its place as its node
abbrev pub with_entry : List ℕ → ℕ → ℕ → ℕ → List ℕ
with_entry l i first count =
    slice_set (slice_set (slice_set l (entry_place i) (first % 2 ^ 40 * 4096)) (entry_place i + 1) (first % 2 ^ 40 * 4096 + count % 2 ^ 40 * 4096)) (entry_place i + 2) i

-- so many entries from entry i on, read at a place
unfoldable pub with_entries : ℕ → List ℕ → ℕ → ℕ → List ℕ → List ℕ
with_entries zero s at i l = l
with_entries (suc n) s at i l = with_entries n s (after_run s at) (i + 1) (with_entry l i (first_at s at) (count_at s at))

-- ---- the first so many of a list: none where it is shorter

abbrev pub part_of : {A : Type 0} → List A → ℕ → List A
part_of l n = cond (nat_le n (length l)) (take n l) []
