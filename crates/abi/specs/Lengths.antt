-- The lengths of what is lent, in words but where it is said, and what they are made of (01, "RAM layout", "Overlays and locks", "From the input" 2 and 4).
use Rattle.std.specs.Prelude.{ℕ}

abbrev pub state_len : ℕ
state_len = 128

-- the registrar's state block
abbrev pub registrar_len : ℕ
registrar_len = 108

-- the pages of the request under way, and where in it their places in the list begin
abbrev pub pages_len : ℕ
pages_len = 1024

abbrev pub places_start : ℕ
places_start = 512

-- the tables of overlays and locks: the overlays of each VTL, then the locks of each VTL
abbrev pub tables_len : ℕ
tables_len = 3460

abbrev pub overlays_len : ℕ
overlays_len = 641

abbrev pub locks_len : ℕ
locks_len = 1089

abbrev pub locks_start : ℕ
locks_start = 1282

-- a RAM entry, and the longest layout
abbrev pub ram_entry_words : ℕ
ram_entry_words = 3

abbrev pub ram_len : ℕ
ram_len = 96

-- a page in bytes
abbrev pub page_size : ℕ
page_size = 4096

-- the bytes of memory that a byte of a map is for: RAM entries start and end at its multiples
abbrev pub ram_alignment : ℕ
ram_alignment = 0x8000

-- the bits of a word: a word of the registrar's bitmaps is for so many chunks
abbrev pub word_bits : ℕ
word_bits = 64
