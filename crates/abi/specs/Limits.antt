-- How many there may be (01, "RAM layout", "Overlays and locks", "From the input" 5).
use Rattle.std.specs.Prelude.{ℕ}

abbrev pub ram_entries : ℕ
ram_entries = 32

-- in the list of a call
abbrev pub listed_pages : ℕ
listed_pages = 512

-- of such a list
abbrev pub list_bytes : ℕ
list_bytes = 4096

-- of a VTL
abbrev pub overlays : ℕ
overlays = 128

-- registrations of an overlay page
abbrev pub ref_count_limit : ℕ
ref_count_limit = 65535

-- of a VTL
abbrev pub locked_lists : ℕ
locked_lists = 64

-- in the locked lists of a VTL
abbrev pub locked_pages : ℕ
locked_pages = 1024
