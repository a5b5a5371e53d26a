-- The RAM layout: document 01, "RAM layout", and refusals 1 and 2 of "From the input".
use Rattle.std.specs.Prelude.{ℕ, suc, ◌+◌, ◌-◌, ◌*◌, ◌/◌, ◌%◌, ◌^◌, List, [], ◌∷◌, Bool, true, false, cond, ◌||◌, ◌&&◌, eqb, leb, ltb, length, get_or, drop}
use Rattle.abi.specs.Limits as limit
use Rattle.abi.specs.Refusals as refusal
use Rattle.abi.specs.Lengths.{page_size, ram_alignment, ram_entry_words}
use Rattle.laws.specs.Ranges.{between}
use Rattle.laws.specs.Refusal.{unless}
use Rattle.layout.specs.declared.MemoryRange.{MemoryRange}
use Rattle.layout.specs.declared.MemoryRangeWithNode.{MemoryRangeWithNode}
use Rattle.layout.specs.declared.Span.{Span}

abbrev pub entry : ℕ → ℕ → ℕ → MemoryRangeWithNode
entry s e n = record { start = s; end = e; vnode = n }

-- "RAM layout": the entries of a run of words, three words each; a ragged tail is none
unfoldable pub entries_of : List ℕ → List MemoryRangeWithNode
entries_of [] = []
entries_of (s ∷ []) = []
entries_of (s ∷ e ∷ []) = []
entries_of (s ∷ e ∷ n ∷ ws) = entry s e n ∷ entries_of ws

-- the entry at a place: zeros past the last
abbrev pub entry_at : List MemoryRangeWithNode → ℕ → MemoryRangeWithNode
entry_at es i = get_or es i (entry 0 0 0)

-- "RAM layout": whether an entry holds a page, a page being 4,096 bytes
abbrev pub holds_page : MemoryRangeWithNode → ℕ → Bool
holds_page e p = between e.start e.end (p * page_size)

-- whether a byte is RAM: where an entry holds it; and a page, by its first byte (the entries of a fit layout hold whole pages)
unfoldable pub ram_byte : List MemoryRangeWithNode → ℕ → Bool
ram_byte [] b = false
ram_byte (e ∷ es) b = between e.start e.end b || ram_byte es b

abbrev pub is_ram : List MemoryRangeWithNode → ℕ → Bool
is_ram es p = ram_byte es (p * page_size)

-- the place of the first entry that holds it, or the number of entries
unfoldable pub place_of : List MemoryRangeWithNode → ℕ → ℕ
place_of [] p = 0
place_of (e ∷ es) p = cond (holds_page e p) 0 (suc (place_of es p))

-- refusal 1: an entry may follow where the one before it ended; it is not empty, ends at 2^52 at most, and has a 32-bit node
abbrev pub follows : ℕ → MemoryRangeWithNode → Bool
follows from e = leb from e.start && (ltb e.start e.end && (leb e.end (2 ^ 52) && ltb e.vnode (2 ^ 32)))

unfoldable pub ordered : ℕ → List MemoryRangeWithNode → Bool
ordered from [] = true
ordered from (e ∷ es) = follows from e && ordered e.end es

-- refusal 2 where a start or an end lies off the bounds of eight pages
abbrev pub on_bytes : MemoryRangeWithNode → Bool
on_bytes e = eqb (e.start % ram_alignment) 0 && eqb (e.end % ram_alignment) 0

unfoldable pub aligned : List MemoryRangeWithNode → Bool
aligned [] = true
aligned (e ∷ es) = on_bytes e && aligned es

-- "From the input": 1, then 2, else 0
unfoldable pub refusal_of : List ℕ → ℕ
refusal_of ws =
    unless (eqb (length ws % ram_entry_words) 0) refusal.unfit_layout
    (unless (ltb 0 (length (entries_of ws))) refusal.unfit_layout
    (unless (leb (length (entries_of ws)) limit.ram_entries) refusal.unfit_layout
    (unless (ordered 0 (entries_of ws)) refusal.unfit_layout
    (unless (aligned (entries_of ws)) refusal.bad_alignment
    0))))

-- the end of the last entry: 0 where there is none
abbrev pub last_end : List MemoryRangeWithNode → ℕ
last_end es = (entry_at es (length es - 1)).end

-- refusal 4: a page map has a byte for every 32,768 bytes up to there
abbrev pub map_len : List MemoryRangeWithNode → ℕ
map_len es = last_end es / ram_alignment

abbrev pub range : ℕ → ℕ → MemoryRange
range s e = record { start = s; end = e }

-- "Registrar": entries that meet are joined
unfoldable pub spans_from : ℕ → ℕ → List MemoryRangeWithNode → List MemoryRange
spans_from s e [] = range s e ∷ []
spans_from s e (f ∷ fs) = cond (eqb f.start e) (spans_from s f.end fs) (range s e ∷ spans_from f.start f.end fs)

unfoldable pub spans : List MemoryRangeWithNode → List MemoryRange
spans [] = []
spans (e ∷ es) = spans_from e.start e.end es

unfoldable pub spans_byte : List MemoryRange → ℕ → Bool
spans_byte [] b = false
spans_byte (r ∷ rs) b = between r.start r.end b || spans_byte rs b

-- where a span ends that has reached `end`, and how many more entries it has
unfoldable pub reach : ℕ → List MemoryRangeWithNode → ℕ
reach end [] = end
reach end (e ∷ es) = cond (eqb e.start end) (reach e.end es) end

unfoldable pub touching : ℕ → List MemoryRangeWithNode → ℕ
touching end [] = 0
touching end (e ∷ es) = cond (eqb e.start end) (suc (touching e.end es)) 0

-- the span that starts at entry i, and the place after its last entry; past the last an empty one
unfoldable pub span_at : List MemoryRangeWithNode → ℕ → Span
span_at es i =
    cond (ltb i (length es))
    (record { start = (entry_at es i).start; end = reach (entry_at es i).end (drop (i + 1) es); next = i + 1 + touching (entry_at es i).end (drop (i + 1) es) })
    (record { start = 0; end = 0; next = i })

-- the first page that begins at an address or after it
abbrev pub page_up : ℕ → ℕ
page_up a = (a + 4095) / page_size
