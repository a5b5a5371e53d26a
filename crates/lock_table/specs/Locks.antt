-- The locked page lists of one VTL (01, "Overlays and locks"), in a run of 1,089 words.
use Rattle.std.specs.Prelude.{Bool, true, false, cond, ◌&&◌, ◌||◌, List, [], ◌∷◌, ◌++◌, ℕ, zero, suc, ◌+◌, ◌-◌, ◌≤◌, min, max, eqb, ltb, leb, get_or, set, length}
use Rattle.std.proofs.lemmas.List.Edits.{sets}
use Rattle.abi.specs.Limits as limit
use Rattle.abi.specs.Refusals as refusal
use Rattle.page_list.specs.Pages.{among}
use Rattle.page_list.specs.Runs.{part}
use Rattle.words.specs.Words.{padded, closed_to, swapped}

-- ---- lists

-- whether one of them holds a page
unfoldable pub held : List (List ℕ) → ℕ → Bool
held [] p = false
held (l ∷ ls) p = among l p || held ls p

-- pages in all
unfoldable pub total : List (List ℕ) → ℕ
total [] = 0
total (l ∷ ls) = length l + total ls

abbrev pub Fit : List (List ℕ) → Type 0
Fit ls = (length ls ≤ limit.locked_lists) × (total ls ≤ limit.locked_pages)

-- one list more, of n pages
abbrev pub room_for : List (List ℕ) → ℕ → Bool
room_for ls n = ltb (length ls) limit.locked_lists && leb (total ls + n) limit.locked_pages

-- equal in every place
unfoldable pub same : List ℕ → List ℕ → Bool
same [] [] = true
same [] (q ∷ qs) = false
same (p ∷ ps) [] = false
same (p ∷ ps) (q ∷ qs) = eqb p q && same ps qs

unfoldable pub kept : List (List ℕ) → List ℕ → Bool
kept [] l = false
kept (x ∷ xs) l = same x l || kept xs l

-- the last comes first
unfoldable pub last_of : List ℕ → List (List ℕ) → List ℕ
last_of x [] = x
last_of x (y ∷ ys) = last_of y ys

unfoldable pub all_but_last : List ℕ → List (List ℕ) → List (List ℕ)
all_but_last x [] = []
all_but_last x (y ∷ ys) = x ∷ all_but_last y ys

unfoldable pub last_first : List (List ℕ) → List (List ℕ)
last_first [] = []
last_first (x ∷ xs) = last_of x xs ∷ all_but_last x xs

-- the first that is equal is gone, and the last stands in its place
unfoldable pub unlocked : List (List ℕ) → List ℕ → List (List ℕ)
unlocked [] l = []
unlocked (x ∷ xs) l = cond (same x l) (last_first xs) (x ∷ unlocked xs l)

-- ---- their words: how many, then how many pages the first k have together, then the pages of all

-- how many pages each has with those before it, n before the first
unfoldable pub ends : ℕ → List (List ℕ) → List ℕ
ends n [] = []
ends n (l ∷ ls) = (n + length l) ∷ ends (n + length l) ls

unfoldable pub joined : List (List ℕ) → List ℕ
joined [] = []
joined (l ∷ ls) = l ++ joined ls

unfoldable pub table_of : List (List ℕ) → List ℕ
table_of ls = length ls ∷ (padded limit.locked_lists (ends 0 ls) ++ padded limit.locked_pages (joined ls))

-- the place of the first page, behind their number and 64 ends
abbrev pub first_page : ℕ
first_page = 65

-- ---- any words: at most 64 lists are read, and no more than 1,024 pages

abbrev pub used : List ℕ → ℕ
used t = min limit.locked_lists (get_or t 0 0)

-- how many pages the first k lists have together
abbrev pub end_of : List ℕ → ℕ → ℕ
end_of table zero = 0
end_of table (suc k) = min limit.locked_pages (get_or table (suc k) 0)

-- where their pages end and those of list k, from 0, begin
abbrev pub place_of : List ℕ → ℕ → ℕ
place_of table k = first_page + end_of table k

abbrev pub list_at : List ℕ → ℕ → List ℕ
list_at table k = part table (place_of table (suc k)) (place_of table k)

-- n lists from list k on
unfoldable pub lists_from : List ℕ → ℕ → ℕ → List (List ℕ)
lists_from table zero k = []
lists_from table (suc n) k = list_at table k ∷ lists_from table n (suc k)

abbrev pub lists_of : List ℕ → List (List ℕ)
lists_of table = lists_from table (used table) 0

-- the place after the last locked page, and the pages before it
abbrev pub pages_end : List ℕ → ℕ
pages_end table = place_of table (used table)

abbrev pub locked_pages : List ℕ → List ℕ
locked_pages table = part table (pages_end table) first_page

abbrev pub held_in : List ℕ → ℕ → Bool
held_in table p = among (locked_pages table) p

-- ---- lock: 17 where there is no room

abbrev pub has_room : List ℕ → ℕ → Bool
has_room table n = ltb (used table) limit.locked_lists && leb (end_of table (used table) + n) limit.locked_pages

-- one list more: its pages, its end, and how many there are
abbrev pub one_more : List ℕ → List ℕ → List ℕ
one_more table l = set (set (sets table (pages_end table) l) (used table + 1) (end_of table (used table) + length l)) 0 (used table + 1)

abbrev pub lock_code : List ℕ → List ℕ → ℕ
lock_code table l = cond (has_room table (length l)) 0 refusal.full

abbrev pub lock_words : List ℕ → List ℕ → List ℕ
lock_words table l = cond (has_room table (length l)) (one_more table l) table

-- ---- unlock: 18 where no list is equal

-- of n lists from list k on the first that is equal: k + n where none is
unfoldable pub equal_from : List ℕ → ℕ → ℕ → List ℕ → ℕ
equal_from table zero k l = k
equal_from table (suc n) k l = cond (same (list_at table k) l) k (equal_from table n (suc k) l)

-- of what stands from place e on, the words from place y to before place z come first
abbrev pub last_to : List ℕ → ℕ → ℕ → ℕ → List ℕ
last_to table e y z = swapped table e (max e y - e) (z - max e y)

-- of c lists the pages of list i are gone, and those of the last stand in their place
abbrev pub pages_gone : List ℕ → ℕ → ℕ → List ℕ
pages_gone table c i = closed_to (last_to table (place_of table (suc i)) (place_of table (c - 1)) (place_of table c)) (place_of table i) (end_of table (suc i) - end_of table i) (place_of table c)

-- the ends in n words from word k on, b pages less and d more
unfoldable pub moved : List ℕ → ℕ → ℕ → ℕ → ℕ → List ℕ
moved table zero k b d = table
moved table (suc n) k b d = moved (set table k (min limit.locked_pages (get_or table k 0) - b + d)) n (suc k) b d

-- of c lists list i is gone, and the last stands in its place: so do their ends
unfoldable pub without : List ℕ → ℕ → ℕ → List ℕ
without table c i =
    set (set (moved (pages_gone table c i) (c - suc i) (suc i) (end_of table (suc i)) (end_of table i + (end_of table c - end_of table (c - 1)))) c 0) 0 (c - 1)

abbrev pub unlock_code : List ℕ → List ℕ → ℕ
unlock_code table l = cond (kept (lists_of table) l) 0 refusal.not_locked

abbrev pub unlock_words : List ℕ → List ℕ → List ℕ
unlock_words table l = cond (kept (lists_of table) l) (without table (used table) (equal_from table (used table) 0 l)) table
