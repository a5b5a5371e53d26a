-- The pages of the request under way (01, "The request under way"): a table of 1,024 words, 512 for pages and 512 for their places in the list
-- as sent.
use Rattle.std.specs.Prelude.{Bool, true, cond, not, ◌&&◌, List, [], ◌∷◌, ◌++◌, ℕ, suc, ◌+◌, length, take, drop}
use Rattle.abi.specs.Lengths.{places_start}
use Rattle.bitmap.specs.Pages.{bit_at, written}
use Rattle.permissions.specs.declared.HvMapGpaFlags.{HvMapGpaFlags}
use Rattle.mapping.specs.Maps.{Permissions, perms}
use Rattle.page_list.specs.Pages.{among}
use Rattle.page_list.specs.Runs.{part, run_at}

-- the pages that P holds of, in order
unfoldable pub pick : (ℕ → Bool) → List ℕ → List ℕ
pick P [] = []
pick P (p ∷ ps) = cond (P p) (p ∷ pick P ps) (pick P ps)

-- their places, the first page of the list being at place i
unfoldable pub pick_places : (ℕ → Bool) → ℕ → List ℕ → List ℕ
pick_places P i [] = []
pick_places P i (p ∷ ps) = cond (P p) (i ∷ pick_places P (suc i) ps) (pick_places P (suc i) ps)

-- xs laid over the start of a run of words
abbrev pub over : List ℕ → List ℕ → List ℕ
over xs words = xs ++ drop (length xs) words

-- the table once the pages of ps that P holds of are stored in it: what they don't use is as it was
unfoldable pub table_of : (ℕ → Bool) → List ℕ → List ℕ → List ℕ
table_of P ps table = over (pick P ps) (take places_start table) ++ over (pick_places P 0 ps) (drop places_start table)

-- where sharing stops ("From the state" 15): how many pages come before the first that P doesn't hold of
unfoldable pub stop_at : (ℕ → Bool) → List ℕ → ℕ
stop_at P [] = 0
stop_at P (p ∷ ps) = cond (P p) (suc (stop_at P ps)) 0

-- readable and writable, where that is asked
abbrev pub is_readable_and_writable : List ℕ → List ℕ → Bool → ℕ → Bool
is_readable_and_writable read write asked p = cond asked (bit_at 8 read p && bit_at 8 write p) true

-- what doesn't drop out: its shared mark isn't yet as asked
abbrev pub wanted : List ℕ → Bool → ℕ → Bool
wanted shared share p = cond (bit_at 8 shared p) (not share) share

-- the place after the run that starts at place `at`, among the first `count`
unfoldable pub run_end : List ℕ → ℕ → ℕ → ℕ
run_end pages count at = at + (run_at pages count at).count

-- the map with this state for each page at the places from `from` to before `to`
unfoldable pub put : List ℕ → ℕ → ℕ → Bool → List ℕ → List ℕ
put pages from to state map = written 8 (among (part pages to from)) state map

-- the permission maps with these flags there
abbrev pub put_flags : List ℕ → ℕ → ℕ → HvMapGpaFlags → Permissions → Permissions
put_flags pages from to flags maps =
    perms (put pages from to flags.readable maps.read) (put pages from to flags.writable maps.write)
    (put pages from to flags.kernel_executable maps.kernel) (put pages from to flags.user_executable maps.user)
