-- Limits of page lists. Assumes nothing.
use mathlib.Core.Bool.{true, false}
use mathlib.Core.List.{List, [], ◌∷◌}
use mathlib.Core.Path.{◌≡◌, refl}
use Prim.Native.Nat.{ℕ}
use lib.ListN.{replicate}
use Rattle.page_list.specs.Pages.{number_of, number_at, numbers_from, pages_of, is_long, among, repeats, is_ragged}
use Rattle.page_list.specs.Runs.{run, neighbours, run_at}

of_4096 : is_long (replicate 4096 0) ≡ false
of_4096 = refl

of_4097 : is_long (replicate 4097 0) ≡ true
of_4097 = refl

abbrev page : ℕ → List ℕ → List ℕ
page p l = p ∷ 0 ∷ 0 ∷ 0 ∷ 0 ∷ 0 ∷ 0 ∷ 0 ∷ l

ragged_repeat : repeats (pages_of (page 3 (page 3 (1 ∷ [])))) ≡ true
unfolding number_of number_at numbers_from among repeats
ragged_repeat = refl

ragged_tail : is_ragged (page 3 (page 4 (1 ∷ []))) ≡ true
ragged_tail = refl

-- what the definition gives past the table's end, though its comment says none
run_past_the_table : run_at [] 1 0 ≡ run 0 1
unfolding run_at neighbours
run_past_the_table = refl
