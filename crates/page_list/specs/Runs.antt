-- Runs of ascending neighbours, in list order (01, "The request under way").
use Rattle.std.specs.Prelude.{cond, List, [], ◌∷◌, ℕ, suc, ◌+◌, eqb, ltb, get_or, take, drop}
use Rattle.page_list.specs.declared.PageRun.{PageRun}

abbrev pub run : ℕ → ℕ → PageRun
run p n = record { first = p; count = n }

-- a page before the runs of what follows: it begins the first of them where it is its neighbour below
abbrev pub before : ℕ → List PageRun → List PageRun
before p [] = run p 1 ∷ []
before p (r ∷ rs) = cond (eqb r.first (p + 1)) (run p (r.count + 1) ∷ rs) (run p 1 ∷ r ∷ rs)

unfoldable pub runs_of : List ℕ → List PageRun
runs_of [] = []
runs_of (p ∷ ps) = before p (runs_of ps)

-- in a table of words, of which the first n are pages: the pages from place a on
abbrev pub part : List ℕ → ℕ → ℕ → List ℕ
part t n a = drop a (take n t)

-- how many pages follow p as its ascending neighbours
unfoldable pub neighbours : ℕ → List ℕ → ℕ
neighbours p [] = 0
neighbours p (q ∷ qs) = cond (eqb q (p + 1)) (suc (neighbours q qs)) 0

-- the run that starts at place a: none past the last
unfoldable pub run_at : List ℕ → ℕ → ℕ → PageRun
run_at t n a = cond (ltb a n) (run (get_or t a 0) (suc (neighbours (get_or t a 0) (part t n (a + 1))))) (run 0 0)
