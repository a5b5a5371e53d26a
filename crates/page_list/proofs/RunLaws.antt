-- Laws of runs: the loop that finds one, and that runs found one after the other are those of the list. Assumes nothing.
use mathlib.Core.Bool.{Bool, true, false, cond}
use mathlib.Core.List.{List, [], ◌∷◌}
use mathlib.Core.Path.{◌≡◌, refl, sym, ap, ap₂, ◌∙◌}
use Prim.Native.Nat.{ℕ, suc, ◌+◌, ◌≤◌, ◌<◌, min}
use native.Mathlib.Numerals.{add-one}
use native.Mathlib.Omega.{arith}
use lib.Dec.{eqb}
use lib.ListN.{length, get_or, take, drop, length-take, drop_of_length-le}
use lib.Seq.{drop-cons, drop-drop, get_or-take}
use borrow.Author.Tests.{lt-ltb, le-ltb}
use Rattle.page_list.specs.declared.PageRun.{PageRun}
use Rattle.page_list.specs.Runs.{run, before, runs_of, part, neighbours, run_at}

pub part_next : (t : List ℕ) (n a : ℕ) → a < n → a < length t → part t n a ≡ get_or t a 0 ∷ part t n (a + 1)
part_next t n a h g =
    let f : a < length (take n t) = omega (arith, length-take n t) in
    drop-cons (take n t) a 0 f ∙ ap (λ (x : ℕ). x ∷ drop (suc a) (take n t)) (get_or-take n t a 0 h)
    ∙ ap (λ (m : ℕ). get_or t a 0 ∷ drop m (take n t)) (sym (add-one a))

pub part_end : (t : List ℕ) (n a : ℕ) → min n (length t) ≤ a → part t n a ≡ []
part_end t n a h = let g : length (take n t) ≤ a = omega (arith, length-take n t) in drop_of_length-le (take n t) g

-- the run at a place: none, or counted page by page
pub run_none : (t : List ℕ) (n a : ℕ) → n ≤ a → run 0 0 ≡ run_at t n a
unfolding run_at
run_none t n a h = rw (le-ltb a n h)

pub run_here : (t : List ℕ) (n a : ℕ) (p k : ℕ) → a < n → p ≡ get_or t a 0 → k ≡ suc (neighbours (get_or t a 0) (part t n (a + 1))) → run p k ≡ run_at t n a
unfolding run_at
run_here t n a p k h e d = rw (lt-ltb a n h) (ap₂ run e d)

module _ (t : List ℕ) (n i p : ℕ) where
  pub apart : i < n → i < length t → eqb (get_or t i 0) (p + 1) ≡ false → neighbours p (part t n i) ≡ 0
  unfolding neighbours
  apart h g e = rw (part_next t n i h g, e)

  pub next : i < n → i < length t → eqb (get_or t i 0) (p + 1) ≡ true → neighbours p (part t n i) ≡ suc (neighbours (get_or t i 0) (part t n (i + 1)))
  unfolding neighbours
  next h g e = rw (part_next t n i h g, e)

  pub over : min n (length t) ≤ i → neighbours p (part t n i) ≡ 0
  unfolding neighbours
  over h = rw (part_end t n i h)

-- ---- the runs of a list: its first, and those of the rest
pub runs_of_lem : (p : ℕ) (ps : List ℕ) → runs_of (p ∷ ps) ≡ run p (suc (neighbours p ps)) ∷ runs_of (drop (neighbours p ps) ps)
unfolding runs_of neighbours
runs_of_lem p [] = refl
runs_of_lem p (q ∷ qs) =
    ap (before p) (runs_of_lem q qs) ∙ go (eqb q (p + 1)) (runs_of_lem q qs)
  where
    go : (b : Bool) → runs_of (q ∷ qs) ≡ run q (suc (neighbours q qs)) ∷ runs_of (drop (neighbours q qs) qs)
        → cond b (run p (suc (neighbours q qs) + 1) ∷ runs_of (drop (neighbours q qs) qs))
        (run p 1 ∷ run q (suc (neighbours q qs)) ∷ runs_of (drop (neighbours q qs) qs))
        ≡ run p (suc (cond b (suc (neighbours q qs)) 0)) ∷ runs_of (drop (cond b (suc (neighbours q qs)) 0) (q ∷ qs))
    go true h = let e : suc (neighbours q qs) + 1 ≡ suc (suc (neighbours q qs)) = omega arith in ap (λ (m : ℕ). run p m ∷ runs_of (drop (neighbours q qs) qs)) e
    go false h = ap (λ (rs : List PageRun). run p 1 ∷ rs) (sym h)

-- the runs from a place of a table on: the one there, and those from the place after it
pub runs_at_lem : (t : List ℕ) (n a : ℕ) → a < n → a < length t → runs_of (part t n a) ≡ run_at t n a ∷ runs_of (part t n (a + (run_at t n a).count))
runs_at_lem t n a h g =
    let p : ℕ = get_or t a 0 in
    let k : ℕ = neighbours p (part t n (a + 1)) in
    let e : run_at t n a ≡ run p (suc k) = sym (run_here t n a p (suc k) h refl refl) in
    let d : a + 1 + k ≡ a + suc k = omega arith in
    ap runs_of (part_next t n a h g) ∙ runs_of_lem p (part t n (a + 1))
    ∙ ap (λ (l : List ℕ). run p (suc k) ∷ runs_of l) (drop-drop k (a + 1) (take n t) ∙ ap (λ (m : ℕ). drop m (take n t)) d)
    ∙ ap (λ (r : PageRun). r ∷ runs_of (part t n (a + r.count))) (sym e)

pub runs_end : (t : List ℕ) (n a : ℕ) → min n (length t) ≤ a → runs_of (part t n a) ≡ []
unfolding runs_of
runs_end t n a h = rw (part_end t n a h)
