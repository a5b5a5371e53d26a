-- Which pages a run has: the tests as facts, and how runs are put together.
-- Assumes nothing.
use mathlib.Core.Bool.{Bool, true, false, not, ◌&&◌, ◌||◌}
use mathlib.Core.Path.{◌≡◌, refl, sym, ap, ◌∙◌}
use Prim.Native.Nat.{ℕ, zero, ◌+◌, ◌-◌, ◌*◌, ◌/◌, ◌≤◌, ◌<◌}
use mathlib.Core.Logic.{⊎_elim}
use native.Mathlib.Nat.{div-mul-le_self, lt-div-mul-add}
use native.Mathlib.Omega.{arith}
use lib.Arith.{digits_div}
use lib.Dec.{leb}
use borrow.Author.Tests.{leb-true, le-leb, eqb-true, eq-eqb}
use Rattle.laws.specs.Bools.{same, false≢true, and_left, and_right, and_true, or_true, or_left, or_right, not_of, not_both, lt_or_le}
use Rattle.laws.specs.Ranges.{between, between_from, between_to, between_true, between_join}
use Rattle.bitmap.specs.Pages.{one, words, filled, edges}

pub one_between : (p q : ℕ) → one p q ≡ between p (p + 1) q
one_between p q =
    same (one p q) (between p (p + 1) q)
    (λ e. let d = eqb-true q p e in between_true p (p + 1) q (omega arith) (omega arith))
    (λ e. let f = between_from p (p + 1) q e in let t = between_to p (p + 1) q e in eq-eqb q p (omega arith))

-- one page more
pub between_more : (a p q : ℕ) → a ≤ p → between a (p + 1) q ≡ (one p q || between a p q)
between_more a p q l = between_join a p (p + 1) q l (omega arith) ∙ ap (λ (b : Bool). b || between a p q) (sym (one_between p q))

-- the words that a run fills are in the run, and the others are its edges
pub filled_from : (w a b q : ℕ) → filled w a b q ≡ true → a ≤ q / w * w
filled_from w a b q e = leb-true a (q / w * w) (and_left (leb a (q / w * w)) (leb (q / w * w + w) b) e)

pub filled_to_lem : (w a b q : ℕ) → filled w a b q ≡ true → q / w * w + w ≤ b
filled_to_lem w a b q e = leb-true (q / w * w + w) b (and_right (leb a (q / w * w)) (leb (q / w * w + w) b) e)

pub filled_true : (w a b q : ℕ) → a ≤ q / w * w → q / w * w + w ≤ b → filled w a b q ≡ true
filled_true w a b q l h = and_true (leb a (q / w * w)) (leb (q / w * w + w) b) (le-leb a (q / w * w) l) (le-leb (q / w * w + w) b h)

filled_inside : (w a b q : ℕ) → zero < w → filled w a b q ≡ true → between a b q ≡ true
filled_inside w a b q pos e =
    let l = filled_from w a b q e in let h = filled_to_lem w a b q e in
    let d = div-mul-le_self q w in let u : q < q / w * w + w = lt-div-mul-add pos in
    between_true a b q (omega arith) (omega arith)

-- a run fills a word where each of its pages is in the run, and only there
pub filled_each : (w a b q r : ℕ) → zero < w → filled w a b q ≡ true → r / w ≡ q / w → between a b r ≡ true
filled_each w a b q r pos e f =
    let l = filled_from w a b q e in let h = filled_to_lem w a b q e in
    let g = ap (λ (x : ℕ). x * w) f in
    let d = div-mul-le_self r w in let u : r < r / w * w + w = lt-div-mul-add pos in
    between_true a b r (omega arith) (omega arith)

pub each_filled : (w a b q : ℕ) → zero < w → ((r : ℕ) → r / w ≡ q / w → between a b r ≡ true) → filled w a b q ≡ true
each_filled w a b q pos f =
    let lo = between_from a b (q / w * w + 0) (f (q / w * w + 0) (digits_div (q / w) pos)) in
    let below : w - 1 < w = omega arith in
    let hi = between_to a b (q / w * w + (w - 1)) (f (q / w * w + (w - 1)) (digits_div (q / w) below)) in
    filled_true w a b q (omega arith) (omega arith)

-- no page is of both parts
pub edges_apart : (w a b q : ℕ) → edges w a b q ≡ true → filled w a b q ≡ true → ⊥
edges_apart w a b q e = not_both (filled w a b q) (and_right (between a b q) (not (filled w a b q)) e)

parts : (r h : Bool) → (h ≡ true → r ≡ true) → r ≡ (h || (r && not h))
parts r true f = f refl
parts true false f = refl
parts false false f = refl

pub filled_and_edges : (w a b q : ℕ) → zero < w → between a b q ≡ (filled w a b q || edges w a b q)
filled_and_edges w a b q pos = parts (between a b q) (filled w a b q) (filled_inside w a b q pos)

-- ---- where the bytes that a run fills begin and end, and its edges, in words of 8
pub filled_bytes : (a b q : ℕ) → words 8 ((a + 7) / 8) (b / 8) q ≡ filled 8 a b q
filled_bytes a b q =
    same (words 8 ((a + 7) / 8) (b / 8) q) (filled 8 a b q)
    (λ e. let l = between_from ((a + 7) / 8) (b / 8) (q / 8) e in let h = between_to ((a + 7) / 8) (b / 8) (q / 8) e in
    filled_true 8 a b q (omega arith) (omega arith))
    (λ e. let l = filled_from 8 a b q e in let h = filled_to_lem 8 a b q e in between_true ((a + 7) / 8) (b / 8) (q / 8) (omega arith) (omega arith))

rest : (r h : Bool) → h ≡ false → (r && not h) ≡ r
rest r true e = let z : ◌≡◌ {A = ℕ} 0 1 = cc in absurd (omega arith)
rest true false e = refl
rest false false e = refl

-- no byte filled: all of the run is edges
edges_all : (a b q : ℕ) → b / 8 ≤ (a + 7) / 8 → between a b q ≡ edges 8 a b q
edges_all a b q h =
    sym (rest (between a b q) (filled 8 a b q)
    (same (filled 8 a b q) false (λ e. let l = filled_from 8 a b q e in let t = filled_to_lem 8 a b q e in absurd (omega arith)) (λ e. false≢true e)))

edges_in : (a b q : ℕ) → edges 8 a b q ≡ true → between a b q ≡ true
edges_in a b q e = and_left (between a b q) (not (filled 8 a b q)) e

edges_true : (a b q : ℕ) → a ≤ q → q < b → (filled 8 a b q ≡ true → ⊥) → edges 8 a b q ≡ true
edges_true a b q l h n = and_true (between a b q) (not (filled 8 a b q)) (between_true a b q l h) (not_of (filled 8 a b q) n)

-- fewer than eight pages fill no byte
pub edges_short : (a l q : ℕ) → a ≤ l → l - a < 7 → between a (l + 1) q ≡ edges 8 a (l + 1) q
edges_short a l q o h = edges_all a (l + 1) q (omega arith)

-- a run that is one byte has no edges
pub edges_none : (a b q : ℕ) → a / 8 * 8 ≡ a → b ≡ a + 8 → edges 8 a b q ≡ false
edges_none a b q h d =
    same (edges 8 a b q) false
    (λ e. let r = edges_in a b q e in let l = between_from a b q r in let t = between_to a b q r in
    absurd (edges_apart 8 a b q e (filled_true 8 a b q (omega arith) (omega arith))))
    (λ e. false≢true e)

-- else they are those of its pages in the first byte and of its pages in the last
module _ (a l q : ℕ) (h : a / 8 < l / 8) where
  abbrev front : Bool
  front = edges 8 a (a / 8 * 8 + 7 + 1) q

  abbrev back : Bool
  back = edges 8 (l / 8 * 8) (l + 1) q

  split : edges 8 a (l + 1) q ≡ true → (back || front) ≡ true
  split e =
      let r = edges_in a (l + 1) q e in
      let f = between_from a (l + 1) q r in
      let t = between_to a (l + 1) q r in
      ⊎_elim (λ (d : q < a / 8 * 8 + 8).
      or_right back front (edges_true a (a / 8 * 8 + 7 + 1) q f (omega arith)
      (λ u. let v = filled_from 8 a (a / 8 * 8 + 7 + 1) q u in edges_apart 8 a (l + 1) q e (filled_true 8 a (l + 1) q v (omega arith)))))
      (λ (d : a / 8 * 8 + 8 ≤ q).
      ⊎_elim (λ (u : q < l / 8 * 8). absurd (edges_apart 8 a (l + 1) q e (filled_true 8 a (l + 1) q (omega arith) (omega arith))))
      (λ (u : l / 8 * 8 ≤ q). or_left back front (edges_true (l / 8 * 8) (l + 1) q u t
      (λ v. let x = filled_to_lem 8 (l / 8 * 8) (l + 1) q v in edges_apart 8 a (l + 1) q e (filled_true 8 a (l + 1) q (omega arith) x))))
      (lt_or_le q (l / 8 * 8)))
      (lt_or_le q (a / 8 * 8 + 8))

  joined : (back || front) ≡ true → edges 8 a (l + 1) q ≡ true
  joined e = ⊎_elim
      (λ d. let r = edges_in (l / 8 * 8) (l + 1) q d in
      let f = between_from (l / 8 * 8) (l + 1) q r in let t = between_to (l / 8 * 8) (l + 1) q r in
      edges_true a (l + 1) q (omega arith) t
      (λ u. let v = filled_to_lem 8 a (l + 1) q u in edges_apart 8 (l / 8 * 8) (l + 1) q d (filled_true 8 (l / 8 * 8) (l + 1) q (omega arith) v)))
      (λ d. let r = edges_in a (a / 8 * 8 + 7 + 1) q d in
      let f = between_from a (a / 8 * 8 + 7 + 1) q r in let t = between_to a (a / 8 * 8 + 7 + 1) q r in
      edges_true a (l + 1) q f (omega arith)
      (λ u. let v = filled_from 8 a (l + 1) q u in edges_apart 8 a (a / 8 * 8 + 7 + 1) q d (filled_true 8 a (a / 8 * 8 + 7 + 1) q v (omega arith))))
      (or_true back front e)

  pub edges_ends : edges 8 a (l + 1) q ≡ (back || front)
  edges_ends = same (edges 8 a (l + 1) q) (back || front) split joined
