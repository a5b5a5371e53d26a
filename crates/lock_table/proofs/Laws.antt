-- Laws of the loops over lists and pages, how they end and go on, and of what unlock returns. Assumes nothing.
use mathlib.Core.Bool.{Bool, true, false, cond, not, ◌&&◌, ◌||◌}
use mathlib.Core.List.{List, [], ◌∷◌}
use mathlib.Core.Path.{◌≡◌, refl, sym, ap, ap₂, ◌∙◌}
use Prim.Native.Nat.{ℕ, zero, suc, ◌+◌, ◌-◌, ◌≤◌, ◌<◌, min, max}
use native.Mathlib.Numerals.{add-one}
use native.Mathlib.Omega.{arith}
use lib.Dec.{eqb, leb}
use lib.ListN.{length, get_or, set, take, drop, length-take, length-drop, drop_of_length-le}
use lib.Seq.{drop-cons, get_or-take}
use borrow.Author.Tests.{eq-eqb, ne_eqb, le-leb, lt-leb, not-true, not-false}
use Rattle.laws.specs.Bools.{and_false}
use Rattle.words.specs.Words.{closed_to, swapped}
use Rattle.words.proofs.Laws.{swapped_none}
use Rattle.page_list.specs.Runs.{part}
use Rattle.page_list.specs.Pages.{among}
use Rattle.page_list.proofs.Laws as pages
use Rattle.lock_table.specs.Locks.{same, kept, used, end_of, list_at, lists_from, lists_of, equal_from, moved, without, unlock_code, unlock_words}

-- ---- a page among words
module _ (t : List ℕ) (i n p q : ℕ) (h : i < n) (g : i < length t) (e : q ≡ get_or t i 0) where
  inside : i < length (take n t)
  inside = omega (arith, length-take n t)

  read : q ≡ get_or (take n t) i 0
  read = e ∙ sym (get_or-take n t i 0 h)

  pub among_hit : p ≡ q → among (part t n i) p ≡ true
  among_hit d = pages.among_hit (take n t) i q inside read p d

  pub among_miss : (p ≡ q → ⊥) → among (part t n i) p ≡ among (part t n (i + 1)) p
  among_miss d = pages.among_miss (take n t) i q inside read p d

pub among_end : (t : List ℕ) (i n p : ℕ) → min n (length t) ≤ i → among (part t n i) p ≡ false
among_end t i n p h = pages.among_end (take n t) i (omega (arith, length-take n t)) p

-- ---- how many pages the first lists have

pub end_some : (t : List ℕ) (k : ℕ) → 0 < k → end_of t k ≡ min 1024 (get_or t k 0)
end_some t zero h = absurd (omega arith)
end_some t (suc k) h = refl

-- ---- pages written

rest : (l : List ℕ) (i : ℕ) → i < length l → drop i l ≡ get_or l i 0 ∷ drop (i + 1) l
rest l i h = drop-cons l i 0 h ∙ ap (λ (n : ℕ). get_or l i 0 ∷ drop n l) (sym (add-one i))

-- ---- lists compared

same_length : (a b : List ℕ) → (length a ≡ length b → ⊥) → same a b ≡ false
unfolding same
same_length [] [] h = absurd (h refl)
same_length [] (q ∷ b) h = refl
same_length (p ∷ a) [] h = refl
same_length (p ∷ a) (q ∷ b) h = and_false (eqb p q) (same a b) (same_length a b (λ e. h (ap suc e)))

module _ (t l : List ℕ) (from to n end long : ℕ) (count : n ≡ length l) (stop : end ≡ min to (length t)) (width : long ≡ end - from) where
  pub same_not : (long ≡ n → ⊥) → same (part t to from) l ≡ false
  same_not h = same_length (part t to from) l (λ e. h (omega (arith, length-drop from (take to t), length-take to t)))

  module _ (equal : long ≡ n) where
    module _ (i w p : ℕ) (h : i < n) (e : w ≡ get_or t (from + i) 0) (f : p ≡ get_or l i 0) where
      next_word : part t to (from + i) ≡ w ∷ part t to (from + (i + 1))
      next_word =
          let d : from + i + 1 ≡ from + (i + 1) = omega arith in
          let read : get_or (take to t) (from + i) 0 ≡ w = get_or-take to t (from + i) 0 (omega arith) ∙ sym e in
          rest (take to t) (from + i) (omega (arith, length-take to t)) ∙ ap₂ (λ (v k : ℕ). v ∷ drop k (take to t)) read d

      next_page : drop i l ≡ p ∷ drop (i + 1) l
      next_page = rest l i (omega arith) ∙ ap (λ (v : ℕ). v ∷ drop (i + 1) l) (sym f)

      compared : same (part t to (from + i)) (drop i l) ≡ (eqb w p && same (part t to (from + (i + 1))) (drop (i + 1) l))
      unfolding same
      compared = ap₂ same next_word next_page

      pub same_stop : (w ≡ p → ⊥) → same (part t to (from + i)) (drop i l) ≡ false
      same_stop d = compared ∙ rw (ne_eqb w p d) refl

      pub same_more : w ≡ p → same (part t to (from + i)) (drop i l) ≡ same (part t to (from + (i + 1))) (drop (i + 1) l)
      same_more d = compared ∙ rw (eq-eqb w p d) refl

    pub same_end : (i : ℕ) → n ≤ i → same (part t to (from + i)) (drop i l) ≡ true
    unfolding same
    same_end i h = ap₂ same (drop_of_length-le (take to t) {i = from + i} (omega (arith, length-take to t))) (drop_of_length-le l {i = i} (omega arith))

-- ---- the first list that is equal
module _ (t : List ℕ) (c k from to : ℕ) (l : List ℕ) (e : from ≡ 65 + end_of t k) (f : to ≡ 65 + min 1024 (get_or t (k + 1) 0)) where
  pub next_from : to ≡ 65 + end_of t (k + 1)
  next_from = f ∙ ap (λ (n : ℕ). 65 + n) (sym (end_some t (k + 1) (omega arith)))

  list_here : part t to from ≡ list_at t k
  list_here = ap₂ (λ (x y : ℕ). part t x y) (next_from ∙ ap (λ (n : ℕ). 65 + end_of t n) (add-one k)) e

  pub equal_hit : k < c → same (part t to from) l ≡ true → equal_from t (c - k) k l ≡ k
  unfolding equal_from
  equal_hit h g =
      let d : c - k ≡ suc (c - (k + 1)) = omega arith in
      let s : same (list_at t k) l ≡ true = ap (λ (x : List ℕ). same x l) (sym list_here) ∙ g in
      ap (λ (n : ℕ). equal_from t n k l) d ∙ ap (λ (b : Bool). cond b k (equal_from t (c - (k + 1)) (suc k) l)) s

  pub equal_miss : k < c → same (part t to from) l ≡ false → equal_from t (c - k) k l ≡ equal_from t (c - (k + 1)) (k + 1) l
  unfolding equal_from
  equal_miss h g =
      let d : c - k ≡ suc (c - (k + 1)) = omega arith in
      let s : same (list_at t k) l ≡ false = ap (λ (x : List ℕ). same x l) (sym list_here) ∙ g in
      ap (λ (n : ℕ). equal_from t n k l) d ∙ ap (λ (b : Bool). cond b k (equal_from t (c - (k + 1)) (suc k) l)) s ∙ ap (λ (n : ℕ). equal_from t (c - (k + 1)) n l) (sym (add-one k))

pub equal_end : (t : List ℕ) (c k : ℕ) (l : List ℕ) → c ≤ k → equal_from t (c - k) k l ≡ k
unfolding equal_from
equal_end t c k l h = let d : c - k ≡ 0 = omega arith in ap (λ (n : ℕ). equal_from t n k l) d

equal_kept : (t l : List ℕ) (n k : ℕ) → leb (k + n) (equal_from t n k l) ≡ not (kept (lists_from t n k) l)
unfolding equal_from kept lists_from
equal_kept t l zero k = le-leb (k + 0) k (omega arith)
equal_kept t l (suc n) k = go (same (list_at t k) l) (equal_kept t l n (suc k))
  where
    go : (b : Bool) → leb (suc k + n) (equal_from t n (suc k) l) ≡ not (kept (lists_from t n (suc k)) l)
        → leb (k + suc n) (cond b k (equal_from t n (suc k) l)) ≡ not (b || kept (lists_from t n (suc k)) l)
    go true m = lt-leb (k + suc n) k (omega arith)
    go false m = let d : k + suc n ≡ suc k + n = omega arith in ap (λ (x : ℕ). leb x (equal_from t n (suc k) l)) d ∙ m

-- ---- the last list brought forward
module _ (t : List ℕ) (end last to : ℕ) where
  abbrev brought : List ℕ
  brought = swapped t end (max end last - end) (to - max end last)

  pub last_there : last ≤ end → t ≡ brought
  last_there h = let d : max end last - end ≡ 0 = omega arith in sym (ap (λ (k : ℕ). swapped t end k (to - max end last)) d ∙ swapped_none t end (to - max end last))

-- ---- ends moved

pub move_more : (t : List ℕ) (to k b d e s : ℕ) (t' : List ℕ) → k < to → e ≡ min 1024 (get_or t k 0) → s ≡ e - b → t' ≡ set t k (s + d) → moved t' (to - (k + 1)) (k + 1) b d ≡ moved t (to - k) k b d
unfolding moved
move_more t to k b d e s t' h f g x =
    let n : to - k ≡ suc (to - (k + 1)) = omega arith in
    ap₂ (λ (r : List ℕ) (i : ℕ). moved r (to - (k + 1)) i b d) (x ∙ ap (λ (v : ℕ). set t k (v + d)) (g ∙ ap (λ (v : ℕ). v - b) f)) (add-one k) ∙ ap (λ (i : ℕ). moved t i k b d) (sym n)

pub move_end : (t : List ℕ) (to k b d : ℕ) → to ≤ k → moved t (to - k) k b d ≡ t
unfolding moved
move_end t to k b d h = let n : to - k ≡ 0 = omega arith in ap (λ (i : ℕ). moved t i k b d) n

pub list_removed : (t : List ℕ) (c i start end last to gap size : ℕ) → start ≡ end_of t i → end ≡ end_of t (i + 1) → last ≡ end_of t (c - 1) → to ≡ end_of t c → gap ≡ end - start → size ≡ to - last
    → (t1 t2 t3 t4 t5 : List ℕ) → t1 ≡ swapped t (65 + end) (max (65 + end) (65 + last) - (65 + end)) (65 + to - max (65 + end) (65 + last)) → t2 ≡ closed_to t1 (65 + start) gap (65 + to)
    → t3 ≡ moved t2 (c - (i + 1)) (i + 1) end (start + size) → t4 ≡ set t3 c 0 → t5 ≡ set t4 0 (c - 1) → t5 ≡ without t c i
unfolding without
list_removed t c i start end last to gap size xa xb xc xd xe xf t1 t2 t3 t4 t5 ya yb yc yd ye =
    let d : i + 1 ≡ suc i = add-one i in
    let xg : end ≡ end_of t (suc i) = xb ∙ ap (end_of t) d in
    ye ∙ rw (yd, yc, yb, ya, d, xe, xf, xa, xg, xc, xd) refl

module _ (t l : List ℕ) (c i : ℕ) (e : c ≡ used t) (f : i ≡ equal_from t c 0 l) where
  place : i ≡ equal_from t (used t) 0 l
  place = f ∙ ap (λ (k : ℕ). equal_from t k 0 l) e

  found : leb c i ≡ not (kept (lists_of t) l)
  found = let d : c ≡ 0 + used t = omega arith in ap₂ leb d place ∙ equal_kept t l (used t) 0

  pub unlock_none : c ≤ i → (18 ≡ unlock_code t l) × (t ≡ unlock_words t l)
  unlock_none h = let r = not-true (kept (lists_of t) l) (sym found ∙ le-leb c i h) in (rw r refl, rw r refl)

  pub unlock_made : i < c → (t1 : List ℕ) → t1 ≡ without t c i → (0 ≡ unlock_code t l) × (t1 ≡ unlock_words t l)
  unlock_made h t1 x =
      let r = not-false (kept (lists_of t) l) (sym found ∙ lt-leb c i h) in
      (rw r refl, rw r (x ∙ ap₂ (without t) e place))
