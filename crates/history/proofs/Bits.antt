-- Marks as facts: what setting and clearing the pages at places of a table does to one page. Assumes nothing.
use Prim.Native.Nat.{ℕ, zero, suc, ◌+◌, ◌-◌, ◌/◌, ◌≤◌, ◌<◌, min}
use mathlib.Core.Path.{◌≡◌, refl, sym, ap, ◌∙◌}
use mathlib.Core.List.{List, [], ◌∷◌}
use mathlib.Core.Bool.{Bool, true, false, cond, ◌||◌, ◌&&◌}
use native.Mathlib.Omega.{arith}
use lib.ListN.{length, get_or, take, length-take, length-drop}
use lib.Seq.{get_or-take, get_or-drop}
use lib.Dec.{eqb, ltb, lit<}
use borrow.Author.Tests.{eqb-true, ltb-false, lt-ltb}
use Rattle.bitmap.specs.Pages.{bit_at, written}
use Rattle.bitmap.proofs.Map.{page_law, page_past}
use Rattle.page_list.specs.Pages.{among}
use Rattle.page_list.specs.Runs.{part}
use Rattle.page_list.proofs.Laws.{among_at}
use Rattle.request_pages.specs.Request.{wanted}
use Rattle.history.specs.Marks.{Has}

pub clash : {X : Type 0} (b : Bool) → b ≡ true → b ≡ false → X
clash b e f = let z : ◌≡◌ {A = ℕ} 0 1 = cc in absurd (omega arith)

-- a page of a list stands at a place of it, and the other way round
among_place : (l : List ℕ) (q : ℕ) → among l q ≡ true → ((j : ℕ) → j < length l → get_or l j 0 ≡ q → ⊥) → ⊥
unfolding among
among_place [] q h f = clash false h refl
among_place (p ∷ l) q h f = go (eqb q p) refl h (λ k. among_place l q k (λ j a e. f (suc j) (omega arith) e))
  where
    go : (b : Bool) → eqb q p ≡ b → (b || among l q) ≡ true → (among l q ≡ true → ⊥) → ⊥
    go true e k r = f zero (omega arith) (sym (eqb-true q p e))
    go false e k r = r k

pub of_part : (a b : ℕ) (t : List ℕ) (q : ℕ) → among (part t b a) q ≡ true → ((j : ℕ) → a ≤ j → j < b → j < length t → get_or t j 0 ≡ q → ⊥) → ⊥
of_part a b t q h f =
    among_place (part t b a) q h
    (λ j d e.
    let n : length (part t b a) ≡ min b (length t) - a = length-drop a (take b t) ∙ ap (λ (x : ℕ). x - a) (length-take b t) in
    f (a + j) (omega arith) (omega arith) (omega arith) (sym (get_or-drop a (take b t) j 0 ∙ get_or-take b t (a + j) 0 (omega arith)) ∙ e))

pub in_part : (b : ℕ) (t : List ℕ) (j : ℕ) → j < b → j < length t → among (part t b 0) (get_or t j 0) ≡ true
in_part b t j h g = ap (among (take b t)) (sym (get_or-take b t j 0 h)) ∙ among_at (take b t) j (omega (arith, length-take b t))

-- a page that bears the mark once P's pages are set bore it, or is P's
pub set_cases : (P : ℕ → Bool) (m : List ℕ) (q : ℕ) → Has (written 8 P true m) q → (P q ≡ true → ⊥) → (Has m q → ⊥) → ⊥
set_cases P m q h f g = go (P q) refl (ltb (q / 8) (length m)) (sym (page_law 8 P true m q (lit< tt)) ∙ h)
  where
    go : (b : Bool) → P q ≡ b → (i : Bool) → cond (b && i) true (bit_at 8 m q) ≡ true → ⊥
    go true e i k = f e
    go false e i k = g k

-- one that bears it once they are cleared bore it, and is not P's
pub clear_kept : (P : ℕ → Bool) (m : List ℕ) (q : ℕ) → Has (written 8 P false m) q → Has m q
clear_kept P m q h = go (P q && ltb (q / 8) (length m)) (sym (page_law 8 P false m q (lit< tt)) ∙ h)
  where
    go : (b : Bool) → cond b false (bit_at 8 m q) ≡ true → bit_at 8 m q ≡ true
    go true k = clash false k refl
    go false k = k

pub clear_gone : (P : ℕ → Bool) (m : List ℕ) (q : ℕ) → P q ≡ true → Has (written 8 P false m) q → ⊥
clear_gone P m q e h = go (ltb (q / 8) (length m)) refl (sym (page_law 8 P false m q (lit< tt)) ∙ h)
  where
    go : (i : Bool) → ltb (q / 8) (length m) ≡ i → cond (P q && i) false (bit_at 8 m q) ≡ true → ⊥
    go true d k = clash false (sym (ap (λ (b : Bool). cond (b && true) false (bit_at 8 m q)) e) ∙ k) refl
    go false d k = clash (bit_at 8 m q) (clear_kept P m q h) (page_past 8 m q (ltb-false _ _ d))

pub set_has : (P : ℕ → Bool) (m : List ℕ) (z : ℕ) → P z ≡ true → z / 8 < length m → Has (written 8 P true m) z
set_has P m z e h = page_law 8 P true m z (lit< tt) ∙ go (P z) (ltb (z / 8) (length m)) e (lt-ltb _ _ h)
  where
    go : (a b : Bool) → a ≡ true → b ≡ true → cond (a && b) true (bit_at 8 m z) ≡ true
    go true true e f = refl
    go true false e f = clash false f refl
    go false b e f = clash false e refl

pub set_keeps : (P : ℕ → Bool) (m : List ℕ) (z : ℕ) → Has m z → Has (written 8 P true m) z
set_keeps P m z h = page_law 8 P true m z (lit< tt) ∙ go (P z && ltb (z / 8) (length m))
  where
    go : (a : Bool) → cond a true (bit_at 8 m z) ≡ true
    go true = refl
    go false = h

pub inside : (a b : ℕ) (t : List ℕ) (j : ℕ) → a ≤ j → j < b → j < length t → among (part t b a) (get_or t j 0) ≡ true
inside a b t j h g d =
    let n : length (part t b a) ≡ min b (length t) - a = length-drop a (take b t) ∙ ap (λ (x : ℕ). x - a) (length-take b t) in
    let k : a + (j - a) ≡ j = omega arith in
    let e : get_or (part t b a) (j - a) 0 ≡ get_or t j 0 = get_or-drop a (take b t) (j - a) 0 ∙ ap (λ (i : ℕ). get_or (take b t) i 0) k ∙ get_or-take b t j 0 g in
    ap (among (part t b a)) (sym e) ∙ among_at (part t b a) (j - a) (omega arith)

pub clear_same : (P : ℕ → Bool) (m : List ℕ) (z : ℕ) → P z ≡ false → Has m z → Has (written 8 P false m) z
clear_same P m z e h = page_law 8 P false m z (lit< tt) ∙ ap (λ (c : Bool). cond (c && ltb (z / 8) (length m)) false (bit_at 8 m z)) e ∙ h

pub not_among : (n : ℕ) (t : List ℕ) (z : ℕ) → ((j : ℕ) → j < n → j < length t → get_or t j 0 ≡ z → ⊥) → among (part t n 0) z ≡ false
not_among n t z f = go (among (part t n 0) z) refl
  where
    go : (c : Bool) → among (part t n 0) z ≡ c → among (part t n 0) z ≡ false
    go false e = e
    go true e = absurd (of_part 0 n t z e (λ j _ b d y. f j b d y))

pub none_among : (t : List ℕ) (z : ℕ) → among (part t 0 0) z ≡ false
none_among t z = not_among 0 t z (λ j b d y. omega arith)

pub was_private : (last : Bool) (shared : List ℕ) (z : ℕ) → wanted shared true z ≡ true → (last ≡ true → Has shared z) → last ≡ false
was_private false shared z h f = refl
was_private true shared z h f = clash false (sym (ap (λ (b : Bool). cond b false true) (f refl)) ∙ h) refl

pub was_shared : (shared : List ℕ) (z : ℕ) → wanted shared false z ≡ true → Has shared z
was_shared shared z h = go (bit_at 8 shared z) h
  where
    go : (b : Bool) → cond b true false ≡ true → b ≡ true
    go true h = refl
    go false h = h

pub less_among : (m n : ℕ) (t : List ℕ) (z : ℕ) → m ≤ n → among (part t n 0) z ≡ false → among (part t m 0) z ≡ false
less_among m n t z h e = go (among (part t m 0) z) refl
  where
    go : (c : Bool) → among (part t m 0) z ≡ c → among (part t m 0) z ≡ false
    go false d = d
    go true d = absurd (of_part 0 m t z d (λ j _ b f y. clash (among (part t n 0) z) (rw y at (in_part n t j (omega arith) f)) e))
