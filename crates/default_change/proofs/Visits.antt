-- The pieces of a default change, asked one after the other, visit every wanted RAM page of a fit layout, ascending, each once, and no other; each
-- lies in one entry. Assumes nothing.
use mathlib.Core.Bool.{Bool, true, false, cond, ◌&&◌, ◌||◌}
use mathlib.Core.List.{List, [], ◌∷◌, ◌++◌}
use mathlib.Core.Logic.{⊎_elim}
use mathlib.Core.Path.{◌≡◌, refl, sym, ap, ap₂, ◌∙◌}
use Prim.Native.Nat.{ℕ, zero, suc, ◌+◌, ◌-◌, ◌*◌, ◌≤◌, ◌<◌, max}
use native.Mathlib.Omega.{arith}
use native.Mathlib.Decide.{ℕ_discrete}
use lib.Dec.{leb, eqb}
use lib.ListN.{length}
use borrow.Author.Tests.{eq-eqb, ne_eqb, eqb-true, lt-ltb, le-leb}
use Rattle.laws.specs.Bools.{false≢true, same, and_left, and_right, and_true, and_false, or_true, or_left, or_right}
use Rattle.laws.specs.Ranges.{between, between_from, between_to, between_true}
use Rattle.layout.specs.declared.MemoryRangeWithNode.{MemoryRangeWithNode}
use Rattle.layout.specs.Layout.{entry_at, holds_page, ram_byte, is_ram, ordered, last_end}
use Rattle.layout.proofs.Laws.{ordered_cons, ram_below}
use Rattle.page_list.specs.declared.PageRun.{PageRun}
use Rattle.page_list.specs.Pages.{among, steps_from, strict}
use Rattle.default_change.specs.Pieces.{page_up, piece_in, next_of, wanted}
use Rattle.default_change.specs.Visit.{up_to, pick, pages_in, pieces_from, pieces, wanted_below, in_one_entry, each_in_one}
use Rattle.default_change.proofs.Pieces as pieces

-- ---- the pages of an entry, and of the entries after it

held_from : (e : MemoryRangeWithNode) (q : ℕ) → holds_page e q ≡ true → page_up e.start ≤ q
held_from e q h = let a = between_from e.start e.end (q * 4096) h in omega arith

held_to : (e : MemoryRangeWithNode) (q : ℕ) → holds_page e q ≡ true → q < page_up e.end
held_to e q h = let a = between_to e.start e.end (q * 4096) h in omega arith

held_there : (e : MemoryRangeWithNode) (q : ℕ) → page_up e.start ≤ q → q < page_up e.end → holds_page e q ≡ true
held_there e q h g = between_true e.start e.end (q * 4096) (omega arith) (omega arith)

ram_after : (b x : ℕ) (es : List MemoryRangeWithNode) → ordered b es ≡ true → ram_byte es x ≡ true → b ≤ x
unfolding ram_byte
ram_after b x [] o h = false≢true h
ram_after b x (e ∷ es) o h =
    let a = ordered_cons b e es o in
    ⊎_elim
    (λ (d : between e.start e.end x ≡ true). omega (arith, a.0.after, between_from e.start e.end x d))
    (λ (d : ram_byte es x ≡ true). omega (arith, a.0.after, a.0.held, ram_after e.end x es a.1 d))
    (or_true (between e.start e.end x) (ram_byte es x) h)

ram_entry : (es : List MemoryRangeWithNode) (i q : ℕ) → i < length es → holds_page (entry_at es i) q ≡ true → is_ram es q ≡ true
unfolding ram_byte
ram_entry [] i q h e = absurd (omega arith)
ram_entry (x ∷ es) zero q h e = or_left (holds_page x q) (is_ram es q) e
ram_entry (x ∷ es) (suc i) q h e = or_right (holds_page x q) (is_ram es q) (ram_entry es i q (omega arith) e)

-- ---- the next piece, page by page

-- it starts at the cursor or after it, no page between counts, its pages are pages of one entry that all count, and the next page of that entry
-- doesn't
pub record Found (P : ℕ → Bool) (es : List MemoryRangeWithNode) (at : ℕ) (r : PageRun) : Type 0 where
  pub low : at ≤ r.first
  pub before : (q : ℕ) → at ≤ q → q < r.first → is_ram es q ≡ true → P q ≡ false
  pub entry : ℕ
  pub there : entry < length es
  pub within : (q : ℕ) → r.first ≤ q → q < r.first + r.count → holds_page (entry_at es entry) q ≡ true
  pub holds : (q : ℕ) → r.first ≤ q → q < r.first + r.count → P q ≡ true
  pub full : holds_page (entry_at es entry) (r.first + r.count) ≡ true → P (r.first + r.count) ≡ false

module _ (P : ℕ → Bool) (at : ℕ) where
  module _ (e : MemoryRangeWithNode) where
    abbrev from : ℕ
    from = max (page_up e.start) at

    abbrev long : ℕ
    long = page_up e.end - max (page_up e.start) at

    none_here : (piece_in P e at).count ≡ 0 → (q : ℕ) → at ≤ q → holds_page e q ≡ true → P q ≡ false
    none_here z q h g = pieces.piece_before P from long q (omega (arith, h, held_from e q g)) (omega (arith, held_from e q g, held_to e q g, h, pieces.none_left P from long z))

    piece_here : (es : List MemoryRangeWithNode) (b : ℕ) → ordered b (e ∷ es) ≡ true → ((piece_in P e at).count ≡ 0 → ⊥) → Found P (e ∷ es) at (piece_in P e at)
    unfolding ram_byte
    piece_here es b o some =
        let w : (piece_in P e at).first + (piece_in P e at).count ≤ from + long = pieces.piece_within P from long in
        let s : (piece_in P e at).count ≤ long = pieces.piece_short P from long in
        record {
          low = omega arith;
          before = λ q h g m.
              ⊎_elim
              (λ (d : holds_page e q ≡ true). pieces.piece_before P from long q (omega (arith, h, held_from e q d)) g)
              (λ (d : is_ram es q ≡ true). let x : e.end ≤ q * 4096 = ram_after e.end (q * 4096) es (ordered_cons b e es o).1 d in absurd (some (omega (arith, x, g, w, s))))
              (or_true (holds_page e q) (is_ram es q) m);
          entry = 0;
          there = omega arith;
          within = λ q h g. held_there e q (omega (arith, h)) (omega (arith, h, g, w, s));
          holds = λ q h g. pieces.piece_holds P from long q h g;
          full = λ d. pieces.piece_after_lem P from long (omega (arith, held_to e ((piece_in P e at).first + (piece_in P e at).count) d));
        }

  pub next_none : (es : List MemoryRangeWithNode) → (next_of P es at).count ≡ 0 → (q : ℕ) → at ≤ q → is_ram es q ≡ true → P q ≡ false
  unfolding next_of ram_byte
  next_none [] z q h m = false≢true m
  next_none (e ∷ es) z q h m = go (eqb (piece_in P e at).count 0) refl z (λ y x. next_none es y q h x)
    where
      go : (b : Bool) → eqb (piece_in P e at).count 0 ≡ b → (cond b (next_of P es at) (piece_in P e at)).count ≡ 0
          → ((next_of P es at).count ≡ 0 → is_ram es q ≡ true → P q ≡ false) → P q ≡ false
      go true d y more =
          ⊎_elim
          (λ (x : holds_page e q ≡ true). none_here e (eqb-true (piece_in P e at).count 0 d) q h x)
          (λ (x : is_ram es q ≡ true). more y x)
          (or_true (holds_page e q) (is_ram es q) m)
      go false d y more = false≢true (sym d ∙ eq-eqb (piece_in P e at).count 0 y)

  pub next_some : (es : List MemoryRangeWithNode) (b : ℕ) → ordered b es ≡ true → ((next_of P es at).count ≡ 0 → ⊥) → Found P es at (next_of P es at)
  unfolding next_of ram_byte
  next_some [] b o some = absurd (some refl)
  next_some (e ∷ es) b o some = go (eqb (piece_in P e at).count 0) refl some (next_some es e.end (ordered_cons b e es o).1)
    where
      go : (k : Bool) → eqb (piece_in P e at).count 0 ≡ k → ((cond k (next_of P es at) (piece_in P e at)).count ≡ 0 → ⊥)
          → (((next_of P es at).count ≡ 0 → ⊥) → Found P es at (next_of P es at)) → Found P (e ∷ es) at (cond k (next_of P es at) (piece_in P e at))
      go true d s more =
          let f = more s in
          record {
            low = f.low;
            before = λ q h g m.
                ⊎_elim
                (λ (x : holds_page e q ≡ true). none_here e (eqb-true (piece_in P e at).count 0 d) q h x)
                (λ (x : is_ram es q ≡ true). f.before q h g x)
                (or_true (holds_page e q) (is_ram es q) m);
            entry = suc f.entry;
            there = omega (arith, f.there);
            within = f.within;
            holds = f.holds;
            full = f.full;
          }
      go false d s more = piece_here e es b o s

-- it lies in one entry, whatever the words
one_entry : (P : ℕ → Bool) (at : ℕ) (es : List MemoryRangeWithNode) → ((next_of P es at).count ≡ 0 → ⊥) → in_one_entry es (next_of P es at) ≡ true
unfolding next_of in_one_entry
one_entry P at [] some = absurd (some refl)
one_entry P at (e ∷ es) some = go (eqb (piece_in P e at).count 0) some (one_entry P at es)
  where
    in_this : PageRun → Bool
    in_this r = leb (page_up e.start) r.first && leb (r.first + r.count) (page_up e.end)

    go : (k : Bool) → ((cond k (next_of P es at) (piece_in P e at)).count ≡ 0 → ⊥) → (((next_of P es at).count ≡ 0 → ⊥) → in_one_entry es (next_of P es at) ≡ true)
        → ((leb (page_up e.start) (cond k (next_of P es at) (piece_in P e at)).first && leb ((cond k (next_of P es at) (piece_in P e at)).first + (cond k (next_of P es at) (piece_in P e at)).count) (page_up e.end))
        || in_one_entry es (cond k (next_of P es at) (piece_in P e at))) ≡ true
    go true s more = or_right (in_this (next_of P es at)) (in_one_entry es (next_of P es at)) (more s)
    go false s more =
        let w : (piece_in P e at).first + (piece_in P e at).count ≤ from P at e + long P at e = pieces.piece_within P (from P at e) (long P at e) in
        let x : (piece_in P e at).count ≤ long P at e = pieces.piece_short P (from P at e) (long P at e) in
        or_left (in_this (piece_in P e at)) (in_one_entry es (piece_in P e at))
        (and_true (leb (page_up e.start) (piece_in P e at).first) (leb ((piece_in P e at).first + (piece_in P e at).count) (page_up e.end))
        (le-leb (page_up e.start) (piece_in P e at).first (omega arith)) (le-leb ((piece_in P e at).first + (piece_in P e at).count) (page_up e.end) (omega (arith, s, w, x))))

each_in_one_lem : (P : ℕ → Bool) (es : List MemoryRangeWithNode) (n at : ℕ) → each_in_one es (pieces_from P es n at) ≡ true
unfolding pieces_from each_in_one
each_in_one_lem P es zero at = refl
each_in_one_lem P es (suc n) at = elim (ℕ_discrete (next_of P es at).count 0) [
  | yes z ↦ rw (eq-eqb (next_of P es at).count 0 z) refl
  | no z ↦ rw (ne_eqb (next_of P es at).count 0 z)
      (and_true (in_one_entry es (next_of P es at)) (each_in_one es (pieces_from P es n ((next_of P es at).first + (next_of P es at).count))) (one_entry P at es z) (each_in_one_lem P es n ((next_of P es at).first + (next_of P es at).count)))
]

-- ---- pages picked from a range

module _ (Q : ℕ → Bool) where
  pick_split : (j k a : ℕ) → pick Q (up_to a (j + k)) ≡ pick Q (up_to a j) ++ pick Q (up_to (a + j) k)
  unfolding up_to pick
  pick_split zero k a =
      let e : 0 + k ≡ k = omega arith in
      let d : a ≡ a + 0 = omega arith in
      ap (λ (n : ℕ). pick Q (up_to a n)) e ∙ ap (λ (n : ℕ). pick Q (up_to n k)) d
  pick_split (suc j) k a = ap (λ (n : ℕ). pick Q (up_to a n)) s ∙ go (Q a) (pick_split j k (suc a) ∙ ap (λ (n : ℕ). pick Q (up_to (suc a) j) ++ pick Q (up_to n k)) d)
    where
      s : suc j + k ≡ suc (j + k)
      s = omega arith

      d : suc a + j ≡ a + suc j
      d = omega arith

      go : (b : Bool) → pick Q (up_to (suc a) (j + k)) ≡ pick Q (up_to (suc a) j) ++ pick Q (up_to (a + suc j) k)
          → cond b (a ∷ pick Q (up_to (suc a) (j + k))) (pick Q (up_to (suc a) (j + k))) ≡ cond b (a ∷ pick Q (up_to (suc a) j)) (pick Q (up_to (suc a) j)) ++ pick Q (up_to (a + suc j) k)
      go true m = ap (λ (l : List ℕ). a ∷ l) m
      go false m = m

  pick_none : (k a : ℕ) → ((q : ℕ) → a ≤ q → q < a + k → Q q ≡ false) → pick Q (up_to a k) ≡ []
  unfolding up_to pick
  pick_none zero a h = refl
  pick_none (suc k) a h = rw (h a (omega arith) (omega arith)) (pick_none k (suc a) (λ q x y. h q (omega arith) (omega arith)))

  pick_all : (k a : ℕ) → ((q : ℕ) → a ≤ q → q < a + k → Q q ≡ true) → pick Q (up_to a k) ≡ up_to a k
  unfolding up_to pick
  pick_all zero a h = refl
  pick_all (suc k) a h = rw (h a (omega arith) (omega arith)) (ap (λ (l : List ℕ). a ∷ l) (pick_all k (suc a) (λ q x y. h q (omega arith) (omega arith))))

  -- none before s, then n that all count
  pick_through : (a s n end : ℕ) → a ≤ s → s + n ≤ end → ((q : ℕ) → a ≤ q → q < s → Q q ≡ false) → ((q : ℕ) → s ≤ q → q < s + n → Q q ≡ true)
      → pick Q (up_to a (end - a)) ≡ up_to s n ++ pick Q (up_to (s + n) (end - (s + n)))
  pick_through a s n end low fits before holds =
      let d : end - a ≡ (s - a) + (n + (end - (s + n))) = omega arith in
      let x : a + (s - a) ≡ s = omega arith in
      ap (λ (k : ℕ). pick Q (up_to a k)) d ∙ pick_split (s - a) (n + (end - (s + n))) a
      ∙ ap₂ (λ (l : List ℕ) (k : ℕ). l ++ pick Q (up_to k (n + (end - (s + n))))) (pick_none (s - a) a (λ q h g. before q h (omega arith))) x
      ∙ pick_split n (end - (s + n)) s
      ∙ ap (λ (l : List ℕ). l ++ pick Q (up_to (s + n) (end - (s + n)))) (pick_all n s holds)

  -- they ascend, and a page is among them just where it counts
  steps_pick : (k a p : ℕ) → p < a → steps_from true p (pick Q (up_to a k)) ≡ true
  unfolding up_to pick steps_from
  steps_pick zero a p h = refl
  steps_pick (suc k) a p h = go (Q a) (steps_pick k (suc a) a (omega arith)) (steps_pick k (suc a) p (omega arith))
    where
      go : (b : Bool) → steps_from true a (pick Q (up_to (suc a) k)) ≡ true → steps_from true p (pick Q (up_to (suc a) k)) ≡ true
          → steps_from true p (cond b (a ∷ pick Q (up_to (suc a) k)) (pick Q (up_to (suc a) k))) ≡ true
      go true x y = rw (lt-ltb p a h) x
      go false x y = y

  strict_pick : (k a : ℕ) → strict true (pick Q (up_to a k)) ≡ true
  unfolding up_to pick strict
  strict_pick zero a = refl
  strict_pick (suc k) a = go (Q a) (steps_pick k (suc a) a (omega arith)) (strict_pick k (suc a))
    where
      go : (b : Bool) → steps_from true a (pick Q (up_to (suc a) k)) ≡ true → strict true (pick Q (up_to (suc a) k)) ≡ true
          → strict true (cond b (a ∷ pick Q (up_to (suc a) k)) (pick Q (up_to (suc a) k))) ≡ true
      go true x y = x
      go false x y = y

  among_pick : (k a p : ℕ) → among (pick Q (up_to a k)) p ≡ (between a (a + k) p && Q p)
  unfolding up_to pick among
  among_pick zero a p = sym (ap (λ (b : Bool). b && Q p) (same (between a (a + 0) p) false (λ e. absurd (omega (arith, between_from a (a + 0) p e, between_to a (a + 0) p e))) (λ e. false≢true e)))
  among_pick (suc k) a p = go (Q a) refl (among_pick k (suc a) p)
    where
      past : (a ≡ p → ⊥) → between (suc a) (suc a + k) p ≡ between a (a + suc k) p
      past n =
          same (between (suc a) (suc a + k) p) (between a (a + suc k) p)
          (λ e. let x = between_from (suc a) (suc a + k) p e in let y = between_to (suc a) (suc a + k) p e in between_true a (a + suc k) p (omega arith) (omega arith))
          (λ e. let x = between_from a (a + suc k) p e in let y = between_to a (a + suc k) p e in between_true (suc a) (suc a + k) p (omega (arith, x, n)) (omega arith))

      other : (a ≡ p → ⊥) → among (pick Q (up_to (suc a) k)) p ≡ (between (suc a) (suc a + k) p && Q p) → among (pick Q (up_to (suc a) k)) p ≡ (between a (a + suc k) p && Q p)
      other n m = m ∙ ap (λ (b : Bool). b && Q p) (past n)

      go : (b : Bool) → Q a ≡ b → among (pick Q (up_to (suc a) k)) p ≡ (between (suc a) (suc a + k) p && Q p)
          → among (cond b (a ∷ pick Q (up_to (suc a) k)) (pick Q (up_to (suc a) k))) p ≡ (between a (a + suc k) p && Q p)
      go true e m = elim (ℕ_discrete a p) [
        | yes d ↦
            or_left (eqb p a) (among (pick Q (up_to (suc a) k)) p) (eq-eqb p a (sym d))
            ∙ sym (and_true (between a (a + suc k) p) (Q p) (between_true a (a + suc k) p (omega (arith, d)) (omega (arith, d))) (ap Q (sym d) ∙ e))
        | no d ↦ rw (ne_eqb p a (λ x. d (sym x))) (other d m)
      ]
      go false e m = elim (ℕ_discrete a p) [
        | yes d ↦ m ∙ and_false (between (suc a) (suc a + k) p) (Q p) (ap Q (sym d) ∙ e) ∙ sym (and_false (between a (a + suc k) p) (Q p) (ap Q (sym d) ∙ e))
        | no d ↦ other d m
      ]

-- ---- the pieces together

module _ (P : ℕ → Bool) (es : List MemoryRangeWithNode) (o : ordered 0 es ≡ true) (n : ℕ) (all : last_end es ≤ n * 4096) where
  abbrev Q : ℕ → Bool
  Q q = is_ram es q && P q

  not_wanted : (q : ℕ) → (is_ram es q ≡ true → P q ≡ false) → Q q ≡ false
  not_wanted q h = same (Q q) false (λ e. sym (h (and_left (is_ram es q) (P q) e)) ∙ and_right (is_ram es q) (P q) e) (λ e. false≢true e)

  -- a step: no wanted RAM page is left, or the piece is the next of them and the cursor moves to its end
  pub step_none : (at : ℕ) → (next_of P es at).count ≡ 0 → pick (λ q. is_ram es q && P q) (up_to at (n - at)) ≡ []
  step_none at z = pick_none Q (n - at) at (λ q h g. not_wanted q (λ m. next_none P at es z q h m))

  module _ (at : ℕ) (some : (next_of P es at).count ≡ 0 → ⊥) where
    abbrev r : PageRun
    r = next_of P es at

    found : Found P es at (next_of P es at)
    found = next_some P at es 0 o some

    in_ram : (q : ℕ) → r.first ≤ q → q < r.first + r.count → is_ram es q ≡ true
    in_ram q h g = ram_entry es found.entry q found.there (found.within q h g)

    pub piece_end : r.first + r.count ≤ n
    piece_end =
        let c : ℕ = r.first + r.count - 1 in
        omega (arith, some, all, ram_below es (c * 4096) o (in_ram c (omega (arith, some)) (omega (arith, some))))

    pub piece_moves : at < r.first + r.count
    piece_moves = omega (arith, some, found.low)

    pub step_some : pick (λ q. is_ram es q && P q) (up_to at (n - at)) ≡ up_to r.first r.count ++ pick (λ q. is_ram es q && P q) (up_to (r.first + r.count) (n - (r.first + r.count)))
    step_some =
        pick_through Q at r.first r.count n found.low piece_end
        (λ q h g. not_wanted q (λ m. found.before q h g m))
        (λ q h g. and_true (is_ram es q) (P q) (in_ram q h g) (found.holds q h g))

  visits_from : (f at : ℕ) → n - at ≤ f → pages_in (pieces_from P es f at) ≡ pick (λ q. is_ram es q && P q) (up_to at (n - at))
  unfolding pieces_from pages_in up_to pick
  visits_from zero at h = let e : n - at ≡ 0 = omega arith in sym (ap (λ (k : ℕ). pick (λ q. is_ram es q && P q) (up_to at k)) e)
  visits_from (suc f) at h = elim (ℕ_discrete (next_of P es at).count 0) [
    | yes z ↦ rw (eq-eqb (next_of P es at).count 0 z) (sym (step_none at z))
    | no z ↦
        let c : ℕ = (next_of P es at).first + (next_of P es at).count in
        rw (ne_eqb (next_of P es at).count 0 z)
        (ap (λ (l : List ℕ). up_to (next_of P es at).first (next_of P es at).count ++ l) (visits_from f c (omega (arith, h, piece_moves at z, piece_end at z))) ∙ sym (step_some at z))
  ]

-- ---- each lies in one entry

pub in_entries : (private overlays : List ℕ) (es : List MemoryRangeWithNode) (n : ℕ) → each_in_one es (pieces n private overlays es) ≡ true
in_entries private overlays es n = each_in_one_lem (wanted private overlays) es n 0

-- ---- what they visit

module _ (private overlays : List ℕ) (es : List MemoryRangeWithNode) (o : ordered 0 es ≡ true) where
  module _ (n : ℕ) (all : last_end es ≤ n * 4096) where
    -- every wanted RAM page in order
    pub visits : pages_in (pieces n private overlays es) ≡ wanted_below n private overlays es
    visits =
        let d : n - 0 ≡ n = omega arith in
        visits_from (wanted private overlays) es o n all n 0 (omega arith) ∙ ap (λ (k : ℕ). pick (λ q. is_ram es q && wanted private overlays q) (up_to 0 k)) d

    -- each above the one before it
    pub ascends : strict true (pages_in (pieces n private overlays es)) ≡ true
    ascends = ap (strict true) visits ∙ strict_pick (λ q. is_ram es q && wanted private overlays q) n 0

    -- and no other
    pub visited : (p : ℕ) → among (pages_in (pieces n private overlays es)) p ≡ (is_ram es p && wanted private overlays p)
    visited p =
        ap (λ (l : List ℕ). among l p) visits ∙ among_pick (λ q. is_ram es q && wanted private overlays q) n 0 p
        ∙ same (between 0 (0 + n) p && (is_ram es p && wanted private overlays p)) (is_ram es p && wanted private overlays p)
        (λ e. and_right (between 0 (0 + n) p) (is_ram es p && wanted private overlays p) e)
        (λ e. and_true (between 0 (0 + n) p) (is_ram es p && wanted private overlays p)
        (between_true 0 (0 + n) p (omega arith) (omega (arith, all, ram_below es (p * 4096) o (and_left (is_ram es p) (wanted private overlays p) e)))) e)
