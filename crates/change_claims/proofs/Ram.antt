-- The pieces of a default change, sought from a cursor on, are the runs of its pages, entry by entry, in every layout in order. Assumes nothing.
use native.Mathlib.Omega.{arith}
use mathlib.Core.Path.{◌≡◌, refl, sym, ap, ap₂, ◌∙◌}
use mathlib.Core.Bool.{Bool, true, false, cond}
use mathlib.Core.List.{List, [], ◌∷◌, ◌++◌}
use Prim.Native.Nat.{ℕ, zero, suc, ◌+◌, ◌-◌, ◌≤◌, ◌<◌, max}
use lib.Dec.{eqb}
use borrow.Author.Tests.{eqb-true, eqb-false, eq-eqb, ne_eqb}
use Rattle.layout.specs.declared.MemoryRangeWithNode.{MemoryRangeWithNode}
use Rattle.layout.specs.Layout.{ordered}
use Rattle.layout.proofs.Laws.{ordered_cons}
use Rattle.mapping.specs.Maps.{Maps}
use Rattle.page_list.specs.declared.PageRun.{PageRun}
use Rattle.page_list.specs.Runs.{run, before, runs_of}
use Rattle.overlay_table.specs.Overlays.{is_overlay}
use Rattle.default_change.specs.Pieces.{span, non, start_of, len_of, page_up, piece_in, next_of}
use Rattle.default_change.specs.Visit.{up_to, pick, pieces_from, pieces}
use Rattle.default_change.proofs.Spans.{span_hit}
use Rattle.default_change.proofs.Pieces.{piece_within, piece_short, piece_before, piece_holds, none_left}
use Rattle.visibility_claims.specs.Ends.{page_end}
use Rattle.change_claims.specs.Whole.{is_protected, ram_runs}
use Rattle.change_claims.proofs.Changes.{none_past, next_ahead}

-- ---- a page before runs that start past its neighbour

apart_run : (p b : ℕ) (rs : List PageRun) → p + 1 < b → before p (before b rs) ≡ run p 1 ∷ before b rs
apart_run p b [] h = rw (ne_eqb b (p + 1) (λ e. omega (arith, h, e)))
apart_run p b (r ∷ rs) h = go (eqb r.first (b + 1))
  where
    go : (y : Bool) → before p (cond y (run b (r.count + 1) ∷ rs) (run b 1 ∷ r ∷ rs)) ≡ run p 1 ∷ cond y (run b (r.count + 1) ∷ rs) (run b 1 ∷ r ∷ rs)
    go true = rw (ne_eqb b (p + 1) (λ e. omega (arith, h, e)))
    go false = rw (ne_eqb b (p + 1) (λ e. omega (arith, h, e)))

module _ (P : ℕ → Bool) where
  -- ---- the runs of k pages from a on

  abbrev runs_from : ℕ → ℕ → List PageRun
  runs_from a k = runs_of (pick P (up_to a k))

  miss : (a k : ℕ) → P a ≡ false → runs_from a (suc k) ≡ runs_from (suc a) k
  unfolding up_to pick
  miss a k e = rw e

  hit : (a k : ℕ) → P a ≡ true → runs_from a (suc k) ≡ before a (runs_from (suc a) k)
  unfolding up_to pick runs_of
  hit a k e = rw e

  apart : (k p b : ℕ) → p + 1 < b → before p (runs_from b k) ≡ run p 1 ∷ runs_from b k
  unfolding up_to pick runs_of
  apart zero p b h = refl
  apart (suc k) p b h = go (P b) (apart k p (suc b) (omega arith))
    where
      go : (y : Bool) → before p (runs_from (suc b) k) ≡ run p 1 ∷ runs_from (suc b) k
          → before p (runs_of (cond y (b ∷ pick P (up_to (suc b) k)) (pick P (up_to (suc b) k)))) ≡ run p 1 ∷ runs_of (cond y (b ∷ pick P (up_to (suc b) k)) (pick P (up_to (suc b) k)))
      go true more = apart_run p b (runs_from (suc b) k) h
      go false more = more

  -- pages that don't count are passed
  passed : (j k a : ℕ) → ((q : ℕ) → a ≤ q → q < a + j → P q ≡ false) → runs_from a (j + k) ≡ runs_from (a + j) k
  passed zero k a h =
      let e : 0 + k ≡ k = omega arith in
      let d : a ≡ a + 0 = omega arith in
      ap (runs_from a) e ∙ ap (λ (n : ℕ). runs_from n k) d
  passed (suc j) k a h =
      let e : suc j + k ≡ suc (j + k) = omega arith in
      let d : suc a + j ≡ a + suc j = omega arith in
      ap (runs_from a) e ∙ miss a (j + k) (h a (omega arith) (omega arith)) ∙ passed j k (suc a) (λ q x y. h q (omega arith) (omega arith)) ∙ ap (λ (n : ℕ). runs_from n k) d

  -- those that count, up to the next that doesn't, are the first run
  stretch : (k a : ℕ) → P a ≡ true → runs_from a (suc k) ≡ run a (suc (span P (suc a) k)) ∷ runs_from (suc a + span P (suc a) k) (k - span P (suc a) k)
  unfolding span up_to pick runs_of
  stretch zero a e = rw e
  stretch (suc k) a e = hit a (suc k) e ∙ go (P (suc a)) refl (stretch k (suc a))
    where
      s : ℕ
      s = span P (suc (suc a)) k

      go : (y : Bool) → P (suc a) ≡ y → (P (suc a) ≡ true → runs_from (suc a) (suc k) ≡ run (suc a) (suc s) ∷ runs_from (suc (suc a) + s) (k - s))
          → before a (runs_from (suc a) (suc k)) ≡ run a (suc (cond y (suc s) 0)) ∷ runs_from (suc a + cond y (suc s) 0) (suc k - cond y (suc s) 0)
      go true f more =
          let x : suc s + 1 ≡ suc (suc s) = omega arith in
          let y : suc (suc a) + s ≡ suc a + suc s = omega arith in
          let z : k - s ≡ suc k - suc s = omega arith in
          let t : suc a ≡ a + 1 = omega arith in
          ap (before a) (more f)
          ∙ ap (λ (b : Bool). cond b (run a (suc s + 1) ∷ runs_from (suc (suc a) + s) (k - s)) (run a 1 ∷ run (suc a) (suc s) ∷ runs_from (suc (suc a) + s) (k - s))) (eq-eqb (suc a) (a + 1) t)
          ∙ ap₂ (λ (n : ℕ) (l : List PageRun). run a n ∷ l) x (ap₂ runs_from y z)
      go false f more =
          let y : suc a ≡ suc a + 0 = omega arith in
          let z : suc k ≡ suc k - 0 = omega arith in
          ap (before a) (miss (suc a) k f) ∙ apart k a (suc (suc a)) (omega arith)
          ∙ ap (λ (l : List PageRun). run a 1 ∷ l) (sym (miss (suc a) k f) ∙ ap₂ runs_from y z)

  all_passed : (k a : ℕ) → ((q : ℕ) → a ≤ q → q < a + k → P q ≡ false) → runs_from a k ≡ []
  unfolding up_to pick runs_of
  all_passed k a h = let e : k ≡ k + 0 = omega arith in ap (runs_from a) e ∙ passed k 0 a h

  -- the first piece, and the runs past it
  first_piece_lem : (a k : ℕ) → (len_of P a k ≡ 0 → ⊥)
      → runs_from a k ≡ run (start_of P a k) (len_of P a k) ∷ runs_from (start_of P a k + len_of P a k) (a + k - (start_of P a k + len_of P a k))
  unfolding span
  first_piece_lem a k some =
      let s : ℕ = span (non P) a k in
      let low : 0 < k - s = room (k - s) some in
      let j : ℕ = k - s - 1 in
      let n : ℕ = span P (suc (a + s)) j in
      let d : k ≡ s + suc j = omega arith in
      let f : k - s ≡ suc j = omega arith in
      let there : P (a + s) ≡ true = piece_holds P a k (a + s) (omega arith) (omega (arith, some)) in
      let len : len_of P a k ≡ suc n = ap (span P (a + s)) f ∙ span_hit P j (a + s) there in
      let x : suc (a + s) + n ≡ start_of P a k + len_of P a k = omega (arith, len) in
      let y : j - n ≡ a + k - (start_of P a k + len_of P a k) = omega (arith, len, low) in
      ap (runs_from a) d ∙ passed s (suc j) a (λ q h g. piece_before P a k q h g) ∙ stretch j (a + s) there
      ∙ ap₂ (λ (m : ℕ) (l : List PageRun). run (a + s) m ∷ l) (sym len) (ap₂ runs_from x y)
    where
      room : (n : ℕ) → (span P (start_of P a k) n ≡ 0 → ⊥) → 0 < n
      room zero h = absurd (h refl)
      room (suc n) h = omega arith

  -- ---- the runs of an entry from a page on, and of entries

  abbrev in_entry : MemoryRangeWithNode → ℕ → List PageRun
  in_entry e at = runs_from (max (page_up e.start) at) (page_up e.end - max (page_up e.start) at)

  none_in : (e : MemoryRangeWithNode) (at c : ℕ) → at ≤ c → (piece_in P e at).count ≡ 0 → in_entry e c ≡ []
  none_in e at c h z =
      let a : ℕ = max (page_up e.start) at in
      let k : ℕ = page_up e.end - a in
      all_passed (page_up e.end - max (page_up e.start) c) (max (page_up e.start) c) (λ q x y. piece_before P a k q (omega (arith, h, x)) (omega (arith, h, x, y, none_left P a k z)))

  -- an entry that has a piece has pages
  reaches : (a end n : ℕ) → (n ≡ 0 → ⊥) → n ≤ end - a → a + (end - a) ≡ end
  reaches a end n h g = omega (arith, h, g)

  some_in : (e : MemoryRangeWithNode) (at : ℕ) → ((piece_in P e at).count ≡ 0 → ⊥) → in_entry e at ≡ piece_in P e at ∷ in_entry e ((piece_in P e at).first + (piece_in P e at).count)
  some_in e at some =
      let a : ℕ = max (page_up e.start) at in
      let k : ℕ = page_up e.end - a in
      let c : ℕ = start_of P a k + len_of P a k in
      let x : c ≡ max (page_up e.start) c = omega arith in
      let y : a + k - c ≡ page_up e.end - max (page_up e.start) c = ap₂ (λ (m n : ℕ). m - n) (reaches a (page_up e.end) (len_of P a k) some (piece_short P a k)) x in
      first_piece_lem a k some ∙ ap (λ (l : List PageRun). piece_in P e at ∷ l) (ap₂ runs_from x y)

  unfoldable runs_after : List MemoryRangeWithNode → ℕ → List PageRun
  runs_after [] at = []
  runs_after (e ∷ es) at = in_entry e at ++ runs_after es at

  -- of entries that start later it is no matter where the cursor stands
  unmoved : (es : List MemoryRangeWithNode) (b at c : ℕ) → ordered b es ≡ true → at ≤ page_up b → c ≤ page_up b → runs_after es at ≡ runs_after es c
  unfolding runs_after
  unmoved [] b at c o h g = refl
  unmoved (e ∷ es) b at c o h g =
      let k = ordered_cons b e es o in
      let after = k.0.after in
      let held = k.0.held in
      let m : max (page_up e.start) at ≡ max (page_up e.start) c = omega arith in
      ap₂ (λ (n : ℕ) (l : List PageRun). runs_from n (page_up e.end - n) ++ l) m (unmoved es e.end at c k.1 (omega arith) (omega arith))

  none_after : (es : List MemoryRangeWithNode) (at : ℕ) → (next_of P es at).count ≡ 0 → runs_after es at ≡ []
  unfolding next_of runs_after
  none_after [] at z = refl
  none_after (e ∷ es) at z = go (eqb (piece_in P e at).count 0) refl z (none_after es at)
    where
      go : (b : Bool) → eqb (piece_in P e at).count 0 ≡ b → (cond b (next_of P es at) (piece_in P e at)).count ≡ 0 → ((next_of P es at).count ≡ 0 → runs_after es at ≡ []) → in_entry e at ++ runs_after es at ≡ []
      go true d y more = ap₂ (λ (l m : List PageRun). l ++ m) (none_in e at at (omega arith) (eqb-true (piece_in P e at).count 0 d)) (more y)
      go false d y more = absurd (eqb-false (piece_in P e at).count 0 d y)

  next_after : (es : List MemoryRangeWithNode) (b at : ℕ) → ordered b es ≡ true → eqb (next_of P es at).count 0 ≡ false
      → runs_after es at ≡ next_of P es at ∷ runs_after es ((next_of P es at).first + (next_of P es at).count)
  unfolding next_of runs_after
  next_after [] b at o some = absurd (eqb-false 0 0 some refl)
  next_after (e ∷ es) b at o some = go (eqb (piece_in P e at).count 0) refl some (next_after es e.end at (ordered_cons b e es o).1) (next_ahead P es at)
    where
      go : (y : Bool) → eqb (piece_in P e at).count 0 ≡ y → eqb (cond y (next_of P es at) (piece_in P e at)).count 0 ≡ false
          → (eqb (next_of P es at).count 0 ≡ false → runs_after es at ≡ next_of P es at ∷ runs_after es ((next_of P es at).first + (next_of P es at).count))
          → (eqb (next_of P es at).count 0 ≡ false → at < (next_of P es at).first + (next_of P es at).count)
          → (let r : PageRun = cond y (next_of P es at) (piece_in P e at) in in_entry e at ++ runs_after es at ≡ r ∷ (in_entry e (r.first + r.count) ++ runs_after es (r.first + r.count)))
      go true d s more ahead =
          let c : ℕ = (next_of P es at).first + (next_of P es at).count in
          let z : (piece_in P e at).count ≡ 0 = eqb-true (piece_in P e at).count 0 d in
          ap₂ (λ (l m : List PageRun). l ++ m) (none_in e at at (omega arith) z) (more s)
          ∙ ap (λ (l : List PageRun). next_of P es at ∷ (l ++ runs_after es c)) (sym (none_in e at c (omega (arith, ahead s)) z))
      go false d s more ahead =
          let a : ℕ = max (page_up e.start) at in
          let n : ℕ = page_up e.end - a in
          let c : ℕ = start_of P a n + len_of P a n in
          let x : len_of P a n ≡ 0 → ⊥ = eqb-false (piece_in P e at).count 0 d in
          let end : a + n ≡ page_up e.end = reaches a (page_up e.end) (len_of P a n) x (piece_short P a n) in
          let high : c ≤ page_up e.end = omega (arith, end, piece_within P a n) in
          let low : at ≤ c = omega arith in
          ap₂ (λ (l m : List PageRun). l ++ m) (some_in e at x) (unmoved es e.end at c (ordered_cons b e es o).1 (omega (arith, low, high)) high)

  pieces_after : (es : List MemoryRangeWithNode) → ordered 0 es ≡ true → (n at : ℕ) → page_end es ≤ at + n → pieces_from P es n at ≡ runs_after es at
  unfolding pieces_from
  pieces_after es o zero at h = sym (none_after es at (none_past P es at (omega arith)))
  pieces_after es o (suc n) at h = go (eqb (next_of P es at).count 0) refl (λ c g. pieces_after es o n c (omega (arith, h, g)))
    where
      go : (y : Bool) → eqb (next_of P es at).count 0 ≡ y → ((c : ℕ) → at < c → pieces_from P es n c ≡ runs_after es c)
          → cond y [] (next_of P es at ∷ pieces_from P es n ((next_of P es at).first + (next_of P es at).count)) ≡ runs_after es at
      go true d more = sym (none_after es at (eqb-true (next_of P es at).count 0 d))
      go false d more = ap (λ (l : List PageRun). next_of P es at ∷ l) (more _ (next_ahead P es at d)) ∙ sym (next_after es 0 at o d)

all_runs : (overlay : ℕ → Bool) (m : Maps) (es : List MemoryRangeWithNode) → runs_after (is_protected m.private overlay) es 0 ≡ ram_runs es overlay m
unfolding runs_after ram_runs
all_runs overlay m [] = refl
all_runs overlay m (e ∷ es) =
    let d : max (page_up e.start) 0 ≡ page_up e.start = omega arith in
    ap₂ (λ (a : ℕ) (l : List PageRun). runs_from (is_protected m.private overlay) a (page_up e.end - a) ++ l) d (all_runs overlay m es)

-- THE LAW: the pieces, of which there are no more than pages up to the last of RAM, are the runs
pub pieces_runs : (es : List MemoryRangeWithNode) → ordered 0 es ≡ true → (overlays : List ℕ) (m : Maps) → pieces (page_end es) m.private overlays es ≡ ram_runs es (is_overlay overlays) m
pieces_runs es o overlays m = pieces_after (is_protected m.private (is_overlay overlays)) es o (page_end es) 0 (omega arith) ∙ all_runs (is_overlay overlays) m es
