-- The RAM of a chunk, piece by piece: after the first piece of ascending spans come the others. Assumes nothing.
use native.Mathlib.Omega.{arith}
use mathlib.Core.Path.{◌≡◌, refl, sym, ap, ap₂, ◌∙◌}
use mathlib.Core.Bool.{Bool, true, false, cond}
use mathlib.Core.List.{List, [], ◌∷◌}
use Prim.Native.Nat.{ℕ, ◌≤◌, ◌<◌, min, max}
use lib.Dec.{eqb, leb}
use borrow.Author.Tests.{le-leb, leb-false}
use Rattle.layout.specs.declared.MemoryRange.{MemoryRange}
use Rattle.layout.specs.declared.MemoryRangeWithNode.{MemoryRangeWithNode}
use Rattle.layout.specs.Layout.{range, ordered, spans, spans_from}
use Rattle.layout.proofs.Laws.{ordered_cons}
use Rattle.chunks.specs.Chunks.{empty, part, pieces}
use Rattle.registrar_steps.specs.Steps.{more}

-- spans that ascend from x on
unfoldable pub Ascend : ℕ → List MemoryRange → Type 0
Ascend x [] = Unit {0}
Ascend x (r ∷ rs) = (x ≤ r.start) × (r.start < r.end) × Ascend r.end rs

spans_from_ascend : (x s e : ℕ) (es : List MemoryRangeWithNode) → x ≤ s → s < e → ordered e es ≡ true → Ascend x (spans_from s e es)
unfolding Ascend spans_from
spans_from_ascend x s e [] h k o = (h, k, tt)
spans_from_ascend x s e (f ∷ fs) h k o =
    let a = ordered_cons e f fs o in
    go (eqb f.start e) (spans_from_ascend x s f.end fs h (omega (arith, a.0.after, a.0.held)) a.1) (spans_from_ascend e f.start f.end fs a.0.after a.0.held a.1)
  where
    go : (t : Bool) → Ascend x (spans_from s f.end fs) → Ascend e (spans_from f.start f.end fs) → Ascend x (cond t (spans_from s f.end fs) (range s e ∷ spans_from f.start f.end fs))
    go true p q = p
    go false p q = (h, k, q)

pub spans_ascend : (es : List MemoryRangeWithNode) → ordered 0 es ≡ true → Ascend 0 (spans es)
unfolding Ascend spans
spans_ascend [] o = tt
spans_ascend (e ∷ es) o = let a = ordered_cons 0 e es o in spans_from_ascend 0 e.start e.end es (omega arith) a.0.held a.1

-- what is offered is not empty
pub piece_some : (x y : ℕ) (rs : List MemoryRange) (p : MemoryRange) (ps : List MemoryRange) → pieces x y rs ≡ p ∷ ps → empty p ≡ false
unfolding pieces
piece_some x y [] p ps h = let z : ◌≡◌ {A = ℕ} 0 1 = cc in absurd (omega arith)
piece_some x y (r ∷ rs) p ps h = go (empty (part x y r)) refl h (piece_some x y rs p ps)
  where
    go : (t : Bool) → empty (part x y r) ≡ t → cond t (pieces x y rs) (part x y r ∷ pieces x y rs) ≡ p ∷ ps → (pieces x y rs ≡ p ∷ ps → empty p ≡ false) → empty p ≡ false
    go true e q more = more q
    go false e q more = let d : part x y r ≡ p = cc in ap empty (sym d) ∙ e

-- from further on in the gap before ascending spans nothing changes
pieces_later : (x z y m : ℕ) (rs : List MemoryRange) → Ascend m rs → x ≤ m → z ≤ m → pieces x y rs ≡ pieces z y rs
unfolding Ascend pieces
pieces_later x z y m [] a h k = refl
pieces_later x z y m (r ∷ rs) a h k =
    let d : max x r.start ≡ max z r.start = omega (arith, a.0) in
    let q : pieces x y rs ≡ pieces z y rs = pieces_later x z y r.end rs a.2 (omega (arith, a.0, a.1)) (omega (arith, a.0, a.1)) in
    ap₂ (λ (n : ℕ) (l : List MemoryRange). cond (leb (min y r.end) n) l (range n (min y r.end) ∷ l)) d q

-- a piece lies at or after the spans' start
piece_after_lem : (x y m : ℕ) (rs : List MemoryRange) (p : MemoryRange) (ps : List MemoryRange) → Ascend m rs → pieces x y rs ≡ p ∷ ps → m < p.end
unfolding Ascend pieces
piece_after_lem x y m [] p ps a h = let z : ◌≡◌ {A = ℕ} 0 1 = cc in absurd (omega arith)
piece_after_lem x y m (r ∷ rs) p ps a h = go (empty (part x y r)) refl h (piece_after_lem x y r.end rs p ps a.2)
  where
    go : (t : Bool) → empty (part x y r) ≡ t → cond t (pieces x y rs) (part x y r ∷ pieces x y rs) ≡ p ∷ ps → (pieces x y rs ≡ p ∷ ps → r.end < p.end) → m < p.end
    go true e q more = omega (arith, more q, a.0, a.1)
    go false e q more =
        let d : part x y r ≡ p = cc in
        omega (arith, leb-false (part x y r).end (part x y r).start e, ap (λ (t : MemoryRange). t.end) d, a.0)

pub pieces_rest : (x y m : ℕ) (rs : List MemoryRange) (p : MemoryRange) (ps : List MemoryRange) → Ascend m rs → pieces x y rs ≡ p ∷ ps → pieces p.end y rs ≡ ps
unfolding Ascend pieces
pieces_rest x y m [] p ps a h = let z : ◌≡◌ {A = ℕ} 0 1 = cc in absurd (omega arith)
pieces_rest x y m (r ∷ rs) p ps a h = go (empty (part x y r)) refl h (λ q. pieces_rest x y r.end rs p ps a.2 q) (λ q. piece_after_lem x y r.end rs p ps a.2 q)
  where
    gone : r.end ≤ p.end → empty (part p.end y r) ≡ true
    gone l = le-leb (part p.end y r).end (part p.end y r).start (omega arith)

    go : (t : Bool) → empty (part x y r) ≡ t → cond t (pieces x y rs) (part x y r ∷ pieces x y rs) ≡ p ∷ ps
        → (pieces x y rs ≡ p ∷ ps → pieces p.end y rs ≡ ps) → (pieces x y rs ≡ p ∷ ps → r.end < p.end)
        → cond (empty (part p.end y r)) (pieces p.end y rs) (part p.end y r ∷ pieces p.end y rs) ≡ ps
    go true e q more after = rw (gone (omega (arith, after q))) (more q)
    go false e q more after =
        let d : part x y r ≡ p = cc in
        let l : pieces x y rs ≡ ps = cc in
        let b : min y r.end ≡ p.end = ap (λ (t : MemoryRange). t.end) d in
        let s : max x r.start < min y r.end = leb-false (part x y r).end (part x y r).start e in
        rw (le-leb (min y r.end) (max p.end r.start) (omega arith))
        (pieces_later p.end x y r.end rs a.2 (omega arith) (omega arith) ∙ l)
