-- Laws of the layout: how a loop over its entries goes on and ends, what a fit layout is known by, and that its spans hold the same bytes.
-- Assumes nothing.
use Prim.Native.Nat.{ℕ, zero, suc, ◌+◌, ◌-◌, ◌*◌, ◌/◌, ◌%◌, ◌^◌, ◌≤◌, ◌<◌}
use mathlib.Core.Path.{◌≡◌, refl, sym, ap, ◌∙◌}
use mathlib.Core.List.{List, [], ◌∷◌}
use mathlib.Core.Logic.{⊎_elim}
use mathlib.Core.Bool.{Bool, true, false, cond, ◌||◌, ◌&&◌}
use native.Mathlib.Omega.{arith}
use native.Mathlib.Numerals.{add-one}
use native.Mathlib.Decide.{dec_lt}
use lib.Dec.{eqb, leb, ltb, leb-suc-suc}
use lib.ListN.{length, get_or, drop, length-drop, drop_of_length-le, get_or-eq_default}
use lib.Seq.{drop-cons, drop-drop}
use borrow.Author.Tests.{eqb-true, eq-eqb, ne_eqb, lt-ltb, le-ltb, le-leb, lt-leb, ltb-true, ltb-false, leb-true}
use Rattle.laws.specs.Bools.{false≢true, both_true, and_false, or_true, or_assoc}
use Rattle.laws.specs.Ranges.{between}
use Rattle.laws.specs.Refusal.{unless, passed}
use Rattle.layout.specs.declared.MemoryRangeWithNode.{MemoryRangeWithNode}
use Rattle.layout.specs.declared.Span.{Span}
use Rattle.layout.specs.Layout.{entry, entries_of, entry_at, holds_page, ram_byte, is_ram, place_of, follows, ordered, on_bytes, aligned, refusal_of, last_end, map_len, range, spans_from, spans, spans_byte, reach, touching, span_at}

-- ---- the entries of the words

pub entries_count : (ws : List ℕ) → length (entries_of ws) ≡ length ws / 3
unfolding entries_of
entries_count [] = refl
entries_count (s ∷ []) = refl
entries_count (s ∷ e ∷ []) = refl
entries_count (s ∷ e ∷ n ∷ ws) = omega (arith, entries_count ws)

pub entries_at : (ws : List ℕ) (i : ℕ) → i < length ws / 3 → entry_at (entries_of ws) i ≡ entry (get_or ws (3 * i) 0) (get_or ws (3 * i + 1) 0) (get_or ws (3 * i + 2) 0)
unfolding entries_of
entries_at [] i h = absurd (omega arith)
entries_at (s ∷ []) i h = absurd (omega arith)
entries_at (s ∷ e ∷ []) i h = absurd (omega arith)
entries_at (s ∷ e ∷ n ∷ ws) zero h = refl
entries_at (s ∷ e ∷ n ∷ ws) (suc i) h =
    let past : (k j : ℕ) → j ≡ suc (suc (suc k)) → get_or (s ∷ e ∷ n ∷ ws) j 0 ≡ get_or ws k 0 = λ k j q. ap (λ (m : ℕ). get_or (s ∷ e ∷ n ∷ ws) m 0) q in
    cc (entries_at ws i (omega arith), past (3 * i) (3 * suc i) (omega arith), past (3 * i + 1) (3 * suc i + 1) (omega arith), past (3 * i + 2) (3 * suc i + 2) (omega arith))

pub entries_past : (ws : List ℕ) (i : ℕ) → length ws / 3 ≤ i → entry_at (entries_of ws) i ≡ entry 0 0 0
entries_past ws i h = get_or-eq_default (entries_of ws) (entry 0 0 0) (omega (arith, entries_count ws))

-- ---- a loop over entries: it ends here, it goes on, there is none left

module _ (es : List MemoryRangeWithNode) (i : ℕ) where
  pub next_entry : i < length es → drop i es ≡ entry_at es i ∷ drop (i + 1) es
  next_entry h = rw (add-one, drop-cons es i (entry 0 0 0))

  pub no_entry : length es ≤ i → drop i es ≡ []
  no_entry h = drop_of_length-le es h

  module _ (e : MemoryRangeWithNode) (h : i < length es) (q : e ≡ entry_at es i) where
    there : drop i es ≡ e ∷ drop (i + 1) es
    there = next_entry h ∙ ap (λ (x : MemoryRangeWithNode). x ∷ drop (i + 1) es) (sym q)

    pub ordered_hit : (from : ℕ) → follows from e ≡ false → ordered from (drop i es) ≡ false
    unfolding ordered
    ordered_hit from f = rw (there, f)

    pub ordered_miss : (from : ℕ) → follows from e ≡ true → ordered from (drop i es) ≡ ordered e.end (drop (i + 1) es)
    unfolding ordered
    ordered_miss from f = rw (there, f)

    pub aligned_hit : on_bytes e ≡ false → aligned (drop i es) ≡ false
    unfolding aligned
    aligned_hit f = rw (there, f)

    pub aligned_miss : on_bytes e ≡ true → aligned (drop i es) ≡ aligned (drop (i + 1) es)
    unfolding aligned
    aligned_miss f = rw (there, f)

    module _ (p : ℕ) where
      pub place_hit : holds_page e p ≡ true → place_of (drop i es) p ≡ 0
      unfolding place_of
      place_hit f = rw (there, f)

      pub place_miss : holds_page e p ≡ false → place_of (drop i es) p ≡ suc (place_of (drop (i + 1) es) p)
      unfolding place_of
      place_miss f = rw (there, f)

    module _ (end : ℕ) where
      pub reach_hit : (e.start ≡ end → ⊥) → reach end (drop i es) ≡ end
      unfolding reach
      reach_hit f = rw (there, ne_eqb _ _ f)

      pub reach_miss : e.start ≡ end → reach end (drop i es) ≡ reach e.end (drop (i + 1) es)
      unfolding reach
      reach_miss f = rw (there, eq-eqb _ _ f)

      pub touching_hit : (e.start ≡ end → ⊥) → touching end (drop i es) ≡ 0
      unfolding touching
      touching_hit f = rw (there, ne_eqb _ _ f)

      pub touching_miss : e.start ≡ end → touching end (drop i es) ≡ suc (touching e.end (drop (i + 1) es))
      unfolding touching
      touching_miss f = rw (there, eq-eqb _ _ f)

  module _ (h : length es ≤ i) where
    pub ordered_end : (from : ℕ) → ordered from (drop i es) ≡ true
    unfolding ordered
    ordered_end from = rw (no_entry h)

    pub aligned_end : aligned (drop i es) ≡ true
    unfolding aligned
    aligned_end = rw (no_entry h)

    pub place_end : (p : ℕ) → place_of (drop i es) p ≡ 0
    unfolding place_of
    place_end p = rw (no_entry h)

    pub reach_end : (end : ℕ) → reach end (drop i es) ≡ end
    unfolding reach
    reach_end end = rw (no_entry h)

    pub touching_end : (end : ℕ) → touching end (drop i es) ≡ 0
    unfolding touching
    touching_end end = rw (no_entry h)

-- ---- the span at an entry

pub span_past : (es : List MemoryRangeWithNode) (i : ℕ) → length es ≤ i → span_at es i ≡ record { start = 0; end = 0; next = i }
unfolding span_at
span_past es i h = rw (le-ltb _ _ h)

pub span_here : (es : List MemoryRangeWithNode) (i : ℕ) → i < length es
    → span_at es i ≡ record { start = (entry_at es i).start; end = reach (entry_at es i).end (drop (i + 1) es); next = i + 1 + touching (entry_at es i).end (drop (i + 1) es) }
unfolding span_at
span_here es i h = rw (lt-ltb _ _ h)

spans_from_lem : (s e : ℕ) (es : List MemoryRangeWithNode) → spans_from s e es ≡ range s (reach e es) ∷ spans (drop (touching e es) es)
unfolding spans_from spans reach touching
spans_from_lem s e [] = refl
spans_from_lem s e (f ∷ fs) = go (eqb f.start e) (spans_from_lem s f.end fs)
  where
    go : (t : Bool) → spans_from s f.end fs ≡ range s (reach f.end fs) ∷ spans (drop (touching f.end fs) fs)
        → cond t (spans_from s f.end fs) (range s e ∷ spans_from f.start f.end fs)
        ≡ range s (cond t (reach f.end fs) e) ∷ spans (drop (cond t (suc (touching f.end fs)) 0) (f ∷ fs))
    go true h = h
    go false h = refl

-- the spans from an entry on: the one at it, and those from the place after it
pub spans_at : (es : List MemoryRangeWithNode) (i : ℕ) → i < length es
    → spans (drop i es) ≡ range (span_at es i).start (span_at es i).end ∷ spans (drop (span_at es i).next es)
unfolding spans
spans_at es i h =
    let e : MemoryRangeWithNode = entry_at es i in
    rw (next_entry es i h, span_here es i h)
    (spans_from_lem e.start e.end (drop (i + 1) es)
    ∙ ap (λ (l : List MemoryRangeWithNode). range e.start (reach e.end (drop (i + 1) es)) ∷ spans l) (drop-drop (touching e.end (drop (i + 1) es)) (i + 1) es))

pub spans_end : (es : List MemoryRangeWithNode) (i : ℕ) → length es ≤ i → spans (drop i es) ≡ []
unfolding spans
spans_end es i h = rw (no_entry es i h)

touching_le : (e : ℕ) (es : List MemoryRangeWithNode) → touching e es ≤ length es
unfolding touching
touching_le e [] = omega arith
touching_le e (f ∷ fs) = go (eqb f.start e) (touching_le f.end fs)
  where
    go : (t : Bool) → touching f.end fs ≤ length fs → cond t (suc (touching f.end fs)) 0 ≤ suc (length fs)
    go true h = omega arith
    go false h = omega arith

-- the place after a span lies past its entry, and not past the last
pub span_next : (es : List MemoryRangeWithNode) (i : ℕ) → i < length es → (i < (span_at es i).next) × ((span_at es i).next ≤ length es)
span_next es i h =
    rw (span_here es i h)
    (omega arith, omega (arith, touching_le (entry_at es i).end (drop (i + 1) es), length-drop (i + 1) es))

-- what a loop leaves is the span, once nothing touches on
pub span_stop : (es : List MemoryRangeWithNode) (i : ℕ) (first : MemoryRangeWithNode) (end next : ℕ) → i < length es → first ≡ entry_at es i
    → reach end (drop next es) ≡ end → touching end (drop next es) ≡ 0
    → reach end (drop next es) ≡ reach first.end (drop (i + 1) es) → next + touching end (drop next es) ≡ i + 1 + touching first.end (drop (i + 1) es)
    → record { start = first.start; end = end; next = next } ≡ span_at es i
span_stop es i first end next h q r t a b =
    let x : end ≡ reach first.end (drop (i + 1) es) = sym r ∙ a in
    let y : next ≡ i + 1 + touching first.end (drop (i + 1) es) = omega arith in
    let s : Span = record { start = first.start; end = end; next = next } in
    let made : MemoryRangeWithNode → Span = λ e. record { start = e.start; end = reach e.end (drop (i + 1) es); next = i + 1 + touching e.end (drop (i + 1) es) } in
    let z : s ≡ made first = cc in
    z ∙ ap made q ∙ sym (span_here es i h)

-- ---- pages from 2^52 on

pub past_all : (e : MemoryRangeWithNode) (p : ℕ) → e.end < 2 ^ 64 → 2 ^ 52 ≤ p → holds_page e p ≡ false
past_all e p h g = and_false (leb e.start (p * 4096)) (ltb (p * 4096) e.end) (le-ltb (p * 4096) e.end (omega arith))

past_entries : (es : List MemoryRangeWithNode) (p : ℕ) → ((i : ℕ) → i < length es → (entry_at es i).end < 2 ^ 64) → 2 ^ 52 ≤ p → is_ram es p ≡ false
unfolding ram_byte
past_entries [] p h g = refl
past_entries (e ∷ es) p h g = rw (past_all e p (h 0 (omega arith)) g) (past_entries es p (λ i k. h (suc i) (omega arith)) g)

-- no page from 2^52 on is RAM, whatever the words
pub no_ram_past : (ws : List ℕ) (p : ℕ) → ((j : ℕ) → get_or ws j 0 < 2 ^ 64) → 2 ^ 52 ≤ p → is_ram (entries_of ws) p ≡ false
no_ram_past ws p h g =
    past_entries (entries_of ws) p
    (λ i k. let e : (entry_at (entries_of ws) i).end ≡ get_or ws (3 * i + 1) 0 = ap (λ (e : MemoryRangeWithNode). e.end) (entries_at ws i (omega (arith, entries_count ws))) in omega (arith, h (3 * i + 1)))
    g

-- a page has a place just where it is RAM
pub place_ram : (es : List MemoryRangeWithNode) (p : ℕ) → ltb (place_of es p) (length es) ≡ is_ram es p
unfolding place_of ram_byte
place_ram [] p = refl
place_ram (e ∷ es) p = go (holds_page e p) (place_ram es p)
  where
    go : (t : Bool) → ltb (place_of es p) (length es) ≡ is_ram es p → ltb (cond t 0 (suc (place_of es p))) (suc (length es)) ≡ (t || is_ram es p)
    go true h = lt-ltb 0 (suc (length es)) (omega arith)
    go false h = leb-suc-suc (suc (place_of es p)) (length es) ∙ h

place_le : (es : List MemoryRangeWithNode) (p : ℕ) → place_of es p ≤ length es
unfolding place_of
place_le [] p = omega arith
place_le (e ∷ es) p = go (holds_page e p) (place_le es p)
  where
    go : (t : Bool) → place_of es p ≤ length es → cond t 0 (suc (place_of es p)) ≤ suc (length es)
    go true h = omega arith
    go false h = omega arith

place_none : (es : List MemoryRangeWithNode) (p : ℕ) → is_ram es p ≡ false → length es ≡ place_of es p
place_none es p h = let g = place_le es p in let f = ltb-false (place_of es p) (length es) (place_ram es p ∙ h) in omega arith

pub place_past : (ws : List ℕ) (p : ℕ) → ((j : ℕ) → get_or ws j 0 < 2 ^ 64) → 2 ^ 52 ≤ p → length (entries_of ws) ≡ place_of (entries_of ws) p
place_past ws p h g = place_none (entries_of ws) p (no_ram_past ws p h g)

-- ---- a layout that is refused, and one that is fit

module _ (ws : List ℕ) where
  pub refused_ragged : (length ws % 3 ≡ 0 → ⊥) → 1 ≡ refusal_of ws
  unfolding refusal_of
  refused_ragged a = rw (ne_eqb _ _ a)

  module _ (a : length ws % 3 ≡ 0) where
    pub refused_none : length (entries_of ws) ≡ 0 → 1 ≡ refusal_of ws
    unfolding refusal_of
    refused_none b = rw (eq-eqb _ _ a, le-ltb 0 (length (entries_of ws)) (omega arith))

    module _ (b : length (entries_of ws) ≡ 0 → ⊥) where
      pub refused_many : 32 < length (entries_of ws) → 1 ≡ refusal_of ws
      unfolding refusal_of
      refused_many d = rw (eq-eqb _ _ a, lt-ltb 0 (length (entries_of ws)) (omega arith), lt-leb _ _ d)

      pub refused_entries : length (entries_of ws) ≤ 32 → unless (ordered 0 (entries_of ws)) 1 (unless (aligned (entries_of ws)) 2 0) ≡ refusal_of ws
      unfolding refusal_of
      refused_entries d = rw (eq-eqb _ _ a, lt-ltb 0 (length (entries_of ws)) (omega arith), le-leb _ _ d)

-- what is known of a layout that is not refused
pub record Fit (ws : List ℕ) : Type 0 where
  pub divided : length ws % 3 ≡ 0
  pub some : 0 < length (entries_of ws)
  pub few : length (entries_of ws) ≤ 32
  pub in_order : ordered 0 (entries_of ws) ≡ true
  pub on_edges : aligned (entries_of ws) ≡ true

pub fit : (ws : List ℕ) → refusal_of ws ≡ 0 → Fit ws
unfolding refusal_of
fit ws h =
    let a = passed (eqb (length ws % 3) 0) 0 _ h in
    let b = passed (ltb 0 (length (entries_of ws))) 0 _ a.1 in
    let d = passed (leb (length (entries_of ws)) 32) 0 _ b.1 in
    let e = passed (ordered 0 (entries_of ws)) 0 _ d.1 in
    let f = passed (aligned (entries_of ws)) 1 _ e.1 in
    record { divided = eqb-true _ _ a.0; some = ltb-true _ _ b.0; few = leb-true _ _ d.0; in_order = e.0; on_edges = f.0 }

-- an entry that may stand there
pub record Follows (from : ℕ) (e : MemoryRangeWithNode) : Type 0 where
  pub after : from ≤ e.start
  pub held : e.start < e.end
  pub low : e.end ≤ 2 ^ 52
  pub node : e.vnode < 2 ^ 32

pub follows_known : (from : ℕ) (e : MemoryRangeWithNode) → follows from e ≡ true → Follows from e
follows_known from e h =
    let a = both_true (leb from e.start) _ h in
    let b = both_true (ltb e.start e.end) _ a.1 in
    let d = both_true (leb e.end (2 ^ 52)) _ b.1 in
    record { after = leb-true _ _ a.0; held = ltb-true _ _ b.0; low = leb-true _ _ d.0; node = ltb-true _ _ d.1 }

-- the first of entries in order, and the others after it
pub ordered_cons : (from : ℕ) (e : MemoryRangeWithNode) (es : List MemoryRangeWithNode) → ordered from (e ∷ es) ≡ true → Follows from e × (ordered e.end es ≡ true)
unfolding ordered
ordered_cons from e es h = let a = both_true (follows from e) _ h in (follows_known from e a.0, a.1)

-- each entry is not empty, ends at 2^52 at most and has a 32-bit node; it starts where those before it have ended
pub entry_known : (es : List MemoryRangeWithNode) (from i : ℕ) → ordered from es ≡ true → i < length es → Follows from (entry_at es i)
entry_known [] from i h k = absurd (omega arith)
entry_known (e ∷ es) from zero h k = (ordered_cons from e es h).0
entry_known (e ∷ es) from (suc i) h k =
    let a = ordered_cons from e es h in
    let b = entry_known es e.end i a.1 (omega arith) in
    record { after = omega (arith, a.0.after, a.0.held, b.after); held = b.held; low = b.low; node = b.node }

pub entries_apart : (es : List MemoryRangeWithNode) (from i j : ℕ) → ordered from es ≡ true → i < j → j < length es → (entry_at es i).end ≤ (entry_at es j).start
entries_apart [] from i j h k l = absurd (omega arith)
entries_apart (e ∷ es) from i zero h k l = absurd (omega arith)
entries_apart (e ∷ es) from zero (suc j) h k l = (entry_known es e.end j (ordered_cons from e es h).1 (omega arith)).after
entries_apart (e ∷ es) from (suc i) (suc j) h k l = entries_apart es e.end i j (ordered_cons from e es h).1 (omega arith) (omega arith)

-- each start and end is a multiple of 32,768
pub entry_on_bytes : (es : List MemoryRangeWithNode) (i : ℕ) → aligned es ≡ true → i < length es → ((entry_at es i).start % 0x8000 ≡ 0) × ((entry_at es i).end % 0x8000 ≡ 0)
unfolding aligned
entry_on_bytes [] i h k = absurd (omega arith)
entry_on_bytes (e ∷ es) zero h k =
    let a = both_true (on_bytes e) _ h in
    let b = both_true (eqb (e.start % 0x8000) 0) _ a.0 in
    (eqb-true _ _ b.0, eqb-true _ _ b.1)
entry_on_bytes (e ∷ es) (suc i) h k = entry_on_bytes es i (both_true (on_bytes e) _ h).1 (omega arith)

pub ram_cons : (e : MemoryRangeWithNode) (es : List MemoryRangeWithNode) (p : ℕ) → is_ram (e ∷ es) p ≡ (holds_page e p || is_ram es p)
unfolding ram_byte
ram_cons e es p = refl

-- ---- all RAM lies below the last end

unfoldable end_from : ℕ → List MemoryRangeWithNode → ℕ
end_from e [] = e
end_from e (f ∷ fs) = end_from f.end fs

last_from : (e : MemoryRangeWithNode) (es : List MemoryRangeWithNode) → last_end (e ∷ es) ≡ end_from e.end es
unfolding end_from
last_from e [] = refl
last_from e (f ∷ fs) =
    let q : length (e ∷ f ∷ fs) - 1 ≡ suc (length (f ∷ fs) - 1) = omega arith in
    ap (λ (n : ℕ). (entry_at (e ∷ f ∷ fs) n).end) q ∙ last_from f fs

from_end : (e : ℕ) (es : List MemoryRangeWithNode) → ordered e es ≡ true → e ≤ end_from e es
unfolding end_from
from_end e [] h = omega arith
from_end e (f ∷ fs) h = let a = ordered_cons e f fs h in omega (arith, a.0.after, a.0.held, from_end f.end fs a.1)

below_end : (e b : ℕ) (es : List MemoryRangeWithNode) → ordered e es ≡ true → ram_byte es b ≡ true → b < end_from e es
unfolding ram_byte end_from
below_end e b [] h r = false≢true r
below_end e b (f ∷ fs) h r =
    let a = ordered_cons e f fs h in
    ⊎_elim
    (λ w. omega (arith, ltb-true b f.end (both_true (leb f.start b) (ltb b f.end) w).1, from_end f.end fs a.1))
    (λ w. below_end f.end b fs a.1 w)
    (or_true (between f.start f.end b) (ram_byte fs b) r)

pub ram_below : (es : List MemoryRangeWithNode) (b : ℕ) → ordered 0 es ≡ true → ram_byte es b ≡ true → b < last_end es
unfolding ram_byte
ram_below [] b h r = false≢true r
ram_below (e ∷ es) b h r =
    let a = ordered_cons 0 e es h in
    let l = last_from e es in
    ⊎_elim
    (λ w. omega (arith, ltb-true b e.end (both_true (leb e.start b) (ltb b e.end) w).1, from_end e.end es a.1))
    (λ w. omega (arith, below_end e.end b es a.1 w))
    (or_true (between e.start e.end b) (ram_byte es b) r)

-- a RAM page of a fit layout has its place in a page map
pub page_in_map : (ws : List ℕ) (p : ℕ) → Fit ws → is_ram (entries_of ws) p ≡ true → p / 8 < map_len (entries_of ws)
page_in_map ws p f r =
    let es = entries_of ws in
    omega (arith, ram_below es (p * 4096) f.in_order r, (entry_on_bytes es (length es - 1) f.on_edges (omega (arith, f.some))).1)

-- ---- the spans hold the bytes that the entries hold

between_join : (s e f b : ℕ) → s ≤ e → e ≤ f → between s f b ≡ (between s e b || between e f b)
between_join s e f b h k = elim (dec_lt b e) [
  | yes d ↦ rw (lt-ltb b e d, lt-ltb b f (omega arith)) (left (leb s b) (leb e b) (lt-leb e b d))
  | no d ↦ rw (le-ltb b e (omega arith), le-leb s b (omega arith), le-leb e b (omega arith))
]
  where
    left : (x y : Bool) → y ≡ false → (x && true) ≡ ((x && true) || (y && true))
    left true y q = refl
    left false y q = rw q

spans_from_byte : (s e b : ℕ) (es : List MemoryRangeWithNode) → s ≤ e → ordered e es ≡ true → spans_byte (spans_from s e es) b ≡ (between s e b || ram_byte es b)
unfolding spans_from spans_byte ram_byte
spans_from_byte s e b [] h o = refl
spans_from_byte s e b (f ∷ fs) h o =
    let a = ordered_cons e f fs o in
    go a.0 (eqb f.start e) refl (λ k. spans_from_byte s f.end b fs k a.1) (λ k. spans_from_byte f.start f.end b fs k a.1)
  where
    go : Follows e f → (t : Bool) → eqb f.start e ≡ t
        → (s ≤ f.end → spans_byte (spans_from s f.end fs) b ≡ (between s f.end b || ram_byte fs b))
        → (f.start ≤ f.end → spans_byte (spans_from f.start f.end fs) b ≡ (between f.start f.end b || ram_byte fs b))
        → spans_byte (cond t (spans_from s f.end fs) (range s e ∷ spans_from f.start f.end fs)) b
        ≡ (between s e b || (between f.start f.end b || ram_byte fs b))
    go a true q on new =
        let j = eqb-true f.start e q in
        on (omega arith)
        ∙ ap (λ (t : Bool). t || ram_byte fs b) (between_join s f.start f.end b (omega arith) (omega arith))
        ∙ or_assoc (between s f.start b) (between f.start f.end b) (ram_byte fs b)
        ∙ ap (λ (n : ℕ). between s n b || (between f.start f.end b || ram_byte fs b)) j
    go a false q on new = ap (λ (t : Bool). between s e b || t) (new (omega arith))

pub spans_hold : (from b : ℕ) (es : List MemoryRangeWithNode) → ordered from es ≡ true → spans_byte (spans es) b ≡ ram_byte es b
unfolding spans spans_byte ram_byte
spans_hold from b [] o = refl
spans_hold from b (e ∷ es) o = let a = ordered_cons from e es o in spans_from_byte e.start e.end b es (omega (arith, a.0.held)) a.1
