-- Laws of the search for a piece, between two pages and over the entries: it is found here, it is further on, there is none. Assumes nothing.
use mathlib.Core.Bool.{Bool, ◌&&◌}
use mathlib.Core.List.{List}
use mathlib.Core.Path.{◌≡◌, refl, sym, ap, ap₂, ◌∙◌}
use Prim.Native.Nat.{ℕ, ◌+◌, ◌-◌, ◌≤◌, ◌<◌, max}
use native.Mathlib.Omega.{arith}
use lib.ListN.{length, drop}
use borrow.Author.Tests.{eq-eqb, ne_eqb}
use Rattle.layout.specs.declared.MemoryRangeWithNode.{MemoryRangeWithNode}
use Rattle.layout.specs.Layout.{entry_at}
use Rattle.layout.proofs.Laws.{next_entry, no_entry}
use Rattle.page_list.specs.declared.PageRun.{PageRun}
use Rattle.page_list.specs.Runs.{run}
use Rattle.default_change.specs.Pieces.{start_of, len_of, piece_of, page_up, piece_in, next_of}
use Rattle.default_change.proofs.Pieces as pieces

-- ---- between two pages: a gap of n pages from s on has none that F does not hold of, and a run is looked for in it
module _ (M F : ℕ → Bool) (a end s n : ℕ) (es : s ≡ start_of F a (end - a)) (en : n ≡ len_of F a (end - a)) (some : a < end) where
  pub gap_fits : s + n ≤ end
  gap_fits = pieces.run_fits F M a end s n es en some

  pub gap_moves : a < s + n
  gap_moves = pieces.run_moves F M a end s n es en some

  module _ (r c : ℕ) (er : r ≡ start_of M s (s + n - s)) (ec : c ≡ len_of M s (s + n - s)) where
    there : r ≡ start_of M s n
    there = pieces.gap_start M s n (s + n) refl r er

    long : c ≡ len_of M s n
    long = pieces.gap_len M s n (s + n) refl c ec

    pub between_hit : (c ≡ 0 → ⊥) → run r c ≡ piece_of (λ q. M q && F q) a end
    between_hit h =
        ap₂ run (pieces.hit_start F M a end s n es en some r c there long h ∙ sym (pieces.swap_start M F a (end - a)))
        (pieces.hit_len F M a end s n es en some r c there long h ∙ sym (pieces.swap_len M F a (end - a)))

    pub between_miss : c ≡ 0 → piece_of (λ q. M q && F q) a end ≡ piece_of (λ q. M q && F q) (s + n) end
    between_miss h =
        ap₂ run (pieces.swap_start M F a (end - a) ∙ pieces.miss_start F M a end s n es en some r c there long h ∙ sym (pieces.swap_start M F (s + n) (end - (s + n))))
        (pieces.swap_len M F a (end - a) ∙ pieces.miss_len F M a end s n es en some r c there long h ∙ sym (pieces.swap_len M F (s + n) (end - (s + n))))

pub between_end : (Q : ℕ → Bool) (a end : ℕ) → end ≤ a → run a 0 ≡ piece_of Q a end
between_end Q a end h = ap₂ run (pieces.past_start Q a end h) (pieces.past_len Q a end h)

-- ---- entry after entry
module _ (P : ℕ → Bool) (es : List MemoryRangeWithNode) (at i : ℕ) where
  module _ (h : i < length es) (e : MemoryRangeWithNode) (is : e ≡ entry_at es i) (u v from : ℕ) (eu : u ≡ page_up e.start) (ef : from ≡ max u at) (ev : v ≡ page_up e.end) (r : PageRun) (er : r ≡ piece_of P from v) where
    here : r ≡ piece_in P (entry_at es i) at
    here = er ∙ ap₂ (λ (x y : ℕ). piece_of P x y) (ef ∙ ap (λ (x : ℕ). max x at) eu) ev ∙ ap (λ (x : MemoryRangeWithNode). piece_in P x at) is

    pub next_hit : (r.count ≡ 0 → ⊥) → r ≡ next_of P (drop i es) at
    unfolding next_of
    next_hit f = rw (next_entry es i h, ne_eqb (piece_in P (entry_at es i) at).count 0 (λ z. f (ap (λ (x : PageRun). x.count) here ∙ z))) here

    pub next_miss : r.count ≡ 0 → next_of P (drop i es) at ≡ next_of P (drop (i + 1) es) at
    unfolding next_of
    next_miss f = rw (next_entry es i h, eq-eqb (piece_in P (entry_at es i) at).count 0 (sym (ap (λ (x : PageRun). x.count) here) ∙ f)) refl

  pub next_end : length es ≤ i → run 0 0 ≡ next_of P (drop i es) at
  unfolding next_of
  next_end h = rw (no_entry es i h) refl

pub piece_low : (P : ℕ → Bool) (a end : ℕ) (r : PageRun) → r ≡ piece_of P a end → (r.count ≡ 0 → ⊥) → r.first + r.count ≤ end
piece_low P a end r e h =
    let f : r.first ≡ start_of P a (end - a) = ap (λ (x : PageRun). x.first) e in
    let g : r.count ≡ len_of P a (end - a) = ap (λ (x : PageRun). x.count) e in
    let w : start_of P a (end - a) + len_of P a (end - a) ≤ a + (end - a) = pieces.piece_within P a (end - a) in
    let k : len_of P a (end - a) ≤ end - a = pieces.piece_short P a (end - a) in
    omega (arith, f, g, w, k, h)
