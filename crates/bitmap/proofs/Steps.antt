-- The turns of the two loops: a run of pages one page after the other, and a run of words one word after the other. For every width.
-- Assumes nothing.
use mathlib.Core.Bool.{Bool}
use mathlib.Core.List.{List, []}
use mathlib.Core.Path.{◌≡◌, refl, sym, ap, ap₂, ◌∙◌, subst}
use Prim.Native.Nat.{ℕ, zero, suc, ◌+◌, ◌-◌, ◌*◌, ◌/◌, ◌^◌, ◌≤◌, ◌<◌, min, max}
use native.Mathlib.Omega.{arith}
use lib.Arith.{digits_div}
use lib.ListN.{length, get_or, set, replicate, take, drop, length-take, length-drop, length-replicate}
use lib.Seq.{paste}
use native.Mathlib.Numerals.{add-one}
use borrow.Rule.Slice.PartMut.{put_mid}
use Rattle.std.proofs.lemmas.Slice.{put_mid-paste}
use Rattle.std.proofs.lemmas.List.Edits.{paste_none, fill_from_more}
use Rattle.laws.specs.Bools.{or_swap}
use Rattle.laws.specs.Bools.{digit}
use Rattle.laws.specs.Ranges.{between, between_false, between_same, between_join}
use Rattle.bitmap.specs.Pages.{written, one, words, filled, edges}
use Rattle.bitmap.proofs.Map.{none, both, alike, length_written, full_stored, written_lt}
use Rattle.bitmap.proofs.Runs.{between_more, filled_and_edges, filled_bytes, edges_short, edges_none, edges_ends}

module _ (w : ℕ) (s : Bool) (m : List ℕ) where
  -- none, one more, and the end, which is past `to` only where `from` is
  pub run_none : (a : ℕ) → m ≡ written w (between a a) s m
  run_none a = none w (between a a) s m (λ j k l d. between_false a a (j * w + k) (λ u v. omega arith))

  pub run_step : (a p : ℕ) (l l' : List ℕ) → a ≤ p → l ≡ written w (between a p) s m → l' ≡ written w (one p) s l → l' ≡ written w (between a (p + 1)) s m
  run_step a p l l' h e f = f ∙ ap (written w (one p) s) e ∙ both w (one p) (between a p) (between a (p + 1)) s m (λ q. between_more a p q h)

  -- the same, by how many there are
  pub run_next : (a k : ℕ) (l l' : List ℕ) → l ≡ written w (between a (a + k)) s m → l' ≡ written w (one (a + k)) s l → l' ≡ written w (between a (a + (k + 1))) s m
  run_next a k l l' e f =
      let next : a + k + 1 ≡ a + (k + 1) = omega arith in
      run_step a (a + k) l l' (omega arith) e f ∙ ap (λ (p : ℕ). written w (between a p) s m) next

  pub run_one : (p : ℕ) (l : List ℕ) → l ≡ written w (one p) s m → l ≡ written w (between p (p + 1)) s m
  run_one p l e = run_step p p m l (omega arith) (run_none p) e

  pub run_end_lem : (a b p : ℕ) → b ≤ p → p ≤ max a b → written w (between a p) s m ≡ written w (between a b) s m
  run_end_lem a b p h u =
      alike w (between a p) (between a b) s m
      (λ j k l d. between_same a p (j * w + k) a b (j * w + k) (λ x y. (x, omega arith)) (λ x y. (x, omega arith)))

  pub words_none : (a : ℕ) → m ≡ written w (words w a a) s m
  words_none a = none w (words w a a) s m (λ j k l d. between_false a a ((j * w + k) / w) (λ u v. omega arith))

  pub words_step : (a i : ℕ) (l : List ℕ) → a ≤ i → i < length m → get_or m i 0 < 2 ^ w → l ≡ written w (words w a i) s m
      → set l i (digit s * (2 ^ w - 1)) ≡ written w (words w a (i + 1)) s m
  words_step a i l h d u e =
      let P = words w a i in
      ap (λ (t : List ℕ). set t i (digit s * (2 ^ w - 1))) e
      ∙ full_stored w s (written w P s m) i (subst (λ (n : ℕ). i < n) (sym (length_written w P s m)) d) (written_lt w P s m i d u)
      ∙ both w (words w i (i + 1)) P (words w a (i + 1)) s m (λ q. between_join a i (i + 1) (q / w) h (omega arith))

  -- as many words stored whole
  pub words_filled : (a k : ℕ) → a + k ≤ length m → ((j : ℕ) → get_or m j 0 < 2 ^ w)
      → paste m a (replicate k (digit s * (2 ^ w - 1))) k ≡ written w (words w a (a + k)) s m
  words_filled a zero h u = let e : a ≡ a + 0 = omega arith in sym (paste_none m a []) ∙ words_none a ∙ ap (λ (p : ℕ). written w (words w a p) s m) e
  words_filled a (suc k) h u =
      let v : ℕ = digit s * (2 ^ w - 1) in
      let e : a + k + 1 ≡ a + suc k = omega arith in
      ap (λ (n : ℕ). paste m a (replicate n v) n) (sym (add-one k)) ∙ sym (fill_from_more m a k v (omega arith))
      ∙ words_step a (a + k) (paste m a (replicate k v) k) (omega arith) (omega arith) (u (a + k)) (words_filled a k (omega arith) u)
      ∙ ap (λ (p : ℕ). written w (words w a p) s m) e

  -- the words from a to before b, as many as the map has
  pub words_stored : (a b from to v : ℕ) (ys : List ℕ) → to ≡ min b (length m) → from ≡ min a to → ((j : ℕ) → get_or m j 0 < 2 ^ w) → v ≡ digit s * (2 ^ w - 1)
      → ys ≡ replicate (length (take (to - from) (drop from m))) v → put_mid from (to - from) m ys ≡ written w (words w a b) s m
  words_stored a b from to v ys e f u g h =
      let n : ℕ = to - from in
      let len : length (take n (drop from m)) ≡ n = omega (arith, length-take n (drop from m), length-drop from m) in
      put_mid-paste from n m ys (replicate n (digit s * (2 ^ w - 1))) n (h ∙ ap₂ (λ (k x : ℕ). replicate k x) len g) refl (sym (length-replicate n (digit s * (2 ^ w - 1))))
      ∙ words_filled from n (omega arith) u
      ∙ alike w (words w from (from + n)) (words w a b) s m
      (λ j k l d.
      let i = digits_div j d in
      between_same from (from + n) ((j * w + k) / w) a b ((j * w + k) / w) (λ x y. (omega arith, omega arith)) (λ x y. (omega arith, omega arith)))

-- ---- a run as its edges and the words that it fills: either order gives the same map

module _ (w a b : ℕ) (s : Bool) (m : List ℕ) (pos : zero < w) where
  pub edges_then_filled : written w (filled w a b) s (written w (edges w a b) s m) ≡ written w (between a b) s m
  edges_then_filled = both w (filled w a b) (edges w a b) (between a b) s m (λ q. filled_and_edges w a b q pos)

  pub filled_then_edges : written w (edges w a b) s (written w (filled w a b) s m) ≡ written w (between a b) s m
  filled_then_edges =
      both w (edges w a b) (filled w a b) (between a b) s m (λ q. filled_and_edges w a b q pos ∙ or_swap (filled w a b q) (edges w a b q))

  pub either_order : written w (filled w a b) s (written w (edges w a b) s m) ≡ written w (edges w a b) s (written w (filled w a b) s m)
  either_order = edges_then_filled ∙ sym filled_then_edges

-- ---- in words of 8: what the code calls
module _ (s : Bool) (m : List ℕ) where
  pub filled_written : (a b : ℕ) → written 8 (words 8 ((a + 7) / 8) (b / 8)) s m ≡ written 8 (filled 8 a b) s m
  filled_written a b = alike 8 (words 8 ((a + 7) / 8) (b / 8)) (filled 8 a b) s m (λ j k l d. filled_bytes a b (j * 8 + k))

  -- in one byte: nothing where the run fills it, else its pages
  pub edge_none : (a l : ℕ) → a ≤ l → a / 8 ≡ l / 8 → l - a + 1 ≡ 8 → m ≡ written 8 (edges 8 a (l + 1)) s m
  edge_none a l o e h = none 8 (edges 8 a (l + 1)) s m (λ j k b d. edges_none a (l + 1) (j * 8 + k) (omega arith) (omega arith))

  pub edge_all : (a l : ℕ) → a ≤ l → l - a < 7 → written 8 (between a (l + 1)) s m ≡ written 8 (edges 8 a (l + 1)) s m
  edge_all a l o h = alike 8 (between a (l + 1)) (edges 8 a (l + 1)) s m (λ j k b d. edges_short a l (j * 8 + k) o h)

  pub edges_written : (a l : ℕ) → a / 8 < l / 8
      → written 8 (edges 8 (l / 8 * 8) (l + 1)) s (written 8 (edges 8 a (a / 8 * 8 + 7 + 1)) s m) ≡ written 8 (edges 8 a (l + 1)) s m
  edges_written a l h = both 8 (edges 8 (l / 8 * 8) (l + 1)) (edges 8 a (a / 8 * 8 + 7 + 1)) (edges 8 a (l + 1)) s m (λ q. edges_ends a l q h)
