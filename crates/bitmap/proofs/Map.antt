-- The laws of `written`: a page of it, its length, one after another, none, and a store of one word. For every width.
-- Assumes nothing.
use mathlib.Core.Bool.{Bool, true, false, cond, ◌||◌, ◌&&◌}
use mathlib.Core.List.{List, [], ◌∷◌, map}
use Rattle.std.proofs.lemmas.List.{map-set, get_or-map, length-map}
use mathlib.Core.Path.{◌≡◌, refl, sym, ap, ap₂, ◌∙◌, subst}
use Prim.Native.Nat.{ℕ, zero, suc, ◌+◌, ◌-◌, ◌*◌, ◌/◌, ◌%◌, ◌^◌, ◌≤◌, ◌<◌}
use native.Mathlib.Nat.{mod-lt, zero-div, not-suc-le-zero, le_of_suc-le-suc, add-zero, zero-add, add-suc, suc-add, div-add-mod', add_left_cancel, div-eq_of_lt, lt_irrefl, lt_of_lt_of_le}
use native.Mathlib.Omega.{arith}
use native.Mathlib.Decide.{ℕ_discrete, dec_lt}
use lib.Dec.{eqb, ltb}
use lib.Arith.{digits_div, digits_mod}
use lib.ListN.{length, get_or, set, replicate, length-set, length-replicate, get_or-replicate, get_or-eq_default}
use lib.Seq.{ext_get_or, get_or-set_same, get_or-set_other}
use borrow.Author.Tests.{eq-eqb, ne_eqb, lt-ltb, le-ltb}
use Rattle.laws.specs.Bools.{digit}
use Rattle.laws.specs.Ranges.{between, between_true, between_false}
use Rattle.bitmap.specs.Pages.{bit, bit_at, word, written_from, written, one, words}
use Rattle.bitmap.proofs.Bit.{bits_ext, bit_word, word_is, word_high, bit_of_zero, word_lt, full_bit, full_lt}

-- word i of the map, of which x was
pub at : ℕ → (ℕ → Bool) → Bool → ℕ → ℕ → ℕ
at w P s i x = word w (λ k. cond (P (i * w + k)) s (bit x k)) x

module _ (w : ℕ) (P : ℕ → Bool) (s : Bool) where
  length_written_from : (i : ℕ) (m : List ℕ) → length (written_from w P s i m) ≡ length m
  unfolding written_from
  length_written_from i [] = refl
  length_written_from i (x ∷ m) = ap suc (length_written_from (suc i) m)

  get_d_written_from : (i : ℕ) (m : List ℕ) (j : ℕ) → j < length m → get_or (written_from w P s i m) j 0 ≡ at w P s (i + j) (get_or m j 0)
  unfolding written_from at
  get_d_written_from i [] j h = absurd (not-suc-le-zero h)
  get_d_written_from i (x ∷ m) zero h = ap (λ (n : ℕ). at w P s n x) (sym (add-zero i))
  get_d_written_from i (x ∷ m) (suc j) h =
      get_d_written_from (suc i) m j (le_of_suc-le-suc h) ∙ ap (λ (n : ℕ). at w P s n (get_or m j 0)) (suc-add i j ∙ sym (add-suc i j))

  pub length_written : (m : List ℕ) → length (written w P s m) ≡ length m
  length_written m = length_written_from 0 m

  pub get_d_written : (m : List ℕ) (j : ℕ) → j < length m → get_or (written w P s m) j 0 ≡ at w P s j (get_or m j 0)
  get_d_written m j h = get_d_written_from 0 m j h ∙ ap (λ (n : ℕ). at w P s n (get_or m j 0)) (zero-add j)

  -- a list that is so at each word
  pub is_written : (l m : List ℕ) → length l ≡ length m → ((j : ℕ) → j < length m → get_or l j 0 ≡ at w P s j (get_or m j 0)) → l ≡ written w P s m
  is_written l m e h =
      ext_get_or 0 l (written w P s m) (e ∙ sym (length_written m))
      (λ j k. let k' : j < length m = subst (λ (n : ℕ). j < n) e k in h j k' ∙ sym (get_d_written m j k'))

  -- A page of the map that was written: s where P picks it, and else as it was. Past the end a page is false before and after.
  pub page_written : (m : List ℕ) (q : ℕ) → zero < w → q / w < length m → bit_at w (written w P s m) q ≡ cond (P q) s (bit_at w m q)
  unfolding at
  page_written m q pos h =
      ap (λ (x : ℕ). bit x (q % w)) (get_d_written m (q / w) h)
      ∙ bit_word w (λ k. cond (P (q / w * w + k)) s (bit (get_or m (q / w) 0) k)) (get_or m (q / w) 0) (q % w) (mod-lt q pos)
      ∙ ap (λ (n : ℕ). cond (P n) s (bit_at w m q)) (div-add-mod' q w)

  -- where P picks no page that the map has, it is as it was
  pub none : (m : List ℕ) → ((j k : ℕ) → j < length m → k < w → P (j * w + k) ≡ false) → m ≡ written w P s m
  unfolding at
  none m h =
      is_written m m refl
      (λ j l. word_is w (λ k. cond (P (j * w + k)) s (bit (get_or m j 0) k)) (get_or m j 0) (get_or m j 0) refl
      (λ k d. ap (λ (b : Bool). cond b s (bit (get_or m j 0) k)) (sym (h j k l d))))

  -- and so it is where each page that P picks is s already
  pub already : (m : List ℕ) → ((j k : ℕ) → j < length m → k < w → P (j * w + k) ≡ true → bit (get_or m j 0) k ≡ s) → m ≡ written w P s m
  unfolding at
  already m h =
      is_written m m refl
      (λ j l. word_is w (λ k. cond (P (j * w + k)) s (bit (get_or m j 0) k)) (get_or m j 0) (get_or m j 0) refl
      (λ k d. is_so (P (j * w + k)) (bit (get_or m j 0) k) (h j k l d)))
    where
      is_so : (p b : Bool) → (p ≡ true → b ≡ s) → b ≡ cond p s b
      is_so true b e = e refl
      is_so false b e = refl

  -- a store of one word: its bits are those that P says, and P picks no page of another word
  pub stored : (m : List ℕ) (i y : ℕ) → i < length m → y / 2 ^ w ≡ get_or m i 0 / 2 ^ w
      → ((k : ℕ) → k < w → bit y k ≡ cond (P (i * w + k)) s (bit (get_or m i 0) k))
      → ((j k : ℕ) → (j ≡ i → ⊥) → k < w → P (j * w + k) ≡ false) → set m i y ≡ written w P s m
  unfolding at
  stored m i y l e here other = is_written (set m i y) m (length-set m i y) go
    where
      go : (j : ℕ) → j < length m → get_or (set m i y) j 0 ≡ at w P s j (get_or m j 0)
      go j d = elim (ℕ_discrete j i) [
        | yes q ↦ subst (λ (n : ℕ). get_or (set m i y) n 0 ≡ at w P s n (get_or m n 0)) (sym q)
            (get_or-set_same m i y 0 l ∙ word_is w (λ k. cond (P (i * w + k)) s (bit (get_or m i 0) k)) (get_or m i 0) y e here)
        | no q ↦ get_or-set_other m i j y 0 q
            ∙ word_is w (λ k. cond (P (j * w + k)) s (bit (get_or m j 0) k)) (get_or m j 0) (get_or m j 0) refl
            (λ k b. ap (λ (b : Bool). cond b s (bit (get_or m j 0) k)) (sym (other j k q b)))
      ]

pub page_past : (w : ℕ) (m : List ℕ) (q : ℕ) → length m ≤ q / w → bit_at w m q ≡ false
page_past w m q h = ap (λ (x : ℕ). bit x (q % w)) (get_or-eq_default m 0 h) ∙ bit_of_zero (q % w)

-- The law of every page, also past the end: s where P picks it and the map has it, and else as it was.
picked : (p h s b : Bool) → h ≡ true → cond p s b ≡ cond (p && h) s b
picked true h s b e = ap (λ (t : Bool). cond t s b) (sym e)
picked false h s b e = refl

passed : (p h s b : Bool) → h ≡ false → b ≡ cond (p && h) s b
passed true h s b e = ap (λ (t : Bool). cond t s b) (sym e)
passed false h s b e = refl

pub page_law : (w : ℕ) (P : ℕ → Bool) (s : Bool) (m : List ℕ) (q : ℕ) → zero < w
    → bit_at w (written w P s m) q ≡ cond (P q && ltb (q / w) (length m)) s (bit_at w m q)
page_law w P s m q pos = elim (dec_lt (q / w) (length m)) [
  | yes h ↦ page_written w P s m q pos h ∙ picked (P q) (ltb (q / w) (length m)) s (bit_at w m q) (lt-ltb (q / w) (length m) h)
  | no h ↦
      page_past w (written w P s m) q (subst (λ (n : ℕ). n ≤ q / w) (sym (length_written w P s m)) (omega arith))
      ∙ sym (page_past w m q (omega arith)) ∙ passed (P q) (ltb (q / w) (length m)) s (bit_at w m q) (le-ltb (q / w) (length m) (omega arith))
]

-- first the pages of Q, then those of P: those of R, where R picks what either does
twice : (p q s b : Bool) → cond p s (cond q s b) ≡ cond (p || q) s b
twice true q s b = refl
twice false q s b = refl

pub both : (w : ℕ) (P Q R : ℕ → Bool) (s : Bool) (m : List ℕ) → ((q : ℕ) → R q ≡ (P q || Q q)) → written w P s (written w Q s m) ≡ written w R s m
unfolding at
both w P Q R s m h =
    is_written w R s (written w P s (written w Q s m)) m (length_written w P s (written w Q s m) ∙ length_written w Q s m)
    (λ j l.
    let x : ℕ = get_or m j 0 in
    let y : ℕ = at w Q s j x in
    get_d_written w P s (written w Q s m) j (subst (λ (n : ℕ). j < n) (sym (length_written w Q s m)) l)
    ∙ ap (at w P s j) (get_d_written w Q s m j l)
    ∙ word_is w (λ k. cond (R (j * w + k)) s (bit x k)) x (at w P s j y)
    (word_high w (λ k. cond (P (j * w + k)) s (bit y k)) y ∙ word_high w (λ k. cond (Q (j * w + k)) s (bit x k)) x)
    (λ k d.
    bit_word w (λ k. cond (P (j * w + k)) s (bit y k)) y k d
    ∙ ap (cond (P (j * w + k)) s) (bit_word w (λ k. cond (Q (j * w + k)) s (bit x k)) x k d)
    ∙ twice (P (j * w + k)) (Q (j * w + k)) s (bit x k)
    ∙ ap (λ (b : Bool). cond b s (bit x k)) (sym (h (j * w + k)))))

-- only the pages that the map has count
pub alike : (w : ℕ) (P Q : ℕ → Bool) (s : Bool) (m : List ℕ) → ((j k : ℕ) → j < length m → k < w → P (j * w + k) ≡ Q (j * w + k))
    → written w P s m ≡ written w Q s m
unfolding at
alike w P Q s m h =
    is_written w Q s (written w P s m) m (length_written w P s m)
    (λ j l.
    let x : ℕ = get_or m j 0 in
    get_d_written w P s m j l
    ∙ word_is w (λ k. cond (Q (j * w + k)) s (bit x k)) x (at w P s j x) (word_high w (λ k. cond (P (j * w + k)) s (bit x k)) x)
    (λ k d. bit_word w (λ k. cond (P (j * w + k)) s (bit x k)) x k d ∙ ap (λ (b : Bool). cond b s (bit x k)) (h j k l d)))

-- words stay below 2 ^ w
pub written_lt : (w : ℕ) (P : ℕ → Bool) (s : Bool) (m : List ℕ) (j : ℕ) → j < length m → get_or m j 0 < 2 ^ w → get_or (written w P s m) j 0 < 2 ^ w
unfolding at
written_lt w P s m j l h =
    let x : ℕ = get_or m j 0 in
    subst (λ (y : ℕ). y < 2 ^ w) (sym (get_d_written w P s m j l)) (word_lt w (λ k. cond (P (j * w + k)) s (bit x k)) x h)

-- a map with no page set: what is left where every page is cleared, and it stays so where any is
module _ (w : ℕ) (P : ℕ → Bool) where
  pub cleared : (m : List ℕ) → ((j : ℕ) → j < length m → get_or m j 0 < 2 ^ w) → ((j k : ℕ) → j < length m → k < w → P (j * w + k) ≡ true)
      → written w P false m ≡ replicate (length m) 0
  unfolding at
  cleared m small all =
      sym (is_written w P false (replicate (length m) 0) m (length-replicate (length m) 0)
      (λ j l.
      let x : ℕ = get_or m j 0 in
      get_or-replicate (length m) j 0 0 l
      ∙ word_is w (λ k. cond (P (j * w + k)) false (bit x k)) x 0 (zero-div (2 ^ w) ∙ sym (div-eq_of_lt (small j l)))
      (λ k d. bit_of_zero k ∙ ap (λ (b : Bool). cond b false (bit x k)) (sym (all j k l d)))))

  pub still_clear : (n : ℕ) → replicate n 0 ≡ written w P false (replicate n 0)
  unfolding at
  still_clear n =
      is_written w P false (replicate n 0) (replicate n 0) refl
      (λ j l.
      let x : ℕ = get_or (replicate n 0) j 0 in
      let e : x ≡ 0 = get_or-replicate n j 0 0 (subst (λ (k : ℕ). j < k) (length-replicate n 0) l) in
      word_is w (λ k. cond (P (j * w + k)) false (bit x k)) x x refl
      (λ k d. let z : bit x k ≡ false = ap (λ (y : ℕ). bit y k) e ∙ bit_of_zero k in z ∙ sym (stays (P (j * w + k)) (bit x k) z)))
    where
      stays : (p b : Bool) → b ≡ false → cond p false b ≡ false
      stays true b e = refl
      stays false b e = e

-- ---- a word stored whole
pub full_stored : (w : ℕ) (s : Bool) (m : List ℕ) (i : ℕ) → i < length m → get_or m i 0 < 2 ^ w
    → set m i (digit s * (2 ^ w - 1)) ≡ written w (words w i (i + 1)) s m
full_stored w s m i l h =
    stored w (words w i (i + 1)) s m i (digit s * (2 ^ w - 1)) l (div-eq_of_lt (full_lt w s) ∙ sym (div-eq_of_lt h))
    (λ k d. full_bit w s k d
    ∙ ap (λ (b : Bool). cond b s (bit (get_or m i 0) k))
    (sym (ap (between i (i + 1)) (digits_div i d) ∙ between_true i (i + 1) i (omega arith) (omega arith))))
    (λ j k n d. ap (between i (i + 1)) (digits_div j d) ∙ between_false i (i + 1) j (λ a b. n (omega arith)))

-- ---- one page

module _ (w p : ℕ) (pos : zero < w) where
  -- page j * w + k is p just where k is p's bit, and j its word
  same_bit : (k : ℕ) → eqb k (p % w) ≡ eqb (p / w * w + k) p
  same_bit k = elim (ℕ_discrete k (p % w)) [
    | yes q ↦ eq-eqb k (p % w) q ∙ sym (eq-eqb (p / w * w + k) p (ap (λ (n : ℕ). p / w * w + n) q ∙ div-add-mod' p w))
    | no q ↦ ne_eqb k (p % w) q ∙ sym (ne_eqb (p / w * w + k) p (λ e. q (add_left_cancel (p / w * w) (e ∙ sym (div-add-mod' p w)))))
  ]

  other_word : (j k : ℕ) → (j ≡ p / w → ⊥) → k < w → eqb (j * w + k) p ≡ false
  other_word j k n l = ne_eqb (j * w + k) p (λ e. n (sym (digits_div j l) ∙ ap (λ (q : ℕ). q / w) e))

  -- a page past the end
  pub one_past : (s : Bool) (m : List ℕ) → length m ≤ p / w → m ≡ written w (one p) s m
  one_past s m h = none w (one p) s m (λ j k l d. other_word j k (λ e. lt_irrefl j (lt_of_lt_of_le l (subst (λ (n : ℕ). length m ≤ n) (sym e) h))) d)

  module _ (m : List ℕ) (h : p / w < length m) where
    -- what is stored is the word with s for p's bit
    pub one_stored : (s : Bool) (y : ℕ) → y ≡ word w (λ j. cond (eqb j (p % w)) s (bit (get_or m (p / w) 0) j)) (get_or m (p / w) 0) → set m (p / w) y ≡ written w (one p) s m
    one_stored s y e =
        let x : ℕ = get_or m (p / w) 0 in
        let f : ℕ → Bool = λ j. cond (eqb j (p % w)) s (bit x j) in
        ap (set m (p / w)) e
        ∙ stored w (one p) s m (p / w) (word w f x) h (word_high w f x)
        (λ k d. bit_word w f x k d ∙ ap (λ (b : Bool). cond b s (bit x k)) (same_bit k)) (λ j k n d. other_word j k n d)

-- the same of words of any type, each read as a number
module _ {X : Type 0} (f : X → ℕ) (w p b : ℕ) (pos : zero < w) (e : b ≡ w) (s : Bool) (l : List X) where
  word_of : p / b ≡ p / w
  word_of = ap (λ (n : ℕ). p / n) e

  pub place_past : length l ≤ p / b → map f l ≡ written w (one p) s (map f l)
  place_past h = one_past w p pos s (map f l) (omega (arith, word_of, length-map l f))

  pub place_stored : (x y : X) → p / b < length l → x ≡ get_or l (p / b) x → f y ≡ word w (λ k. cond (eqb k (p % w)) s (bit (f x) k)) (f x)
      → map f (set l (p / b) y) ≡ written w (one p) s (map f l)
  place_stored x y h d g =
      let i : p / w < length l = omega (arith, word_of) in
      let read : f x ≡ get_or (map f l) (p / w) 0 = ap f (d ∙ ap (λ (n : ℕ). get_or l n x) word_of) ∙ sym (get_or-map f l (p / w) x 0 i) in
      map-set f l (p / b) y ∙ ap (λ (n : ℕ). set (map f l) n (f y)) word_of
      ∙ one_stored w p pos (map f l) (omega (arith, length-map l f)) s (f y) (g ∙ ap (λ (n : ℕ). word w (λ k. cond (eqb k (p % w)) s (bit n k)) n) read)

-- ---- a map is its pages: two maps of one length, in words below 2 ^ w, whose pages agree
pub map_ext : (w : ℕ) (l m : List ℕ) → zero < w → length l ≡ length m → ((j : ℕ) → get_or l j 0 < 2 ^ w) → ((j : ℕ) → get_or m j 0 < 2 ^ w)
    → ((q : ℕ) → q / w < length m → bit_at w l q ≡ bit_at w m q) → l ≡ m
map_ext w l m pos e bl bm h =
    ext_get_or 0 l m e
    (λ j d.
    bits_ext w (get_or l j 0) (get_or m j 0) (div-eq_of_lt (bl j) ∙ sym (div-eq_of_lt (bm j)))
    (λ k b.
    let at_word = digits_div j b in let at_bit = digits_mod j b in
    sym (ap₂ (λ (x y : ℕ). bit (get_or l x 0) y) at_word at_bit)
    ∙ h (j * w + k) (subst (λ (n : ℕ). n < length m) (sym at_word) (subst (λ (n : ℕ). j < n) e d))
    ∙ ap₂ (λ (x y : ℕ). bit (get_or m x 0) y) at_word at_bit))
