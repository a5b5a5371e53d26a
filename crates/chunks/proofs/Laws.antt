-- Laws of chunks, one for each way that the code goes. Assumes nothing.
use native.Mathlib.Omega.{arith}
use native.Mathlib.Decide.{ℕ_discrete, dec_lt}
use mathlib.Core.Path.{◌≡◌, refl, sym, ap, ◌∙◌}
use mathlib.Core.Bool.{Bool, true, false, not, cond, ◌||◌, ◌&&◌}
use mathlib.Core.List.{List, [], ◌∷◌}
use Prim.Native.Nat.{ℕ, zero, suc, ◌+◌, ◌-◌, ◌*◌, ◌/◌, ◌%◌, ◌^◌, ◌≤◌, ◌<◌, min, max}
use native.Mathlib.Nat.{pow-suc, div-zero, mul-le-mul_right, div-mul-le_self, le-div_iff_mul-le}
use lib.Dec.{eqb, ltb}
use lib.Count.{ones_step}
use lib.ListN.{length, get_or, drop}
use borrow.Author.Tests.{eqb-true, eq-eqb, ne_eqb, le-leb, lt-leb}
use Rattle.std.specs.Int.{is_power_of_two}
use Rattle.std.specs.Int.RustNames.{count_ones}
use Rattle.std.proofs.lemmas.Nat.{zero_from_ones, ones_le_self}
use Rattle.abi.specs.Lengths.{word_bits}
use Rattle.laws.specs.Bools.{digit, and_left, and_right}
use Rattle.laws.specs.Ranges.{between, between_same, between_false, between_join}
use Rattle.bitmap.specs.Pages.{bit, bit_at, written, words}
use Rattle.bitmap.proofs.Bit.{bit_of_zero, full_bit, ones_bit}
use Rattle.bitmap.proofs.Map.{both, none, alike as same_chunks, page_past}
use Rattle.layout.specs.declared.MemoryRange.{MemoryRange}
use Rattle.layout.specs.declared.MemoryRangeWithNode.{MemoryRangeWithNode}
use Rattle.layout.specs.declared.Span.{Span}
use Rattle.layout.specs.Layout.{range, entry, entry_at, spans, span_at}
use Rattle.layout.proofs.Laws.{spans_at, spans_end, next_entry, no_entry, span_next as span_after}
use Rattle.chunks.specs.Chunks.{up, power_from, is_power, pieces, first_of, first_not, Ahead, alike, entry_with}
use Rattle.chunks.proofs.Scan.{first_stop, first_end, first_all}

-- ---- division, rounded down and up

module _ (n g : ℕ) where
  -- the start of a chunk lies within n bytes
  pub below_up : (c : ℕ) → c < up n g → c * g ≤ n
  below_up c h = go (eqb (n % g) 0) h
    where
      go : (t : Bool) → c < cond t (n / g) (n / g + 1) → c * g ≤ n
      go true l = omega (arith, mul-le-mul_right {m = c} {n = n / g} g (omega arith), div-mul-le_self n g)
      go false l = omega (arith, mul-le-mul_right {m = c} {n = n / g} g (omega arith), div-mul-le_self n g)

-- ---- powers of two

-- one power from 2 on is a power of the half of an even number, and none of an odd one
power_even : (m k n : ℕ) → n % 2 ≡ 0 → power_from n (suc k) m ≡ power_from (n / 2) k m
unfolding power_from
power_even zero k n h = refl
power_even (suc m) k n h = rw halves (ap (λ (t : Bool). eqb (n / 2) (2 ^ k) || t) (power_even m (suc k) n h))
  where
    halves : eqb n (2 ^ suc k) ≡ eqb (n / 2) (2 ^ k)
    halves = elim (ℕ_discrete (n / 2) (2 ^ k)) [
      | yes d ↦ eq-eqb n (2 ^ suc k) (omega (arith, pow-suc 2 k)) ∙ sym (eq-eqb (n / 2) (2 ^ k) d)
      | no d ↦ ne_eqb n (2 ^ suc k) (λ e. d (omega (arith, pow-suc 2 k))) ∙ sym (ne_eqb (n / 2) (2 ^ k) d)
    ]

power_odd : (m k n : ℕ) → n % 2 ≡ 1 → power_from n (suc k) m ≡ false
unfolding power_from
power_odd zero k n h = refl
power_odd (suc m) k n h = rw (ne_eqb n (2 ^ suc k) (λ e. absurd (omega (arith, pow-suc 2 k)))) (power_odd m (suc k) n h)

one_bit_of : (m n : ℕ) → n < 2 ^ m → is_power_of_two n ≡ power_from n 0 m
unfolding power_from
one_bit_of zero n h = ne_eqb (count_ones n) 1 (λ q. absurd (omega (arith, ones_le_self n)))
one_bit_of (suc m) n h = elim (ℕ_discrete (n % 2) 0) [
  | yes d ↦
      let c : count_ones n ≡ count_ones (n / 2) = omega (arith, ones_step n) in
      ap (λ (k : ℕ). eqb k 1) c ∙ one_bit_of m (n / 2) (omega (arith, pow-suc 2 m)) ∙ sym (rw (ne_eqb n 1 (λ e. absurd (omega arith))) (power_even m 0 n d))
  | no d ↦ sym (rw (power_odd m 0 n (omega arith)) (alone (omega arith)))
]
  where
    alone : n % 2 ≡ 1 → (eqb n 1 || false) ≡ is_power_of_two n
    alone o = elim (ℕ_discrete n 1) [
      | yes e ↦ rw (eq-eqb n 1 e, eq-eqb (count_ones n) 1 (omega (arith, ones_step n, ones_le_self (n / 2))))
      | no e ↦ rw (ne_eqb n 1 e, ne_eqb (count_ones n) 1 (λ q. absurd (omega (arith, zero_from_ones (n / 2) (omega (arith, ones_step n))))))
    ]

-- a number is a power of two where one bit of it is set
pub one_bit : (n : ℕ) → n < 2 ^ 64 → is_power_of_two n ≡ is_power n
one_bit n h = one_bit_of word_bits n h

-- ---- where a chunk ends

module _ (c g : ℕ) where
  pub chunk_fits : (x : ℕ) → (g ≡ 0 → ⊥) → c < x / g → (c + 1) * g ≤ x
  chunk_fits x p h = (le-div_iff_mul-le {k = g} {x = c + 1} {y = x} (omega arith)).0 (omega arith)

pub chunk_before : (c g x : ℕ) → c < x / g → (c + 1) * g ≤ x
chunk_before c g x h = elim (dec_lt 0 g) [
  | yes d ↦ chunk_fits c g x (λ z. omega arith) h
  | no d ↦ let z : g ≡ 0 = omega arith in absurd (omega (arith, ap (λ (k : ℕ). x / k) z ∙ div-zero x))
]

-- a 64-bit number lies before the chunk's end or before the last 64-bit number alike
pub end_within : (y m e b : ℕ) → m ≡ min y (2 ^ 64 - 1) → e < 2 ^ 64 → b ≡ min m e → b ≡ min y e
end_within y m e b hm he hb = omega arith

-- ---- the RAM of a chunk: a loop over spans

pub span_step : (es : List MemoryRangeWithNode) (i : ℕ) (s : Span) → i < length es → s ≡ span_at es i
    → spans (drop i es) ≡ range s.start s.end ∷ spans (drop s.next es)
span_step es i s h q = spans_at es i h ∙ ap (λ (t : Span). range t.start t.end ∷ spans (drop t.next es)) (sym q)

module _ (es : List MemoryRangeWithNode) (x y i : ℕ) where
  module _ (s : Span) (h : i < length es) (q : s ≡ span_at es i) where
    module _ (a b : ℕ) (e : a ≡ max x s.start) (f : b ≡ min y s.end) where
      pub pieces_hit : a < b → first_of (pieces x y (spans (drop i es))) ≡ range a b
      unfolding pieces
      pieces_hit l = rw (span_step es i s h q, ← e, ← f, lt-leb b a l)

      pub pieces_miss : b ≤ a → pieces x y (spans (drop i es)) ≡ pieces x y (spans (drop s.next es))
      unfolding pieces
      pieces_miss l = rw (span_step es i s h q, ← e, ← f, le-leb b a l)

  pub pieces_past : (rs : List MemoryRange) → y ≤ x → pieces x y rs ≡ []
  unfolding pieces
  pieces_past [] h = refl
  pieces_past (r ∷ rs) h = rw (le-leb (min y r.end) (max x r.start) (omega arith)) (pieces_past rs h)

  pub pieces_end : length es ≤ i → first_of (pieces x y (spans (drop i es))) ≡ range 0 0
  unfolding pieces
  pieces_end h = rw (spans_end es i h)

-- the place after a span is nearer to the end
pub span_less : (es : List MemoryRangeWithNode) (i n : ℕ) (s : Span) → i < n → n ≡ length es → s ≡ span_at es i → n - s.next < n - i
span_less es i n s h e q = omega (arith, (span_after es i (omega arith)).0, ap (λ (t : Span). t.next) q)

-- ---- the entry that has a byte of a range: a loop over entries

module _ (es : List MemoryRangeWithNode) (i : ℕ) (r : MemoryRange) where
  module _ (e : MemoryRangeWithNode) (h : i < length es) (q : e ≡ entry_at es i) where
    entry_next : drop i es ≡ e ∷ drop (i + 1) es
    entry_next = next_entry es i h ∙ ap (λ (x : MemoryRangeWithNode). x ∷ drop (i + 1) es) (sym q)

    pub with_hit : (ltb e.start r.end && ltb r.start e.end) ≡ true → entry_with r (drop i es) ≡ e
    unfolding entry_with
    with_hit t = rw (entry_next, t)

    pub with_miss : (ltb e.start r.end && ltb r.start e.end) ≡ false → entry_with r (drop i es) ≡ entry_with r (drop (i + 1) es)
    unfolding entry_with
    with_miss t = rw (entry_next, t)

  pub with_end : length es ≤ i → entry_with r (drop i es) ≡ entry 0 0 0
  unfolding entry_with
  with_end h = rw (no_entry es i h)

-- ---- chunks that are alike, a whole word or one

module _ (registered failed : List ℕ) (s : Bool) (c e : ℕ) where
  word_ahead : c % word_bits ≡ 0 → word_bits ≤ e - c → get_or failed (c / word_bits) 0 ≡ 0 → get_or registered (c / word_bits) 0 ≡ digit s * (2 ^ 64 - 1)
      → Ahead (alike registered failed s) c e word_bits
  word_ahead m l f r = record { within = omega arith; holds = one_of; stops = λ z. absurd (omega arith) }
    where
      both_bits : (k : ℕ) → k < word_bits → (not (bit (get_or failed (c / word_bits) 0) k) && cond s (bit (get_or registered (c / word_bits) 0) k) (not (bit (get_or registered (c / word_bits) 0) k))) ≡ true
      both_bits k d =
          rw (f, r, bit_of_zero k, full_bit word_bits s k d) (pick s)
        where
          pick : (s : Bool) → cond s s (not s) ≡ true
          pick true = refl
          pick false = refl

      one_of : (q : ℕ) → c ≤ q → q < c + word_bits → alike registered failed s q ≡ true
      one_of q a b =
          let w : q / word_bits ≡ c / word_bits = omega arith in
          rw w (both_bits (q % word_bits) (omega arith))

  pub alike_word : c % word_bits ≡ 0 → word_bits ≤ e - c → (eqb (get_or failed (c / word_bits) 0) 0 && eqb (get_or registered (c / word_bits) 0) (digit s * (2 ^ 64 - 1))) ≡ true
      → Ahead (alike registered failed s) c e word_bits
  alike_word m l t =
      let f : Bool = eqb (get_or failed (c / word_bits) 0) 0 in
      let r : Bool = eqb (get_or registered (c / word_bits) 0) (digit s * (2 ^ 64 - 1)) in
      word_ahead m l (eqb-true _ _ (and_left f r t)) (eqb-true _ _ (and_right f r t))

-- past the end of both bitmaps
pub run_past : (registered failed : List ℕ) (s : Bool) (c e n stop : ℕ) → n ≡ max (length registered) (length failed) → stop ≡ min e (n * word_bits) → stop ≤ c → first_not (alike registered failed s) c e ≡ cond s c (max c e)
run_past registered failed s c e n stop f g h = elim (dec_lt c e) [ yes d ↦ inside s d | no d ↦ first_end (alike registered failed s) c e (omega arith) ∙ after s (omega arith) ]
  where
    inside : (s : Bool) → c < e → first_not (alike registered failed s) c e ≡ cond s c (max c e)
    inside true d = first_stop (alike registered failed true) c e d (rw (page_past word_bits failed c (omega arith), page_past word_bits registered c (omega arith)))
    inside false d = first_all (alike registered failed false) c e (λ q a b. rw (page_past word_bits failed q (omega arith), page_past word_bits registered q (omega arith)))

    after : (s : Bool) → e ≤ c → c ≡ cond s c (max c e)
    after true d = refl
    after false d = omega arith

pub set_word : (m : List ℕ) (c e : ℕ) → c % word_bits ≡ 0 → word_bits ≤ e - c → get_or m (c / word_bits) 0 ≡ 2 ^ 64 - 1 → Ahead (bit_at word_bits m) c e word_bits
set_word m c e h l r = record { within = omega arith; holds = one_of; stops = λ z. absurd (omega arith) }
  where
    one_of : (q : ℕ) → c ≤ q → q < c + word_bits → bit_at word_bits m q ≡ true
    one_of q a b =
        let w : q / word_bits ≡ c / word_bits = omega arith in
        rw (w, r) (ones_bit word_bits (q % word_bits) (omega arith))

-- ---- a run of chunks set, a whole word or one after the other

module _ (m : List ℕ) where
  pub word_past : (i : ℕ) → length m ≤ i → m ≡ written word_bits (words word_bits i (i + 1)) true m
  word_past i h = none word_bits (words word_bits i (i + 1)) true m (λ j k l d. between_false i (i + 1) ((j * word_bits + k) / word_bits) (λ x y. omega arith))

  pub set_more : (a b c : ℕ) (l l' : List ℕ) → a ≤ b → b ≤ c → l ≡ written word_bits (between a b) true m → l' ≡ written word_bits (between b c) true l → l' ≡ written word_bits (between a c) true m
  set_more a b c l l' h k e f =
      f ∙ ap (written word_bits (between b c) true) e ∙ both word_bits (between b c) (between a b) (between a c) true m (λ q. between_join a b c q h k)

-- a map has no chunk past its last word
pub set_stop : (m : List ℕ) (from to stop : ℕ) → stop ≡ min to (length m * word_bits) → written word_bits (between from stop) true m ≡ written word_bits (between from to) true m
set_stop m from to stop e =
    same_chunks word_bits (between from stop) (between from to) true m
    (λ j k l d. between_same from stop (j * word_bits + k) from to (j * word_bits + k) (λ x y. (x, omega arith)) (λ x y. (x, omega arith)))
