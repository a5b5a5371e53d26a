-- Laws of the state block, one for each way that the code goes. Assumes nothing.
use native.Mathlib.Omega.{arith}
use mathlib.Core.Path.{◌≡◌, refl, sym, ap, ap₂, ◌∙◌}
use mathlib.Core.Bool.{Bool, true, cond, ◌&&◌}
use mathlib.Core.List.{List, [], ◌∷◌, ◌++◌}
use Prim.Native.Nat.{ℕ, ◌+◌, ◌*◌, ◌/◌, ◌%◌, ◌^◌, ◌≤◌, ◌<◌, min, max}
use lib.Dec.{eqb, leb, ltb}
use lib.ListN.{length, get_or, drop}
use borrow.Author.Tests.{eqb-true, eq-eqb, leb-true, ltb-true}
use Rattle.abi.specs.Refusals as refusal
use Rattle.abi.specs.RegistrarPlaces as place
use Rattle.abi.specs.Lengths.{page_size, registrar_len, word_bits}
use Rattle.laws.specs.Bools.{and_left, and_right, both_true, or_left}
use Rattle.laws.specs.Ranges.{between, between_from, between_to}
use Rattle.laws.specs.Refusal.{passed, when_passed}
use Rattle.bitmap.specs.Pages.{bit, bit_at}
use Rattle.bitmap.proofs.Map.{already}
use Rattle.layout.specs.Layout.{entries_of, refusal_of, last_end}
use Rattle.chunks.specs.Chunks.{chunk_count, first_chunk, end_chunk, is_power, first_not}
use Rattle.chunks.proofs.Scan.{first_holds, first_all}
use Rattle.registrar_steps.specs.declared.Request.{Request}
use Rattle.registrar_steps.specs.declared.Answer.TheVariants.{Done}
use Rattle.registrar_steps.specs.Steps.{idle, is_idle, ends, passes}
use Rattle.registrar_steps.proofs.Laws.{register_done}
use Rattle.registrar_state.specs.Buffers.{Buffers, outcome, request_of, request_words, with_request, offset_of, granularity_of, entries_in, chunk_state_in, flat_of, lengths_fit, build_refusal, count_in, marked, carried_out, register_plan, is_known}

-- ---- the request's words

-- a state block of its length is its request's words and the rest
pub split_state : (s : List ℕ) → place.after_request ≤ length s → s ≡ request_words (request_of s) ++ drop place.after_request s
split_state [] h = absurd (omega arith)
split_state (x0 ∷ []) h = absurd (omega arith)
split_state (x0 ∷ x1 ∷ []) h = absurd (omega arith)
split_state (x0 ∷ x1 ∷ x2 ∷ []) h = absurd (omega arith)
split_state (x0 ∷ x1 ∷ x2 ∷ x3 ∷ []) h = absurd (omega arith)
split_state (x0 ∷ x1 ∷ x2 ∷ x3 ∷ x4 ∷ []) h = absurd (omega arith)
split_state (x0 ∷ x1 ∷ x2 ∷ x3 ∷ x4 ∷ x5 ∷ []) h = absurd (omega arith)
split_state (x0 ∷ x1 ∷ x2 ∷ x3 ∷ x4 ∷ x5 ∷ x6 ∷ []) h = absurd (omega arith)
split_state (x0 ∷ x1 ∷ x2 ∷ x3 ∷ x4 ∷ x5 ∷ x6 ∷ x7 ∷ []) h = absurd (omega arith)
split_state (x0 ∷ x1 ∷ x2 ∷ x3 ∷ x4 ∷ x5 ∷ x6 ∷ x7 ∷ x8 ∷ s) h = refl

-- ---- a build

-- what a build that is taken was given
pub record BuildFits (w : Buffers) (ram : List ℕ) (o g : ℕ) : Type 0 where
  pub layout : refusal_of ram ≡ 0
  pub room : o + last_end (entries_of ram) < 2 ^ 64
  pub block : length w.state ≡ registrar_len
  pub fine : leb page_size g ≡ true
  pub power : is_power g ≡ true
  pub lengths : lengths_fit g (entries_of ram) w.registered w.failed ≡ true

pub build_fits_lem : (w : Buffers) (ram : List ℕ) (o g : ℕ) → build_refusal w ram o g ≡ 0 → BuildFits w ram o g
unfolding build_refusal
build_fits_lem w ram o g z =
    let a = when_passed (eqb (refusal_of ram) refusal.unfit_layout) 0 _ z in
    let b = passed (eqb (o % page_size) 0) 0 _ a.1 in
    let c = passed (ltb (o + last_end (entries_of ram)) (2 ^ 64)) 0 _ b.1 in
    let d = passed (eqb (refusal_of ram) 0) 1 _ c.1 in
    let e = passed (eqb (length w.state) registrar_len) 3 _ d.1 in
    let f = passed (leb page_size g && is_power g) 8 _ e.1 in
    let p = both_true (leb page_size g) (is_power g) f.0 in
    let l = passed (lengths_fit g (entries_of ram) w.registered w.failed) 3 _ f.1 in
    record { layout = eqb-true _ _ d.0; room = ltb-true (o + last_end (entries_of ram)) (2 ^ 64) c.0; block = eqb-true _ _ e.0; fine = p.0; power = p.1; lengths = l.0 }

-- ---- plans

pub count_in_lem : (s : List ℕ) (n : ℕ) → n ≡ count_in s → length s ≡ registrar_len → n ≡ chunk_count (granularity_of s) (entries_in s)
count_in_lem s n e h = e ∙ ap (λ (b : Bool). cond b (chunk_count (granularity_of s) (entries_in s)) 0) (eq-eqb (length s) registrar_len h)

-- ---- a request that finds its chunks registered

zeros : (a b c d e f g h i : ℕ) → a ≡ 0 → b ≡ 0 → c ≡ 0 → d ≡ 0 → e ≡ 0 → f ≡ 0 → g ≡ 0 → h ≡ 0 → i ≡ 0
    → record { kind = a; count = b; from = c; to = d; start = e; end = f; until = g; alignment = h; ignore = i } ≡ idle
zeros a b c d e f g h i ha hb hc hd he hf hg hh hi = cc

idle_is : (q : Request) → is_idle q ≡ true → q ≡ idle
idle_is q h =
    let a = both_true (eqb q.kind 0) _ h in
    let b = both_true (eqb q.count 0) _ a.1 in
    let c = both_true (eqb q.from 0) _ b.1 in
    let d = both_true (eqb q.to 0) _ c.1 in
    let e = both_true (eqb q.start 0) _ d.1 in
    let f = both_true (eqb q.end 0) _ e.1 in
    let g = both_true (eqb q.until 0) _ f.1 in
    let i = both_true (eqb q.alignment 0) _ g.1 in
    zeros _ _ _ _ _ _ _ _ _ (eqb-true _ _ a.0) (eqb-true _ _ b.0) (eqb-true _ _ c.0) (eqb-true _ _ d.0) (eqb-true _ _ e.0) (eqb-true _ _ f.0) (eqb-true _ _ g.0) (eqb-true _ _ i.0) (eqb-true _ _ i.1)

module _ (w : Buffers) (address len : ℕ) (h : length w.state ≡ registrar_len)
    (k : is_known w.state w.registered (first_chunk (granularity_of w.state) address) (end_chunk (granularity_of w.state) address len) ≡ true) where
  abbrev first : ℕ
  first = first_chunk (granularity_of w.state) address

  abbrev end : ℕ
  end = end_chunk (granularity_of w.state) address len

  abbrev to : ℕ
  to = min end (chunk_count (granularity_of w.state) (entries_in w.state))

  abbrev stop : ℕ
  stop = first_not (passes (chunk_state_in w)) first to

  known_at : (q : ℕ) → first ≤ q → q < end → bit_at word_bits w.registered q ≡ true
  known_at q a b =
      first_holds (bit_at word_bits w.registered) first end q a
      (omega (arith, leb-true end (first_not (bit_at word_bits w.registered) first end) (and_right (is_idle (request_of w.state)) _ k)))

  known_stop : stop ≡ max first to
  known_stop = first_all (passes (chunk_state_in w)) first to (λ q a b. or_left (bit_at word_bits w.registered q) _ (known_at q a (omega arith)))

  known_marks : w.registered ≡ marked first stop w.registered
  known_marks =
      already word_bits (between first stop) true w.registered
      (λ j c l b p.
      let at_word : (j * word_bits + c) / word_bits ≡ j = omega arith in
      let at_bit : (j * word_bits + c) % word_bits ≡ c = omega arith in
      sym (ap₂ (λ (x y : ℕ). bit (get_or w.registered x 0) y) at_word at_bit)
      ∙ known_at (j * word_bits + c) (between_from first stop (j * word_bits + c) p) (omega (arith, known_stop, between_from first stop (j * word_bits + c) p, between_to first stop (j * word_bits + c) p)))

  known_plan : ends first stop (Done 0) ≡ register_plan w address len
  known_plan = register_done (chunk_state_in w) (offset_of w.state) 0 first end to stop refl refl (ends first stop (Done 0)) (omega (arith, known_stop)) refl

  known_state : w.state ≡ with_request idle w.state
  known_state =
      split_state w.state (omega arith)
      ∙ ap (λ (q : Request). with_request q w.state) (idle_is (request_of w.state) (and_left (is_idle (request_of w.state)) _ k))

  -- no word changes
  pub known_kept : record { buffers = w; reply = flat_of (Done 0) } ≡ carried_out w (register_plan w address len)
  known_kept =
      ap₂ (λ (s m : List ℕ). outcome s m w.failed (flat_of (Done 0))) known_state known_marks ∙ ap (carried_out w) known_plan
