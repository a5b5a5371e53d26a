-- What a plan asks for in a layout in order: nothing, and then nothing is left of the request, or bytes up to the last end. Assumes nothing.
use native.Mathlib.Omega.{arith}
use native.Mathlib.Decide.{dec_lt}
use mathlib.Core.Path.{◌≡◌, refl, ap}
use mathlib.Core.Bool.{Bool, true, false, not, cond, ◌&&◌}
use mathlib.Core.List.{List, [], ◌∷◌}
use Prim.Native.Nat.{ℕ, zero, suc, ◌+◌, ◌-◌, ◌*◌, ◌/◌, ◌%◌, ◌^◌, ◌≤◌, ◌<◌, min, max}
use native.Mathlib.Nat.{mul-le-mul_right, div-le_self, div-mul-le_self}
use lib.Dec.{eqb, ltb}
use lib.ListN.{length, get_or-eq_default}
use borrow.Author.Tests.{ltb-true, leb-false}
use Rattle.abi.specs.Kinds as kind
use Rattle.abi.specs.Lengths.{word_bits}
use Rattle.bitmap.specs.Pages.{bit_at}
use Rattle.layout.specs.declared.MemoryRange.{MemoryRange}
use Rattle.layout.specs.declared.MemoryRangeWithNode.{MemoryRangeWithNode}
use Rattle.layout.specs.Layout.{range, entry, entry_at, ordered, last_end, spans, spans_from}
use Rattle.layout.proofs.Laws.{entry_known, entries_apart}
use Rattle.chunks.specs.Chunks.{up, chunk_count, empty, part, pieces, first_of, first_not, alike, aligned_part, edge_of}
use Rattle.chunks.proofs.Scan.{first_from, first_to}
use Rattle.registrar_steps.specs.declared.Request.{Request}
use Rattle.registrar_steps.specs.declared.Answer.TheVariants.{Done, RegistrationFailed}
use Rattle.registrar_steps.specs.declared.Look.{Look}
use Rattle.registrar_steps.specs.declared.Look.TheVariants.{Nothing, Edge, FailedBefore, Stretch}
use Rattle.registrar_steps.specs.declared.Plan.{Plan}
use Rattle.registrar_steps.specs.Steps.{ChunkState, idle, asks, ends, ram_from, passes, piece_of, register_from, stretch_in, look_at, found, all_from}
use Rattle.registrar_state.specs.Buffers.{Buffers, request_of, offset_of, entries_in, chunk_state_in, rest_of, has_rest, done_plan}
use Rattle.registrar_claims.proofs.Stretches.{part_end}

-- a request of memory that ends at m
pub record Fits (m : ℕ) (q : Request) : Type 0 where
  pub rests : q.kind ≡ kind.none → q ≡ idle
  pub to_fits : q.to < 2 ^ 64
  pub end_fits : q.end < 2 ^ 64
  pub upward : q.start ≤ q.end
  pub inside : q.end ≤ m

pub idle_fits : (m : ℕ) → Fits m idle
idle_fits m = record { rests = λ z. refl; to_fits = omega arith; end_fits = omega arith; upward = omega arith; inside = omega arith }

pub fits_at : (m n : ℕ) (q : Request) → m ≡ n → Fits m q → Fits n q
fits_at m n q e f = record { rests = f.rests; to_fits = f.to_fits; end_fits = f.end_fits; upward = f.upward; inside = omega (arith, e, f.inside) }

-- ---- the spans of entries in order

unfoldable Low : ℕ → List MemoryRange → Type 0
Low m [] = Unit {0}
Low m (r ∷ rs) = (r.end ≤ m) × Low m rs

unfoldable Below : ℕ → List MemoryRangeWithNode → Type 0
Below m [] = Unit {0}
Below m (e ∷ es) = (e.end ≤ m) × Below m es

below_at : (m : ℕ) (es : List MemoryRangeWithNode) → ((i : ℕ) → i < length es → (entry_at es i).end ≤ m) → Below m es
unfolding Below
below_at m [] h = tt
below_at m (e ∷ es) h = (h zero (omega arith), below_at m es (λ i l. h (suc i) (omega arith)))

last_below : (es : List MemoryRangeWithNode) (i : ℕ) → ordered 0 es ≡ true → i < length es → (entry_at es i).end ≤ last_end es
last_below es i o l = elim (dec_lt i (length es - 1)) [
  | yes d ↦ omega (arith, entries_apart es 0 i (length es - 1) o d (omega arith), (entry_known es 0 (length es - 1) o (omega arith)).held)
  | no d ↦ let e : i ≡ length es - 1 = omega arith in omega (arith, ap (λ (k : ℕ). (entry_at es k).end) e)
]

spans_from_low : (m s e : ℕ) (es : List MemoryRangeWithNode) → e ≤ m → Below m es → Low m (spans_from s e es)
unfolding Low Below spans_from
spans_from_low m s e [] h o = (h, tt)
spans_from_low m s e (f ∷ fs) h o =
    go (eqb f.start e) (spans_from_low m s f.end fs o.0 o.1) (spans_from_low m f.start f.end fs o.0 o.1)
  where
    go : (t : Bool) → Low m (spans_from s f.end fs) → Low m (spans_from f.start f.end fs) → Low m (cond t (spans_from s f.end fs) (range s e ∷ spans_from f.start f.end fs))
    go true p q = p
    go false p q = (h, q)

spans_below : (m : ℕ) (es : List MemoryRangeWithNode) → Below m es → Low m (spans es)
unfolding Low Below spans
spans_below m [] o = tt
spans_below m (e ∷ es) o = spans_from_low m e.start e.end es o.0 o.1

spans_low : (es : List MemoryRangeWithNode) → ordered 0 es ≡ true → Low (last_end es) (spans es)
spans_low es o = spans_below (last_end es) es (below_at (last_end es) es (λ i l. last_below es i o l))

last_low : (es : List MemoryRangeWithNode) → ordered 0 es ≡ true → last_end es ≤ 2 ^ 52
last_low es o = elim (dec_lt (length es - 1) (length es)) [
  | yes d ↦ (entry_known es 0 (length es - 1) o d).low
  | no d ↦ omega (arith, ap (λ (e : MemoryRangeWithNode). e.end) (get_or-eq_default es (entry 0 0 0) {n = length es - 1} (omega arith)))
]

-- a piece ends where its span does at most, and not before it starts
pieces_low : (m x y : ℕ) (rs : List MemoryRange) → Low m rs → ((first_of (pieces x y rs)).start ≤ (first_of (pieces x y rs)).end) × ((first_of (pieces x y rs)).end ≤ m)
unfolding Low pieces
pieces_low m x y [] h = (omega arith, omega arith)
pieces_low m x y (r ∷ rs) h = go (empty (part x y r)) refl (pieces_low m x y rs h.1)
  where
    go : (t : Bool) → empty (part x y r) ≡ t → ((first_of (pieces x y rs)).start ≤ (first_of (pieces x y rs)).end) × ((first_of (pieces x y rs)).end ≤ m)
        → let p : MemoryRange = first_of (cond t (pieces x y rs) (part x y r ∷ pieces x y rs)) in (p.start ≤ p.end) × (p.end ≤ m)
    go true e k = k
    go false e k = (omega (arith, leb-false (part x y r).end (part x y r).start e), omega (arith, h.0))

up_le : (n g : ℕ) → up n g ≤ n + 1
up_le n g = go (eqb (n % g) 0)
  where
    go : (t : Bool) → cond t (n / g) (n / g + 1) ≤ n + 1
    go true = omega (arith, div-le_self n g)
    go false = omega (arith, div-le_self n g)

-- ---- the plans

register_fits : (s : ChunkState) (o n c last : ℕ) → ordered 0 s.entries ≡ true → Fits (last_end s.entries) (register_from s o n c last).request
unfolding register_from
register_fits s o n c last ord =
    let e : ℕ = min last (chunk_count s.granularity s.entries) in
    let t : ℕ = first_not (passes s) c e in
    go t (ltb t e) refl (bit_at word_bits s.failed t)
  where
    go : (t : ℕ) (x : Bool) → ltb t (min last (chunk_count s.granularity s.entries)) ≡ x → (y : Bool)
        → Fits (last_end s.entries) (cond x (cond y (ends c t (RegistrationFailed (t * s.granularity) n)) (asks o c t (piece_of n t (t + 1) last (ram_from s.granularity s.entries t (t * s.granularity))))) (ends c t (Done n))).request
    go t false hx y = idle_fits _
    go t true hx true = idle_fits _
    go t true hx false =
        let p = pieces_low (last_end s.entries) (t * s.granularity) ((t + 1) * s.granularity) (spans s.entries) (spans_low s.entries ord) in
        record {
          rests = λ z. absurd (omega arith);
          to_fits = omega (arith, ltb-true t (min last (chunk_count s.granularity s.entries)) hx, up_le (last_end s.entries) s.granularity, last_low s.entries ord);
          end_fits = omega (arith, p.1, last_low s.entries ord);
          upward = p.0;
          inside = p.1;
        }

-- what is found in a span that ends at m
abbrev Within : ℕ → Look → Type 0
Within m Nothing = Unit {0}
Within m (Edge e) = Unit {0}
Within m (FailedBefore x) = Unit {0}
Within m (Stretch a b x y) = (b ≤ m) × (y ≤ m) × (x ≤ y)

in_within : (g : ℕ) (registered failed : List ℕ) (c e m : ℕ) → e ≤ m → e * g ≤ m → Within m (stretch_in g registered failed c e)
in_within g registered failed c e m h k =
    let a : ℕ = first_not (alike registered failed true) c e in
    let b : ℕ = first_not (alike registered failed false) a e in
    go a (ltb a e) refl (bit_at word_bits failed a) (ltb b e && bit_at word_bits failed b)
  where
    go : (a : ℕ) (x : Bool) → ltb a e ≡ x → (y z : Bool) → let b : ℕ = first_not (alike registered failed false) a e in
        Within m (cond x (cond y (FailedBefore (a * g)) (cond z (FailedBefore (b * g)) (Stretch a b (a * g) (b * g)))) Nothing)
    go a false hx y z = tt
    go a true hx true z = tt
    go a true hx false true = tt
    go a true hx false false =
        let l = first_to (alike registered failed false) a e (omega (arith, ltb-true a e hx)) in
        let f = first_from (alike registered failed false) a e in
        (omega arith, omega (arith, mul-le-mul_right {m = first_not (alike registered failed false) a e} {n = e} g l), mul-le-mul_right {m = a} {n = first_not (alike registered failed false) a e} g f)

look_within : (g : ℕ) (registered failed : List ℕ) (al ignore c : ℕ) (r : MemoryRange) → Within r.end (look_at g registered failed al ignore c r)
unfolding look_at
look_within g registered failed al ignore c r =
    let p : MemoryRange = aligned_part al r in
    go (eqb ignore 0 && not (empty (edge_of al r))) (empty p)
    (in_within g registered failed (max c (p.start / g)) (p.end / g) r.end (omega (arith, div-le_self p.end g, part_end al r)) (omega (arith, div-mul-le_self p.end g, part_end al r)))
  where
    go : (x y : Bool) → Within r.end (stretch_in g registered failed (max c ((aligned_part al r).start / g)) ((aligned_part al r).end / g))
        → Within r.end (cond x (Edge (edge_of al r)) (cond y Nothing (stretch_in g registered failed (max c ((aligned_part al r).start / g)) ((aligned_part al r).end / g))))
    go true y h = tt
    go false true h = tt
    go false false h = h

all_fits : (s : ChunkState) (o n al ignore c m : ℕ) (rs : List MemoryRange) → m ≤ 2 ^ 52 → Low m rs → Fits m (all_from s o n al ignore c rs).request
unfolding all_from Low
all_fits s o n al ignore c m [] l h = idle_fits m
all_fits s o n al ignore c m (r ∷ rs) l h =
    go (look_at s.granularity s.registered s.failed al ignore c r) (look_within s.granularity s.registered s.failed al ignore c r) (all_fits s o n al ignore c m rs l h.1)
  where
    go : (k : Look) → Within r.end k → Fits m (all_from s o n al ignore c rs).request → Fits m (found s.entries o n al ignore r k (all_from s o n al ignore c rs)).request
    go Nothing k f = f
    go (Edge e) k f = idle_fits m
    go (FailedBefore x) k f = idle_fits m
    go (Stretch a b x y) k f =
        record {
          rests = λ z. absurd (omega arith);
          to_fits = omega (arith, h.0, k.0);
          end_fits = omega (arith, h.0, k.1);
          upward = k.2;
          inside = omega (arith, h.0, k.1);
        }

module _ (w : Buffers) (ord : ordered 0 (entries_in w.state) ≡ true) where
  abbrev last : ℕ
  last = last_end (entries_in w.state)

  pub register_asks : (n c end : ℕ) → Fits last (register_from (chunk_state_in w) (offset_of w.state) n c end).request
  register_asks n c end = register_fits (chunk_state_in w) (offset_of w.state) n c end ord

  pub all_asks : (n al ignore c : ℕ) → Fits last (all_from (chunk_state_in w) (offset_of w.state) n al ignore c (spans (entries_in w.state))).request
  all_asks n al ignore c =
      all_fits (chunk_state_in w) (offset_of w.state) n al ignore c last (spans (entries_in w.state)) (last_low (entries_in w.state) ord) (spans_low (entries_in w.state) ord)

  pub done_asks : Fits last (request_of w.state) → Fits last (done_plan w).request
  done_asks f =
      let q : Request = request_of w.state in
      go (has_rest w.state) (eqb q.kind kind.register) _ _ (register_asks q.count q.to q.until) (all_asks q.count q.alignment q.ignore q.to)
    where
      go : (x y : Bool) (a b : Plan) → Fits last a.request → Fits last b.request
          → Fits last (cond x (asks (offset_of w.state) 0 0 (piece_of (request_of w.state).count (request_of w.state).from (request_of w.state).to (request_of w.state).until (rest_of w.state))) (cond y a b)).request
      go true y a b h k =
          let p = pieces_low last (request_of w.state).end (((request_of w.state).from + 1) * (chunk_state_in w).granularity) (spans (entries_in w.state)) (spans_low (entries_in w.state) ord) in
          record {
            rests = λ z. absurd (omega arith);
            to_fits = f.to_fits;
            end_fits = omega (arith, p.1, last_low (entries_in w.state) ord);
            upward = p.0;
            inside = p.1;
          }
      go false true a b h k = h
      go false false a b h k = k
