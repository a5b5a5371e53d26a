-- Laws of the steps, one for each way that the code goes. Assumes nothing.
use Rattle.std.proofs.Common.{◌≡◌, ℕ, ◌+◌, ◌-◌, ◌*◌, ◌/◌, ◌^◌, ◌<◌, ◌≤◌, min, Bool, true, false, cond, not, ◌&&◌, ◌||◌, ltb, List, length, get_or, drop, sym, refl, ap, ◌∙◌, ap₂, mul-le-mul_right, arith, le-ltb, lt-ltb}
use native.Mathlib.Decide.{dec_lt}
use Rattle.abi.specs.Lengths.{word_bits}
use Rattle.laws.specs.Bools.{false≢true}
use Rattle.bitmap.specs.Pages.{bit_at}
use Rattle.layout.specs.declared.MemoryRange.{MemoryRange}
use Rattle.layout.specs.declared.MemoryRangeWithNode.{MemoryRangeWithNode}
use Rattle.layout.specs.declared.Span.{Span}
use Rattle.layout.specs.Layout.{range, entries_of, last_end, spans, span_at}
use Rattle.layout.proofs.Laws.{entries_at, entries_past, spans_end}
use Rattle.chunks.specs.Chunks.{chunk_count, empty, first_of, first_not}
use Rattle.chunks.proofs.Laws.{below_up, pieces_past, span_step}
use Rattle.chunks.proofs.Scan.{first_step, first_stop, first_end, first_to}
use Rattle.registrar_steps.specs.declared.Answer.TheVariants.{Done, RegistrationFailed}
use Rattle.registrar_steps.specs.declared.Why.{Why}
use Rattle.registrar_steps.specs.declared.Why.TheVariants as why
use Rattle.registrar_steps.specs.declared.Stop.{Stop}
use Rattle.registrar_steps.specs.declared.Look.{Look}
use Rattle.registrar_steps.specs.declared.Look.TheVariants.{Nothing, Edge, FailedBefore, Stretch}
use Rattle.registrar_steps.specs.declared.Plan.{Plan}
use Rattle.registrar_steps.specs.Steps.{ChunkState, asks, ends, ram_from, passes, piece_of, register_from, is_end, has_ram, stop, offer_of, stop_at, plan_at, stop_plan, look_at, is_nothing, found, all_from}

-- ---- register, from a chunk on

-- the last end is a 64-bit number, where the words are
pub last_fits : (ws : List ℕ) → ((j : ℕ) → get_or ws j 0 < 2 ^ 64) → last_end (entries_of ws) < 2 ^ 64
last_fits ws h = elim (dec_lt (length (entries_of ws) - 1) (length ws / 3)) [
  | yes d ↦ omega (arith, ap (λ (e : MemoryRangeWithNode). e.end) (entries_at ws (length (entries_of ws) - 1) d), h (3 * (length (entries_of ws) - 1) + 1))
  | no d ↦ omega (arith, ap (λ (e : MemoryRangeWithNode). e.end) (entries_past ws (length (entries_of ws) - 1) (omega arith)))
]

-- so the chunks below the count start at 64-bit addresses
pub walk_fits : (ws : List ℕ) (g until n e c : ℕ) → ((j : ℕ) → get_or ws j 0 < 2 ^ 64) → n ≡ chunk_count g (entries_of ws) → e ≡ min until n → c < e → c * g < 2 ^ 64
walk_fits ws g until n e c h q f k = omega (arith, below_up (last_end (entries_of ws)) g c (omega arith), last_fits ws h)

pub ended_rest : (es : List MemoryRangeWithNode) (g c x : ℕ) → (c + 1) * g ≤ x → range 0 0 ≡ ram_from g es c x
ended_rest es g c x h = sym (ap first_of (pieces_past es x ((c + 1) * g) 0 (spans es) h))

module _ (s : ChunkState) (o n c until e t : ℕ) (he : e ≡ min until (chunk_count s.granularity s.entries)) (ht : t ≡ first_not (passes s) c e) where
  stopped : ℕ → ℕ → Plan
  stopped e t =
      cond (ltb t e)
      (cond (bit_at word_bits s.failed t) (ends c t (RegistrationFailed (t * s.granularity) n))
      (asks o c t (piece_of n t (t + 1) until (ram_from s.granularity s.entries t (t * s.granularity)))))
      (ends c t (Done n))

  from_stopped : stopped e t ≡ register_from s o n c until
  unfolding register_from stopped
  from_stopped = ap₂ stopped he (ht ∙ ap (first_not (passes s) c) he)

  pub register_done : (p : Plan) → e ≤ t → p ≡ ends c t (Done n) → p ≡ register_from s o n c until
  unfolding stopped
  register_done p h q = q ∙ sym (rw (le-ltb t e h)) ∙ from_stopped

  pub register_stopped : (a : Stop) → a ≡ stop_at s c e → stop_plan o n c until a ≡ register_from s o n c until
  unfolding stop_at stopped
  register_stopped a h =
      ap (stop_plan o n c until) (h ∙ ap numbers (sym ht)) ∙ go (ltb t e) (bit_at word_bits s.failed t) ∙ from_stopped
    where
      numbers : ℕ → Stop
      numbers t =
          cond (ltb t e) (cond (bit_at word_bits s.failed t) (stop why.Failed t (t * s.granularity) 0) (stop why.Ram t (ram_from s.granularity s.entries t (t * s.granularity)).start (ram_from s.granularity s.entries t (t * s.granularity)).end))
          (stop why.End t 0 0)

      go : (a b : Bool)
          → stop_plan o n c until (cond a (cond b (stop why.Failed t (t * s.granularity) 0) (stop why.Ram t (ram_from s.granularity s.entries t (t * s.granularity)).start (ram_from s.granularity s.entries t (t * s.granularity)).end)) (stop why.End t 0 0))
          ≡ cond a (cond b (ends c t (RegistrationFailed (t * s.granularity) n)) (asks o c t (piece_of n t (t + 1) until (ram_from s.granularity s.entries t (t * s.granularity))))) (ends c t (Done n))
      go true true = refl
      go true false = refl
      go false b = refl

-- the plan of a stop at RAM to ask for
pub ram_plan : (o n c until : ℕ) (a : Stop) (x : Why) → has_ram x ≡ true → plan_at o n c until a x ≡ asks o c a.chunk (piece_of n a.chunk (a.chunk + 1) until (range a.start a.end))
ram_plan o n c until a why.End h = false≢true h
ram_plan o n c until a why.Ram h = refl
ram_plan o n c until a why.Failed h = false≢true h

-- a chunk that asks for nothing
offer_passes : (s : ChunkState) (c : ℕ) → is_end (offer_of s c).why ≡ passes s c
offer_passes s c = go (bit_at word_bits s.registered c) (bit_at word_bits s.failed c) (empty (ram_from s.granularity s.entries c (c * s.granularity)))
  where
    go : (a b d : Bool)
        → is_end (cond a (stop why.End c 0 0) (cond b (stop why.Failed c (c * s.granularity) 0) (cond d (stop why.End c 0 0) (stop why.Ram c (ram_from s.granularity s.entries c (c * s.granularity)).start (ram_from s.granularity s.entries c (c * s.granularity)).end)))).why
        ≡ (a || (not b && d))
    go true b d = refl
    go false true d = refl
    go false false true = refl
    go false false false = refl

module _ (s : ChunkState) (c e : ℕ) where
  module _ (a : Stop) (q : a ≡ offer_of s c) (l : c < e) where
    pub stop_hit : is_end a.why ≡ false → a ≡ stop_at s c e
    unfolding stop_at
    stop_hit h = q ∙ asked (bit_at word_bits s.registered c) (bit_at word_bits s.failed c) (empty (ram_from s.granularity s.entries c (c * s.granularity))) (sym (ap (λ (k : Stop). is_end k.why) q) ∙ h) ∙ sym (rw (first_stop (passes s) c e l fails, lt-ltb c e l))
      where
        fails : passes s c ≡ false
        fails = sym (offer_passes s c) ∙ sym (ap (λ (k : Stop). is_end k.why) q) ∙ h

        two : Stop
        two = stop why.Failed c (c * s.granularity) 0

        one : Stop
        one = stop why.Ram c (ram_from s.granularity s.entries c (c * s.granularity)).start (ram_from s.granularity s.entries c (c * s.granularity)).end

        asked : (x y d : Bool) → is_end (cond x (stop why.End c 0 0) (cond y two (cond d (stop why.End c 0 0) one))).why ≡ false
            → cond x (stop why.End c 0 0) (cond y two (cond d (stop why.End c 0 0) one)) ≡ cond y two one
        asked true y d k = false≢true (sym k)
        asked false true d k = refl
        asked false false true k = false≢true (sym k)
        asked false false false k = refl

    pub stop_miss : is_end a.why ≡ true → stop_at s c e ≡ stop_at s (c + 1) e
    unfolding stop_at
    stop_miss h = rw (first_step (passes s) c e l (sym (offer_passes s c) ∙ (sym (ap (λ (k : Stop). is_end k.why) q) ∙ h)))

  pub stop_end : e ≤ c → stop why.End c 0 0 ≡ stop_at s c e
  unfolding stop_at
  stop_end h = sym (rw (first_end (passes s) c e h, le-ltb c e h))

-- a chunk whose RAM is asked for is one before e
pub stop_below : (s : ChunkState) (c e : ℕ) (a : Stop) → a ≡ stop_at s c e → has_ram a.why ≡ true → a.chunk < e
unfolding stop_at
stop_below s c e a q h = elim (dec_lt (first_not (passes s) c e) e) [
  | yes d ↦
      let t : ℕ = first_not (passes s) c e in
      let r : MemoryRange = ram_from s.granularity s.entries t (t * s.granularity) in
      omega (arith, below (bit_at word_bits s.failed t) (stop why.Failed t (t * s.granularity) 0) (stop why.Ram t r.start r.end) refl refl (q ∙ rw (lt-ltb t e d)), d)
  | no d ↦
      let ended : a ≡ stop why.End (first_not (passes s) c e) 0 0 = q ∙ rw (le-ltb (first_not (passes s) c e) e (omega arith)) in
      false≢true (sym (ap (λ (k : Stop). has_ram k.why) ended) ∙ h)
]
  where
    below : (b : Bool) (x y : Stop) → x.chunk ≡ first_not (passes s) c e → y.chunk ≡ first_not (passes s) c e → a ≡ cond b x y → a.chunk ≡ first_not (passes s) c e
    below true x y k l r = ap (λ (k : Stop). k.chunk) r ∙ k
    below false x y k l r = ap (λ (k : Stop). k.chunk) r ∙ l

-- ---- register_all_aligned: the chunks of a span's aligned part

-- the addresses of chunks up to e fit where that of e does
pub chunk_below : (g c e : ℕ) → c ≤ e → e * g < 2 ^ 64 → c * g < 2 ^ 64
chunk_below g c e h k = omega (arith, mul-le-mul_right {m = c} {n = e} g h)

pub run_below : (P : ℕ → Bool) (g c e b : ℕ) → b ≡ first_not P c e → c ≤ e → e * g < 2 ^ 64 → b * g < 2 ^ 64
run_below P g c e b q h k = chunk_below g b e (omega (arith, first_to P c e h)) k

-- ---- the spans in turn

pub found_rest : (es : List MemoryRangeWithNode) (o n al ignore : ℕ) (r : MemoryRange) (l : Look) (a b : Plan) → is_nothing l ≡ false
    → found es o n al ignore r l a ≡ found es o n al ignore r l b
found_rest es o n al ignore r Nothing a b h = let z : ◌≡◌ {A = ℕ} 0 1 = cc in absurd (omega arith)
found_rest es o n al ignore r (Edge e) a b h = refl
found_rest es o n al ignore r (FailedBefore x) a b h = refl
found_rest es o n al ignore r (Stretch a' b' x y) a b h = refl

found_none : (es : List MemoryRangeWithNode) (o n al ignore : ℕ) (r : MemoryRange) (l : Look) (a : Plan) → is_nothing l ≡ true → found es o n al ignore r l a ≡ a
found_none es o n al ignore r Nothing a h = refl
found_none es o n al ignore r (Edge e) a h = let z : ◌≡◌ {A = ℕ} 0 1 = cc in absurd (omega arith)
found_none es o n al ignore r (FailedBefore x) a h = let z : ◌≡◌ {A = ℕ} 0 1 = cc in absurd (omega arith)
found_none es o n al ignore r (Stretch a' b' x y) a h = let z : ◌≡◌ {A = ℕ} 0 1 = cc in absurd (omega arith)

module _ (s : ChunkState) (o n al ignore c i : ℕ) where
  module _ (at : Span) (l : Look) (h : i < length s.entries) (q : at ≡ span_at s.entries i)
      (ql : l ≡ look_at s.granularity s.registered s.failed al ignore c (range at.start at.end)) where
    here : all_from s o n al ignore c (spans (drop i s.entries))
        ≡ found s.entries o n al ignore (range at.start at.end) l (all_from s o n al ignore c (spans (drop at.next s.entries)))
    unfolding all_from
    here =
        ap (all_from s o n al ignore c) (span_step s.entries i at h q)
        ∙ ap (λ (k : Look). found s.entries o n al ignore (range at.start at.end) k (all_from s o n al ignore c (spans (drop at.next s.entries)))) (sym ql)

    pub all_hit : (p : Plan) → is_nothing l ≡ false → p ≡ found s.entries o n al ignore (range at.start at.end) l (ends 0 0 (Done n))
        → p ≡ all_from s o n al ignore c (spans (drop i s.entries))
    all_hit p t e = e ∙ found_rest s.entries o n al ignore (range at.start at.end) l _ _ t ∙ sym here

    pub all_miss : is_nothing l ≡ true → all_from s o n al ignore c (spans (drop i s.entries)) ≡ all_from s o n al ignore c (spans (drop at.next s.entries))
    all_miss t = here ∙ found_none s.entries o n al ignore (range at.start at.end) l _ t

  pub all_end : length s.entries ≤ i → all_from s o n al ignore c (spans (drop i s.entries)) ≡ ends 0 0 (Done n)
  unfolding all_from
  all_end h = ap (all_from s o n al ignore c) (spans_end s.entries i h)
