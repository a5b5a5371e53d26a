-- The steps of `register_all_aligned` are the whole call. Assumes nothing.
use native.Mathlib.Omega.{arith}
use mathlib.Core.Path.{◌≡◌, refl, sym, ap, ◌∙◌, subst}
use mathlib.Core.Logic.{⊎_elim}
use mathlib.Core.Bool.{Bool, true, false, not, cond, ◌&&◌}
use mathlib.Core.List.{List, [], ◌∷◌, ◌++◌}
use Prim.Native.Nat.{ℕ, zero, suc, ◌+◌, ◌-◌, ◌*◌, ◌/◌, ◌%◌, ◌^◌, ◌≤◌, ◌<◌, max}
use native.Mathlib.Nat.{div-zero, div-add-mod', div-mul-le_self, le-div_iff_mul-le, add-mul, one-mul, mod-lt}
use lib.Dec.{eqb, ltb}
use lib.ListN.{length, get_or, drop, take}
use borrow.Author.Tests.{eqb-true, eq-eqb, lt-ltb, le-ltb, ltb-true, ltb-false, leb-false}
use Rattle.abi.specs.Kinds as kind
use Rattle.abi.specs.RegistrarPlaces as place
use Rattle.abi.specs.Lengths.{registrar_len, word_bits}
use Rattle.laws.specs.Bools.{and_left, and_right, and_true, false≢true, lt_or_le}
use Rattle.laws.specs.Refusal.{passed}
use Rattle.bitmap.specs.Pages.{bit_at}
use Rattle.bitmap.proofs.Map.{page_law}
use Rattle.laws.specs.Ranges.{between}
use Rattle.layout.specs.declared.MemoryRange.{MemoryRange}
use Rattle.layout.specs.declared.MemoryRangeWithNode.{MemoryRangeWithNode}
use Rattle.layout.specs.Layout.{range, entries_of, ordered, spans}
use Rattle.chunks.specs.Chunks.{up, map_words, empty, first_not, alike, aligned_part, edge_of}
use Rattle.chunks.proofs.Scan.{first_stop, first_end, first_skip}
use Rattle.registrar_steps.specs.declared.Request.{Request}
use Rattle.registrar_steps.specs.declared.Answer.TheVariants.{Done, RegistrationFailed, UnalignedMemory}
use Rattle.registrar_steps.specs.declared.Look.{Look}
use Rattle.registrar_steps.specs.declared.Look.TheVariants.{Nothing, Edge, FailedBefore, Stretch}
use Rattle.registrar_steps.specs.declared.Plan.{Plan}
use Rattle.registrar_steps.specs.Steps.{chunk_state, idle, asked_of, more, stretch_in, look_at, unaligned_at, stretch_of, found, all_from}
use Rattle.registrar_state.specs.Buffers.{Buffers, buffers, Outcome, outcome, request_of, request_words, entries_in, flat_of, lengths_fit, all_refusal, marked, carried_out, all_of, answer_refusal, failed_of, done_of}
use Rattle.registrar_claims.specs.Runs.{follow}
use Rattle.registrar_claims.specs.Whole.{FailedAt, UnalignedAt, offer_stretch, whole_span, whole_spans, whole_all, Whole, ended, Match}
use Rattle.registrar_claims.proofs.Steps.{counted, marked_length, marked_none, follow_ended, match_ask, match_told}
use Rattle.registrar_state.proofs.Laws.{split_state}
use Rattle.registrar_claims.proofs.Spans.{Ascend, spans_ascend}
use Rattle.registrar.proofs.Laws.{all_long}

-- ---- scans

AllIn : (ℕ → Bool) → ℕ → ℕ → Type 0
AllIn P x y = (q : ℕ) → x ≤ q → q < y → P q ≡ true

all_more : (P : ℕ → Bool) (x y : ℕ) → AllIn P x y → P y ≡ true → AllIn P x (y + 1)
unfolding AllIn
all_more P x y h t q a b = ⊎_elim (λ l. h q a l) (λ l. let e : q ≡ y = omega arith in ap P e ∙ t) (lt_or_le q y)

none_in : (P : ℕ → Bool) (x : ℕ) → AllIn P x x
unfolding AllIn
none_in P x q a b = absurd (omega arith)

just_one : (P : ℕ → Bool) (x y : ℕ) → y ≤ x → P y ≡ true → AllIn P x (y + 1)
unfolding AllIn
just_one P x y l t q a b = let e : q ≡ y = omega arith in ap P e ∙ t

div_le : (m n g : ℕ) → m ≤ n → m / g ≤ n / g
div_le m n g h = ⊎_elim some none (lt_or_le 0 g)
  where
    some : zero < g → m / g ≤ n / g
    some p = (le-div_iff_mul-le {k = g} {x = m / g} {y = n} p).1 (omega (arith, div-mul-le_self m g))

    none : g ≤ zero → m / g ≤ n / g
    none p = let e : g ≡ 0 = omega arith in omega (arith, ap (λ (k : ℕ). m / k) e ∙ div-zero m)

-- past numbers that P holds of, the first that it does not
scan_to : (P : ℕ → Bool) (x y e : ℕ) → x ≤ y → y ≤ e → AllIn P x y → first_not P x e ≡ first_not P y e
unfolding AllIn
scan_to P x y e h k t =
    let d : x + (y - x) ≡ y = omega arith in
    first_skip P (y - x) x e (omega arith) (λ q a b. t q a (omega arith)) ∙ ap (λ (n : ℕ). first_not P n e) d

scan_stop : (P : ℕ → Bool) (x y e : ℕ) → x ≤ y → y < e → AllIn P x y → P y ≡ false → first_not P x e ≡ y
scan_stop P x y e h k t n = scan_to P x y e h (omega arith) t ∙ first_stop P y e k n

scan_end : (P : ℕ → Bool) (x e : ℕ) → x ≤ e → AllIn P x e → first_not P x e ≡ e
scan_end P x e h t = scan_to P x e e h (omega arith) t ∙ first_end P e e (omega arith)

-- ---- chunks that are alike

registered_not : (r f : List ℕ) (c : ℕ) → alike r f false c ≡ true → alike r f true c ≡ false
registered_not r f c h = go (bit_at word_bits f c) (bit_at word_bits r c) h
  where
    go : (x y : Bool) → (not x && not y) ≡ true → (not x && y) ≡ false
    go true y h = refl
    go false true h = false≢true h
    go false false h = refl

fresh_failed : (r f : List ℕ) (c : ℕ) → alike r f false c ≡ true → bit_at word_bits f c ≡ false
fresh_failed r f c h = go (bit_at word_bits f c) (bit_at word_bits r c) h
  where
    go : (x y : Bool) → (not x && not y) ≡ true → x ≡ false
    go true y h = false≢true h
    go false y h = refl

-- ---- what is next in the chunks from x to before e, where those to before a are registered and those from a to before c are a stretch

module _ (g : ℕ) (r f : List ℕ) (x a c e : ℕ) (xa : x ≤ a) (ac : a ≤ c) (ce : c ≤ e) (old : AllIn (alike r f true) x a) (new : AllIn (alike r f false) a c) where
  unfolding_first : a < c → first_not (alike r f true) x e ≡ a
  unfolding AllIn
  unfolding_first l = scan_stop (alike r f true) x a e xa (omega arith) old (registered_not r f a (new a (omega arith) l))

  -- a stretch that the end of the part closes, and one that a registered chunk closes
  met_end : a < c → c ≡ e → stretch_in g r f x e ≡ Stretch a c (a * g) (c * g)
  unfolding AllIn
  met_end l q =
      let B : first_not (alike r f false) a e ≡ c = ap (first_not (alike r f false) a) (sym q) ∙ scan_end (alike r f false) a c ac new in
      rw (unfolding_first l, lt-ltb a e (omega arith), fresh_failed r f a (new a (omega arith) l), B, le-ltb c e (omega arith))

  met_registered : a < c → c < e → bit_at word_bits f c ≡ false → bit_at word_bits r c ≡ true → stretch_in g r f x e ≡ Stretch a c (a * g) (c * g)
  unfolding AllIn
  met_registered l k hf hr =
      let B : first_not (alike r f false) a e ≡ c = scan_stop (alike r f false) a c e ac k new (rw (hf, hr)) in
      rw (unfolding_first l, lt-ltb a e (omega arith), fresh_failed r f a (new a (omega arith) l), B, lt-ltb c e k, hf)

  -- a chunk that failed before
  met_failed : c < e → bit_at word_bits f c ≡ true → stretch_in g r f x e ≡ FailedBefore (c * g)
  unfolding AllIn
  met_failed k hf = ⊎_elim stretch none (lt_or_le a c)
    where
      stretch : a < c → stretch_in g r f x e ≡ FailedBefore (c * g)
      stretch l =
          let B : first_not (alike r f false) a e ≡ c = scan_stop (alike r f false) a c e ac k new (rw hf) in
          rw (unfolding_first l, lt-ltb a e (omega arith), fresh_failed r f a (new a (omega arith) l), B, lt-ltb c e k, hf)

      none : c ≤ a → stretch_in g r f x e ≡ FailedBefore (c * g)
      none l =
          let d : a ≡ c = omega arith in
          let A : first_not (alike r f true) x e ≡ c = scan_stop (alike r f true) x c e (omega arith) k (λ q u v. old q u (omega arith)) (rw hf) in
          rw (A, lt-ltb c e k, hf)

-- all registered: nothing
met_nothing : (g : ℕ) (r f : List ℕ) (x e : ℕ) → AllIn (alike r f true) x e → stretch_in g r f x e ≡ Nothing
met_nothing g r f x e h = ⊎_elim inside outside (lt_or_le x e)
  where
    inside : x < e → stretch_in g r f x e ≡ Nothing
    inside l = rw (scan_end (alike r f true) x e (omega arith) h, le-ltb e e (omega arith))

    outside : e ≤ x → stretch_in g r f x e ≡ Nothing
    outside l = rw (first_end (alike r f true) x e l, le-ltb x e l)

-- ---- more chunks registered than before

Ext : List ℕ → List ℕ → Type 0
Ext r r' = (q : ℕ) → bit_at word_bits r q ≡ true → bit_at word_bits r' q ≡ true

ext_same : (r : List ℕ) → Ext r r
unfolding Ext
ext_same r q h = h

ext_on : (r s t : List ℕ) → Ext r s → Ext s t → Ext r t
unfolding Ext
ext_on r s t a b q h = b q (a q h)

marked_ext : (a b : ℕ) (r : List ℕ) → Ext r (marked a b r)
unfolding Ext
marked_ext a b r q h = page_law word_bits (between a b) true r q (omega arith) ∙ go (between a b q && ltb (q / word_bits) (length r))
  where
    go : (t : Bool) → cond t true (bit_at word_bits r q) ≡ true
    go true = refl
    go false = h

alike_ext : (r r' f : List ℕ) (q : ℕ) → Ext r r' → alike r f true q ≡ true → alike r' f true q ≡ true
unfolding Ext
alike_ext r r' f q h t = and_true (not (bit_at word_bits f q)) (bit_at word_bits r' q) (and_left _ _ t) (h q (and_right (not (bit_at word_bits f q)) (bit_at word_bits r q) t))

-- ---- the aligned part lies in its span

pub part_end : (al : ℕ) (s : MemoryRange) → (aligned_part al s).end ≤ s.end
part_end al s = go (ltb (up s.start al) (s.end / al))
  where
    go : (t : Bool) → (cond t (range (up s.start al * al) (s.end / al * al)) (range 0 0)).end ≤ s.end
    go true = div-mul-le_self s.end al
    go false = omega arith

pub up_above : (n g : ℕ) → zero < g → n ≤ up n g * g
up_above n g h = go (eqb (n % g) 0) refl
  where
    go : (t : Bool) → eqb (n % g) 0 ≡ t → n ≤ cond t (n / g) (n / g + 1) * g
    go true e = omega (arith, eqb-true (n % g) 0 e, div-add-mod' n g)
    go false e = omega (arith, div-add-mod' n g, mod-lt n {m = g} h, add-mul (n / g) 1 g, one-mul g)

part_start : (al : ℕ) (s : MemoryRange) → empty (aligned_part al s) ≡ false → s.start ≤ (aligned_part al s).start
part_start al s = go (ltb (up s.start al) (s.end / al)) refl
  where
    pos : up s.start al < s.end / al → zero < al
    pos l = ⊎_elim (λ z. z) (λ z. let e : al ≡ 0 = omega arith in absurd (omega (arith, ap (λ (k : ℕ). s.end / k) e ∙ div-zero s.end))) (lt_or_le 0 al)

    go : (t : Bool) → ltb (up s.start al) (s.end / al) ≡ t → empty (cond t (range (up s.start al * al) (s.end / al * al)) (range 0 0)) ≡ false
        → s.start ≤ (cond t (range (up s.start al * al) (s.end / al * al)) (range 0 0)).start
    go true e h = up_above s.start al (pos (ltb-true (up s.start al) (s.end / al) e))
    go false e h = false≢true (sym h)

-- ---- the registrar under way

module _ (tail f : List ℕ) (al ig : ℕ) where
  abbrev g : ℕ
  g = get_or tail 1 0

  abbrev o : ℕ
  o = get_or tail 0 0

  abbrev es : List MemoryRangeWithNode
  es = entries_of (take (3 * get_or tail 2 0) (drop 3 tail))

  abbrev rs : List MemoryRange
  rs = spans es

  abbrev at : Request → List ℕ → Buffers
  at q r = buffers (request_words q ++ tail) r f

  -- what is planned from chunk c on over some of the spans, and what is given
  abbrev plan : List ℕ → ℕ → ℕ → List MemoryRange → Plan
  plan r k c ss = all_from (chunk_state g es r f) o (k % 2 ^ 64) al ig c ss

  abbrev from : Request → List ℕ → ℕ → ℕ → Outcome
  from q r k c = carried_out (at q r) (plan r k c rs)

  abbrev stretch : ℕ → ℕ → ℕ → Request
  stretch k a b = stretch_of (k % 2 ^ 64) al ig a b (a * g) (b * g)

  abbrev asks_stretch : List ℕ → ℕ → ℕ → ℕ → Outcome
  asks_stretch r k a b = outcome (request_words (stretch k a b) ++ tail) r f (flat_of (asked_of o (stretch k a b)))

  module _ (long : length tail ≡ 99) (f_long : length f ≡ map_words g es) where
    not_refused_lem : (q : Request) (r : List ℕ) → q.kind ≡ kind.register_all → length r ≡ map_words g es → answer_refusal (at q r) ≡ 0
    unfolding answer_refusal
    not_refused_lem q r h l =
        rw (eq-eqb (length (request_words q ++ tail)) registrar_len (omega arith), eq-eqb (length r) (map_words g es) l, eq-eqb (length f) (map_words g es) f_long, h)

    module _ (a b : ℕ) (r : List ℕ) (r_long : length r ≡ map_words g es) (next : List Bool → List ℕ → Whole)
        (on : (k : ℕ) (q : Request) (bs : List Bool) → Match k (follow (from q (marked a b r) k b) bs) (next bs (marked a b r))) where
      failed_now : (k : ℕ) → failed_of (asks_stretch r k a b).buffers ≡ outcome (request_words idle ++ tail) r (marked a b f) (flat_of (RegistrationFailed (a * g) ((k + 1) % 2 ^ 64)))
      unfolding failed_of
      failed_now k = rw (not_refused_lem (stretch k a b) r refl r_long, counted k)

      done_now : (k : ℕ) → done_of (asks_stretch r k a b).buffers ≡ from idle (marked a b r) (k + 1) b
      unfolding done_of
      done_now k = rw (not_refused_lem (stretch k a b) r refl r_long, counted k)

      stretch_match : (k : ℕ) (bs : List Bool) → Match k (follow (asks_stretch r k a b) bs) (offer_stretch o g a b bs r f next)
      unfolding follow offer_stretch
      stretch_match k [] = record { same_asked = refl; same_registered = refl; same_failed = refl; same_reply = refl }
      stretch_match k (false ∷ bs) =
          match_ask k o (range (a * g) (b * g)) _ (follow (failed_of (asks_stretch r k a b).buffers) bs) (ended r (marked a b f) (FailedAt (a * g))) refl
          (match_told (k + 1) _ _ _ (ap (λ (x : Outcome). follow x bs) (failed_now k) ∙ follow_ended _ bs refl)
          (record { same_asked = refl; same_registered = refl; same_failed = refl; same_reply = ap (λ (n : ℕ). flat_of (RegistrationFailed (a * g) (n % 2 ^ 64))) (omega arith) }))
      stretch_match k (true ∷ bs) =
          match_ask k o (range (a * g) (b * g)) _ (follow (done_of (asks_stretch r k a b).buffers) bs) (next bs (marked a b r)) refl
          (match_told (k + 1) _ _ _ (ap (λ (x : Outcome). follow x bs) (done_now k)) (on (k + 1) idle bs))

    -- the spans before these are passed over from chunk c on, whatever else becomes registered
    Skips : List ℕ → ℕ → List MemoryRange → Type 0
    Skips r c ss = (r' : List ℕ) → Ext r r' → (k c' : ℕ) → c ≤ c' → plan r' k c' rs ≡ plan r' k c' ss

    skips_on : (r r' : List ℕ) (c c' : ℕ) (ss : List MemoryRange) → Ext r r' → c ≤ c' → Skips r c ss → Skips r' c' ss
    unfolding Skips
    skips_on r r' c c' ss x l h t y k d m = h t (ext_on r r' t x y) k d (omega arith)

    -- one more span is passed over
    skips_next : (r : List ℕ) (c d : ℕ) (s : MemoryRange) (ss : List MemoryRange) → Skips r c (s ∷ ss) → c ≤ d
        → ((r' : List ℕ) → Ext r r' → (c' : ℕ) → d ≤ c' → look_at g r' f al ig c' s ≡ Nothing) → Skips r d ss
    unfolding Skips all_from
    skips_next r c d s ss h l n r' x k c' m = h r' x k c' (omega arith) ∙ ap (λ (v : Look). found es o (k % 2 ^ 64) al ig s v (plan r' k c' ss)) (n r' x c' m)

    module _ (q : Request) (r : List ℕ) (k c : ℕ) (s : MemoryRange) (ss : List MemoryRange) (h : Skips r c (s ∷ ss)) where
      -- what is found in the first of them
      met : (v : Look) → look_at g r f al ig c s ≡ v → from q r k c ≡ carried_out (at q r) (found es o (k % 2 ^ 64) al ig s v (plan r k c ss))
      unfolding Skips all_from
      met v e = ap (carried_out (at q r)) (h r (ext_same r) k c (omega arith) ∙ ap (λ (v : Look). found es o (k % 2 ^ 64) al ig s v (plan r k c ss)) e)

      met_stretch : (a b : ℕ) → look_at g r f al ig c s ≡ Stretch a b (a * g) (b * g) → from q r k c ≡ asks_stretch r k a b
      met_stretch a b e =
          met (Stretch a b (a * g) (b * g)) e ∙ ap (λ (l : List ℕ). outcome (request_words (stretch k a b) ++ tail) l f (flat_of (asked_of o (stretch k a b)))) (marked_none 0 r)

      met_bad : (x : ℕ) → look_at g r f al ig c s ≡ FailedBefore x → from q r k c ≡ outcome (request_words idle ++ tail) r f (flat_of (RegistrationFailed x (k % 2 ^ 64)))
      met_bad x e = met (FailedBefore x) e ∙ ap (λ (l : List ℕ). outcome (request_words idle ++ tail) l f (flat_of (RegistrationFailed x (k % 2 ^ 64)))) (marked_none 0 r)

      met_edge : (x : MemoryRange) → look_at g r f al ig c s ≡ Edge x → from q r k c ≡ outcome (request_words idle ++ tail) r f (flat_of (UnalignedMemory (unaligned_at es al s x) (k % 2 ^ 64)))
      met_edge x e = met (Edge x) e ∙ ap (λ (l : List ℕ). outcome (request_words idle ++ tail) l f (flat_of (UnalignedMemory (unaligned_at es al s x) (k % 2 ^ 64)))) (marked_none 0 r)

    -- a span with an edge that bars, one with no aligned part, and none
    edge_here : (r : List ℕ) (c : ℕ) (s : MemoryRange) → (eqb ig 0 && not (empty (edge_of al s))) ≡ true → look_at g r f al ig c s ≡ Edge (edge_of al s)
    unfolding look_at
    edge_here r c s h = rw h

    empty_here : (r : List ℕ) (c : ℕ) (s : MemoryRange) → (eqb ig 0 && not (empty (edge_of al s))) ≡ false → empty (aligned_part al s) ≡ true → look_at g r f al ig c s ≡ Nothing
    unfolding look_at
    empty_here r c s h p = rw (h, p)

    no_span : (q : Request) (r : List ℕ) (k c : ℕ) → Skips r c [] → from q r k c ≡ outcome (request_words idle ++ tail) r f (flat_of (Done (k % 2 ^ 64)))
    unfolding Skips all_from
    no_span q r k c h =
        ap (carried_out (at q r)) (h r (ext_same r) k c (omega arith)) ∙ ap (λ (l : List ℕ). outcome (request_words idle ++ tail) l f (flat_of (Done (k % 2 ^ 64)))) (marked_none 0 r)

    -- ---- the chunks of a span's aligned part

    module _ (s : MemoryRange) (ss : List MemoryRange) (he : (eqb ig 0 && not (empty (edge_of al s))) ≡ false) (hp : empty (aligned_part al s) ≡ false)
        (after : (c k : ℕ) (q : Request) (r : List ℕ) (bs : List Bool) → c ≤ s.end / g → Skips r c ss → length r ≡ map_words g es
        → Match k (follow (from q r k c) bs) (whole_spans o g es al ig ss bs r f)) where
      abbrev lo : ℕ
      lo = (aligned_part al s).start / g

      abbrev e : ℕ
      e = (aligned_part al s).end / g

      e_low : e ≤ s.end / g
      e_low = div_le (aligned_part al s).end s.end g (part_end al s)

      look : (r : List ℕ) (c : ℕ) → look_at g r f al ig c s ≡ stretch_in g r f (max c lo) e
      unfolding look_at
      look r c = rw (he, hp)

      -- once all its chunks from x on are registered the span is passed over
      passed_over : (r : List ℕ) (c d x : ℕ) → Skips r c (s ∷ ss) → c ≤ d → x ≤ max d lo → AllIn (alike r f true) x e → Skips r d ss
      unfolding AllIn
      passed_over r c d x h l y t =
          skips_next r c d s ss h l
          (λ r' z c' m. look r' c' ∙ met_nothing g r' f (max c' lo) e (λ q u v. alike_ext r r' f q z (t q (omega arith) v)))

      abbrev next : List Bool → List ℕ → Whole
      next bs r = whole_spans o g es al ig ss bs r f

      loop : (n a c k : ℕ) (q : Request) (cur : ℕ) (r : List ℕ) (bs : List Bool) → e - c ≡ n → max cur lo ≤ a → a ≤ c → c ≤ e → cur ≤ s.end / g
          → AllIn (alike r f true) (max cur lo) a → AllIn (alike r f false) a c → Skips r cur (s ∷ ss) → length r ≡ map_words g es
          → Match k (follow (from q r k cur) bs) (whole_span o g n a c bs r f next)
      unfolding whole_span
      loop zero a c k q cur r bs n xa ac ce cl old new h l = go (ltb a c) refl
        where
          go : (t : Bool) → ltb a c ≡ t → Match k (follow (from q r k cur) bs) (cond t (offer_stretch o g a c bs r f next) (next bs r))
          go true t =
              match_told k _ _ _
              (ap (λ (x : Outcome). follow x bs) (met_stretch q r k cur s ss h a c (look r cur ∙ met_end g r f (max cur lo) a c e xa ac ce old new (ltb-true a c t) (omega arith))))
              (stretch_match a c r l next
              (λ k q bs. after c k q (marked a c r) bs (omega (arith, e_low))
              (passed_over (marked a c r) c c e (skips_on r (marked a c r) cur c (s ∷ ss) (marked_ext a c r) (omega arith) h) (omega arith) (omega arith) (none_in (alike (marked a c r) f true) e))
              (marked_length a c r ∙ l)) k bs)
          go false t =
              let d : a ≡ e = omega (arith, ltb-false a c t) in
              after cur k q r bs cl (passed_over r cur cur (max cur lo) h (omega arith) (omega arith) (subst (λ (y : ℕ). AllIn (alike r f true) (max cur lo) y) d old)) l
      loop (suc n) a c k q cur r bs m xa ac ce cl old new h l =
          go (bit_at word_bits f c) refl (bit_at word_bits r c) refl (ltb a c) refl
          (λ a k q cur r bs xa ac cl old new h l. loop n a (c + 1) k q cur r bs (omega arith) xa ac (omega arith) cl old new h l)
        where
          go : (x : Bool) → bit_at word_bits f c ≡ x → (y : Bool) → bit_at word_bits r c ≡ y → (z : Bool) → ltb a c ≡ z
              → ((a k : ℕ) (q : Request) (cur : ℕ) (r : List ℕ) (bs : List Bool) → max cur lo ≤ a → a ≤ c + 1 → cur ≤ s.end / g
              → AllIn (alike r f true) (max cur lo) a → AllIn (alike r f false) a (c + 1) → Skips r cur (s ∷ ss) → length r ≡ map_words g es
              → Match k (follow (from q r k cur) bs) (whole_span o g n a (c + 1) bs r f next))
              → Match k (follow (from q r k cur) bs)
              (cond x (ended r f (FailedAt (c * g)))
              (cond y (cond z (offer_stretch o g a c bs r f (λ bs r. whole_span o g n (c + 1) (c + 1) bs r f next)) (whole_span o g n (c + 1) (c + 1) bs r f next)) (whole_span o g n a (c + 1) bs r f next)))
          go true hx y hy z hz more =
              match_told k _ _ _
              (ap (λ (x : Outcome). follow x bs) (met_bad q r k cur s ss h (c * g) (look r cur ∙ met_failed g r f (max cur lo) a c e xa ac ce old new (omega arith) hx)) ∙ follow_ended _ bs refl)
              (record { same_asked = refl; same_registered = refl; same_failed = refl; same_reply = ap (λ (n : ℕ). flat_of (RegistrationFailed (c * g) (n % 2 ^ 64))) (omega arith) })
          go false hx false hy z hz more =
              more a k q cur r bs xa (omega arith) cl old (all_more (alike r f false) a c new (rw (hx, hy))) h l
          go false hx true hy false hz more =
              let d : a ≡ c = omega (arith, ltb-false a c hz) in
              more (c + 1) k q cur r bs (omega arith) (omega arith) cl
              (all_more (alike r f true) (max cur lo) c (subst (λ (y : ℕ). AllIn (alike r f true) (max cur lo) y) d old) (rw (hx, hy))) (none_in (alike r f false) (c + 1)) h l
          go false hx true hy true hz more =
              match_told k _ _ _
              (ap (λ (x : Outcome). follow x bs) (met_stretch q r k cur s ss h a c (look r cur ∙ met_registered g r f (max cur lo) a c e xa ac ce old new (ltb-true a c hz) (omega arith) hx hy)))
              (stretch_match a c r l (λ bs r. whole_span o g n (c + 1) (c + 1) bs r f next)
              (λ k q bs. more (c + 1) k q c (marked a c r) bs (omega arith) (omega arith) (omega (arith, e_low))
              (just_one (alike (marked a c r) f true) (max c lo) c (omega arith) (alike_ext r (marked a c r) f c (marked_ext a c r) (rw (hx, hy))))
              (none_in (alike (marked a c r) f false) (c + 1)) (skips_on r (marked a c r) cur c (s ∷ ss) (marked_ext a c r) (omega arith) h) (marked_length a c r ∙ l)) k bs)

    -- ---- the spans in turn

    spans_match : (ss : List MemoryRange) (m c k : ℕ) (q : Request) (r : List ℕ) (bs : List Bool) → Ascend m ss → c ≤ m / g → Skips r c ss → length r ≡ map_words g es
        → Match k (follow (from q r k c) bs) (whole_spans o g es al ig ss bs r f)
    unfolding whole_spans Ascend
    spans_match [] m c k q r bs a l h rl =
        match_told k _ _ _ (ap (λ (x : Outcome). follow x bs) (no_span q r k c h) ∙ follow_ended _ bs refl)
        (record { same_asked = refl; same_registered = refl; same_failed = refl; same_reply = ap (λ (n : ℕ). flat_of (Done (n % 2 ^ 64))) (omega arith) })
    spans_match (s ∷ ss) m c k q r bs a l h rl =
        go (eqb ig 0 && not (empty (edge_of al s))) refl (empty (aligned_part al s)) refl
        (λ c k q r bs l h rl. spans_match ss s.end c k q r bs a.2 l h rl)
      where
        low : m / g ≤ s.end / g
        low = div_le m s.end g (omega (arith, a.0, a.1))

        go : (x : Bool) → (eqb ig 0 && not (empty (edge_of al s))) ≡ x → (y : Bool) → empty (aligned_part al s) ≡ y
            → ((c k : ℕ) (q : Request) (r : List ℕ) (bs : List Bool) → c ≤ s.end / g → Skips r c ss → length r ≡ map_words g es
            → Match k (follow (from q r k c) bs) (whole_spans o g es al ig ss bs r f))
            → Match k (follow (from q r k c) bs)
            (cond x (ended r f (UnalignedAt (unaligned_at es al s (edge_of al s))))
            (cond y (whole_spans o g es al ig ss bs r f)
            (whole_span o g ((aligned_part al s).end / g - (aligned_part al s).start / g) ((aligned_part al s).start / g) ((aligned_part al s).start / g) bs r f (λ bs r. whole_spans o g es al ig ss bs r f))))
        go true hx y hy more =
            match_told k _ _ _ (ap (λ (x : Outcome). follow x bs) (met_edge q r k c s ss h (edge_of al s) (edge_here r c s hx)) ∙ follow_ended _ bs refl)
            (record { same_asked = refl; same_registered = refl; same_failed = refl; same_reply = ap (λ (n : ℕ). flat_of (UnalignedMemory (unaligned_at es al s (edge_of al s)) (n % 2 ^ 64))) (omega arith) })
        go false hx true hy more = more c k q r bs (omega (arith, low)) (skips_next r c c s ss h (omega arith) (λ r' x c' u. empty_here r' c' s hx hy)) rl
        go false hx false hy more =
            let u : m / g ≤ (aligned_part al s).start / g = div_le m (aligned_part al s).start g (omega (arith, a.0, part_start al s hy)) in
            let v : (aligned_part al s).start / g ≤ (aligned_part al s).end / g = div_le (aligned_part al s).start (aligned_part al s).end g (omega (arith, leb-false (aligned_part al s).end (aligned_part al s).start hy)) in
            let w : max c ((aligned_part al s).start / g) ≡ (aligned_part al s).start / g = omega arith in
            loop s ss hx hy more ((aligned_part al s).end / g - (aligned_part al s).start / g) ((aligned_part al s).start / g) ((aligned_part al s).start / g) k q c r bs refl (omega arith) (omega arith) v (omega (arith, low))
            (subst (λ (y : ℕ). AllIn (alike r f true) y ((aligned_part al s).start / g)) (sym w) (none_in (alike r f true) ((aligned_part al s).start / g))) (none_in (alike r f false) ((aligned_part al s).start / g)) h rl

-- ---- from the call on

all_at : (tail f r : List ℕ) (q : Request) (al ig : ℕ) (bs : List Bool) → let w : Buffers = buffers (request_words q ++ tail) r f in
    all_refusal w al ig ≡ 0 → ordered 0 (entries_in w.state) ≡ true → Match 0 (follow (all_of w al ig) bs) (whole_all w al ig bs)
unfolding all_of all_refusal whole_all Skips
all_at tail f r q al ig bs z ord =
    let w : Buffers = buffers (request_words q ++ tail) r f in
    let g : ℕ = get_or tail 1 0 in
    let a = passed (eqb (length (request_words q ++ tail)) registrar_len) 3 _ z in
    let b = passed (eqb q.kind kind.none) 18 _ a.1 in
    let d = passed (lengths_fit g (entries_in w.state) r f) 3 _ b.1 in
    let l : length (request_words q ++ tail) ≡ registrar_len = eqb-true _ _ a.0 in
    let rl : length r ≡ map_words g (entries_in w.state) = eqb-true _ _ (and_left _ _ d.0) in
    let fl : length f ≡ map_words g (entries_in w.state) = eqb-true _ _ (and_right (eqb (length r) (map_words g (entries_in w.state))) _ d.0) in
    rw (eq-eqb (all_refusal w al ig) 0 z)
    (spans_match tail f al ig (omega arith) fl (spans (entries_in w.state)) 0 0 0 q r bs (spans_ascend (entries_in w.state) ord) (omega arith) (λ r' x k c' m. refl) rl)

-- THE CLAIM, as of `register`: a layout in order
pub all_is_whole : (w : Buffers) (al ig : ℕ) (bs : List Bool) → all_refusal w al ig ≡ 0 → ordered 0 (entries_in w.state) ≡ true
    → Match 0 (follow (all_of w al ig) bs) (whole_all w al ig bs)
all_is_whole w al ig bs z ord =
    let l : length w.state ≡ registrar_len = all_long w al ig z in
    go w.state (split_state w.state (omega arith)) z ord
  where
    go : (s : List ℕ) → s ≡ request_words (request_of s) ++ drop place.after_request s → all_refusal (buffers s w.registered w.failed) al ig ≡ 0 → ordered 0 (entries_in s) ≡ true
        → Match 0 (follow (all_of (buffers s w.registered w.failed) al ig) bs) (whole_all (buffers s w.registered w.failed) al ig bs)
    go s e z ord =
        subst (λ (t : List ℕ). Match 0 (follow (all_of (buffers t w.registered w.failed) al ig) bs) (whole_all (buffers t w.registered w.failed) al ig bs)) (sym e)
        (all_at (drop place.after_request s) w.failed w.registered (request_of s) al ig bs (subst (λ (t : List ℕ). all_refusal (buffers t w.registered w.failed) al ig ≡ 0) e z)
        (subst (λ (t : List ℕ). ordered 0 (entries_in t) ≡ true) e ord))
