-- The steps of `register` are the whole call: the same ranges asked for, the same bitmaps left, the same reply. Assumes nothing.
use native.Mathlib.Omega.{arith}
use mathlib.Core.Path.{◌≡◌, refl, sym, ap, ap₂, ◌∙◌, subst}
use mathlib.Core.Logic.{⊎_elim}
use mathlib.Core.Bool.{Bool, true, false, not, cond, ◌||◌, ◌&&◌}
use mathlib.Core.List.{List, [], ◌∷◌, ◌++◌}
use Prim.Native.Nat.{ℕ, zero, suc, ◌+◌, ◌-◌, ◌*◌, ◌/◌, ◌%◌, ◌^◌, ◌≤◌, ◌<◌, min}
use lib.Dec.{eqb, leb, ltb}
use lib.ListN.{length, get_or, drop, take, get_or-eq_default}
use borrow.Author.Tests.{eqb-true, eq-eqb, lt-ltb, le-ltb, leb-true}
use Rattle.abi.specs.Kinds as kind
use Rattle.abi.specs.RegistrarPlaces as place
use Rattle.abi.specs.Lengths.{registrar_len, word_bits}
use Rattle.laws.specs.Bools.{and_left, and_right, or_true, lt_or_le}
use Rattle.laws.specs.Refusal.{passed}
use Rattle.bitmap.specs.Pages.{bit_at}
use Rattle.bitmap.proofs.Map.{map_ext, both, page_law, page_written, length_written, written_lt}
use Rattle.bitmap.proofs.Steps.{run_none}
use Rattle.laws.specs.Ranges.{between, between_false, between_join, between_from, between_to}
use Rattle.layout.specs.declared.MemoryRange.{MemoryRange}
use Rattle.layout.specs.declared.MemoryRangeWithNode.{MemoryRangeWithNode}
use Rattle.layout.specs.Layout.{entries_of, ordered, spans}
use Rattle.chunks.specs.Chunks.{chunk_count, map_words, first_chunk, end_chunk, empty, pieces, first_of, first_not_of, first_not}
use Rattle.chunks.proofs.Scan.{first_step, first_stop, first_end, first_from}
use Rattle.registrar_steps.specs.declared.Request.{Request}
use Rattle.registrar_steps.specs.declared.Answer.TheVariants.{Done, RegistrationFailed}
use Rattle.registrar_steps.specs.declared.Plan.{Plan}
use Rattle.registrar_steps.specs.Steps.{ChunkState, chunk_state, idle, asked_of, asks, ends, more, ram_from, passes, piece_of, register_from}
use Rattle.registrar_state.specs.declared.Reply.{Reply}
use Rattle.registrar_state.specs.Buffers.{Buffers, buffers, Outcome, outcome, request_of, request_words, granularity_of, entries_in, flat_of, lengths_fit, chunks_fit, register_refusal, marked, carried_out, register_of, answer_refusal, failed_of, done_of}
use Rattle.registrar_claims.specs.Runs.{Told, before, follow}
use Rattle.registrar_claims.specs.Whole.{Status, Ok, FailedAt, Whole, ended, offered, asking, offer, whole_chunks, whole_register, Says, Words, Match}
use Rattle.registrar_claims.proofs.Spans.{Ascend, spans_ascend, piece_some, pieces_rest}
use Rattle.registrar_state.proofs.Laws.{split_state}
use Rattle.registrar.proofs.Laws.{register_long}
use Rattle.registrar_steps.proofs.Laws.{register_done}

-- one operation more, counted in 64 bits
pub counted : (k : ℕ) → more (k % 2 ^ 64) ≡ (k + 1) % 2 ^ 64
counted k = omega arith

-- ---- marks

pub marked_length : (a b : ℕ) (m : List ℕ) → length (marked a b m) ≡ length m
marked_length a b m = length_written word_bits (between a b) true m

pub marked_words : (a b : ℕ) (m : List ℕ) → Words m → Words (marked a b m)
marked_words a b m h j = ⊎_elim inside outside (lt_or_le j (length m))
  where
    inside : j < length m → get_or (marked a b m) j 0 < 2 ^ 64
    inside l = written_lt word_bits (between a b) true m j l (h j)

    outside : length m ≤ j → get_or (marked a b m) j 0 < 2 ^ 64
    outside l = rw (get_or-eq_default (marked a b m) 0 {n = j} (omega (arith, marked_length a b m))) (omega arith)

-- a chunk registered already is marked as it is
marked_again : (c : ℕ) (m : List ℕ) → Words m → bit_at word_bits m c ≡ true → marked c (c + 1) m ≡ m
marked_again c m h t =
    map_ext word_bits (marked c (c + 1) m) m (omega arith) (marked_length c (c + 1) m) (marked_words c (c + 1) m h) h
    (λ q l. page_written word_bits (between c (c + 1)) true m q (omega arith) l ∙ same q (between c (c + 1) q) refl)
  where
    same : (q : ℕ) (b : Bool) → between c (c + 1) q ≡ b → cond b true (bit_at word_bits m q) ≡ bit_at word_bits m q
    same q true e =
        let d : q ≡ c = omega (arith, between_from c (c + 1) q e, between_to c (c + 1) q e) in
        sym (ap (bit_at word_bits m) d ∙ t)
    same q false e = refl

pub marked_on : (a b d : ℕ) (m : List ℕ) → a ≤ b → b ≤ d → marked b d (marked a b m) ≡ marked a d m
marked_on a b d m h k = both word_bits (between b d) (between a b) (between a d) true m (λ q. between_join a b d q h k)

pub marked_none : (a : ℕ) (m : List ℕ) → marked a a m ≡ m
marked_none a m = sym (run_none word_bits true m a)

-- another chunk is registered as before
marked_other : (c q : ℕ) (m : List ℕ) → c < q → bit_at word_bits (marked c (c + 1) m) q ≡ bit_at word_bits m q
marked_other c q m h =
    page_law word_bits (between c (c + 1)) true m q (omega arith)
    ∙ ap (λ (b : Bool). cond (b && ltb (q / word_bits) (length m)) true (bit_at word_bits m q)) (between_false c (c + 1) q (λ x y. omega arith))

-- ---- tests that agree from c on are passed alike

first_agree : (P Q : ℕ → Bool) (n c : ℕ) → ((q : ℕ) → c ≤ q → P q ≡ Q q) → first_not_of P c n ≡ first_not_of Q c n
unfolding first_not_of
first_agree P Q zero c h = refl
first_agree P Q (suc n) c h =
    ap₂ (λ (b : Bool) (k : ℕ). cond b k c) (h c (omega arith)) (first_agree P Q n (suc c) (λ q l. h q (omega arith)))

-- ---- a call that has ended is followed no further

pub follow_ended : (o : Outcome) (bs : List Bool) → o.reply.asked ≡ 0 → follow o bs ≡ record { asked = []; last = o }
unfolding follow
follow_ended o [] h = rw h
follow_ended o (b ∷ bs) h = rw h

pub says_at : (m n : ℕ) (r : Reply) (x : Status) → m ≡ n → Says m r x → Says n r x
says_at m n r x e h = subst (λ (k : ℕ). Says k r x) e h

pub match_ask : (k o : ℕ) (p : MemoryRange) (a : MemoryRange) (t : Told) (w : Whole) → a ≡ offered o p → Match (k + 1) t w → Match k (before a t) (asking o p w)
match_ask k o p a t w e h =
    record {
      same_asked = ap₂ (λ (x : MemoryRange) (l : List MemoryRange). x ∷ l) e h.same_asked;
      same_registered = h.same_registered;
      same_failed = h.same_failed;
      same_reply = says_at (k + 1 + length w.asked) (k + suc (length w.asked)) t.last.reply w.status (omega arith) h.same_reply;
    }

pub match_told : (k : ℕ) (t u : Told) (w : Whole) → t ≡ u → Match k u w → Match k t w
match_told k t u w e h = subst (λ (x : Told). Match k x w) (sym e) h

-- ---- the registrar under way: its state block is the request's words and a tail that no answer changes

module _ (tail f : List ℕ) (last : ℕ) where
  abbrev g : ℕ
  g = get_or tail 1 0

  abbrev o : ℕ
  o = get_or tail 0 0

  abbrev es : List MemoryRangeWithNode
  es = entries_of (take (3 * get_or tail 2 0) (drop 3 tail))

  abbrev rs : List MemoryRange
  rs = spans es

  abbrev at : Request → List ℕ → Buffers
  at q r = buffers (request_words q ++ tail) r f

  -- what it gives where it goes on from chunk c, having asked k times
  abbrev from : Request → List ℕ → ℕ → ℕ → Outcome
  from q r k c = carried_out (at q r) (register_from (chunk_state g es r f) o (k % 2 ^ 64) c last)

  -- what it gives where it asks for a piece of chunk c
  abbrev asks_piece : List ℕ → ℕ → ℕ → MemoryRange → Outcome
  asks_piece r k c p =
      let q : Request = piece_of (k % 2 ^ 64) c (c + 1) last p in
      outcome (request_words q ++ tail) r f (flat_of (asked_of o q))

  module _ (long : length tail ≡ 99) (f_long : length f ≡ map_words g es) (asc : Ascend 0 rs) (low : last ≤ chunk_count g es) where
    -- no answer is refused
    not_refused_lem : (q : Request) (r : List ℕ) → q.kind ≡ kind.register → length r ≡ map_words g es → answer_refusal (at q r) ≡ 0
    unfolding answer_refusal
    not_refused_lem q r h l =
        rw (eq-eqb (length (request_words q ++ tail)) registrar_len (omega arith), eq-eqb (length r) (map_words g es) l, eq-eqb (length f) (map_words g es) f_long, h)

    -- a piece and those after it
    module _ (c : ℕ) (r : List ℕ) (r_long : length r ≡ map_words g es) (next : List Bool → Whole)
        (on : (k : ℕ) (q : Request) (bs : List Bool) → Match k (follow (from q (marked c (c + 1) r) k (c + 1)) bs) (next bs)) where
      failed_now : (k : ℕ) (p : MemoryRange) → failed_of (asks_piece r k c p).buffers
          ≡ outcome (request_words idle ++ tail) r (marked c (c + 1) f) (flat_of (RegistrationFailed p.start ((k + 1) % 2 ^ 64)))
      unfolding failed_of
      failed_now k p =
          let q : Request = piece_of (k % 2 ^ 64) c (c + 1) last p in
          rw (not_refused_lem q r refl r_long, counted k)

      done_last : (k : ℕ) (p : MemoryRange) → pieces p.end ((c + 1) * g) rs ≡ [] → done_of (asks_piece r k c p).buffers ≡ from idle (marked c (c + 1) r) (k + 1) (c + 1)
      unfolding done_of
      done_last k p h =
          let q : Request = piece_of (k % 2 ^ 64) c (c + 1) last p in
          rw (not_refused_lem q r refl r_long, h, counted k)

      done_more : (k : ℕ) (p p' : MemoryRange) (ps : List MemoryRange) → pieces p.end ((c + 1) * g) rs ≡ p' ∷ ps → done_of (asks_piece r k c p).buffers ≡ asks_piece r (k + 1) c p'
      unfolding done_of
      done_more k p p' ps h =
          let q : Request = piece_of (k % 2 ^ 64) c (c + 1) last p in
          rw (not_refused_lem q r refl r_long, h, piece_some p.end ((c + 1) * g) rs p' ps h, marked_none c r, marked_none 0 r, counted k)

      offer_match : (ps : List MemoryRange) (k : ℕ) (p : MemoryRange) (bs : List Bool) → pieces p.end ((c + 1) * g) rs ≡ ps
          → Match k (follow (asks_piece r k c p) bs) (offer o c (p ∷ ps) bs r f next)
      unfolding follow offer
      offer_match ps k p [] h = record { same_asked = refl; same_registered = refl; same_failed = refl; same_reply = refl }
      offer_match ps k p (false ∷ bs) h =
          match_ask k o p _ (follow (failed_of (asks_piece r k c p).buffers) bs) (ended r (marked c (c + 1) f) (FailedAt p.start)) refl
          (match_told (k + 1) _ _ _ (ap (λ (x : Outcome). follow x bs) (failed_now k p) ∙ follow_ended _ bs refl)
          (record { same_asked = refl; same_registered = refl; same_failed = refl; same_reply = ap (λ (n : ℕ). flat_of (RegistrationFailed p.start (n % 2 ^ 64))) (omega arith) }))
      offer_match [] k p (true ∷ bs) h =
          match_ask k o p _ (follow (done_of (asks_piece r k c p).buffers) bs) (next bs) refl
          (match_told (k + 1) _ _ _ (ap (λ (x : Outcome). follow x bs) (done_last k p h)) (on (k + 1) idle bs))
      offer_match (p' ∷ ps) k p (true ∷ bs) h =
          match_ask k o p _ (follow (done_of (asks_piece r k c p).buffers) bs) (offer o c (p' ∷ ps) bs r f next) refl
          (match_told (k + 1) _ _ _ (ap (λ (x : Outcome). follow x bs) (done_more k p p' ps h)) (offer_match ps (k + 1) p' bs (pieces_rest p.end ((c + 1) * g) 0 rs p' ps asc h)))

    -- ---- the chunks in turn

    module _ (q : Request) (k c : ℕ) where
      -- where the walk has stopped at chunk t
      stopped : ℕ → ℕ → Plan
      stopped c t =
          cond (ltb t (min last (chunk_count g es)))
          (cond (bit_at word_bits f t) (ends c t (RegistrationFailed (t * g) (k % 2 ^ 64))) (asks o c t (piece_of (k % 2 ^ 64) t (t + 1) last (ram_from g es t (t * g)))))
          (ends c t (Done (k % 2 ^ 64)))

      moved : (r : List ℕ) (t : ℕ) → c + 1 ≤ t → carried_out (at q r) (stopped c t) ≡ carried_out (at q (marked c (c + 1) r)) (stopped (c + 1) t)
      unfolding stopped
      moved r t h = go (ltb t (min last (chunk_count g es))) (bit_at word_bits f t)
        where
          m : marked c t r ≡ marked (c + 1) t (marked c (c + 1) r)
          m = sym (marked_on c (c + 1) t r (omega arith) h)

          go : (x y : Bool)
              → carried_out (at q r) (cond x (cond y (ends c t (RegistrationFailed (t * g) (k % 2 ^ 64))) (asks o c t (piece_of (k % 2 ^ 64) t (t + 1) last (ram_from g es t (t * g))))) (ends c t (Done (k % 2 ^ 64))))
              ≡ carried_out (at q (marked c (c + 1) r)) (cond x (cond y (ends (c + 1) t (RegistrationFailed (t * g) (k % 2 ^ 64))) (asks o (c + 1) t (piece_of (k % 2 ^ 64) t (t + 1) last (ram_from g es t (t * g))))) (ends (c + 1) t (Done (k % 2 ^ 64))))
          go false y = ap (λ (l : List ℕ). outcome (request_words idle ++ tail) l f (flat_of (Done (k % 2 ^ 64)))) m
          go true true = ap (λ (l : List ℕ). outcome (request_words idle ++ tail) l f (flat_of (RegistrationFailed (t * g) (k % 2 ^ 64)))) m
          go true false =
              let v : Request = piece_of (k % 2 ^ 64) t (t + 1) last (ram_from g es t (t * g)) in
              ap (λ (l : List ℕ). outcome (request_words v ++ tail) l f (flat_of (asked_of o v))) m

      walked : (r : List ℕ) (d : ℕ) → first_not (passes (chunk_state g es r f)) d (min last (chunk_count g es)) ≡ first_not (passes (chunk_state g es r f)) d last
      walked r d = let e : min last (chunk_count g es) ≡ last = omega arith in ap (first_not (passes (chunk_state g es r f)) d) e

      skip : (r : List ℕ) → c < last → passes (chunk_state g es r f) c ≡ true → from q r k c ≡ from q (marked c (c + 1) r) k (c + 1)
      unfolding register_from stopped
      skip r h p =
          let P : ℕ → Bool = passes (chunk_state g es r f) in
          let Q : ℕ → Bool = passes (chunk_state g es (marked c (c + 1) r) f) in
          let t : ℕ = first_not P (c + 1) last in
          let u : first_not P c (min last (chunk_count g es)) ≡ t = walked r c ∙ first_step P c last h p in
          let v : t ≡ first_not Q (c + 1) (min last (chunk_count g es)) =
          first_agree P Q (last - (c + 1)) (c + 1) (λ d l. ap (λ (b : Bool). b || (not (bit_at word_bits f d) && empty (ram_from g es d (d * g)))) (sym (marked_other c d r (omega arith))))
          ∙ sym (walked (marked c (c + 1) r) (c + 1)) in
          ap (λ (n : ℕ). carried_out (at q r) (stopped c n)) u ∙ moved r t (first_from P (c + 1) last) ∙ ap (λ (n : ℕ). carried_out (at q (marked c (c + 1) r)) (stopped (c + 1) n)) v

      here : (r : List ℕ) (t : Plan) → stopped c c ≡ t → first_not (passes (chunk_state g es r f)) c last ≡ c → from q r k c ≡ carried_out (at q r) t
      unfolding register_from stopped
      here r t e u = ap (λ (n : ℕ). carried_out (at q r) (stopped c n)) (walked r c ∙ u) ∙ ap (carried_out (at q r)) e

      over : (r : List ℕ) → last ≤ c → from q r k c ≡ outcome (request_words idle ++ tail) r f (flat_of (Done (k % 2 ^ 64)))
      unfolding stopped
      over r h =
          here r (ends c c (Done (k % 2 ^ 64))) (rw (le-ltb c (min last (chunk_count g es)) (omega arith))) (first_end (passes (chunk_state g es r f)) c last h)
          ∙ ap (λ (l : List ℕ). outcome (request_words idle ++ tail) l f (flat_of (Done (k % 2 ^ 64)))) (marked_none c r)

      module _ (r : List ℕ) (h : c < last) (n : passes (chunk_state g es r f) c ≡ false) where
        bad : bit_at word_bits f c ≡ true → from q r k c ≡ outcome (request_words idle ++ tail) r f (flat_of (RegistrationFailed (c * g) (k % 2 ^ 64)))
        unfolding stopped
        bad b =
            here r (ends c c (RegistrationFailed (c * g) (k % 2 ^ 64))) (rw (lt-ltb c (min last (chunk_count g es)) (omega arith), b)) (first_stop (passes (chunk_state g es r f)) c last h n)
            ∙ ap (λ (l : List ℕ). outcome (request_words idle ++ tail) l f (flat_of (RegistrationFailed (c * g) (k % 2 ^ 64)))) (marked_none c r)

        asked_for_lem : bit_at word_bits f c ≡ false → (p : MemoryRange) → ram_from g es c (c * g) ≡ p → from q r k c ≡ asks_piece r k c p
        unfolding stopped
        asked_for_lem b p e =
            here r (asks o c c (piece_of (k % 2 ^ 64) c (c + 1) last p)) (rw (lt-ltb c (min last (chunk_count g es)) (omega arith), b, e)) (first_stop (passes (chunk_state g es r f)) c last h n)
            ∙ ap (λ (l : List ℕ). outcome (request_words (piece_of (k % 2 ^ 64) c (c + 1) last p) ++ tail) l f (flat_of (asked_of o (piece_of (k % 2 ^ 64) c (c + 1) last p)))) (marked_none c r)

    chunks_match : (n c k : ℕ) (q : Request) (r : List ℕ) (bs : List Bool) → last - c ≡ n → length r ≡ map_words g es → Words r
        → Match k (follow (from q r k c) bs) (whole_chunks o g rs n c r f bs)
    unfolding whole_chunks offer
    chunks_match zero c k q r bs e l w =
        match_told k _ _ _ (ap (λ (x : Outcome). follow x bs) (over q k c r (omega arith)) ∙ follow_ended _ bs refl)
        (record { same_asked = refl; same_registered = refl; same_failed = refl; same_reply = ap (λ (n : ℕ). flat_of (Done (n % 2 ^ 64))) (omega arith) })
    chunks_match (suc n) c k q r bs e l w =
        go (bit_at word_bits r c) refl (bit_at word_bits f c) refl (pieces (c * g) ((c + 1) * g) rs) refl
        (λ k q r bs l w. chunks_match n (c + 1) k q r bs (omega arith) l w)
      where
        go : (x : Bool) → bit_at word_bits r c ≡ x → (y : Bool) → bit_at word_bits f c ≡ y → (ps : List MemoryRange) → pieces (c * g) ((c + 1) * g) rs ≡ ps
            → ((k : ℕ) (q : Request) (r : List ℕ) (bs : List Bool) → length r ≡ map_words g es → Words r → Match k (follow (from q r k (c + 1)) bs) (whole_chunks o g rs n (c + 1) r f bs))
            → Match k (follow (from q r k c) bs)
            (cond x (whole_chunks o g rs n (c + 1) r f bs) (cond y (ended r f (FailedAt (c * g))) (offer o c ps bs r f (λ bs. whole_chunks o g rs n (c + 1) (marked c (c + 1) r) f bs))))
        go true hx y hy ps hp more =
            match_told k _ _ _ (ap (λ (x : Outcome). follow x bs) (skip q k c r (omega arith) (rw hx) ∙ ap (λ (m : List ℕ). from q m k (c + 1)) (marked_again c r w hx))) (more k q r bs l w)
        go false hx true hy ps hp more =
            match_told k _ _ _ (ap (λ (x : Outcome). follow x bs) (bad q k c r (omega arith) (rw (hx, hy)) hy) ∙ follow_ended _ bs refl)
            (record { same_asked = refl; same_registered = refl; same_failed = refl; same_reply = ap (λ (n : ℕ). flat_of (RegistrationFailed (c * g) (n % 2 ^ 64))) (omega arith) })
        go false hx false hy [] hp more =
            match_told k _ _ _ (ap (λ (x : Outcome). follow x bs) (skip q k c r (omega arith) (rw (hx, hy, hp))))
            (more k q (marked c (c + 1) r) bs (marked_length c (c + 1) r ∙ l) (marked_words c (c + 1) r w))
        go false hx false hy (p ∷ ps) hp more =
            match_told k _ _ _
            (ap (λ (x : Outcome). follow x bs) (asked_for_lem q k c r (omega arith) (rw (hx, hy, hp, piece_some (c * g) ((c + 1) * g) rs p ps hp)) hy p (ap first_of hp)))
            (offer_match c r l (λ bs. whole_chunks o g rs n (c + 1) (marked c (c + 1) r) f bs)
            (λ k q bs. more k q (marked c (c + 1) r) bs (marked_length c (c + 1) r ∙ l) (marked_words c (c + 1) r w)) ps k p bs (pieces_rest (c * g) ((c + 1) * g) 0 rs p ps asc hp))

-- ---- from the call on

-- an empty request, wherever it lies
nothing_touched : (tail f r : List ℕ) (q : Request) (first last : ℕ) (bs : List Bool) → last ≤ first
    → Match 0 (follow (from tail f last q r 0 first) bs) (ended r f Ok)
nothing_touched tail f r q first last bs h =
    let s : ChunkState = chunk_state (g tail f last) (es tail f last) r f in
    let e : ℕ = min last (chunk_count (g tail f last) (es tail f last)) in
    let d : ends first first (Done 0) ≡ register_from s (o tail f last) 0 first last =
    register_done s (o tail f last) 0 first last e first refl (sym (first_end (passes s) first e (omega arith))) (ends first first (Done 0)) (omega arith) refl in
    match_told 0 _ _ _
    (ap (λ (x : Outcome). follow x bs)
    (ap (carried_out (at tail f last q r)) (sym d) ∙ ap (λ (l : List ℕ). outcome (request_words idle ++ tail) l f (flat_of (Done 0))) (marked_none first r))
    ∙ follow_ended _ bs refl)
    (record { same_asked = refl; same_registered = refl; same_failed = refl; same_reply = refl })

register_at : (tail f r : List ℕ) (q : Request) (address len : ℕ) (bs : List Bool) → let w : Buffers = buffers (request_words q ++ tail) r f in
    register_refusal w address len ≡ 0 → ordered 0 (entries_in w.state) ≡ true → Words r → Match 0 (follow (register_of w address len) bs) (whole_register w address len bs)
unfolding register_of register_refusal whole_register whole_chunks
register_at tail f r q address len bs z ord wr =
    let w : Buffers = buffers (request_words q ++ tail) r f in
    let g : ℕ = get_or tail 1 0 in
    let first : ℕ = first_chunk g address in
    let last : ℕ = end_chunk g address len in
    let a = passed (eqb (length (request_words q ++ tail)) registrar_len) 3 _ z in
    let b = passed (eqb q.kind kind.none) 18 _ a.1 in
    let d = passed (lengths_fit g (entries_in w.state) r f) 3 _ b.1 in
    let e = passed (chunks_fit w.state (first_chunk (granularity_of w.state) address) (end_chunk (granularity_of w.state) address len)) 8 _ d.1 in
    let l : length (request_words q ++ tail) ≡ registrar_len = eqb-true _ _ a.0 in
    let rl : length r ≡ map_words g (entries_in w.state) = eqb-true _ _ (and_left _ _ d.0) in
    let fl : length f ≡ map_words g (entries_in w.state) = eqb-true _ _ (and_right (eqb (length r) (map_words g (entries_in w.state))) _ d.0) in
    rw (eq-eqb (register_refusal w address len) 0 z)
    (⊎_elim (λ x. empty_request (last - first) (omega (arith, leb-true last first x)) (nothing_touched tail f r q first last bs (leb-true last first x)))
    (λ x. chunks_match tail f last (omega arith) fl (spans_ascend (entries_in w.state) ord) (leb-true last (chunk_count g (entries_in w.state)) x) (last - first) first 0 q r bs refl rl wr)
    (or_true (leb last first) (leb last (chunk_count g (entries_in w.state))) e.0))
  where
    empty_request : (n : ℕ) → n ≡ 0 → Match 0 (follow (from tail f (end_chunk (get_or tail 1 0) address len) q r 0 (first_chunk (get_or tail 1 0) address)) bs) (ended r f Ok)
        → Match 0 (follow (from tail f (end_chunk (get_or tail 1 0) address len) q r 0 (first_chunk (get_or tail 1 0) address)) bs)
        (whole_chunks (get_or tail 0 0) (get_or tail 1 0) (spans (entries_in (request_words q ++ tail))) n (first_chunk (get_or tail 1 0) address) r f bs)
    empty_request zero e m = m
    empty_request (suc n) e m = absurd (omega arith)

-- THE CLAIM: after any answers the steps have asked for the ranges that the whole call asks for, in its order, and have left its bitmaps; what they reply
-- is how it stands, with the count of its operations. Of a registrar as a build leaves it or as calls have left it: a layout in order, words of 64 bits
pub register_is_whole : (w : Buffers) (address len : ℕ) (bs : List Bool) → register_refusal w address len ≡ 0 → ordered 0 (entries_in w.state) ≡ true
    → Words w.registered → Match 0 (follow (register_of w address len) bs) (whole_register w address len bs)
register_is_whole w address len bs z ord h =
    let l : length w.state ≡ registrar_len = register_long w address len z in
    let e : w.state ≡ request_words (request_of w.state) ++ drop place.after_request w.state = split_state w.state (omega arith) in
    go w.state e z ord
  where
    go : (s : List ℕ) → s ≡ request_words (request_of s) ++ drop place.after_request s → register_refusal (buffers s w.registered w.failed) address len ≡ 0 → ordered 0 (entries_in s) ≡ true
        → Match 0 (follow (register_of (buffers s w.registered w.failed) address len) bs) (whole_register (buffers s w.registered w.failed) address len bs)
    go s e z ord =
        subst
        (λ (t : List ℕ). Match 0 (follow (register_of (buffers t w.registered w.failed) address len) bs) (whole_register (buffers t w.registered w.failed) address len bs)) (sym e)
        (register_at (drop place.after_request s) w.failed w.registered (request_of s) address len bs
        (subst (λ (t : List ℕ). register_refusal (buffers t w.registered w.failed) address len ≡ 0) e z) (subst (λ (t : List ℕ). ordered 0 (entries_in t) ≡ true) e ord) h)
