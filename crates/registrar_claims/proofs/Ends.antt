-- Every request ends: each answer that is taken lowers the number `left`, and nothing refused changes it. Assumes nothing.
use native.Mathlib.Omega.{arith}
use mathlib.Core.Path.{◌≡◌, refl, sym, ap, ◌∙◌}
use mathlib.Core.Logic.{◌⊎◌, inl, inr, ⊎_elim}
use mathlib.Core.Bool.{Bool, true, false, not, cond, ◌||◌, ◌&&◌}
use mathlib.Core.List.{List, [], ◌∷◌}
use Prim.Native.Nat.{ℕ, zero, suc, ◌+◌, ◌-◌, ◌*◌, ◌/◌, ◌^◌, ◌≤◌, ◌<◌, min, max}
use native.Mathlib.Nat.{mul-le-mul_right, suc-mul}
use lib.Dec.{eqb, leb, ltb}
use lib.ListN.{length, replicate}
use borrow.Author.Tests.{eqb-false, eq-eqb, ne_eqb, ltb-true, leb-false, not-true, not-false}
use Rattle.abi.specs.Kinds as kind
use Rattle.abi.specs.Refusals as refusal
use Rattle.abi.specs.Lengths.{registrar_len, word_bits}
use Rattle.laws.specs.Bools.{digit, and_right, both_true, false≢true}
use Rattle.laws.specs.Refusal.{unless, passed, when_passed}
use Rattle.bitmap.specs.Pages.{bit_at}
use Rattle.layout.specs.declared.MemoryRange.{MemoryRange}
use Rattle.layout.specs.Layout.{spans}
use Rattle.chunks.specs.Chunks.{chunk_count, first_chunk, end_chunk, is_power, empty, part, pieces, first_of, first_not_of, first_not, alike, aligned_part, edge_of}
use Rattle.chunks.proofs.Scan.{first_step, first_from}
use Rattle.registrar_steps.specs.declared.Request.{Request}
use Rattle.registrar_steps.specs.declared.Answer.TheVariants.{Done, RegistrationFailed}
use Rattle.registrar_steps.specs.declared.Look.{Look}
use Rattle.registrar_steps.specs.declared.Look.TheVariants.{Nothing, Edge, FailedBefore, Stretch}
use Rattle.registrar_steps.specs.Steps.{ChunkState, asks, ends, more, ram_from, passes, piece_of, register_from, stretch_in, look_at, found, all_from}
use Rattle.registrar_state.specs.Buffers.{Buffers, Outcome, request_of, offset_of, granularity_of, entries_in, chunk_state_in, decided, build_refusal, build_of, lengths_fit, call_refusal, chunks_fit, register_refusal, all_refusal, carried_out, register_plan, all_plan, register_of, all_of, answer_refusal, failed_of, rest_of, has_rest, done_plan, after_taken, done_of}
use Rattle.registrar_claims.specs.Runs.{Call, Build, RegisterRange, RegisterAll, AnswerDone, AnswerFailed, give, is_build, is_taken, under_way, left_of, left, after, taken_in, is_answer, only_answers, answers_in}
use Rattle.registrar_claims.specs.Ends.{RequestEnds}
use Rattle.registrar_claims.proofs.Refusals.{answer_taken, refused_keeps}
use Rattle.registrar_claims.proofs.Built.{Sound, call_sound, always_sound, sound_from}
use Rattle.registrar_claims.proofs.Stands.{taken_zero, answer_passes, done_taken, failed_taken, done_refused, failed_refused}

module _ (P : ℕ → Bool) where
  first_of_not : (n c : ℕ) → first_not_of P c n < c + n → P (first_not_of P c n) ≡ false
  unfolding first_not_of
  first_of_not zero c h = absurd (omega arith)
  first_of_not (suc n) c h = go (P c) refl h (first_of_not n (suc c))
    where
      go : (t : Bool) → P c ≡ t → cond t (first_not_of P (suc c) n) c < c + suc n → (first_not_of P (suc c) n < suc c + n → P (first_not_of P (suc c) n) ≡ false)
          → P (cond t (first_not_of P (suc c) n) c) ≡ false
      go true e h more = more (omega arith)
      go false e h more = e

  -- where it stops before the end, P does not hold
  pub first_not_lem : (c e : ℕ) → first_not P c e < e → P (first_not P c e) ≡ false
  first_not_lem c e h = first_of_not (e - c) c (omega (arith, first_from P c e))

-- a plan that asks goes past chunk c
abbrev Past : ℕ → Request → Type 0
Past c q = (q.kind ≡ kind.none) ⊎ (c < q.to)

register_past : (s : ChunkState) (o n c last : ℕ) → Past c (register_from s o n c last).request
unfolding register_from
register_past s o n c last =
    let e : ℕ = min last (chunk_count s.granularity s.entries) in
    let t : ℕ = first_not (passes s) c e in
    go t (first_from (passes s) c e) (ltb t e) (bit_at word_bits s.failed t)
  where
    go : (t : ℕ) → c ≤ t → (x y : Bool)
        → Past c (cond x (cond y (ends c t (RegistrationFailed (t * s.granularity) n)) (asks o c t (piece_of n t (t + 1) last (ram_from s.granularity s.entries t (t * s.granularity))))) (ends c t (Done n))).request
    go t h false y = inl refl
    go t h true true = inl refl
    go t h true false = inr (omega arith)

-- a stretch is not empty
module _ (registered failed : List ℕ) where
  not_alike : (x y : Bool) → (not x && y) ≡ false → x ≡ false → (not x && not y) ≡ true
  not_alike x y h e = go x y e h
    where
      go : (x y : Bool) → x ≡ false → (not x && y) ≡ false → (not x && not y) ≡ true
      go true y e h = false≢true (sym e)
      go false true e h = false≢true (sym h)
      go false false e h = refl

  stretch_past : (c e : ℕ) → let a : ℕ = first_not (alike registered failed true) c e in a < e → bit_at word_bits failed a ≡ false → c < first_not (alike registered failed false) a e
  stretch_past c e h f =
      let a : ℕ = first_not (alike registered failed true) c e in
      let n : alike registered failed true a ≡ false = first_not_lem (alike registered failed true) c e h in
      let y : alike registered failed false a ≡ true = not_alike (bit_at word_bits failed a) (bit_at word_bits registered a) n f in
      let q = first_step (alike registered failed false) a e h y in
      omega (arith, q, first_from (alike registered failed false) (a + 1) e, first_from (alike registered failed true) c e)

-- what is found at or after chunk c ends after it
abbrev StretchPast : ℕ → Look → Type 0
StretchPast c Nothing = Unit {0}
StretchPast c (Edge e) = Unit {0}
StretchPast c (FailedBefore x) = Unit {0}
StretchPast c (Stretch a b x y) = c < b

module _ (g : ℕ) (registered failed : List ℕ) (c d e : ℕ) (l : d ≤ c) where
  abbrev a : ℕ
  a = first_not (alike registered failed true) c e

  abbrev b : ℕ
  b = first_not (alike registered failed false) a e

  in_past : StretchPast d (stretch_in g registered failed c e)
  in_past = go (ltb a e) refl (bit_at word_bits failed a) refl (ltb b e && bit_at word_bits failed b)
    where
      go : (x : Bool) → ltb a e ≡ x → (y : Bool) → bit_at word_bits failed a ≡ y → (z : Bool)
          → StretchPast d (cond x (cond y (FailedBefore (a * g)) (cond z (FailedBefore (b * g)) (Stretch a b (a * g) (b * g)))) Nothing)
      go false hx y hy z = tt
      go true hx true hy z = tt
      go true hx false hy true = tt
      go true hx false hy false = omega (arith, stretch_past registered failed c e (ltb-true a e hx) hy)

look_past : (g : ℕ) (registered failed : List ℕ) (al ignore c : ℕ) (r : MemoryRange) → StretchPast c (look_at g registered failed al ignore c r)
unfolding look_at
look_past g registered failed al ignore c r =
    let p : MemoryRange = aligned_part al r in
    go (eqb ignore 0 && not (empty (edge_of al r))) (empty p) (in_past g registered failed (max c (p.start / g)) c (p.end / g) (omega arith))
  where
    go : (x y : Bool) → StretchPast c (stretch_in g registered failed (max c ((aligned_part al r).start / g)) ((aligned_part al r).end / g))
        → StretchPast c (cond x (Edge (edge_of al r)) (cond y Nothing (stretch_in g registered failed (max c ((aligned_part al r).start / g)) ((aligned_part al r).end / g))))
    go true y h = tt
    go false true h = tt
    go false false h = h

all_past : (s : ChunkState) (o n al ignore c : ℕ) (rs : List MemoryRange) → Past c (all_from s o n al ignore c rs).request
unfolding all_from
all_past s o n al ignore c [] = inl refl
all_past s o n al ignore c (r ∷ rs) =
    go (look_at s.granularity s.registered s.failed al ignore c r) (look_past s.granularity s.registered s.failed al ignore c r) (all_past s o n al ignore c rs)
  where
    go : (l : Look) → StretchPast c l → Past c (all_from s o n al ignore c rs).request → Past c (found s.entries o n al ignore r l (all_from s o n al ignore c rs)).request
    go Nothing k h = h
    go (Edge e) k h = inl refl
    go (FailedBefore x) k h = inl refl
    go (Stretch a b x y) k h = inr k

-- the RAM that is left of a chunk ends after x
pieces_past : (x y : ℕ) (rs : List MemoryRange) → empty (first_of (pieces x y rs)) ≡ false → x < (first_of (pieces x y rs)).end
unfolding pieces
pieces_past x y [] h = false≢true (sym h)
pieces_past x y (r ∷ rs) h = go (empty (part x y r)) refl h (pieces_past x y rs)
  where
    go : (t : Bool) → empty (part x y r) ≡ t → empty (first_of (cond t (pieces x y rs) (part x y r ∷ pieces x y rs))) ≡ false
        → (empty (first_of (pieces x y rs)) ≡ false → x < (first_of (pieces x y rs)).end)
        → x < (first_of (cond t (pieces x y rs) (part x y r ∷ pieces x y rs))).end
    go true e h more = more h
    go false e h more = omega (arith, leb-false (part x y r).end (part x y r).start e)

-- ---- what a plan leaves is less

-- first by the chunk, then by the byte
lex : (k a a' b b' : ℕ) → a' < a → b' < k → suc (a' * k + b') < suc (a * k + b)
lex k a a' b b' h l = omega (arith, mul-le-mul_right {m = suc a'} {n = a} k h, suc-mul a' k)

less_past : (q r : Request) → q.to < 2 ^ 64 → (q.kind ≡ kind.none → ⊥) → Past q.to r → left_of r < left_of q
less_past q r b k h =
    rw (ne_eqb q.kind kind.none k)
    (⊎_elim (λ z. rw (eq-eqb r.kind kind.none z) (omega arith)) (λ l. bounded (eqb r.kind kind.none) l) h)
  where
    bounded : (t : Bool) → q.to < r.to → cond t 0 (suc ((2 ^ 64 - r.to) * 2 ^ 65 + (2 ^ 64 - r.end))) < suc ((2 ^ 64 - q.to) * 2 ^ 65 + (2 ^ 64 - q.end))
    bounded true l = omega arith
    bounded false l = lex (2 ^ 65) (2 ^ 64 - q.to) (2 ^ 64 - r.to) (2 ^ 64 - q.end) (2 ^ 64 - r.end) (omega arith) (omega arith)

-- something is asked where an answer is taken
asked_kind : (w : Buffers) → answer_refusal w ≡ 0 → (request_of w.state).kind ≡ kind.none → ⊥
unfolding answer_refusal
asked_kind w h =
    let a = passed (eqb (length w.state) registrar_len) 3 _ h in
    let b = passed (lengths_fit (granularity_of w.state) (entries_in w.state) w.registered w.failed) 3 _ a.1 in
    let d = when_passed (eqb (request_of w.state).kind kind.none) 20 _ b.1 in
    eqb-false _ _ d.0

plan_lowers : (w : Buffers) → ((request_of w.state).kind ≡ kind.none → ⊥) → (request_of w.state).to < 2 ^ 64 → (request_of w.state).end < 2 ^ 64
    → left_of (done_plan w).request < left w
plan_lowers w k bt be =
    let q : Request = request_of w.state in
    go (has_rest w.state) refl (eqb q.kind kind.register)
    (less_past q (register_from (chunk_state_in w) (offset_of w.state) q.count q.to q.until).request bt k (register_past (chunk_state_in w) (offset_of w.state) q.count q.to q.until))
    (less_past q (all_from (chunk_state_in w) (offset_of w.state) q.count q.alignment q.ignore q.to (spans (entries_in w.state))).request bt k
    (all_past (chunk_state_in w) (offset_of w.state) q.count q.alignment q.ignore q.to (spans (entries_in w.state))))
  where
    go : (x : Bool) → has_rest w.state ≡ x → (y : Bool)
        → left_of (register_from (chunk_state_in w) (offset_of w.state) (request_of w.state).count (request_of w.state).to (request_of w.state).until).request < left w
        → left_of (all_from (chunk_state_in w) (offset_of w.state) (request_of w.state).count (request_of w.state).alignment (request_of w.state).ignore (request_of w.state).to (spans (entries_in w.state))).request < left w
        → left_of (cond x (asks (offset_of w.state) 0 0 (piece_of (request_of w.state).count (request_of w.state).from (request_of w.state).to (request_of w.state).until (rest_of w.state)))
        (cond y (register_from (chunk_state_in w) (offset_of w.state) (request_of w.state).count (request_of w.state).to (request_of w.state).until)
        (all_from (chunk_state_in w) (offset_of w.state) (request_of w.state).count (request_of w.state).alignment (request_of w.state).ignore (request_of w.state).to (spans (entries_in w.state))))).request < left w
    go true e y h g =
        let p = pieces_past (request_of w.state).end (((request_of w.state).from + 1) * granularity_of w.state) (spans (entries_in w.state)) (not-true _ (and_right (eqb (request_of w.state).kind kind.register) _ e)) in
        rw (ne_eqb (request_of w.state).kind kind.none k) (omega arith)
    go false e true h g = h
    go false e false h g = g

-- THE CLAIM: an answer that is not refused lowers the number
pub failed_lowers : (w : Buffers) → answer_refusal w ≡ 0 → left (failed_of w).buffers < left w
unfolding failed_of
failed_lowers w h = rw (eq-eqb (answer_refusal w) 0 h) (rw (ne_eqb (request_of w.state).kind kind.none (asked_kind w h)) (omega arith))

pub done_lowers : (w : Buffers) → answer_refusal w ≡ 0 → (request_of w.state).to < 2 ^ 64 → (request_of w.state).end < 2 ^ 64 → left (done_of w).buffers < left w
unfolding done_of
done_lowers w h bt be = rw (eq-eqb (answer_refusal w) 0 h) (plan_lowers (after_taken w) (asked_kind w h) bt be)

-- ---- one call

done_number : (w : Buffers) → is_taken (done_of w) ≡ true → answer_refusal w ≡ 0
unfolding done_of
done_number w h = taken_zero w (answer_refusal w) (carried_out (after_taken w) (done_plan (after_taken w))) (answer_taken w) h

failed_number : (w : Buffers) → is_taken (failed_of w) ≡ true → answer_refusal w ≡ 0
unfolding failed_of
failed_number w h = taken_zero w (answer_refusal w) _ (answer_taken w) h

answer_lowers : (w : Buffers) (x : Call) → Sound w → is_answer x ≡ true → is_taken (give w x) ≡ true → left (give w x).buffers < left w
unfolding give
answer_lowers w (Build ram o g) s i h = false≢true i
answer_lowers w (RegisterRange a l) s i h = false≢true i
answer_lowers w (RegisterAll al ig) s i h = false≢true i
answer_lowers w AnswerDone s i h = done_lowers w (done_number w h) s.request.to_fits s.request.end_fits
answer_lowers w AnswerFailed s i h = failed_lowers w (failed_number w h)

-- an answer is taken where something is asked for
answer_answered : (w : Buffers) (x : Call) → Sound w → is_answer x ≡ true → is_taken (give w x) ≡ under_way w
unfolding give
answer_answered w (Build ram o g) s i = false≢true i
answer_answered w (RegisterRange a l) s i = false≢true i
answer_answered w (RegisterAll al ig) s i = false≢true i
answer_answered w AnswerDone s i = go (under_way w) refl
  where
    go : (t : Bool) → under_way w ≡ t → is_taken (done_of w) ≡ t
    go true e = done_taken w s e
    go false e = ap is_taken (done_refused w s e)
answer_answered w AnswerFailed s i = go (under_way w) refl
  where
    go : (t : Bool) → under_way w ≡ t → is_taken (failed_of w) ≡ t
    go true e = failed_taken w s e
    go false e = ap is_taken (failed_refused w s e)

-- meanwhile register and register_all_aligned are refused
busy_refused : (w : Buffers) (rest : ℕ) (o : Outcome) → under_way w ≡ true → is_taken (decided w (call_refusal w rest) o) ≡ false
busy_refused w rest o k = rw (not-true (eqb (request_of w.state).kind kind.none) k) (go (eqb (length w.state) registrar_len))
  where
    go : (t : Bool) → is_taken (decided w (unless t refusal.wrong_length refusal.busy) o) ≡ false
    go true = refl
    go false = refl

call_busy : (w : Buffers) (x : Call) → under_way w ≡ true → is_answer x ≡ false → is_build x ≡ false → is_taken (give w x) ≡ false
unfolding give register_of register_refusal all_of all_refusal
call_busy w (Build ram o g) k a b = false≢true (sym b)
call_busy w (RegisterRange address len) k a b =
    let g : ℕ = granularity_of w.state in
    busy_refused w (unless (chunks_fit w.state (first_chunk g address) (end_chunk g address len)) refusal.unfit_chunk 0) (carried_out w (register_plan w address len)) k
call_busy w (RegisterAll al ig) k a b =
    busy_refused w (unless (leb ig 1) refusal.unfit_number (unless (leb (granularity_of w.state) al && is_power al) refusal.unfit_chunk 0)) (carried_out w (all_plan w al ig)) k
call_busy w AnswerDone k a b = false≢true (sym a)
call_busy w AnswerFailed k a b = false≢true (sym a)

-- ---- a list of calls

-- all answers that are taken, together
answers_lower : (xs : List Call) (w : Buffers) → Sound w → only_answers w xs ≡ true → taken_in w xs + left (after w xs) ≤ left w
unfolding taken_in after only_answers
answers_lower [] w s o = omega arith
answers_lower (x ∷ xs) w s o =
    let a = both_true (is_answer x || not (is_taken (give w x))) _ o in
    go (is_taken (give w x)) refl (is_answer x) refl a.0 (answers_lower xs (give w x).buffers (call_sound w x s) a.1)
  where
    go : (t : Bool) → is_taken (give w x) ≡ t → (b : Bool) → is_answer x ≡ b → (b || not t) ≡ true
        → taken_in (give w x).buffers xs + left (after (give w x).buffers xs) ≤ left (give w x).buffers
        → digit t + taken_in (give w x).buffers xs + left (after (give w x).buffers xs) ≤ left w
    go true e true i k more = omega (arith, answer_lowers w x s i e, more)
    go true e false i k more = false≢true k
    go false e b i k more = omega (arith, ap left (refused_keeps w x e), more)

-- the number is 0 where nothing is under way, and nowhere else
none_left : (w : Buffers) → left w ≤ 0 → under_way w ≡ false
none_left w = go (eqb (request_of w.state).kind kind.none)
  where
    go : (t : Bool) → cond t 0 (suc ((2 ^ 64 - (request_of w.state).to) * 2 ^ 65 + (2 ^ 64 - (request_of w.state).end))) ≤ 0 → not t ≡ false
    go true h = refl
    go false h = absurd (omega arith)

some_left : (w : Buffers) → under_way w ≡ true → 0 < left w
some_left w h = rw (not-true (eqb (request_of w.state).kind kind.none) h) (omega arith)

idle_left : (w : Buffers) → under_way w ≡ false → left w ≡ 0
idle_left w h = rw (not-false (eqb (request_of w.state).kind kind.none) h)

-- THE CLAIM: as many answers as the number says end the request, with any refused calls between them
pub answers_end : (xs : List Call) (w : Buffers) → Sound w → only_answers w xs ≡ true → left w ≤ answers_in xs → under_way (after w xs) ≡ false
unfolding after only_answers answers_in
answers_end [] w s o h = none_left w h
answers_end (x ∷ xs) w s o h =
    let a = both_true (is_answer x || not (is_taken (give w x))) _ o in
    answers_end xs (give w x).buffers (call_sound w x s) a.1 (go (is_taken (give w x)) refl (is_answer x) refl a.0 h)
  where
    idle : is_answer x ≡ true → is_taken (give w x) ≡ false → left w ≡ 0
    idle i e = idle_left w (sym (answer_answered w x s i) ∙ e)

    go : (t : Bool) → is_taken (give w x) ≡ t → (b : Bool) → is_answer x ≡ b → (b || not t) ≡ true → left w ≤ digit b + answers_in xs → left (give w x).buffers ≤ answers_in xs
    go true e true i k l = omega (arith, l, answer_lowers w x s i e)
    go true e false i k l = false≢true k
    go false e true i k l = omega (arith, idle i e, ap left (refused_keeps w x e))
    go false e false i k l = omega (arith, l, ap left (refused_keeps w x e))

-- done, any number of times
done_only : (n : ℕ) (w : Buffers) → only_answers w (replicate n AnswerDone) ≡ true
unfolding only_answers
done_only zero w = refl
done_only (suc n) w = done_only n (give w AnswerDone).buffers

done_answers : (n : ℕ) → answers_in (replicate n AnswerDone) ≡ n
unfolding answers_in
done_answers zero = refl
done_answers (suc n) = omega (arith, done_answers n)

failed_idle : (w : Buffers) → answer_refusal w ≡ 0 → under_way (failed_of w).buffers ≡ false
unfolding failed_of
failed_idle w z = rw (eq-eqb (answer_refusal w) 0 z)

failed_over : (w : Buffers) → Sound w → under_way (after w (AnswerFailed ∷ [])) ≡ false
unfolding after give
failed_over w s = go (under_way w) refl
  where
    go : (t : Bool) → under_way w ≡ t → under_way (failed_of w).buffers ≡ false
    go true e = failed_idle w (answer_passes w s e)
    go false e = ap (λ (o : Outcome). under_way o.buffers) (failed_refused w s e) ∙ e

requests_end : (v : Buffers) → Sound v → RequestEnds v
requests_end v s =
    record {
      falls =
          λ xs x.
          let u : Buffers = after v xs in
          let t : Sound u = always_sound xs v s in
          record { answered = answer_answered u x t; lowers = answer_lowers u x t; busy = call_busy u x; keeps = refused_keeps u x };
      few = λ xs o. answers_lower xs v s o;
      still = λ xs o h. omega (arith, answers_lower xs v s o, some_left (after v xs) h);
      ends = λ xs o l. answers_end xs v s o l;
      heard = λ n. (done_only n v, done_answers n);
      done_ends = answers_end (replicate (left v) AnswerDone) v s (done_only (left v) v) (omega (arith, done_answers (left v)));
      failed_ends = failed_over v s;
    }

-- THE CLAIM: whatever calls a registrar has had since its build
pub every_request_ends : (w : Buffers) (ram : List ℕ) (o g : ℕ) → build_refusal w ram o g ≡ 0 → (xs : List Call) → RequestEnds (after (build_of w ram o g).buffers xs)
every_request_ends w ram o g z xs = requests_end (after (build_of w ram o g).buffers xs) (sound_from w ram o g z xs)
