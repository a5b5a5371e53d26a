-- A refusal leaves every lent word as given, save what 22 and 23 name. Assumes nothing.
use native.Mathlib.Omega.{arith}
use mathlib.Core.Path.{◌≡◌, refl, sym, ap, ◌∙◌}
use mathlib.Core.Bool.{Bool, true, false, cond, ◌&&◌}
use mathlib.Core.List.{List, [], ◌∷◌}
use Prim.Native.Nat.{ℕ, ◌+◌, ◌*◌, ◌/◌, ◌%◌, ◌^◌, ◌≤◌, ◌<◌, min}
use lib.Dec.{eqb, leb, ltb}
use lib.ListN.{length}
use Rattle.abi.specs.Kinds as kind
use Rattle.abi.specs.Refusals as refusal
use Rattle.abi.specs.Lengths.{page_size, registrar_len, word_bits}
use Rattle.laws.specs.Bools.{false≢true}
use Rattle.laws.specs.Refusal.{unless, when}
use Rattle.laws.specs.Ranges.{between}
use Rattle.bitmap.specs.Pages.{bit_at}
use Rattle.bitmap.proofs.Map.{page_law}
use Rattle.layout.specs.declared.MemoryRange.{MemoryRange}
use Rattle.layout.specs.Layout.{entries_of, refusal_of, last_end, spans}
use Rattle.chunks.specs.Chunks.{chunk_count, first_chunk, end_chunk, is_power, first_not}
use Rattle.chunks.proofs.Scan.{first_holds}
use Rattle.registrar_steps.specs.declared.Request.{Request}
use Rattle.registrar_steps.specs.declared.Answer.{Answer}
use Rattle.registrar_steps.specs.declared.Answer.TheVariants.{Done, Register, RegistrationFailed, UnalignedMemory, Refused}
use Rattle.registrar_steps.specs.declared.Look.{Look}
use Rattle.registrar_steps.specs.declared.Look.TheVariants.{Nothing, Edge, FailedBefore, Stretch}
use Rattle.registrar_steps.specs.declared.Plan.{Plan}
use Rattle.registrar_steps.specs.Steps.{ChunkState, idle, asks, ends, ram_from, passes, piece_of, register_from, look_at, found, all_from}
use Rattle.registrar_state.specs.Buffers.{Buffers, buffers, Outcome, request_of, with_request, offset_of, granularity_of, entries_in, chunk_state_in, flat_of, decided, lengths_fit, build_refusal, build_of, call_refusal, chunks_fit, register_refusal, all_refusal, marked, carried_out, register_plan, all_plan, register_of, all_of, answer_refusal, failed_of, rest_of, has_rest, taken_to, done_plan, after_taken, done_of}
use Rattle.registrar_claims.specs.Runs.{Call, Build, RegisterRange, RegisterAll, AnswerDone, AnswerFailed, give, not_refused}
use Rattle.registrar_claims.specs.Changes.{Kept, Stays}
use Rattle.registrar_claims.specs.Claims.{RefusalsKeep, MarksStay}
use Rattle.registrar_claims.proofs.Steps.{marked_none}

pub plain : Answer → Bool
plain (Done n) = true
plain (Register r) = true
plain (RegistrationFailed x n) = true
plain (UnalignedMemory u n) = true
plain (Refused k) = false

pub plain_taken : (a : Answer) → plain a ≡ true → not_refused (flat_of a).number ≡ true
unfolding plain
plain_taken (Done n) h = refl
plain_taken (Register r) h = refl
plain_taken (RegistrationFailed x n) h = refl
plain_taken (UnalignedMemory u n) h = refl
plain_taken (Refused k) h = false≢true h

pub register_plain : (s : ChunkState) (o n c last : ℕ) → plain (register_from s o n c last).answer ≡ true
unfolding register_from plain
register_plain s o n c last =
    let e : ℕ = min last (chunk_count s.granularity s.entries) in
    let t : ℕ = first_not (passes s) c e in
    go t (ltb t e) (bit_at word_bits s.failed t)
  where
    go : (t : ℕ) (x y : Bool)
        → plain (cond x (cond y (ends c t (RegistrationFailed (t * s.granularity) n)) (asks o c t (piece_of n t (t + 1) last (ram_from s.granularity s.entries t (t * s.granularity))))) (ends c t (Done n))).answer ≡ true
    go t false y = refl
    go t true false = refl
    go t true true = refl

pub all_plain : (s : ChunkState) (o n al ignore c : ℕ) (rs : List MemoryRange) → plain (all_from s o n al ignore c rs).answer ≡ true
unfolding all_from plain
all_plain s o n al ignore c [] = refl
all_plain s o n al ignore c (r ∷ rs) = go (look_at s.granularity s.registered s.failed al ignore c r) (all_plain s o n al ignore c rs)
  where
    go : (l : Look) → plain (all_from s o n al ignore c rs).answer ≡ true → plain (found s.entries o n al ignore r l (all_from s o n al ignore c rs)).answer ≡ true
    go Nothing h = h
    go (Edge e) h = refl
    go (FailedBefore x) h = refl
    go (Stretch a b x y) h = refl

pub done_plain : (w : Buffers) → plain (done_plan w).answer ≡ true
unfolding plain
done_plain w =
    let q : Request = request_of w.state in
    let s : ChunkState = chunk_state_in w in
    go (has_rest w.state) (eqb q.kind kind.register) (register_plain s (offset_of w.state) q.count q.to q.until)
    (all_plain s (offset_of w.state) q.count q.alignment q.ignore q.to (spans (entries_in w.state)))
  where
    go : (x y : Bool) → plain (register_from (chunk_state_in w) (offset_of w.state) (request_of w.state).count (request_of w.state).to (request_of w.state).until).answer ≡ true
        → plain (all_from (chunk_state_in w) (offset_of w.state) (request_of w.state).count (request_of w.state).alignment (request_of w.state).ignore (request_of w.state).to (spans (entries_in w.state))).answer ≡ true
        → plain (cond x (asks (offset_of w.state) 0 0 (piece_of (request_of w.state).count (request_of w.state).from (request_of w.state).to (request_of w.state).until (rest_of w.state)))
        (cond y (register_from (chunk_state_in w) (offset_of w.state) (request_of w.state).count (request_of w.state).to (request_of w.state).until)
        (all_from (chunk_state_in w) (offset_of w.state) (request_of w.state).count (request_of w.state).alignment (request_of w.state).ignore (request_of w.state).to (spans (entries_in w.state))))).answer ≡ true
    go true y h k = refl
    go false true h k = h
    go false false h k = k

-- ---- how a plan ends

-- with 22 it marks nothing, with 22 and 23 nothing is asked any more, and what it marks asks for nothing
pub record Ending (s : ChunkState) (p : Plan) : Type 0 where
  pub ends_22 : (flat_of p.answer).number ≡ refusal.unaligned_memory → (p.request ≡ idle) × (p.from ≡ p.to)
  pub ends_23 : (flat_of p.answer).number ≡ refusal.registration_failed → p.request ≡ idle
  pub marks : (c : ℕ) → p.from ≤ c → c < p.to → passes s c ≡ true

register_ending : (s : ChunkState) (o n c last : ℕ) → Ending s (register_from s o n c last)
unfolding register_from
register_ending s o n c last =
    let e : ℕ = min last (chunk_count s.granularity s.entries) in
    let t : ℕ = first_not (passes s) c e in
    go t (λ q a b. first_holds (passes s) c e q a b) (ltb t e) (bit_at word_bits s.failed t)
  where
    go : (t : ℕ) → ((q : ℕ) → c ≤ q → q < t → passes s q ≡ true) → (x y : Bool)
        → Ending s (cond x (cond y (ends c t (RegistrationFailed (t * s.granularity) n)) (asks o c t (piece_of n t (t + 1) last (ram_from s.granularity s.entries t (t * s.granularity))))) (ends c t (Done n)))
    go t h false y = record { ends_22 = λ z. absurd (omega (arith, z)); ends_23 = λ z. absurd (omega (arith, z)); marks = h }
    go t h true true = record { ends_22 = λ z. absurd (omega (arith, z)); ends_23 = λ z. refl; marks = h }
    go t h true false = record { ends_22 = λ z. absurd (omega (arith, z)); ends_23 = λ z. absurd (omega (arith, z)); marks = h }

all_ending : (s : ChunkState) (o n al ignore c : ℕ) (rs : List MemoryRange) → Ending s (all_from s o n al ignore c rs)
unfolding all_from
all_ending s o n al ignore c [] = record { ends_22 = λ z. absurd (omega (arith, z)); ends_23 = λ z. absurd (omega (arith, z)); marks = λ q a b. absurd (omega arith) }
all_ending s o n al ignore c (r ∷ rs) = go (look_at s.granularity s.registered s.failed al ignore c r) (all_ending s o n al ignore c rs)
  where
    go : (l : Look) → Ending s (all_from s o n al ignore c rs) → Ending s (found s.entries o n al ignore r l (all_from s o n al ignore c rs))
    go Nothing h = h
    go (Edge e) h = record { ends_22 = λ z. (refl, refl); ends_23 = λ z. absurd (omega (arith, z)); marks = λ q a b. absurd (omega arith) }
    go (FailedBefore x) h = record { ends_22 = λ z. absurd (omega (arith, z)); ends_23 = λ z. refl; marks = λ q a b. absurd (omega arith) }
    go (Stretch a b x y) h = record { ends_22 = λ z. absurd (omega (arith, z)); ends_23 = λ z. absurd (omega (arith, z)); marks = λ q a b. absurd (omega arith) }

done_ending : (w : Buffers) → Ending (chunk_state_in w) (done_plan w)
done_ending w =
    let q : Request = request_of w.state in
    go (has_rest w.state) (eqb q.kind kind.register) _ _ (register_ending (chunk_state_in w) (offset_of w.state) q.count q.to q.until)
    (all_ending (chunk_state_in w) (offset_of w.state) q.count q.alignment q.ignore q.to (spans (entries_in w.state)))
  where
    go : (x y : Bool) (a b : Plan) → Ending (chunk_state_in w) a → Ending (chunk_state_in w) b
        → Ending (chunk_state_in w) (cond x (asks (offset_of w.state) 0 0 (piece_of (request_of w.state).count (request_of w.state).from (request_of w.state).to (request_of w.state).until (rest_of w.state))) (cond y a b))
    go true y a b h k = record { ends_22 = λ z. absurd (omega (arith, z)); ends_23 = λ z. absurd (omega (arith, z)); marks = λ q a b. absurd (omega arith) }
    go false true a b h k = h
    go false false a b h k = k

-- ---- a number that refuses a call is neither 22 nor 23

pub build_taken_lem : (w : Buffers) (ram : List ℕ) (o g : ℕ) → not_refused (build_refusal w ram o g) ≡ true → build_refusal w ram o g ≡ 0
unfolding build_refusal
build_taken_lem w ram o g =
    go (eqb (refusal_of ram) refusal.unfit_layout) (eqb (o % page_size) 0) (ltb (o + last_end (entries_of ram)) (2 ^ 64)) (eqb (refusal_of ram) 0) (eqb (length w.state) registrar_len) (leb page_size g && is_power g)
    (lengths_fit g (entries_of ram) w.registered w.failed)
  where
    chain : (a b c d e f i : Bool) → ℕ
    chain a b c d e f i =
        when a refusal.unfit_layout (unless b refusal.unfit_layout (unless c refusal.unfit_layout (unless d refusal.bad_alignment
        (unless e refusal.wrong_length (unless f refusal.unfit_chunk (unless i refusal.wrong_length 0))))))

    go : (a b c d e f i : Bool) → not_refused (chain a b c d e f i) ≡ true → chain a b c d e f i ≡ 0
    go true b c d e f i h = false≢true h
    go false false c d e f i h = false≢true h
    go false true false d e f i h = false≢true h
    go false true true false e f i h = false≢true h
    go false true true true false f i h = false≢true h
    go false true true true true false i h = false≢true h
    go false true true true true true false h = false≢true h
    go false true true true true true true h = refl

call_taken : (w : Buffers) (rest : ℕ) → (not_refused rest ≡ true → rest ≡ 0) → not_refused (call_refusal w rest) ≡ true → call_refusal w rest ≡ 0
call_taken w rest z =
    go (eqb (length w.state) registrar_len) (eqb (request_of w.state).kind kind.none) (lengths_fit (granularity_of w.state) (entries_in w.state) w.registered w.failed)
  where
    go : (a b c : Bool) → not_refused (unless a refusal.wrong_length (unless b refusal.busy (unless c refusal.wrong_length rest))) ≡ true → unless a refusal.wrong_length (unless b refusal.busy (unless c refusal.wrong_length rest)) ≡ 0
    go false b c h = false≢true h
    go true false c h = false≢true h
    go true true false h = false≢true h
    go true true true h = z h

pub register_taken_lem : (w : Buffers) (address len : ℕ) → not_refused (register_refusal w address len) ≡ true → register_refusal w address len ≡ 0
unfolding register_refusal
register_taken_lem w address len = call_taken w (unless (chunks_fit w.state (first_chunk (granularity_of w.state) address) (end_chunk (granularity_of w.state) address len)) refusal.unfit_chunk 0) (go (chunks_fit w.state (first_chunk (granularity_of w.state) address) (end_chunk (granularity_of w.state) address len)))
  where
    go : (a : Bool) → not_refused (unless a refusal.unfit_chunk 0) ≡ true → unless a refusal.unfit_chunk 0 ≡ 0
    go false h = false≢true h
    go true h = refl

pub all_taken : (w : Buffers) (al ignore : ℕ) → not_refused (all_refusal w al ignore) ≡ true → all_refusal w al ignore ≡ 0
unfolding all_refusal
all_taken w al ignore =
    call_taken w (unless (leb ignore 1) refusal.unfit_number (unless (leb (granularity_of w.state) al && is_power al) refusal.unfit_chunk 0)) (go (leb ignore 1) (leb (granularity_of w.state) al && is_power al))
  where
    go : (a b : Bool) → not_refused (unless a refusal.unfit_number (unless b refusal.unfit_chunk 0)) ≡ true → unless a refusal.unfit_number (unless b refusal.unfit_chunk 0) ≡ 0
    go false b h = false≢true h
    go true false h = false≢true h
    go true true h = refl

pub answer_taken : (w : Buffers) → not_refused (answer_refusal w) ≡ true → answer_refusal w ≡ 0
unfolding answer_refusal
answer_taken w =
    go (eqb (length w.state) registrar_len) (lengths_fit (granularity_of w.state) (entries_in w.state) w.registered w.failed) (eqb (request_of w.state).kind kind.none)
  where
    go : (a b c : Bool) → not_refused (unless a refusal.wrong_length (unless b refusal.wrong_length (when c refusal.nothing_asked 0))) ≡ true → unless a refusal.wrong_length (unless b refusal.wrong_length (when c refusal.nothing_asked 0)) ≡ 0
    go false b c h = false≢true h
    go true false c h = false≢true h
    go true true true h = false≢true h
    go true true false h = refl

-- ---- what a call changes

decided_keeps : (w : Buffers) (r f : List ℕ) (n : ℕ) (o : Outcome) → (not_refused n ≡ true → n ≡ 0) → Kept w r f o → Kept w r f (decided w n o)
decided_keeps w r f n o t k = go (eqb n 0)
  where
    none : (m : ℕ) → not_refused m ≡ true → (m ≡ 0 → ⊥) → n ≡ m → ⊥
    none m h z e = z (sym e ∙ t (ap not_refused e ∙ h))

    go : (b : Bool) → Kept w r f (cond b o (record { buffers = w; reply = flat_of (Refused n) }))
    go true = k
    go false =
        record { refused = λ z. refl; unaligned = λ z. absurd (none refusal.unaligned_memory refl (λ e. omega (arith, e)) z); failed = λ z. absurd (none refusal.registration_failed refl (λ e. omega (arith, e)) z) }

plan_keeps : (w : Buffers) (r : List ℕ) (p : Plan) → let v : Buffers = buffers w.state r w.failed in
    plain p.answer ≡ true → Ending (chunk_state_in v) p → Kept w r w.failed (carried_out v p)
plan_keeps w r p l h =
    record {
      refused = λ z. false≢true (sym z ∙ plain_taken p.answer l);
      unaligned =
          λ z.
          record {
            same_state = ap (λ (q : Request). with_request q w.state) (h.ends_22 z).0;
            same_registered = ap (λ (b : ℕ). marked p.from b r) (sym (h.ends_22 z).1) ∙ marked_none p.from r;
            same_failed = refl;
          };
      failed =
          λ z.
          record { from = p.from; to = p.to; same_state = ap (λ (q : Request). with_request q w.state) (h.ends_23 z); same_registered = refl; passed = h.marks; same_failed = refl };
    }

-- THE CLAIM, one law for all five entries: a refusal leaves every lent word as given, save what 22 and 23 name
pub refusals_keep : (w : Buffers) → RefusalsKeep w
unfolding give build_of register_of all_of done_of failed_of
refusals_keep w (Build ram o g) =
    decided_keeps w w.registered w.failed (build_refusal w ram o g) _ (build_taken_lem w ram o g)
    (record { refused = λ z. false≢true (sym z); unaligned = λ z. absurd (omega (arith, z)); failed = λ z. absurd (omega (arith, z)) })
refusals_keep w (RegisterRange a l) =
    let f : ℕ = first_chunk (granularity_of w.state) a in
    let e : ℕ = end_chunk (granularity_of w.state) a l in
    decided_keeps w w.registered w.failed (register_refusal w a l) (carried_out w (register_plan w a l)) (register_taken_lem w a l)
    (plan_keeps w w.registered (register_plan w a l) (register_plain (chunk_state_in w) (offset_of w.state) 0 f e) (register_ending (chunk_state_in w) (offset_of w.state) 0 f e))
refusals_keep w (RegisterAll al ignore) =
    let rs : List MemoryRange = spans (entries_in w.state) in
    decided_keeps w w.registered w.failed (all_refusal w al ignore) (carried_out w (all_plan w al ignore)) (all_taken w al ignore)
    (plan_keeps w w.registered (all_plan w al ignore) (all_plain (chunk_state_in w) (offset_of w.state) 0 al ignore 0 rs) (all_ending (chunk_state_in w) (offset_of w.state) 0 al ignore 0 rs))
refusals_keep w AnswerDone =
    let v : Buffers = after_taken w in
    decided_keeps w v.registered w.failed (answer_refusal w) (carried_out v (done_plan v)) (answer_taken w)
    (plan_keeps w v.registered (done_plan v) (done_plain v) (done_ending v))
refusals_keep w AnswerFailed =
    let q : Request = request_of w.state in
    decided_keeps w w.registered (marked q.from q.to w.failed) (answer_refusal w) _ (answer_taken w)
    (record {
      refused = λ z. false≢true (sym z);
      unaligned = λ z. absurd (omega (arith, z));
      failed = λ z. record { from = 0; to = 0; same_state = refl; same_registered = sym (marked_none 0 w.registered); passed = λ c a b. absurd (omega arith); same_failed = refl };
    })

pub refused_keeps : (w : Buffers) (x : Call) → not_refused (give w x).reply.number ≡ false → (give w x).buffers ≡ w
refused_keeps w x = (refusals_keep w x).refused

-- ---- what is marked stays marked, until a build

marked_stays : (a b : ℕ) (m : List ℕ) (c : ℕ) → bit_at word_bits m c ≡ true → bit_at word_bits (marked a b m) c ≡ true
marked_stays a b m c h = page_law word_bits (between a b) true m c (omega arith) ∙ go (between a b c && ltb (c / word_bits) (length m))
  where
    go : (t : Bool) → cond t true (bit_at word_bits m c) ≡ true
    go true = refl
    go false = h

decided_stays : (w : Buffers) (c n : ℕ) (o : Outcome) → Stays w c o → Stays w c (decided w n o)
decided_stays w c n o h = go (eqb n 0)
  where
    go : (t : Bool) → Stays w c (cond t o (record { buffers = w; reply = flat_of (Refused n) }))
    go true = h
    go false = (λ e. e, λ e. e)

pub marks_stay : (w : Buffers) → MarksStay w
unfolding give register_of all_of done_of failed_of
marks_stay w (Build ram o g) c b = false≢true (sym b)
marks_stay w (RegisterRange a l) c b =
    let p : Plan = register_plan w a l in
    decided_stays w c (register_refusal w a l) (carried_out w p) (λ e. marked_stays p.from p.to w.registered c e, λ e. e)
marks_stay w (RegisterAll al ignore) c b =
    let p : Plan = all_plan w al ignore in
    decided_stays w c (all_refusal w al ignore) (carried_out w p) (λ e. marked_stays p.from p.to w.registered c e, λ e. e)
marks_stay w AnswerDone c b =
    let v : Buffers = after_taken w in
    let q : Request = request_of w.state in
    let p : Plan = done_plan v in
    decided_stays w c (answer_refusal w) (carried_out v p)
    (λ e. marked_stays p.from p.to v.registered c (marked_stays q.from (taken_to w.state) w.registered c e), λ e. e)
marks_stay w AnswerFailed c b =
    let q : Request = request_of w.state in
    decided_stays w c (answer_refusal w) _ (λ e. e, λ e. marked_stays q.from q.to w.failed c e)
