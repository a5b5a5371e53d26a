-- The count that a finished call reports is the number of the operations that it asked for, in 64 bits. Assumes nothing.
use native.Mathlib.Omega.{arith}
use mathlib.Core.Path.{◌≡◌, refl, sym, ap, ◌∙◌}
use mathlib.Core.Bool.{Bool, true, false, not, cond}
use mathlib.Core.List.{List, [], ◌∷◌}
use Prim.Native.Nat.{ℕ, ◌+◌, ◌*◌, ◌%◌, ◌^◌, min}
use lib.Dec.{eqb, ltb}
use lib.ListN.{length}
use borrow.Author.Tests.{eqb-true, eqb-false}
use Rattle.abi.specs.Kinds as kind
use Rattle.abi.specs.Lengths.{word_bits}
use Rattle.bitmap.specs.Pages.{bit_at}
use Rattle.layout.specs.declared.MemoryRange.{MemoryRange}
use Rattle.layout.specs.Layout.{spans}
use Rattle.chunks.specs.Chunks.{chunk_count, first_chunk, end_chunk, first_not}
use Rattle.registrar_steps.specs.declared.Request.{Request}
use Rattle.registrar_steps.specs.declared.Answer.TheVariants.{Done, RegistrationFailed, Refused}
use Rattle.registrar_steps.specs.declared.Look.{Look}
use Rattle.registrar_steps.specs.declared.Look.TheVariants.{Nothing, Edge, FailedBefore, Stretch}
use Rattle.registrar_steps.specs.declared.Plan.{Plan}
use Rattle.registrar_steps.specs.Steps.{ChunkState, asks, ends, more, ram_from, passes, piece_of, register_from, look_at, found, all_from}
use Rattle.registrar_state.specs.Buffers.{Buffers, Outcome, request_of, offset_of, granularity_of, entries_in, chunk_state_in, flat_of, decided, register_refusal, all_refusal, carried_out, register_plan, all_plan, register_of, all_of, answer_refusal, failed_of, rest_of, has_rest, done_plan, after_taken, done_of}
use Rattle.registrar_claims.proofs.Steps.{counted}
use Rattle.registrar_claims.proofs.Refusals.{register_taken_lem, all_taken, answer_taken}
use Rattle.registrar_claims.specs.Runs.{not_refused, answer_of, before, asks_for, follow}
use Rattle.registrar_claims.specs.Claims.{Counts}

-- a plan of a call that has asked n times: asking once more, or reporting n; and it asks where its request is of a kind
abbrev pub PlanCounts : ℕ → Plan → Type 0
PlanCounts n p =
    ((flat_of p.answer).asked ≡ 1 → p.request.count ≡ more n) × ((flat_of p.answer).asked ≡ 0 → (flat_of p.answer).count ≡ n) × (eqb (flat_of p.answer).asked 1 ≡ not (eqb p.request.kind kind.none))

no_one : {X : Type 0} → ◌≡◌ {A = ℕ} 0 1 → X
no_one e = absurd (omega arith)

no_zero : {X : Type 0} → ◌≡◌ {A = ℕ} 1 0 → X
no_zero e = absurd (omega arith)

pub register_counts : (s : ChunkState) (o n c last : ℕ) → PlanCounts n (register_from s o n c last)
unfolding register_from
register_counts s o n c last =
    let e : ℕ = min last (chunk_count s.granularity s.entries) in
    let t : ℕ = first_not (passes s) c e in
    go t (ltb t e) (bit_at word_bits s.failed t)
  where
    go : (t : ℕ) (x y : Bool)
        → PlanCounts n (cond x (cond y (ends c t (RegistrationFailed (t * s.granularity) n)) (asks o c t (piece_of n t (t + 1) last (ram_from s.granularity s.entries t (t * s.granularity))))) (ends c t (Done n)))
    go t false y = (λ e. no_one e, λ e. refl, refl)
    go t true true = (λ e. no_one e, λ e. refl, refl)
    go t true false = (λ e. refl, λ e. no_zero e, refl)

pub all_counts : (s : ChunkState) (o n al ignore c : ℕ) (rs : List MemoryRange) → PlanCounts n (all_from s o n al ignore c rs)
unfolding all_from
all_counts s o n al ignore c [] = (λ e. no_one e, λ e. refl, refl)
all_counts s o n al ignore c (r ∷ rs) = go (look_at s.granularity s.registered s.failed al ignore c r) (all_counts s o n al ignore c rs)
  where
    go : (l : Look) → PlanCounts n (all_from s o n al ignore c rs) → PlanCounts n (found s.entries o n al ignore r l (all_from s o n al ignore c rs))
    go Nothing h = h
    go (Edge e) h = (λ e. no_one e, λ e. refl, refl)
    go (FailedBefore x) h = (λ e. no_one e, λ e. refl, refl)
    go (Stretch a b x y) h = (λ e. refl, λ e. no_zero e, refl)

pub done_counts : (w : Buffers) → PlanCounts (request_of w.state).count (done_plan w)
done_counts w =
    let q : Request = request_of w.state in
    go (has_rest w.state) (eqb q.kind kind.register) _ _ (register_counts (chunk_state_in w) (offset_of w.state) q.count q.to q.until)
    (all_counts (chunk_state_in w) (offset_of w.state) q.count q.alignment q.ignore q.to (spans (entries_in w.state)))
  where
    go : (x y : Bool) (a b : Plan) → PlanCounts (request_of w.state).count a → PlanCounts (request_of w.state).count b
        → PlanCounts (request_of w.state).count
        (cond x (asks (offset_of w.state) 0 0 (piece_of (request_of w.state).count (request_of w.state).from (request_of w.state).to (request_of w.state).until (rest_of w.state))) (cond y a b))
    go true y a b h k = (λ e. refl, λ e. no_zero e, refl)
    go false true a b h k = h
    go false false a b h k = k

-- ---- along a call

-- k operations were asked for before this outcome
abbrev Counted : ℕ → Outcome → Type 0
Counted k o =
    (o.reply.asked ≡ 1 → (request_of o.buffers.state).count ≡ (k + 1) % 2 ^ 64) × (o.reply.asked ≡ 0 → not_refused o.reply.number ≡ true → o.reply.count ≡ k % 2 ^ 64)

decided_counted : (k n : ℕ) (w : Buffers) (o : Outcome) → (not_refused n ≡ true → n ≡ 0) → Counted k o → Counted k (decided w n o)
decided_counted k n w o z h = go (eqb n 0) refl
  where
    go : (t : Bool) → eqb n 0 ≡ t → Counted k (cond t o (record { buffers = w; reply = flat_of (Refused n) }))
    go true e = h
    go false e = (λ q. no_one q, λ q y. absurd (eqb-false n 0 e (z y)))

plan_counted : (k n : ℕ) (w : Buffers) (p : Plan) → n ≡ k % 2 ^ 64 → PlanCounts n p → Counted k (carried_out w p)
plan_counted k n w p e h = (λ q. h.0 q ∙ ap more e ∙ counted k, λ q t. h.1 q ∙ e)

register_counted : (w : Buffers) (a l : ℕ) → Counted 0 (register_of w a l)
unfolding register_of
register_counted w a l =
    decided_counted 0 (register_refusal w a l) w (carried_out w (register_plan w a l)) (register_taken_lem w a l)
    (plan_counted 0 0 w (register_plan w a l) refl (register_counts (chunk_state_in w) (offset_of w.state) 0 (first_chunk (granularity_of w.state) a) (end_chunk (granularity_of w.state) a l)))

all_counted : (w : Buffers) (al ignore : ℕ) → Counted 0 (all_of w al ignore)
unfolding all_of
all_counted w al ignore =
    decided_counted 0 (all_refusal w al ignore) w (carried_out w (all_plan w al ignore))
    (all_taken w al ignore)
    (plan_counted 0 0 w (all_plan w al ignore) refl (all_counts (chunk_state_in w) (offset_of w.state) 0 al ignore 0 (spans (entries_in w.state))))

answer_counted : (b : Bool) (k : ℕ) (w : Buffers) → (request_of w.state).count ≡ k % 2 ^ 64 → Counted k (answer_of b w)
unfolding done_of failed_of
answer_counted true k w e =
    decided_counted k (answer_refusal w) w (carried_out (after_taken w) (done_plan (after_taken w))) (answer_taken w)
    (plan_counted k (request_of w.state).count (after_taken w) (done_plan (after_taken w)) e (done_counts (after_taken w)))
answer_counted false k w e = decided_counted k (answer_refusal w) w _ (answer_taken w) (λ q. no_one q, λ q t. e)

follow_counts : (bs : List Bool) (k : ℕ) (o : Outcome) → Counted k o → (follow o bs).last.reply.asked ≡ 0 → not_refused (follow o bs).last.reply.number ≡ true
    → (follow o bs).last.reply.count ≡ (k + length (follow o bs).asked) % 2 ^ 64
unfolding follow
follow_counts [] k o h = go (eqb o.reply.asked 1) refl
  where
    go : (t : Bool) → eqb o.reply.asked 1 ≡ t → o.reply.asked ≡ 0 → not_refused o.reply.number ≡ true → o.reply.count ≡ (k + length (cond t (asks_for o ∷ []) [])) % 2 ^ 64
    go true e z y = no_zero (sym (eqb-true _ _ e) ∙ z)
    go false e z y = h.1 z y ∙ ap (λ (n : ℕ). n % 2 ^ 64) (omega arith)
follow_counts (b ∷ bs) k o h = go (eqb o.reply.asked 1) refl (follow_counts bs (k + 1) (answer_of b o.buffers))
  where
    go : (t : Bool) → eqb o.reply.asked 1 ≡ t
        → (Counted (k + 1) (answer_of b o.buffers) → (follow (answer_of b o.buffers) bs).last.reply.asked ≡ 0 → not_refused (follow (answer_of b o.buffers) bs).last.reply.number ≡ true
        → (follow (answer_of b o.buffers) bs).last.reply.count ≡ (k + 1 + length (follow (answer_of b o.buffers) bs).asked) % 2 ^ 64)
        → (cond t (before (asks_for o) (follow (answer_of b o.buffers) bs)) (record { asked = []; last = o })).last.reply.asked ≡ 0
        → not_refused (cond t (before (asks_for o) (follow (answer_of b o.buffers) bs)) (record { asked = []; last = o })).last.reply.number ≡ true
        → (cond t (before (asks_for o) (follow (answer_of b o.buffers) bs)) (record { asked = []; last = o })).last.reply.count
        ≡ (k + length (cond t (before (asks_for o) (follow (answer_of b o.buffers) bs)) (record { asked = []; last = o })).asked) % 2 ^ 64
    go true e more z y =
        more (answer_counted b (k + 1) o.buffers (h.0 (eqb-true _ _ e))) z y ∙ ap (λ (n : ℕ). n % 2 ^ 64) (omega arith)
    go false e more z y = h.1 z y ∙ ap (λ (n : ℕ). n % 2 ^ 64) (omega arith)

-- THE CLAIMS: a call that has ended, after any answers
pub register_counts_operations : (w : Buffers) (address len : ℕ) (bs : List Bool) → Counts (follow (register_of w address len) bs)
register_counts_operations w address len bs z y =
    follow_counts bs 0 (register_of w address len) (register_counted w address len) z y ∙ ap (λ (n : ℕ). n % 2 ^ 64) (omega arith)

pub all_counts_operations : (w : Buffers) (al ignore : ℕ) (bs : List Bool) → Counts (follow (all_of w al ignore) bs)
all_counts_operations w al ignore bs z y =
    follow_counts bs 0 (all_of w al ignore) (all_counted w al ignore) z y ∙ ap (λ (n : ℕ). n % 2 ^ 64) (omega arith)
