-- Laws of the entries, one for each way that the code goes. Assumes nothing.
use lib.Seq.{take-length}
use Rattle.std.proofs.Common.{◌≡◌, ℕ, suc, ◌+◌, ◌-◌, ◌*◌, ◌%◌, ◌^◌, ◌<◌, ◌≤◌, min, Bool, true, false, cond, not, eqb, ltb, List, ◌∷◌, ◌++◌, length, get_or, take, drop, set, replicate, sym, refl, ap, ◌∙◌, ap₂, arith, get_or-drop, eq-eqb, eqb-true, le-leb}
use borrow.Author.Tests.{lt-leb}
use Rattle.abi.specs.Kinds as kind
use Rattle.abi.specs.Refusals as refusal
use Rattle.abi.specs.RegistrarPlaces as place
use Rattle.abi.specs.Lengths.{ram_len, registrar_len, word_bits}
use Rattle.laws.specs.Bools.{false≢true}
use Rattle.laws.specs.Ranges.{between, between_false}
use Rattle.laws.specs.Refusal.{unless, passed}
use Rattle.words.proofs.Laws.{filled_next}
use Rattle.bitmap.specs.Pages.{bit_at}
use Rattle.bitmap.proofs.Map.{none}
use Rattle.layout.specs.declared.MemoryRange.{MemoryRange}
use Rattle.layout.specs.Layout.{range, entries_of}
use Rattle.layout.proofs.Laws.{fit, entries_count}
use Rattle.chunks.specs.Chunks.{chunk_count, first_chunk, end_chunk, empty, first_not}
use Rattle.registrar_steps.specs.declared.Request.{Request}
use Rattle.registrar_steps.specs.declared.Answer.TheVariants.{Done, RegistrationFailed}
use Rattle.registrar_steps.specs.declared.Plan.{Plan}
use Rattle.registrar_steps.specs.declared.Why.{Why}
use Rattle.registrar_steps.specs.declared.Why.TheVariants as why
use Rattle.registrar_steps.specs.declared.Stop.{Stop}
use Rattle.registrar_steps.specs.Steps.{idle, asked_of, asks, ends, ram_from, passes, piece_of, register_from, has_ram, stop_at, plan_at, stop_plan}
use Rattle.registrar_steps.proofs.Laws.{register_stopped, ram_plan}
use Rattle.registrar_state.specs.declared.Reply.{Reply}
use Rattle.registrar_state.specs.Buffers.{Buffers, buffers, Outcome, outcome, request_of, with_request, offset_of, granularity_of, entries_in, chunk_state_in, built_state, simple, flat_of, build_refusal, call_refusal, chunks_fit, register_refusal, all_refusal, register_of, marked, carried_out, is_known, rest_of, has_rest, taken_to, done_plan, after_taken}
use Rattle.registrar_state.proofs.Laws.{build_fits_lem, known_kept}

-- ---- the state block of a call that is not refused has its length

call_long : (w : Buffers) (rest : ℕ) → call_refusal w rest ≡ 0 → length w.state ≡ registrar_len
call_long w rest z = eqb-true _ _ (passed (eqb (length w.state) registrar_len) 3 _ z).0

pub register_long : (w : Buffers) (address len : ℕ) → register_refusal w address len ≡ 0 → length w.state ≡ registrar_len
unfolding register_refusal
register_long w address len z = call_long w _ z

pub all_long : (w : Buffers) (al ignore : ℕ) → all_refusal w al ignore ≡ 0 → length w.state ≡ registrar_len
unfolding all_refusal
all_long w al ignore z = call_long w _ z

-- ---- a `register` that is not refused, by the chunks that it touches, found once

module _ (w : Buffers) (address len g f e : ℕ) (hg : g ≡ granularity_of w.state) (hf : f ≡ first_chunk g address) (he : e ≡ end_chunk g address len)
    (z : 0 ≡ call_refusal w (unless (chunks_fit w.state f e) refusal.unfit_chunk 0)) where
  first_is : f ≡ first_chunk (granularity_of w.state) address
  first_is = hf ∙ ap (λ (k : ℕ). first_chunk k address) hg

  end_is : e ≡ end_chunk (granularity_of w.state) address len
  end_is = he ∙ ap (λ (k : ℕ). end_chunk k address len) hg

  unrefused : register_refusal w address len ≡ 0
  unfolding register_refusal
  unrefused = sym (z ∙ ap₂ (λ (f e : ℕ). call_refusal w (unless (chunks_fit w.state f e) refusal.unfit_chunk 0)) first_is end_is)

  pub touched_long : length w.state ≡ registrar_len
  touched_long = register_long w address len unrefused

  -- what follows is carried out
  pub touched_goes : (o : Outcome) → o ≡ carried_out w (register_from (chunk_state_in w) (offset_of w.state) 0 f e) → o ≡ register_of w address len
  unfolding register_of
  touched_goes o q = rw unrefused (q ∙ ap (carried_out w) (ap₂ (register_from (chunk_state_in w) (offset_of w.state) 0) first_is end_is))

  -- or nothing, where its chunks are registered
  pub touched_known : (r : Reply) → is_known w.state w.registered f e ≡ true → r ≡ flat_of (Done 0) → outcome w.state w.registered w.failed r ≡ register_of w address len
  unfolding register_of
  touched_known r k q =
      rw unrefused (ap (outcome w.state w.registered w.failed) q ∙ known_kept w address len touched_long (sym (ap₂ (is_known w.state w.registered) first_is end_is) ∙ k))

-- ---- a build

-- a layout that is taken has 96 words at most, and the state block its length
pub build_lengths : (w : Buffers) (ram : List ℕ) (o g : ℕ) → build_refusal w ram o g ≡ 0 → (length w.state ≡ registrar_len) × (length ram ≤ ram_len)
build_lengths w ram o g z =
    let t = build_fits_lem w ram o g z in
    let k = fit ram t.layout in
    (t.block, omega (arith, k.divided, k.few, entries_count ram))

-- the block while it is filled
abbrev pub filled_to : List ℕ → ℕ → ℕ → ℕ → List ℕ
filled_to ram o g i =
    0 ∷ 0 ∷ 0 ∷ 0 ∷ 0 ∷ 0 ∷ 0 ∷ 0 ∷ 0 ∷ o ∷ g ∷ length (entries_of ram) ∷ (take i ram ++ replicate (ram_len - i) 0)

pub filled_none : (s ram : List ℕ) (o g n : ℕ) → length s ≡ registrar_len → n ≡ length (entries_of ram) → set (set (set (replicate (length s) 0) place.offset o) place.granularity g) place.entries n ≡ filled_to ram o g 0
filled_none s ram o g n h e =
    ap₂ (λ (k m : ℕ). set (set (set (replicate k 0) place.offset o) place.granularity g) place.entries m) h e

pub filled_more : (ram : List ℕ) (o g i : ℕ) → i < length ram → i < ram_len → set (filled_to ram o g i) (place.ram + i) (get_or ram i 0) ≡ filled_to ram o g (i + 1)
filled_more ram o g i h k =
    let d : place.ram + i ≡ suc (suc (suc (suc (suc (suc (suc (suc (suc (suc (suc (suc i))))))))))) = omega arith in
    ap (λ (m : ℕ). set (filled_to ram o g i) m (get_or ram i 0)) d
    ∙ ap (λ (l : List ℕ). 0 ∷ 0 ∷ 0 ∷ 0 ∷ 0 ∷ 0 ∷ 0 ∷ 0 ∷ 0 ∷ o ∷ g ∷ length (entries_of ram) ∷ l) (filled_next ram_len ram i h k)

pub filled_all : (ram : List ℕ) (o g : ℕ) → filled_to ram o g (length ram) ≡ built_state ram o g
filled_all ram o g =
    ap (λ (l : List ℕ). 0 ∷ 0 ∷ 0 ∷ 0 ∷ 0 ∷ 0 ∷ 0 ∷ 0 ∷ 0 ∷ o ∷ g ∷ length (entries_of ram) ∷ (l ++ replicate (ram_len - length ram) 0)) (take-length ram)

-- ---- a plan carried out

pub plan_made : (w : Buffers) (p q : Plan) (s m : List ℕ) (r : Reply) → q ≡ p → s ≡ with_request q.request w.state → m ≡ marked q.from q.to w.registered
    → r ≡ flat_of q.answer → outcome s m w.failed r ≡ carried_out w p
plan_made w p q s m r e hs hm hr = let here : outcome s m w.failed r ≡ carried_out w q = cc in here ∙ ap (carried_out w) e

-- how `register` goes on between its two parts: what a plan stores and marks, and where it stops
abbrev pub Stored : Buffers → Plan → List ℕ → List ℕ → ℕ → Type 0
Stored w p s m c = (s ≡ with_request p.request w.state) × (m ≡ marked p.from p.to w.registered) × (c ≡ p.to)

-- then what is answered, of the words that are stored: the operation asked for, else where the request stops
abbrev pub answer_of : List ℕ → ℕ → ℕ → ℕ → ℕ → Reply
answer_of s n count until c =
    cond (eqb (get_or s place.kind 0) kind.register) (simple 0 1 0 ((offset_of s + get_or s place.start 0) % 2 ^ 64) ((offset_of s + get_or s place.end 0) % 2 ^ 64) 0)
    (cond (ltb c (min until n)) (simple refusal.registration_failed 0 count 0 0 (c * granularity_of s)) (simple 0 0 count 0 0 0))

stored : (w : Buffers) (p q : Plan) (s m : List ℕ) (c : ℕ) → q ≡ p → s ≡ with_request q.request w.state → m ≡ marked q.from q.to w.registered → c ≡ q.to → Stored w p s m c
stored w p q s m c e hs hm hc =
    (hs ∙ ap (λ (p : Plan). with_request p.request w.state) e, hm ∙ ap (λ (p : Plan). marked p.from p.to w.registered) e, hc ∙ ap (λ (p : Plan). p.to) e)

module _ (w : Buffers) (n count from until : ℕ) (hn : n ≡ chunk_count (granularity_of w.state) (entries_in w.state)) where
  abbrev planned : Plan
  planned = register_from (chunk_state_in w) (offset_of w.state) count from until

  -- one law for each case of where it stops
  module _ (a : Stop) (ha : a ≡ stop_at (chunk_state_in w) from (min until n)) (s m : List ℕ) (hm : m ≡ marked from a.chunk w.registered) where
    stopped_is : stop_plan (offset_of w.state) count from until a ≡ planned
    stopped_is = register_stopped (chunk_state_in w) (offset_of w.state) count from until (min until n) (first_not (passes (chunk_state_in w)) from (min until n)) (ap (min until) hn) refl a ha

    pub go_asked : (q : Request) → has_ram a.why ≡ true → q ≡ piece_of count a.chunk (a.chunk + 1) until (range a.start a.end) → s ≡ with_request q w.state → Stored w planned s m a.chunk
    go_asked q h hq hs =
        stored w planned (asks (offset_of w.state) from a.chunk (piece_of count a.chunk (a.chunk + 1) until (range a.start a.end))) s m a.chunk
        (sym (ram_plan (offset_of w.state) count from until a a.why h) ∙ stopped_is) (hs ∙ ap (λ (q : Request). with_request q w.state) hq) hm refl

    pub go_ended : (i : Request) → has_ram a.why ≡ false → i ≡ idle → s ≡ with_request i w.state → Stored w planned s m a.chunk
    go_ended i h hi hs = go a.why refl h
      where
        ended : (p : Plan) → p ≡ stop_plan (offset_of w.state) count from until a → p.request ≡ idle → p.from ≡ from → p.to ≡ a.chunk → Stored w planned s m a.chunk
        ended p e x y z =
            stored w planned p s m a.chunk (e ∙ stopped_is) (hs ∙ ap (λ (q : Request). with_request q w.state) (hi ∙ sym x))
            (hm ∙ sym (ap₂ (λ (f t : ℕ). marked f t w.registered) y z)) (sym z)

        go : (x : Why) → a.why ≡ x → has_ram x ≡ false → Stored w planned s m a.chunk
        go why.End e k = ended (ends from a.chunk (Done count)) (sym (ap (plan_at (offset_of w.state) count from until a) e)) refl refl refl
        go why.Ram e k = false≢true (sym k)
        go why.Failed e k = ended (ends from a.chunk (RegistrationFailed a.start count)) (sym (ap (plan_at (offset_of w.state) count from until a) e)) refl refl refl

-- the words after the request's stay
kept_at : (s : List ℕ) (i : ℕ) → get_or (drop place.after_request s) i 0 ≡ get_or s (place.after_request + i) 0
kept_at s i = get_or-drop place.after_request s i 0

module _ (w : Buffers) (n count from until : ℕ) (hn : n ≡ chunk_count (granularity_of w.state) (entries_in w.state)) where
  abbrev plan : Plan
  plan = register_from (chunk_state_in w) (offset_of w.state) count from until

  answered_of : Plan → Reply
  answered_of p = answer_of (with_request p.request w.state) n count until p.to

  answer_is : answered_of plan ≡ flat_of plan.answer
  unfolding register_from answered_of
  answer_is = go (ltb t e) (bit_at word_bits w.failed t) refl
    where
      e : ℕ
      e = min until (chunk_count (granularity_of w.state) (entries_in w.state))

      t : ℕ
      t = first_not (passes (chunk_state_in w)) from e

      ram : MemoryRange
      ram = ram_from (granularity_of w.state) (entries_in w.state) t (t * granularity_of w.state)

      one : Plan
      one = ends from t (RegistrationFailed (t * granularity_of w.state) count)

      two : Plan
      two = asks (offset_of w.state) from t (piece_of count t (t + 1) until ram)

      go : (x y : Bool) → ltb t e ≡ x → answered_of (cond x (cond y one two) (ends from t (Done count))) ≡ flat_of (cond x (cond y one two) (ends from t (Done count))).answer
      go true true h = rw (hn, h, kept_at w.state 1)
      go true false h = rw (kept_at w.state 0)
      go false y h = rw (hn, h)

  pub go_answered : (s m : List ℕ) (c : ℕ) (r : Reply) → Stored w plan s m c → r ≡ answer_of s n count until c → outcome s m w.failed r ≡ carried_out w plan
  unfolding answered_of
  go_answered s m c r h q =
      plan_made w plan plan s m r refl h.0 h.1 (q ∙ ap₂ (λ (s : List ℕ) (c : ℕ). answer_of s n count until c) h.0 h.2 ∙ answer_is)

-- ---- an operation done

none_marked : (a : ℕ) (m : List ℕ) → m ≡ marked a a m
none_marked a m = none word_bits (between a a) true m (λ j k l d. between_false a a (j * word_bits + k) (λ x y. omega arith))

module _ (w : Buffers) (q : Request) (e : q ≡ request_of w.state) where
  -- RAM of the chunk is left: it is asked for
  pub done_rest : (rest : MemoryRange) (s : List ℕ) (r : Reply) → (request_of w.state).kind ≡ kind.register → rest ≡ rest_of w.state → rest.start < rest.end
      → s ≡ with_request (piece_of q.count q.from q.to q.until rest) w.state
      → r ≡ flat_of (asked_of (offset_of w.state) (piece_of q.count q.from q.to q.until rest))
      → outcome s w.registered w.failed r ≡ carried_out (after_taken w) (done_plan (after_taken w))
  done_rest rest s r k hr h hs ha =
      plan_made (after_taken w) (done_plan (after_taken w)) (asks (offset_of w.state) 0 0 (piece_of q.count q.from q.to q.until rest)) s w.registered r
      (ap₂ (λ (q : Request) (x : MemoryRange). asks (offset_of w.state) 0 0 (piece_of q.count q.from q.to q.until x)) e hr ∙ sym (rw left)) hs unmarked ha
    where
      left : has_rest w.state ≡ true
      left = rw (eq-eqb (request_of w.state).kind kind.register k) (sym (ap (λ (x : MemoryRange). not (empty x)) hr) ∙ ap not (lt-leb rest.end rest.start h))

      untaken : (request_of w.state).from ≡ taken_to w.state
      untaken = sym (rw left)

      unmarked : w.registered ≡ marked 0 0 (marked (request_of w.state).from (taken_to w.state) w.registered)
      unmarked =
          none_marked (request_of w.state).from w.registered ∙ ap (λ (t : ℕ). marked (request_of w.state).from t w.registered) untaken
          ∙ none_marked 0 (marked (request_of w.state).from (taken_to w.state) w.registered)

  -- none is left: the chunks under way become registered, and the call goes on
  module _ (no : has_rest w.state ≡ false) (m : List ℕ) (hm : m ≡ marked q.from q.to w.registered) where
    taken : (request_of w.state).to ≡ taken_to w.state
    taken = sym (rw no)

    after_is : buffers w.state m w.failed ≡ after_taken w
    after_is =
        ap (λ (l : List ℕ). buffers w.state l w.failed)
        (hm ∙ ap (λ (q : Request). marked q.from q.to w.registered) e ∙ ap (λ (t : ℕ). marked (request_of w.state).from t w.registered) taken)

    abbrev after : Buffers
    after = buffers w.state m w.failed

    pub done_register : (request_of w.state).kind ≡ kind.register
        → carried_out after (register_from (chunk_state_in after) (offset_of w.state) q.count q.to q.until) ≡ carried_out (after_taken w) (done_plan (after_taken w))
    done_register k =
        let here : done_plan after ≡ register_from (chunk_state_in after) (offset_of w.state) (request_of w.state).count (request_of w.state).to (request_of w.state).until =
        rw (no, eq-eqb (request_of w.state).kind kind.register k) in
        ap (λ (q : Request). carried_out after (register_from (chunk_state_in after) (offset_of w.state) q.count q.to q.until)) e ∙ ap (carried_out after) (sym here)
        ∙ ap (λ (u : Buffers). carried_out u (done_plan u)) after_is

module _ (s : List ℕ) where
  pub none_left : (rest : MemoryRange) → rest ≡ rest_of s → rest.end ≤ rest.start → (request_of s).kind ≡ kind.register → has_rest s ≡ false
  none_left rest e h k = rw (eq-eqb (request_of s).kind kind.register k) (sym (ap (λ (x : MemoryRange). not (empty x)) e) ∙ ap not (le-leb rest.end rest.start h))
