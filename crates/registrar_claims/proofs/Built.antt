-- What the claims ask of a registrar holds of every one from its build on, whatever calls are made and however they are answered. Assumes nothing.
use native.Mathlib.Omega.{arith}
use mathlib.Core.Path.{◌≡◌, refl, sym, ap, ap₂, ◌∙◌}
use mathlib.Core.Logic.{⊎_elim}
use mathlib.Core.Bool.{Bool, true, false, cond, ◌&&◌}
use mathlib.Core.List.{List, [], ◌∷◌}
use Prim.Native.Nat.{ℕ, ◌+◌, ◌-◌, ◌*◌, ◌%◌, ◌^◌, ◌≤◌, ◌<◌, max}
use lib.Dec.{eqb}
use lib.ListN.{length, get_or, drop, take, replicate, length-append, length-drop, length-replicate, get_or-replicate, get_or-eq_default}
use lib.Seq.{drop-drop, take_at, get_or-drop}
use borrow.Author.Tests.{eqb-true, eq-eqb, le-leb}
use Rattle.abi.specs.Kinds as kind
use Rattle.abi.specs.RegistrarPlaces as place
use Rattle.abi.specs.Lengths.{ram_len, registrar_len, word_bits}
use Rattle.laws.specs.Bools.{and_true, lt_or_le}
use Rattle.laws.specs.Refusal.{passed}
use Rattle.layout.specs.declared.MemoryRangeWithNode.{MemoryRangeWithNode}
use Rattle.layout.specs.Layout.{range, entries_of, ordered, last_end}
use Rattle.layout.proofs.Laws.{fit, Fit, entries_count}
use Rattle.bitmap.specs.Pages.{bit_at}
use Rattle.chunks.specs.Chunks.{map_words, first_chunk, end_chunk, first_not}
use Rattle.chunks.proofs.Scan.{first_all}
use Rattle.registrar_steps.specs.declared.Request.{Request}
use Rattle.registrar_steps.specs.declared.Answer.TheVariants.{Done, Register, Refused}
use Rattle.registrar_steps.specs.declared.Plan.{Plan}
use Rattle.registrar_steps.specs.Steps.{idle, is_idle}
use Rattle.registrar_state.specs.Buffers.{Buffers, buffers, Outcome, outcome, request_of, with_request, offset_of, granularity_of, ram_of, entries_in, built_state, flat_of, decided, lengths_fit, build_refusal, build_of, marked, register_refusal, all_refusal, carried_out, register_plan, all_plan, is_known, register_of, all_of, answer_refusal, failed_of, taken_to, done_plan, after_taken, done_of}
use Rattle.registrar_state.proofs.Laws.{BuildFits, build_fits_lem, known_kept}
use Rattle.registrar_claims.specs.Runs.{Call, Build, RegisterRange, RegisterAll, AnswerDone, AnswerFailed, give, after}
use Rattle.registrar_claims.specs.Whole.{Words}
use Rattle.registrar_claims.specs.Claims.{RegisterWhole, AllWhole, RegisteredKept, ChunksPlain, AskedPlain}
use Rattle.registrar_claims.proofs.Steps.{marked_length, marked_words, register_is_whole}
use Rattle.registrar_claims.proofs.Stretches.{all_is_whole}
use Rattle.registrar_claims.proofs.Plain.{Pages, first_plain, end_plain, fit_pages}
use Rattle.registrar_claims.proofs.Requests.{Fits, idle_fits, fits_at, register_asks, all_asks, done_asks}

-- what every call keeps
pub record Sound (w : Buffers) : Type 0 where
  pub in_order : ordered 0 (entries_in w.state) ≡ true
  pub words : Words w.registered
  pub request : Fits (last_end (entries_in w.state)) (request_of w.state)
  pub pages : Pages (granularity_of w.state)
  pub room : offset_of w.state + last_end (entries_in w.state) < 2 ^ 64
  pub block : length w.state ≡ registrar_len
  pub lengths : lengths_fit (granularity_of w.state) (entries_in w.state) w.registered w.failed ≡ true

-- ---- the settings stand in the words that no request uses

ram_in : List ℕ → List ℕ
ram_in tail = take (3 * get_or tail 2 0) (drop 3 tail)

ram_tail : (s : List ℕ) → ram_of s ≡ ram_in (drop place.after_request s)
unfolding ram_in
ram_tail s = ap₂ (λ (n : ℕ) (l : List ℕ). take (3 * n) l) (sym (get_or-drop place.after_request s 2 0)) (sym (drop-drop 3 place.after_request s))

module _ (s t : List ℕ) (e : drop place.after_request t ≡ drop place.after_request s) where
  pub kept_ram : ram_of t ≡ ram_of s
  kept_ram = ram_tail t ∙ ap ram_in e ∙ sym (ram_tail s)

  kept_entries : entries_in t ≡ entries_in s
  kept_entries = ap entries_of kept_ram

  pub kept_offset : offset_of t ≡ offset_of s
  kept_offset = sym (get_or-drop place.after_request t 0 0) ∙ ap (λ (l : List ℕ). get_or l 0 0) e ∙ get_or-drop place.after_request s 0 0

  pub kept_granularity : granularity_of t ≡ granularity_of s
  kept_granularity = sym (get_or-drop place.after_request t 1 0) ∙ ap (λ (l : List ℕ). get_or l 1 0) e ∙ get_or-drop place.after_request s 1 0

-- bitmaps of the same lengths fit alike
lengths_same : (g h : ℕ) (es fs : List MemoryRangeWithNode) (r m f n : List ℕ) → g ≡ h → es ≡ fs → length r ≡ length m → length f ≡ length n → lengths_fit g es r f ≡ lengths_fit h fs m n
lengths_same g h es fs r m f n eg ee er ef =
    ap₂ (λ (x y : ℕ). eqb x (map_words g es) && eqb y (map_words g es)) er ef
    ∙ ap₂ (λ (g : ℕ) (es : List MemoryRangeWithNode). eqb (length m) (map_words g es) && eqb (length n) (map_words g es)) eg ee

-- ---- a build

pub ram_built : (ram : List ℕ) (o g : ℕ) → Fit ram → ram_of (built_state ram o g) ≡ ram
ram_built ram o g k =
    let n : length ram ≡ 3 * length (entries_of ram) = omega (arith, k.divided, entries_count ram) in
    take_at ram (replicate (ram_len - length ram) 0) (3 * length (entries_of ram)) n

built_length : (ram : List ℕ) (o g : ℕ) → Fit ram → length (built_state ram o g) ≡ registrar_len
built_length ram o g k =
    omega (arith, length-append ram (replicate (ram_len - length ram) 0), length-replicate {A = ℕ} (ram_len - length ram) 0, k.divided, k.few, entries_count ram)

zeros_words : (n : ℕ) → Words (replicate n 0)
zeros_words n j = ⊎_elim inside outside (lt_or_le j n)
  where
    inside : j < n → get_or (replicate n 0) j 0 < 2 ^ 64
    inside l = rw (get_or-replicate {A = ℕ} n j 0 0 l) (omega arith)

    outside : n ≤ j → get_or (replicate n 0) j 0 < 2 ^ 64
    outside l = rw (get_or-eq_default {A = ℕ} (replicate n 0) 0 {n = j} (omega (arith, length-replicate {A = ℕ} n 0))) (omega arith)

pub built_sound : (w : Buffers) (ram : List ℕ) (o g : ℕ) → build_refusal w ram o g ≡ 0 → Sound (build_of w ram o g).buffers
unfolding build_of
built_sound w ram o g z =
    let t : BuildFits w ram o g = build_fits_lem w ram o g z in
    let k : Fit ram = fit ram t.layout in
    let es : entries_in (built_state ram o g) ≡ entries_of ram = ap entries_of (ram_built ram o g k) in
    rw (eq-eqb (build_refusal w ram o g) 0 z)
    (record {
      in_order = ap (ordered 0) es ∙ k.in_order;
      words = zeros_words (length w.registered);
      request = idle_fits _;
      pages = fit_pages g t.fine t.power;
      room = omega (arith, t.room, ap last_end es);
      block = built_length ram o g k;
      lengths =
          lengths_same g g (entries_in (built_state ram o g)) (entries_of ram) (replicate (length w.registered) 0) w.registered (replicate (length w.failed) 0) w.failed refl es
          (length-replicate {A = ℕ} (length w.registered) 0) (length-replicate {A = ℕ} (length w.failed) 0)
          ∙ t.lengths;
    })

build_sound : (w : Buffers) (ram : List ℕ) (o g : ℕ) → Sound w → Sound (build_of w ram o g).buffers
unfolding build_of
build_sound w ram o g h = go (eqb (build_refusal w ram o g) 0) refl (built_sound w ram o g)
  where
    go : (t : Bool) → eqb (build_refusal w ram o g) 0 ≡ t → (build_refusal w ram o g ≡ 0 → Sound (decided w (build_refusal w ram o g) (outcome (built_state ram o g) (replicate (length w.registered) 0) (replicate (length w.failed) 0) (flat_of (Done 0)))).buffers)
        → Sound (decided w (build_refusal w ram o g) (outcome (built_state ram o g) (replicate (length w.registered) 0) (replicate (length w.failed) 0) (flat_of (Done 0)))).buffers
    go true e k = k (eqb-true _ _ e)
    go false e k = rw e h

-- ---- the other calls

decided_sound : (w : Buffers) (n : ℕ) (o : Outcome) → Sound w → Sound o.buffers → Sound (decided w n o).buffers
decided_sound w n o h k = go (eqb n 0)
  where
    go : (t : Bool) → Sound (cond t o (record { buffers = w; reply = flat_of (Refused n) })).buffers
    go true = k
    go false = h

-- another request in the state block, and bitmaps of the same lengths
sound_with : (w : Buffers) (q : Request) (r f : List ℕ) → Sound w → Fits (last_end (entries_in w.state)) q → Words r → length r ≡ length w.registered
    → length f ≡ length w.failed → Sound (buffers (with_request q w.state) r f)
sound_with w q r f h k words er ef =
    let t : List ℕ = with_request q w.state in
    let es : entries_in t ≡ entries_in w.state = kept_entries w.state t refl in
    let eg : granularity_of t ≡ granularity_of w.state = kept_granularity w.state t refl in
    record {
      in_order = ap (ordered 0) es ∙ h.in_order;
      words = words;
      request = fits_at _ _ q (sym (ap last_end es)) k;
      pages = record { pages = h.pages.pages; some = h.pages.some; multiple = eg ∙ h.pages.multiple };
      room = omega (arith, h.room, kept_offset w.state t refl, ap last_end es);
      block = omega (arith, h.block, length-drop place.after_request w.state);
      lengths = lengths_same (granularity_of t) (granularity_of w.state) (entries_in t) (entries_in w.state) r w.registered f w.failed eg es er ef ∙ h.lengths;
    }

-- more chunks registered
sound_marked : (w : Buffers) (a b : ℕ) → Sound w → Sound (buffers w.state (marked a b w.registered) w.failed)
sound_marked w a b h =
    record {
      in_order = h.in_order;
      words = marked_words a b w.registered h.words;
      request = h.request;
      pages = h.pages;
      room = h.room;
      block = h.block;
      lengths =
          lengths_same (granularity_of w.state) (granularity_of w.state) (entries_in w.state) (entries_in w.state) (marked a b w.registered) w.registered w.failed w.failed
          refl refl (marked_length a b w.registered) refl
          ∙ h.lengths;
    }

carried_sound : (w : Buffers) (p : Plan) → Sound w → Fits (last_end (entries_in w.state)) p.request → Sound (carried_out w p).buffers
carried_sound w p h f =
    sound_with w p.request (marked p.from p.to w.registered) w.failed h f (marked_words p.from p.to w.registered h.words)
    (marked_length p.from p.to w.registered) refl

pub call_sound : (w : Buffers) (x : Call) → Sound w → Sound (give w x).buffers
unfolding give register_of all_of done_of failed_of
call_sound w (Build ram o g) h = build_sound w ram o g h
call_sound w (RegisterRange a l) h =
    let g : ℕ = granularity_of w.state in
    decided_sound w (register_refusal w a l) (carried_out w (register_plan w a l)) h
    (carried_sound w (register_plan w a l) h (register_asks w h.in_order 0 (first_chunk g a) (end_chunk g a l)))
call_sound w (RegisterAll al ig) h =
    decided_sound w (all_refusal w al ig) (carried_out w (all_plan w al ig)) h (carried_sound w (all_plan w al ig) h (all_asks w h.in_order 0 al ig 0))
call_sound w AnswerDone h =
    let v : Buffers = after_taken w in
    decided_sound w (answer_refusal w) (carried_out v (done_plan v)) h
    (carried_sound v (done_plan v) (sound_marked w (request_of w.state).from (taken_to w.state) h) (done_asks v h.in_order h.request))
call_sound w AnswerFailed h =
    let q : Request = request_of w.state in
    decided_sound w (answer_refusal w) _ h
    (sound_with w idle w.registered (marked q.from q.to w.failed) h (idle_fits _) h.words refl (marked_length q.from q.to w.failed))

-- any list of calls and answers
pub always_sound : (xs : List Call) (w : Buffers) → Sound w → Sound (after w xs)
unfolding after
always_sound [] w h = h
always_sound (x ∷ xs) w h = always_sound xs (give w x).buffers (call_sound w x h)

module _ (w : Buffers) (ram : List ℕ) (o g : ℕ) (z : build_refusal w ram o g ≡ 0) (xs : List Call) where
  abbrev v : Buffers
  v = after (build_of w ram o g).buffers xs

  pub sound_from : Sound v
  sound_from = always_sound xs (build_of w ram o g).buffers (built_sound w ram o g z)

  -- THE CLAIMS of the whole call, of a registrar from its build on
  pub register_always_whole : RegisterWhole v
  register_always_whole address len bs n = register_is_whole v address len bs n sound_from.in_order sound_from.words

  pub all_always_whole : AllWhole v
  all_always_whole al ig bs n = all_is_whole v al ig bs n sound_from.in_order

  -- THE CLAIM of a request whose chunks are all registered
  pub registered_always_kept : RegisteredKept v
  unfolding register_of register_refusal
  registered_always_kept address len z h =
      let g : ℕ = granularity_of v.state in
      let a = passed (eqb (length v.state) registrar_len) 3 _ z in
      let b = passed (eqb (request_of v.state).kind kind.none) 18 _ a.1 in
      let i : is_idle (request_of v.state) ≡ true = ap is_idle (sound_from.request.rests (eqb-true _ _ b.0)) in
      let f : first_not (bit_at word_bits v.registered) (first_chunk g address) (end_chunk g address len) ≡ max (first_chunk g address) (end_chunk g address len) =
      first_all (bit_at word_bits v.registered) (first_chunk g address) (end_chunk g address len) h in
      let k : is_known v.state v.registered (first_chunk g address) (end_chunk g address len) ≡ true =
      and_true (is_idle (request_of v.state)) _ i (le-leb (end_chunk g address len) _ (omega (arith, f))) in
      rw (eq-eqb (register_refusal v address len) 0 z) (sym (known_kept v address len (eqb-true _ _ a.0) k))

  -- THE CLAIM of the chunks that a request touches
  pub chunks_always_plain : ChunksPlain v
  chunks_always_plain address len =
      (first_plain (granularity_of v.state) address len sound_from.pages, end_plain (granularity_of v.state) address len sound_from.pages)

  -- THE CLAIM of what is asked for
  pub asked_always_plain : AskedPlain v
  asked_always_plain =
      let q : Request = request_of v.state in
      let s : Sound v = sound_from in
      let a : (offset_of v.state + q.start) % 2 ^ 64 ≡ offset_of v.state + q.start = omega (arith, s.room, s.request.upward, s.request.inside) in
      let b : (offset_of v.state + q.end) % 2 ^ 64 ≡ offset_of v.state + q.end = omega (arith, s.room, s.request.inside) in
      ap₂ (λ (x y : ℕ). Register (range x y)) a b
