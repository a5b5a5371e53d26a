-- What a registrar was built with, what it awaits, and what it takes, after any calls. Assumes nothing.
use mathlib.Core.Path.{◌≡◌, refl, sym, ap, ap₂, ◌∙◌}
use mathlib.Core.Bool.{Bool, true, false, not, cond, ◌||◌, ◌&&◌}
use mathlib.Core.List.{List, [], ◌∷◌}
use Prim.Native.Nat.{ℕ}
use lib.Dec.{eqb, leb}
use lib.ListN.{length, drop}
use borrow.Author.Tests.{eqb-true, eqb-false, eq-eqb, not-true, not-false}
use Rattle.abi.specs.Kinds as kind
use Rattle.abi.specs.Refusals as refusal
use Rattle.abi.specs.RegistrarPlaces as place
use Rattle.abi.specs.Lengths.{registrar_len}
use Rattle.laws.specs.Bools.{both_true, false≢true}
use Rattle.laws.specs.Refusal.{unless}
use Rattle.layout.specs.Layout.{entries_of, spans}
use Rattle.layout.proofs.Laws.{fit}
use Rattle.chunks.specs.Chunks.{chunk_count, map_words, first_chunk, end_chunk, is_power}
use Rattle.registrar_steps.specs.declared.Answer.TheVariants.{Refused}
use Rattle.registrar_state.specs.Buffers.{Buffers, Outcome, request_of, offset_of, granularity_of, ram_of, entries_in, chunk_state_in, flat_of, decided, build_refusal, build_of, call_refusal, chunks_fit, register_refusal, all_refusal, carried_out, register_plan, all_plan, register_of, all_of, answer_refusal, failed_of, done_plan, after_taken, done_of}
use Rattle.registrar_state.proofs.Laws.{build_fits_lem}
use Rattle.registrar_claims.specs.Runs.{Call, Build, RegisterRange, RegisterAll, AnswerDone, AnswerFailed, give, is_build, not_refused, is_taken, under_way, after, awaits_after, Settings, built_with, settings_by, settings_after, quiet}
use Rattle.registrar_claims.specs.Claims.{is_within, Stands}
use Rattle.registrar_claims.proofs.Refusals.{plain_taken, register_plain, all_plain, done_plain, build_taken_lem, register_taken_lem, all_taken, answer_taken, refused_keeps}
use Rattle.registrar_claims.proofs.Counts.{register_counts, all_counts, done_counts}
use Rattle.registrar_claims.proofs.Built.{Sound, kept_ram, kept_offset, kept_granularity, ram_built}

-- ---- a call that is taken is refused by no number

pub taken_zero : (w : Buffers) (n : ℕ) (o : Outcome) → (not_refused n ≡ true → n ≡ 0) → is_taken (decided w n o) ≡ true → n ≡ 0
taken_zero w n o z = go (eqb n 0) refl
  where
    go : (t : Bool) → eqb n 0 ≡ t → is_taken (cond t o (record { buffers = w; reply = flat_of (Refused n) })) ≡ true → n ≡ 0
    go true e h = eqb-true _ _ e
    go false e h = z h

-- ---- what it was built with

pub record Has (s : List ℕ) (b : Settings) : Type 0 where
  pub same_offset : offset_of s ≡ b.offset
  pub same_granularity : granularity_of s ≡ b.granularity
  pub same_ram : ram_of s ≡ b.ram

kept_has : (s t : List ℕ) (b : Settings) → drop place.after_request t ≡ drop place.after_request s → Has s b → Has t b
kept_has s t b e h =
    record { same_offset = kept_offset s t e ∙ h.same_offset; same_granularity = kept_granularity s t e ∙ h.same_granularity; same_ram = kept_ram s t e ∙ h.same_ram }

pub built_has : (w : Buffers) (ram : List ℕ) (o g : ℕ) → build_refusal w ram o g ≡ 0 → Has (build_of w ram o g).buffers.state (built_with ram o g)
unfolding build_of
built_has w ram o g z =
    rw (eq-eqb (build_refusal w ram o g) 0 z)
    (record { same_offset = refl; same_granularity = refl; same_ram = ram_built ram o g (fit ram (build_fits_lem w ram o g z).layout) })

decided_has : (w : Buffers) (n : ℕ) (o : Outcome) (b : Settings) → Has w.state b → drop place.after_request o.buffers.state ≡ drop place.after_request w.state → Has (decided w n o).buffers.state b
decided_has w n o b h e = go (eqb n 0)
  where
    go : (t : Bool) → Has (cond t o (record { buffers = w; reply = flat_of (Refused n) })).buffers.state b
    go true = kept_has w.state o.buffers.state b e h
    go false = h

build_number : (w : Buffers) (ram : List ℕ) (o g : ℕ) → is_taken (build_of w ram o g) ≡ true → build_refusal w ram o g ≡ 0
unfolding build_of
build_number w ram o g t = taken_zero w (build_refusal w ram o g) _ (build_taken_lem w ram o g) t

call_has : (w : Buffers) (x : Call) (b : Settings) → Has w.state b → is_taken (give w x) ≡ true → Has (give w x).buffers.state (settings_by b x)
unfolding give register_of all_of done_of failed_of
call_has w (Build ram o g) b h t = built_has w ram o g (build_number w ram o g t)
call_has w (RegisterRange a l) b h t = decided_has w (register_refusal w a l) (carried_out w (register_plan w a l)) b h refl
call_has w (RegisterAll al ig) b h t = decided_has w (all_refusal w al ig) (carried_out w (all_plan w al ig)) b h refl
call_has w AnswerDone b h t = decided_has w (answer_refusal w) (carried_out (after_taken w) (done_plan (after_taken w))) b h refl
call_has w AnswerFailed b h t = decided_has w (answer_refusal w) _ b h refl

pub has_after : (xs : List Call) (w : Buffers) (b : Settings) → Has w.state b → Has (after w xs).state (settings_after w b xs)
unfolding after settings_after
has_after [] w b h = h
has_after (x ∷ xs) w b h = has_after xs (give w x).buffers (cond (is_taken (give w x)) (settings_by b x) b) (go (is_taken (give w x)) refl)
  where
    go : (t : Bool) → is_taken (give w x) ≡ t → Has (give w x).buffers.state (cond t (settings_by b x) b)
    go true e = call_has w x b h e
    go false e = kept_has w.state (give w x).buffers.state b (ap (λ (u : Buffers). drop place.after_request u.state) (refused_keeps w x e)) h

same_settings : (b : Settings) (x : Call) → is_build x ≡ false → settings_by b x ≡ b
same_settings b (Build ram o g) h = false≢true (sym h)
same_settings b (RegisterRange a l) h = refl
same_settings b (RegisterAll al ig) h = refl
same_settings b AnswerDone h = refl
same_settings b AnswerFailed h = refl

pub quiet_stays : (xs : List Call) (w : Buffers) (b : Settings) → quiet xs ≡ true → settings_after w b xs ≡ b
unfolding quiet settings_after
quiet_stays [] w b h = refl
quiet_stays (x ∷ xs) w b h =
    let a = both_true (not (is_build x)) (quiet xs) h in
    quiet_stays xs (give w x).buffers (cond (is_taken (give w x)) (settings_by b x) b) a.1 ∙ go (is_taken (give w x)) (same_settings b x (not-true _ a.0))
  where
    go : (t : Bool) → settings_by b x ≡ b → cond t (settings_by b x) b ≡ b
    go true e = e
    go false e = refl

-- ---- what it awaits

abbrev Tells : Outcome → Type 0
Tells o = eqb o.reply.asked 1 ≡ under_way o.buffers

decided_tells : (w : Buffers) (n : ℕ) (o : Outcome) → (not_refused n ≡ true → n ≡ 0) → Tells o → is_taken (decided w n o) ≡ true → Tells (decided w n o)
decided_tells w n o z h = go (eqb n 0) refl
  where
    go : (t : Bool) → eqb n 0 ≡ t → let d : Outcome = cond t o (record { buffers = w; reply = flat_of (Refused n) }) in is_taken d ≡ true → Tells d
    go true e k = h
    go false e k = absurd (eqb-false n 0 e (z k))

call_tells : (w : Buffers) (x : Call) → is_taken (give w x) ≡ true → Tells (give w x)
unfolding give build_of register_of all_of done_of failed_of
call_tells w (Build ram o g) = decided_tells w (build_refusal w ram o g) _ (build_taken_lem w ram o g) refl
call_tells w (RegisterRange a l) =
    let g : ℕ = granularity_of w.state in
    decided_tells w (register_refusal w a l) (carried_out w (register_plan w a l)) (register_taken_lem w a l)
    (register_counts (chunk_state_in w) (offset_of w.state) 0 (first_chunk g a) (end_chunk g a l)).2
call_tells w (RegisterAll al ig) =
    decided_tells w (all_refusal w al ig) (carried_out w (all_plan w al ig)) (all_taken w al ig) (all_counts (chunk_state_in w) (offset_of w.state) 0 al ig 0 (spans (entries_in w.state))).2
call_tells w AnswerDone = decided_tells w (answer_refusal w) (carried_out (after_taken w) (done_plan (after_taken w))) (answer_taken w) (done_counts (after_taken w)).2
call_tells w AnswerFailed = decided_tells w (answer_refusal w) _ (answer_taken w) refl

pub awaits_after_lem : (xs : List Call) (w : Buffers) (b : Bool) → under_way w ≡ b → under_way (after w xs) ≡ awaits_after w b xs
unfolding after awaits_after
awaits_after_lem [] w b h = h
awaits_after_lem (x ∷ xs) w b h =
    awaits_after_lem xs (give w x).buffers (cond (is_taken (give w x)) (eqb (give w x).reply.asked 1) b) (go (is_taken (give w x)) refl)
  where
    go : (t : Bool) → is_taken (give w x) ≡ t → under_way (give w x).buffers ≡ cond t (eqb (give w x).reply.asked 1) b
    go true e = sym (call_tells w x e)
    go false e = ap under_way (refused_keeps w x e) ∙ h

-- ---- what it takes

module _ (w : Buffers) (s : Sound w) where
  pub answer_passes : under_way w ≡ true → answer_refusal w ≡ 0
  unfolding answer_refusal
  answer_passes h = rw (eq-eqb (length w.state) registrar_len s.block, s.lengths, not-true (eqb (request_of w.state).kind kind.none) h)

  pub done_taken : under_way w ≡ true → is_taken (done_of w) ≡ true
  unfolding done_of
  done_taken h = rw (eq-eqb (answer_refusal w) 0 (answer_passes h)) (plain_taken (done_plan (after_taken w)).answer (done_plain (after_taken w)))

  pub failed_taken : under_way w ≡ true → is_taken (failed_of w) ≡ true
  unfolding failed_of
  failed_taken h = rw (eq-eqb (answer_refusal w) 0 (answer_passes h))

  answer_none : under_way w ≡ false → answer_refusal w ≡ refusal.nothing_asked
  unfolding answer_refusal
  answer_none h = rw (eq-eqb (length w.state) registrar_len s.block, s.lengths, not-false (eqb (request_of w.state).kind kind.none) h)

  pub done_refused : under_way w ≡ false → done_of w ≡ record { buffers = w; reply = flat_of (Refused refusal.nothing_asked) }
  unfolding done_of
  done_refused h = rw (answer_none h)

  pub failed_refused : under_way w ≡ false → failed_of w ≡ record { buffers = w; reply = flat_of (Refused refusal.nothing_asked) }
  unfolding failed_of
  failed_refused h = rw (answer_none h)

  call_passes : (rest : ℕ) → under_way w ≡ false → rest ≡ 0 → call_refusal w rest ≡ 0
  call_passes rest h z = rw (eq-eqb (length w.state) registrar_len s.block, not-false (eqb (request_of w.state).kind kind.none) h, s.lengths, z)

  register_passes : (address len : ℕ) → let g : ℕ = granularity_of w.state in
      under_way w ≡ false → chunks_fit w.state (first_chunk g address) (end_chunk g address len) ≡ true → is_taken (register_of w address len) ≡ true
  unfolding register_of register_refusal
  register_passes address len h k =
      let g : ℕ = granularity_of w.state in
      let z = call_passes (unless (chunks_fit w.state (first_chunk g address) (end_chunk g address len)) refusal.unfit_chunk 0) h (rw k) in
      rw (eq-eqb (register_refusal w address len) 0 z) (plain_taken (register_plan w address len).answer (register_plain (chunk_state_in w) (offset_of w.state) 0 (first_chunk g address) (end_chunk g address len)))

  all_passes : (al ignore : ℕ) → under_way w ≡ false → leb ignore 1 ≡ true → (leb (granularity_of w.state) al && is_power al) ≡ true → is_taken (all_of w al ignore) ≡ true
  unfolding all_of all_refusal
  all_passes al ignore h i k =
      let z = call_passes (unless (leb ignore 1) refusal.unfit_number (unless (leb (granularity_of w.state) al && is_power al) refusal.unfit_chunk 0)) h (rw (i, k)) in
      rw (eq-eqb (all_refusal w al ignore) 0 z) (plain_taken (all_plan w al ignore).answer (all_plain (chunk_state_in w) (offset_of w.state) 0 al ignore 0 (spans (entries_in w.state))))

-- THE CLAIM of what a registrar is and takes
pub stands : (w : Buffers) (b : Settings) (awaits : Bool) → Sound w → Has w.state b → under_way w ≡ awaits → Stands w b awaits
stands w b awaits s h t =
    let words : map_words (granularity_of w.state) (entries_in w.state) ≡ map_words b.granularity (entries_of b.ram) =
    ap₂ (λ (g : ℕ) (ram : List ℕ). map_words g (entries_of ram)) h.same_granularity h.same_ram in
    let lengths = both_true (eqb (length w.registered) (map_words (granularity_of w.state) (entries_in w.state))) _ s.lengths in
    record {
      same_offset = h.same_offset;
      same_granularity = h.same_granularity;
      same_ram = h.same_ram;
      state_length = s.block;
      registered_length = eqb-true _ _ lengths.0 ∙ words;
      failed_length = eqb-true _ _ lengths.1 ∙ words;
      told = t;
      answer_taken = λ e. (done_taken w s (t ∙ e), failed_taken w s (t ∙ e));
      answer_refused = λ e. (done_refused w s (t ∙ e), failed_refused w s (t ∙ e));
      register_taken_lem = λ e address len k. register_passes w s address len (t ∙ e) (within address len ∙ k);
      all_taken =
          λ e al ignore k.
          let p = both_true (leb ignore 1) (leb b.granularity al && is_power al) k in
          all_passes w s al ignore (t ∙ e) p.0 (ap (λ (g : ℕ). leb g al && is_power al) h.same_granularity ∙ p.1);
    }
  where
    within : (address len : ℕ) → let g : ℕ = granularity_of w.state in chunks_fit w.state (first_chunk g address) (end_chunk g address len) ≡ is_within b address len
    within address len =
        ap₂ (λ (g : ℕ) (ram : List ℕ). leb (end_chunk g address len) (first_chunk g address) || leb (end_chunk g address len) (chunk_count g (entries_of ram))) h.same_granularity h.same_ram
