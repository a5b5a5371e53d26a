-- Every request ends: each answer that is taken lowers the number `left`, and nothing refused changes it. Assumes nothing.
use Rattle.permissions.specs.declared.HvMapGpaFlags.{HvMapGpaFlags}
use Rattle.std.specs.Prelude.{Option, Some, None}
use native.Mathlib.Omega.{arith}
use mathlib.Core.Path.{◌≡◌, refl, sym, ap, ap₂, ◌∙◌}
use mathlib.Core.Logic.{⊎_elim}
use mathlib.Core.Bool.{Bool, true, false, cond, ◌&&◌}
use mathlib.Core.List.{List, [], ◌∷◌}
use Prim.Native.Nat.{ℕ, suc, ◌+◌, ◌-◌, ◌*◌, ◌≤◌, ◌<◌, min, max}
use native.Mathlib.Decide.{dec_lt}
use lib.Dec.{eqb, ltb, leb}
use lib.ListN.{length, get_or, drop}
use lib.Seq.{get_or-drop, drop-drop}
use borrow.Author.Tests.{eq-eqb, eqb-true, eqb-false, ltb-true, leb-false}
use Rattle.laws.specs.Bools.{false≢true, and_left, lt_or_le}
use Rattle.layout.specs.declared.MemoryRangeWithNode.{MemoryRangeWithNode}
use Rattle.page_list.specs.declared.PageRun.{PageRun}
use Rattle.default_change.specs.Pieces.{span, non, piece_of, page_up, piece_in, next_of, wanted}
use Rattle.default_change.proofs.Spans.{span_le}
use Rattle.request_pages.specs.Request.{run_end}
use Rattle.request_pages.proofs.Runs.{end_none, end_after}
use Rattle.visibility_steps.specs.declared.Phase.{Phase}
use Rattle.visibility_steps.specs.declared.Phase.TheVariants as at
use Rattle.visibility_steps.specs.declared.Settings.{Settings}
use Rattle.visibility_steps.specs.declared.Request.{Request}
use Rattle.visibility_steps.specs.declared.Writes.{Writes}
use Rattle.visibility_steps.specs.declared.Step.{Step}
use Rattle.visibility_steps.specs.Steps.{is_snp, is_cca, releases, no_writes, set_shared, set_private, set_permissions, ask, end, halt, share_run, default_run, return_run, after_flush, after_wait, after_modify, after_accept, after_default0, cut_at, failed_modify, done_of, failed_of}
use Rattle.change_steps.specs.declared.Stage.{Stage}
use Rattle.change_steps.specs.declared.Stage.TheVariants as stage
use Rattle.change_steps.specs.declared.Entry.{Entry}
use Rattle.change_steps.specs.declared.Entry.TheVariants.{Keep, Add, Remove}
use Rattle.change_steps.specs.declared.Change.{Change}
use Rattle.change_steps.specs.declared.ChangeStep.{ChangeStep}
use Rattle.change_steps.specs.Changes as changes
use Rattle.protector_state.specs.State.{state_len, first_phases, phase_of, phase_in, request_of, settings_of, entries_in}
use Rattle.protector_state.specs.Changing.{stage_number, stage_of, stage_in, is_changing, change_in, with_change}
use Rattle.call_refusals.specs.Buffers.{Buffers, overlays_of, fits, status_of, status_in, takes, takes_at}
use Rattle.protector.specs.Calls.{carried_out, carried_change, piece_after, next_in, after_done, after_failed, visibility_done, visibility_failed, change_done, change_failed, answer_done, answer_failed}
use Rattle.call_refusals.specs.Refusals.{answer_refusal}
use Rattle.call_refusals.proofs.Taken.{changing_named, done_takes}
use Rattle.visibility_claims.specs.Whole.{BackendAnswer, Succeeds, Fails}
use Rattle.visibility_claims.specs.Calls.{answer_of, taken_by}
use Rattle.visibility_claims.specs.Ends.{left, left_at, page_end, left_in, under_way, after_all, taken_of, unrefused, TakenLowers, UntakenKeeps, TakenEnd, EveryRequestEnds, DoneTaken}
use Rattle.visibility_claims.proofs.Calls.{few_done, few_failed, no_change_lem, phase_read, request_read}
use Rattle.visibility_claims.proofs.Refusals.{answer_takes}

-- what is left after a step is at most k
record Within (k : ℕ) (x : Step) : Type 0 where
  within : left x.phase x.request.n x.request.at ≤ k

-- a choice, by its test
pick : (k : ℕ) {x y : Step} (c : Bool) → (c ≡ true → Within k x) → Within k y → Within k (cond c x y)
pick k true f g = f refl
pick k false f g = g

more : {k j : ℕ} {x : Step} → k ≤ j → Within k x → Within j x
more h w = record { within = omega (arith, w.within) }

module _ (s : Settings) (t : List ℕ) where
  asked : (p : Phase) (q : Request) (a : ℕ) (w : Writes) → Within (left p q.n a) (ask s p q t a w)
  unfolding ask
  asked p q a w = record { within = omega arith }

  ended : (k : ℕ) (q : Request) (w : Writes) → Within k (end q w)
  unfolding end
  ended k q w = record { within = omega arith }

  halted : (k : ℕ) (q : Request) → Within k (halt q)
  unfolding halt
  halted k q = record { within = omega arith }

  -- from the run at place a on
  share_left : (q : Request) (a : ℕ) → Within (3 * (q.n - a) + 4 * q.n + 1) (share_run s q t a)
  unfolding share_run
  share_left q a =
      pick _ (ltb a q.n && is_snp s.isolation) (λ e. let h : a < q.n = ltb-true a q.n (and_left _ _ e) in more (omega arith) (asked at.ProtectNone0 q a no_writes))
      (pick _ (ltb a q.n && releases s.isolation s.release) (λ e. let h : a < q.n = ltb-true a q.n (and_left _ _ e) in more (omega arith) (asked at.Release q a no_writes))
      (more (omega arith) (asked at.Modify q 0 no_writes)))

  default_left : (q : Request) (a : ℕ) (w : Writes) → Within (2 * (q.n - a)) (default_run s q t a w)
  unfolding default_run
  default_left q a w =
      pick _ (ltb a q.n) (λ e. let h : a < q.n = ltb-true a q.n e in more (omega arith) (asked at.ProtectDefault0 q a (set_permissions w a (cond s.tracked (run_end t q.n a) a) s.defaults.vtl0)))
      (ended _ q w)

  return_left : (q : Request) (a : ℕ) (w : Writes) → Within (2 * (q.n - a) + 2 * q.n) (return_run s q t a w)
  unfolding return_run
  return_left q a w =
      let d : Within (2 * (q.n - a) + 2 * q.n) (default_run s q t 0 (set_private w q.n)) = more (omega arith) (default_left q 0 (set_private w q.n)) in
      pick _ (ltb a q.n) (λ e. let h : a < q.n = ltb-true a q.n e in pick _ (is_cca s.isolation) (λ _. d) (more (omega arith) (asked at.Accept q a w))) d

  -- the place after a run
  past : (n a : ℕ) → n - run_end t n a ≤ n - suc a
  past n a = ⊎_elim (λ (h : a < n). omega (arith, end_after t n a h)) (λ (h : n ≤ a). omega (arith, end_none t n a h)) (lt_or_le a n)

  flush_left : (q : Request) → Within (7 * q.n + 1) (after_flush s q t)
  unfolding after_flush
  flush_left q = pick _ q.share (λ _. more (omega arith) (share_left q 0)) (more (omega arith) (asked at.Modify q 0 no_writes))

  second_left : (g : Option HvMapGpaFlags) (q : Request) → Within (2 * (q.n - suc q.at) + 1) (after_default0 g s q t)
  second_left (Some f) q = more (omega arith) (asked at.ProtectDefault1 q q.at no_writes)
  second_left None q = more (omega (arith, past q.n q.at)) (default_left q (run_end t q.n q.at) no_writes)

  -- what a taken answer leads to
  done_left : (p : Phase) (q : Request) → takes p false ≡ true → Within (left p q.n q.at - 1) (done_of s p q t)
  unfolding done_of after_wait after_modify after_accept
  done_left at.Idle q e = false≢true e
  done_left at.Halted q e = false≢true e
  done_left at.Wait q e = pick _ (is_snp s.isolation) (λ _. more (omega arith) (asked at.FlushAll q 0 no_writes)) (more (omega arith) (flush_left q))
  done_left at.FlushAll q e = more (omega arith) (flush_left q)
  done_left at.ProtectNone0 q e = more (omega arith) (asked at.ProtectNone1 q q.at no_writes)
  done_left at.ProtectNone1 q e = more (omega arith) (asked at.Invalidate q q.at no_writes)
  done_left at.Invalidate q e = more (omega (arith, past q.n q.at)) (share_left q (run_end t q.n q.at))
  done_left at.Release q e = more (omega (arith, past q.n q.at)) (share_left q (run_end t q.n q.at))
  done_left at.Modify q e = pick _ q.share (λ _. ended _ q (set_shared no_writes 0 q.n)) (more (omega arith) (return_left q 0 no_writes))
  done_left at.Accept q e = pick _ (is_snp s.isolation) (λ _. more (omega arith) (asked at.Zero q q.at no_writes)) (more (omega (arith, past q.n q.at)) (return_left q (run_end t q.n q.at) no_writes))
  done_left at.Zero q e = more (omega (arith, past q.n q.at)) (return_left q (run_end t q.n q.at) no_writes)
  done_left at.ProtectDefault0 q e = more (omega arith) (second_left s.defaults.vtl1 q)
  done_left at.ProtectDefault1 q e = more (omega (arith, past q.n q.at)) (default_left q (run_end t q.n q.at) no_writes)

  cut_left : (q : Request) (code k : ℕ) → Within (4 * q.n) (failed_modify s q t code k)
  unfolding failed_modify
  cut_left q code k = pick _ q.share (λ _. halted _ q) (go (leb q.n k) refl)
    where
      go : (y : Bool) → leb q.n k ≡ y → Within (4 * q.n) (cond y (halt q) (return_run s (cut_at q k code (get_or t (512 + k) 0)) t 0 (set_shared no_writes k q.n)))
      go true e = halted _ q
      go false e = more (omega (arith, leb-false q.n k e)) (return_left (cut_at q k code (get_or t (512 + k) 0)) 0 (set_shared no_writes k q.n))

  failed_left : (p : Phase) (q : Request) (code k : ℕ) → takes p true ≡ true → Within (left p q.n q.at - 1) (failed_of s p q t code k)
  unfolding failed_of
  failed_left at.Idle q code k e = false≢true e
  failed_left at.Halted q code k e = false≢true e
  failed_left at.Wait q code k e = false≢true e
  failed_left at.FlushAll q code k e = false≢true e
  failed_left at.ProtectNone0 q code k e = halted _ q
  failed_left at.ProtectNone1 q code k e = halted _ q
  failed_left at.Invalidate q code k e = halted _ q
  failed_left at.Release q code k e = halted _ q
  failed_left at.Modify q code k e = more (omega arith) (cut_left q code k)
  failed_left at.Accept q code k e = halted _ q
  failed_left at.Zero q code k e = halted _ q
  failed_left at.ProtectDefault0 q code k e = halted _ q
  failed_left at.ProtectDefault1 q code k e = halted _ q

-- an operation outstanding is one to come
some_left : (p : Phase) (n a : ℕ) → eqb (status_of p) 19 ≡ true → 0 < left p n a
some_left at.Idle n a e = false≢true e
some_left at.Halted n a e = false≢true e
some_left at.Wait n a e = omega arith
some_left at.FlushAll n a e = omega arith
some_left at.ProtectNone0 n a e = omega arith
some_left at.ProtectNone1 n a e = omega arith
some_left at.Invalidate n a e = omega arith
some_left at.Release n a e = omega arith
some_left at.Modify n a e = omega arith
some_left at.Accept n a e = omega arith
some_left at.Zero n a e = omega arith
some_left at.ProtectDefault0 n a e = omega arith
some_left at.ProtectDefault1 n a e = omega arith

takes_some : (p : Phase) (b : Bool) → takes p b ≡ true → eqb (status_of p) 19 ≡ true
takes_some at.Idle b e = e
takes_some at.Halted b e = e
takes_some at.Wait b e = refl
takes_some at.FlushAll b e = refl
takes_some at.ProtectNone0 b e = refl
takes_some at.ProtectNone1 b e = refl
takes_some at.Invalidate b e = refl
takes_some at.Release b e = refl
takes_some at.Modify b e = refl
takes_some at.Accept b e = refl
takes_some at.Zero b e = refl
takes_some at.ProtectDefault0 b e = refl
takes_some at.ProtectDefault1 b e = refl

-- ---- another change: what is kept is read again

stage_read : (g : Stage) → (leb 13 (stage_number g) && ltb (stage_number g) 20) ≡ true → stage_of (stage_number g) ≡ g
unfolding stage_of
stage_read stage.Idle e = false≢true e
stage_read stage.Halted e = false≢true e
stage_read stage.ProtectPages e = refl
stage_read stage.ProtectRam e = refl
stage_read stage.ProtectNew e = refl
stage_read stage.ProtectOld e = refl
stage_read stage.Wait e = refl
stage_read stage.Flush e = refl
stage_read stage.TlbWait e = refl

-- one that isn't under way leaves nothing to come
stage_over : (g : Stage) (n a end n' a' : ℕ) → (leb 13 (stage_number g) && ltb (stage_number g) 20) ≡ false → left (phase_of (stage_number g)) n' a' ≡ left_at g n a end
unfolding phase_of first_phases
stage_over stage.Idle n a end n' a' e = refl
stage_over stage.Halted n a end n' a' e = refl
stage_over stage.ProtectPages n a end n' a' e = false≢true (sym e)
stage_over stage.ProtectRam n a end n' a' e = false≢true (sym e)
stage_over stage.ProtectNew n a end n' a' e = false≢true (sym e)
stage_over stage.ProtectOld n a end n' a' e = false≢true (sym e)
stage_over stage.Wait n a end n' a' e = false≢true (sym e)
stage_over stage.Flush n a end n' a' e = false≢true (sym e)
stage_over stage.TlbWait n a end n' a' e = false≢true (sym e)

-- its stage has something left
stage_some : (g : Stage) (n a end : ℕ) → 13 ≤ stage_number g → 0 < left_at g n a end
stage_some stage.Idle n a end h = absurd (omega arith)
stage_some stage.Halted n a end h = absurd (omega arith)
stage_some stage.ProtectPages n a end h = omega arith
stage_some stage.ProtectRam n a end h = omega arith
stage_some stage.ProtectNew n a end h = omega arith
stage_some stage.ProtectOld n a end h = omega arith
stage_some stage.Wait n a end h = omega arith
stage_some stage.Flush n a end h = omega arith
stage_some stage.TlbWait n a end h = omega arith

-- ---- each of its steps lowers the number

-- what is left after a step is at most k
record Least (end k : ℕ) (x : ChangeStep) : Type 0 where
  few : x.change.n ≤ 512
  within : left_at x.stage x.change.n x.change.at end ≤ k

choose : (end k : ℕ) (x y : ChangeStep) (b : Bool) → (b ≡ true → Least end k x) → (b ≡ false → Least end k y) → Least end k (cond b x y)
choose end k x y true f g = f refl
choose end k x y false f g = g refl

-- a piece lies from page a on, and ends no later than RAM
record Ahead (a end : ℕ) (r : PageRun) : Type 0 where
  from : a ≤ r.first
  to : r.first + r.count ≤ end

in_entry_lem : (P : ℕ → Bool) (m a end : ℕ) → a ≤ m → ((piece_of P m end).count ≡ 0 → ⊥) → Ahead a end (piece_of P m end)
in_entry_lem P m a end h d =
    let k : ℕ = end - m in
    let s : ℕ = span (non P) m k in
    record {
      from = omega (arith, h);
      to = elim (dec_lt 0 (span P (m + s) (k - s))) [
        | yes x ↦ omega (arith, x, span_le (non P) k m, span_le P (k - s) (m + s))
        | no x ↦ absurd (d (omega (arith, x)))
      ];
    }

piece_ahead : (P : ℕ → Bool) (es : List MemoryRangeWithNode) (a : ℕ) → ((next_of P es a).count ≡ 0 → ⊥) → Ahead a (page_end es) (next_of P es a)
unfolding next_of page_end
piece_ahead P [] a h = absurd (h refl)
piece_ahead P (e ∷ es) a h = go (eqb (piece_in P e a).count 0) refl h (piece_ahead P es a)
  where
    go : (b : Bool) → eqb (piece_in P e a).count 0 ≡ b → ((cond b (next_of P es a) (piece_in P e a)).count ≡ 0 → ⊥) → (((next_of P es a).count ≡ 0 → ⊥) → Ahead a (page_end es) (next_of P es a))
        → Ahead a (max (page_up e.end) (page_end es)) (cond b (next_of P es a) (piece_in P e a))
    go true d h more = let x = more h in record { from = x.from; to = omega (arith, x.to) }
    go false d h more =
        let x = in_entry_lem P (max (page_up e.start) a) a (page_up e.end) (omega arith) h in
        record { from = x.from; to = omega (arith, x.to) }

module _ (tracked : Bool) (q : Change) (t : List ℕ) (few : q.n ≤ 512) where
  waited : (end k : ℕ) (e : Entry) → 3 ≤ k → Least end k (changes.wait q e)
  unfolding changes.wait changes.ask
  waited end k e h = record { few = few; within = h }

  -- from the run after the one at place a on
  pages_lower : (end a b : ℕ) → b ≡ run_end t q.n a → Least end (q.n - suc a + 3) (changes.protect_pages tracked q t b)
  unfolding changes.protect_pages changes.protect
  pages_lower end a b e =
      choose end (q.n - suc a + 3) _ _ (ltb b q.n)
      (λ h.
      let l : b < q.n = ltb-true b q.n h in
      record { few = few; within = ⊎_elim (λ k. omega (arith, l, e, end_after t q.n a k)) (λ k. absurd (omega (arith, l, e, end_none t q.n a k))) (lt_or_le a q.n) })
      (λ h. waited end (q.n - suc a + 3) Keep (omega arith))

  ram_lower : (end a : ℕ) (next : PageRun) → ((next.count ≡ 0 → ⊥) → Ahead a end next) → Least end (end - a + 3) (changes.protect_ram tracked q next)
  unfolding changes.protect_ram changes.protect
  ram_lower end a next f =
      choose end (end - a + 3) _ _ (eqb next.count 0) (λ h. waited end (end - a + 3) Keep (omega arith))
      (λ h.
      let d : next.count ≡ 0 → ⊥ = eqb-false next.count 0 h in
      let x = f d in
      record { few = few; within = elim (dec_lt 0 next.count) [ yes k ↦ omega (arith, k, x.from, x.to) | no k ↦ absurd (d (omega (arith, k))) ] })

  change_lowers : (g : Stage) (end : ℕ) (next : PageRun) → takes_at g false ≡ true → ((next.count ≡ 0 → ⊥) → Ahead q.at end next)
      → Least end (left_at g q.n q.at end - 1) (changes.done_of tracked g q t next)
  unfolding changes.done_of changes.ask changes.finish
  change_lowers stage.Idle end next e f = false≢true e
  change_lowers stage.Halted end next e f = false≢true e
  change_lowers stage.ProtectPages end next e f = let x = pages_lower end q.at (run_end t q.n q.at) refl in record { few = x.few; within = omega (arith, x.within) }
  change_lowers stage.ProtectRam end next e f = let x = ram_lower end q.at next f in record { few = x.few; within = omega (arith, x.within) }
  change_lowers stage.ProtectNew end next e f = waited end 3 Add (omega arith)
  change_lowers stage.ProtectOld end next e f = waited end 3 Remove (omega arith)
  change_lowers stage.Wait end next e f = record { few = few; within = omega arith }
  change_lowers stage.Flush end next e f = record { few = few; within = omega arith }
  change_lowers stage.TlbWait end next e f = record { few = omega arith; within = omega arith }

  unchange_lowers : (g : Stage) (end : ℕ) → takes_at g true ≡ true → Least end (left_at g q.n q.at end - 1) (changes.failed_of g q)
  unfolding changes.failed_of changes.halt changes.finish
  unchange_lowers stage.Idle end e = false≢true e
  unchange_lowers stage.Halted end e = false≢true e
  unchange_lowers stage.ProtectPages end e = record { few = few; within = omega arith }
  unchange_lowers stage.ProtectRam end e = record { few = few; within = omega arith }
  unchange_lowers stage.ProtectNew end e = record { few = omega arith; within = omega arith }
  unchange_lowers stage.ProtectOld end e = record { few = omega arith; within = omega arith }
  unchange_lowers stage.Wait end e = false≢true e
  unchange_lowers stage.Flush end e = false≢true e
  unchange_lowers stage.TlbWait end e = false≢true e

takes_left : (g : Stage) (b : Bool) (n a end : ℕ) → takes_at g b ≡ true → 0 < left_at g n a end
takes_left stage.Idle b n a end e = false≢true e
takes_left stage.Halted b n a end e = false≢true e
takes_left stage.ProtectPages b n a end e = omega arith
takes_left stage.ProtectRam b n a end e = omega arith
takes_left stage.ProtectNew b n a end e = omega arith
takes_left stage.ProtectOld b n a end e = omega arith
takes_left stage.Wait b n a end e = omega arith
takes_left stage.Flush b n a end e = omega arith
takes_left stage.TlbWait b n a end e = omega arith

-- ---- the same of what is lent

-- a step carried out leaves what the step leaves
carried_left : (w : Buffers) (t : List ℕ) (x : Step) → x.request.n ≤ 512 → left_in (carried_out w t x).buffers ≡ left x.phase x.request.n x.request.at
unfolding carried_out
carried_left w t x h =
    rw (no_change_lem x.phase)
    (ap₂ (λ (p : Phase) (q : Request). left p q.n q.at) (phase_read x.phase) (request_read x.phase x.request (drop 10 w.state) h))

pub change_entries : (g : Stage) (q : Change) (s : List ℕ) → entries_in (with_change g q s) ≡ entries_in s
change_entries g q s = rw (get_or-drop 14 s 17 0, drop-drop 18 14 s)

changed_left : (w : Buffers) (t : List ℕ) (x : ChangeStep) → x.change.n ≤ 512
    → left_in (carried_change w t x).buffers ≡ left_at x.stage x.change.n x.change.at (page_end (entries_in w.state))
unfolding carried_change
changed_left w t x h = go (leb 13 (stage_number g) && ltb (stage_number g) 20) refl
  where
    g : Stage
    g = x.stage

    q : Change
    q = x.change

    go : (b : Bool) → (leb 13 (stage_number g) && ltb (stage_number g) 20) ≡ b
        → cond b (left_at (stage_of (stage_number g)) (min q.n 512) q.at (page_end (entries_in (with_change g q w.state)))) (left (phase_of (stage_number g)) (min q.n 512) q.at)
        ≡ left_at g q.n q.at (page_end (entries_in w.state))
    go true e = let m : min q.n 512 ≡ q.n = omega (arith, h) in rw (stage_read g e, m, change_entries g q w.state)
    go false e = stage_over g q.n q.at (page_end (entries_in w.state)) (min q.n 512) q.at e

lower : (l : ℕ) (w' : Buffers) (x : Step) → left_in w' ≡ left x.phase x.request.n x.request.at → Within (l - 1) x → 0 < l → left_in w' < l
lower l w' x e h o = omega (arith, e, h.within)

lower_change : (w : Buffers) (l : ℕ) (x : ChangeStep) → Least (page_end (entries_in w.state)) (l - 1) x → 0 < l → left_in (carried_change w w.pages x).buffers < l
lower_change w l x h o = omega (arith, changed_left w w.pages x h.few, h.within)

-- THE CLAIMS
pub taken_lowers : TakenLowers
unfolding answer_done answer_failed after_done after_failed
taken_lowers w Succeeds e = rw e (go (is_changing s) refl (answer_takes s (fits w) false (eqb-true _ _ e)))
  where
    s : List ℕ
    s = w.state

    q : Change
    q = change_in s

    x : Step
    x = done_of (settings_of s) (phase_in s) (request_of s) w.pages

    go : (b : Bool) → is_changing s ≡ b → cond b (takes_at (stage_in s) false) (takes (phase_in s) false) ≡ true
        → left_in (cond b (change_done w) (visibility_done w)).buffers < cond b (left_at (stage_in s) q.n q.at (page_end (entries_in s))) (left (phase_in s) (request_of s).n (request_of s).at)
    go true d c =
        lower_change w (left_at (stage_in s) q.n q.at (page_end (entries_in s))) _
        (change_lowers (settings_of s).tracked q w.pages (omega arith) (stage_in s) (page_end (entries_in s)) (next_in w.maps.private s w.tables) c (ahead (stage_in s)))
        (takes_left (stage_in s) false q.n q.at (page_end (entries_in s)) c)
      where
        ahead : (g : Stage) → ((piece_after g w.maps.private (overlays_of w.tables q.vtl) (entries_in s) q.at).count ≡ 0 → ⊥)
            → Ahead q.at (page_end (entries_in s)) (piece_after g w.maps.private (overlays_of w.tables q.vtl) (entries_in s) q.at)
        ahead stage.Idle h = absurd (h refl)
        ahead stage.Halted h = absurd (h refl)
        ahead stage.ProtectPages h = absurd (h refl)
        ahead stage.ProtectRam h = piece_ahead (wanted w.maps.private (overlays_of w.tables q.vtl)) (entries_in s) q.at h
        ahead stage.ProtectNew h = absurd (h refl)
        ahead stage.ProtectOld h = absurd (h refl)
        ahead stage.Wait h = absurd (h refl)
        ahead stage.Flush h = absurd (h refl)
        ahead stage.TlbWait h = absurd (h refl)
    go false d c =
        lower (left (phase_in s) (request_of s).n (request_of s).at) (carried_out w w.pages x).buffers x (carried_left w w.pages x (few_done (settings_of s) w.pages (phase_in s) (request_of s) c (omega arith)))
        (done_left (settings_of s) w.pages (phase_in s) (request_of s) c) (some_left (phase_in s) (request_of s).n (request_of s).at (takes_some (phase_in s) false c))
taken_lowers w (Fails code k) e = rw e (go (is_changing s) refl (answer_takes s (fits w) true (eqb-true _ _ e)))
  where
    s : List ℕ
    s = w.state

    q : Change
    q = change_in s

    x : Step
    x = failed_of (settings_of s) (phase_in s) (request_of s) w.pages code k

    go : (b : Bool) → is_changing s ≡ b → cond b (takes_at (stage_in s) true) (takes (phase_in s) true) ≡ true
        → left_in (cond b (change_failed w) (visibility_failed w code k)).buffers < cond b (left_at (stage_in s) q.n q.at (page_end (entries_in s))) (left (phase_in s) (request_of s).n (request_of s).at)
    go true d c =
        lower_change w (left_at (stage_in s) q.n q.at (page_end (entries_in s))) _
        (unchange_lowers (settings_of s).tracked q w.pages (omega arith) (stage_in s) (page_end (entries_in s)) c) (takes_left (stage_in s) true q.n q.at (page_end (entries_in s)) c)
    go false d c =
        lower (left (phase_in s) (request_of s).n (request_of s).at) (carried_out w w.pages x).buffers x (carried_left w w.pages x (few_failed (settings_of s) w.pages (phase_in s) (request_of s) code k c (omega arith)))
        (failed_left (settings_of s) w.pages (phase_in s) (request_of s) code k c) (some_left (phase_in s) (request_of s).n (request_of s).at (takes_some (phase_in s) true c))

-- an operation outstanding is one to come, and where none is nothing is to come
some_in : (w : Buffers) → under_way w ≡ true → 0 < left_in w
some_in w e = go (is_changing w.state) refl e
  where
    s : List ℕ
    s = w.state

    go : (b : Bool) → is_changing s ≡ b → eqb (cond b 19 (status_of (phase_in s))) 19 ≡ true
        → 0 < cond b (left_at (stage_in s) (change_in s).n (change_in s).at (page_end (entries_in s))) (left (phase_in s) (request_of s).n (request_of s).at)
    go true d c = stage_some (stage_in s) (change_in s).n (change_in s).at (page_end (entries_in s)) (changing_named s d)
    go false d c = some_left (phase_in s) (request_of s).n (request_of s).at c

pub untaken_keeps : UntakenKeeps
unfolding answer_done answer_failed
untaken_keeps w Succeeds e = rw e
untaken_keeps w (Fails code k) e = rw e

all_lower : (w : Buffers) (gs : List BackendAnswer) → left_in (after_all w gs) + taken_of w gs ≤ left_in w
unfolding after_all taken_of
all_lower w [] = omega arith
all_lower w (g ∷ gs) = go (taken_by g w) refl (all_lower (answer_of g w).buffers gs)
  where
    go : (b : Bool) → taken_by g w ≡ b → left_in (after_all (answer_of g w).buffers gs) + taken_of (answer_of g w).buffers gs ≤ left_in (answer_of g w).buffers
        → left_in (after_all (answer_of g w).buffers gs) + (cond b 1 0 + taken_of (answer_of g w).buffers gs) ≤ left_in w
    go true e h = omega (arith, taken_lowers w g e)
    go false e h = let d : left_in (answer_of g w).buffers ≡ left_in w = ap left_in (untaken_keeps w g e) in omega arith

pub ends : TakenEnd
ends w gs h = go (under_way (after_all w gs)) refl
  where
    go : (b : Bool) → under_way (after_all w gs) ≡ b → b ≡ false
    go false e = refl
    go true e = absurd (omega (arith, all_lower w gs, some_in (after_all w gs) e))

-- where nothing is under way, nothing is to come
none_left : (p : Phase) (n a : ℕ) → eqb (status_of p) 19 ≡ false → left p n a ≡ 0
none_left at.Idle n a e = refl
none_left at.Halted n a e = refl
none_left at.Wait n a e = false≢true (sym e)
none_left at.FlushAll n a e = false≢true (sym e)
none_left at.ProtectNone0 n a e = false≢true (sym e)
none_left at.ProtectNone1 n a e = false≢true (sym e)
none_left at.Invalidate n a e = false≢true (sym e)
none_left at.Release n a e = false≢true (sym e)
none_left at.Modify n a e = false≢true (sym e)
none_left at.Accept n a e = false≢true (sym e)
none_left at.Zero n a e = false≢true (sym e)
none_left at.ProtectDefault0 n a e = false≢true (sym e)
none_left at.ProtectDefault1 n a e = false≢true (sym e)

none_in : (w : Buffers) → under_way w ≡ false → left_in w ≡ 0
none_in w e = go (is_changing w.state) e
  where
    s : List ℕ
    s = w.state

    go : (b : Bool) → eqb (cond b 19 (status_of (phase_in s))) 19 ≡ false
        → cond b (left_at (stage_in s) (change_in s).n (change_in s).at (page_end (entries_in s))) (left (phase_in s) (request_of s).n (request_of s).at) ≡ 0
    go true c = false≢true (sym c)
    go false c = none_left (phase_in s) (request_of s).n (request_of s).at c

pub every_request_ends : EveryRequestEnds
unfolding after_all unrefused
every_request_ends w [] u h = go (under_way w) refl
  where
    go : (b : Bool) → under_way w ≡ b → b ≡ false
    go false e = refl
    go true e = absurd (omega (arith, h, some_in w e))
every_request_ends w (g ∷ gs) u h = go (taken_by g w) refl (under_way w) refl (every_request_ends (answer_of g w).buffers gs u.1)
  where
    go : (b : Bool) → taken_by g w ≡ b → (c : Bool) → under_way w ≡ c
        → (left_in (answer_of g w).buffers ≤ length gs → under_way (after_all (answer_of g w).buffers gs) ≡ false) → under_way (after_all (answer_of g w).buffers gs) ≡ false
    go true e c d more = more (omega (arith, h, taken_lowers w g e))
    go false e true d more = false≢true (sym e ∙ u.0 d)
    go false e false d more =
        let z : left_in w ≡ 0 = none_in w d in
        let k : left_in (answer_of g w).buffers ≡ left_in w = ap left_in (untaken_keeps w g e) in
        more (omega (arith, z, k))

pub done_taken : DoneTaken
unfolding answer_refusal
done_taken w a b c =
    let s : List ℕ = w.state in
    let busy : status_in s ≡ 19 = eqb-true (status_in s) 19 c in
    rw (eq-eqb (length s) state_len a, b, done_takes s, busy) refl
