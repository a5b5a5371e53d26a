-- From each step of a change on, its answers lead through the whole call. Assumes nothing.
use native.Mathlib.Omega.{arith}
use mathlib.Core.Path.{◌≡◌, refl, sym, ap, ◌∙◌, subst}
use mathlib.Core.Logic.{⊎_elim}
use mathlib.Core.Bool.{Bool, true, false, cond, ◌&&◌}
use mathlib.Core.List.{List, [], ◌∷◌, ◌++◌}
use Prim.Native.Nat.{ℕ, zero, suc, ◌+◌, ◌-◌, ◌%◌, ◌^◌, ◌≤◌, ◌<◌, max}
use native.Mathlib.Decide.{dec_lt}
use lib.Dec.{eqb}
use lib.ListN.{length}
use borrow.Author.Tests.{eq-eqb, eqb-false, lt-ltb, le-ltb}
use Rattle.abi.specs.Codes.{operation_denied}
use Rattle.laws.specs.Bools.{false≢true, lt_or_le}
use Rattle.bitmap.proofs.Map.{length_written}
use Rattle.permissions.specs.declared.GuestVtl.{GuestVtl}
use Rattle.permissions.specs.declared.GuestVtl.TheVariants.{Vtl0, Vtl1}
use Rattle.permissions.specs.declared.HvMapGpaFlags.{HvMapGpaFlags}
use Rattle.permissions.specs.Flags.{flags_of}
use Rattle.layout.specs.declared.MemoryRangeWithNode.{MemoryRangeWithNode}
use Rattle.mapping.specs.Maps.{Maps}
use Rattle.page_list.specs.declared.PageRun.{PageRun}
use Rattle.page_list.specs.Runs.{part, runs_of, run, run_at}
use Rattle.page_list.proofs.RunLaws.{runs_at_lem, runs_end}
use Rattle.request_pages.specs.Request.{run_end}
use Rattle.request_pages.proofs.Runs.{end_after}
use Rattle.default_change.specs.Pieces.{span, piece_of, page_up, piece_in, next_of, wanted}
use Rattle.default_change.specs.Visit.{pieces_from}
use Rattle.visibility_steps.specs.declared.Answer.{Answer}
use Rattle.visibility_steps.specs.declared.Answer.TheVariants.{Done, Failed, Halted}
use Rattle.visibility_steps.specs.Steps.{is_vtl0}
use Rattle.change_steps.specs.declared.Stage.{Stage}
use Rattle.change_steps.specs.declared.Stage.TheVariants as stage
use Rattle.change_steps.specs.declared.Entry.{Entry}
use Rattle.change_steps.specs.declared.Entry.TheVariants.{Keep}
use Rattle.change_steps.specs.declared.Change.{Change}
use Rattle.change_steps.specs.declared.ChangeStep.{ChangeStep}
use Rattle.change_steps.specs.Changes as changes
use Rattle.protector_state.specs.Reply.{asked_of, flat_of}
use Rattle.call_refusals.specs.Buffers.{Outcome, overlays_of, takes_at}
use Rattle.protector.specs.Writes.{entered}
use Rattle.protector.specs.Calls.{with_permissions}
use Rattle.visibility_claims.proofs.Steps.{once}
use Rattle.visibility_claims.specs.Whole.{Operation, Wait, Protect, Flush, TlbWait, BackendAnswer, Ok, FailedAt, Halts, Whole, stands, one, in_turn, per_run, protecting}
use Rattle.visibility_claims.specs.Calls.{Told, follow, crossing, replies}
use Rattle.visibility_claims.specs.Ends.{page_end}
use Rattle.change_claims.specs.Whole.{closing, ended, protects, whole_entry, protecting_page, whole_overlay, once_done}
use Rattle.change_claims.proofs.Steps as at

-- ---- what a Protect writes

protect_writes : (m : Maps) (f : HvMapGpaFlags) (r : PageRun) (v : GuestVtl) (tr b : Bool)
    → with_permissions m (cond (is_vtl0 v && (tr && b)) r changes.no_run) f ≡ cond b (protecting tr (Protect v f r) m) m
protect_writes m f r Vtl0 true true = refl
protect_writes m f r Vtl0 true false = at.none_written f m
protect_writes m f r Vtl0 false true = at.none_written f m
protect_writes m f r Vtl0 false false = at.none_written f m
protect_writes m f r Vtl1 true true = at.none_written f m
protect_writes m f r Vtl1 true false = at.none_written f m
protect_writes m f r Vtl1 false true = at.none_written f m
protect_writes m f r Vtl1 false false = at.none_written f m

pub protect_private : (tr : Bool) (v : GuestVtl) (f : HvMapGpaFlags) (r : PageRun) (m : Maps) → (protecting tr (Protect v f r) m).private ≡ m.private
protect_private true Vtl0 f r m = refl
protect_private false Vtl0 f r m = refl
protect_private tr Vtl1 f r m = refl

-- ---- the pieces end with RAM

no_piece : (P : ℕ → Bool) (a end : ℕ) → end ≤ a → (piece_of P a end).count ≡ 0
unfolding span
no_piece P a end h = let d : end - a ≡ 0 = omega arith in rw d

pub none_past : (P : ℕ → Bool) (es : List MemoryRangeWithNode) (a : ℕ) → page_end es ≤ a → (next_of P es a).count ≡ 0
unfolding next_of page_end
none_past P [] a h = refl
none_past P (e ∷ es) a h =
    rw (eq-eqb (piece_in P e a).count 0 (no_piece P (max (page_up e.start) a) (page_up e.end) (omega arith))) (none_past P es a (omega arith))

pub next_ahead : (P : ℕ → Bool) (es : List MemoryRangeWithNode) (a : ℕ) → eqb (next_of P es a).count 0 ≡ false → a < (next_of P es a).first + (next_of P es a).count
unfolding next_of
next_ahead P [] a h = false≢true (sym h)
next_ahead P (e ∷ es) a h = go (eqb (piece_in P e a).count 0) refl h (next_ahead P es a)
  where
    go : (b : Bool) → eqb (piece_in P e a).count 0 ≡ b → eqb (cond b (next_of P es a) (piece_in P e a)).count 0 ≡ false
        → (eqb (next_of P es a).count 0 ≡ false → a < (next_of P es a).first + (next_of P es a).count)
        → a < (cond b (next_of P es a) (piece_in P e a)).first + (cond b (next_of P es a) (piece_in P e a)).count
    go true d h more = more h
    go false d h more =
        let n : (piece_in P e a).count ≡ 0 → ⊥ = eqb-false (piece_in P e a).count 0 d in
        elim (dec_lt 0 (piece_in P e a).count) [ yes k ↦ omega (arith, k) | no k ↦ absurd (n (omega (arith, k))) ]

module _ (tail t : List ℕ) (long : length tail ≡ 114) where
  abbrev left : Maps → List ℕ → ChangeStep → Outcome
  left m T x = at.left tail t m T x

  abbrev fit : Maps → List ℕ → Bool
  fit m T = at.fit tail t m T

  abbrev Same : ℕ → Whole → List ℕ → Told → Type 0
  Same c w T x = at.Same tail t c w T x

  abbrev tr : Bool
  tr = (at.settings tail t).tracked

  abbrev asked : Stage → Change → Maps → List ℕ → Operation → Outcome
  asked g q m T o = record { buffers = at.held tail t g q m T; reply = asked_of (at.settings tail t).isolation (crossing o) }

  pub fit_written : (m : Maps) (T : List ℕ) (r : PageRun) (f : HvMapGpaFlags) → fit (with_permissions m r f) T ≡ fit m T
  fit_written m T r f =
      rw (
        length_written 8 _ f.readable m.permissions.read,
        length_written 8 _ f.writable m.permissions.write,
        length_written 8 _ f.kernel_executable m.permissions.kernel,
        length_written 8 _ f.user_executable m.permissions.user,
      )

  -- ---- the end

  finish_left : (m : Maps) (T : List ℕ) (a : Answer) → left m T (changes.finish a) ≡ record { buffers = at.held tail t stage.Idle changes.no_change m T; reply = flat_of (at.settings tail t).isolation a }
  unfolding changes.finish entered
  finish_left m T a = ap (λ (m : Maps). record { buffers = at.held tail t stage.Idle changes.no_change m T; reply = flat_of (at.settings tail t).isolation a }) (at.none_written (flags_of 0) m)

  done_over : (c n : ℕ) (m : Maps) (T : List ℕ) → fit m T ≡ true → n ≡ c % 2 ^ 64 → (gs : List BackendAnswer) → Same c (stands m Ok) T (follow (left m T (changes.finish (Done n))) gs)
  unfolding flat_of replies
  done_over c n m T f e gs =
      let d : n ≡ (c + 0) % 2 ^ 64 = omega arith in
      subst (Same c (stands m Ok) T) (sym (ap (λ (o : Outcome). follow o gs) (finish_left m T (Done n)) ∙ at.over_idle tail t long changes.no_change m T _ f gs))
      (record {
        same_asked = refl;
        same_maps = refl;
        same_reply = ap (λ (k : ℕ). flat_of (at.settings tail t).isolation (Done k)) d;
        same_pages = refl;
        same_tables = refl;
        same_rest = refl;
      })

  failed_over : (c n code i : ℕ) (m : Maps) (T : List ℕ) → fit m T ≡ true → n ≡ c % 2 ^ 64 → (gs : List BackendAnswer) → Same c (stands m (FailedAt code i)) T (follow (left m T (changes.finish (Failed code i n))) gs)
  unfolding flat_of replies
  failed_over c n code i m T f e gs =
      let d : n ≡ (c + 0) % 2 ^ 64 = omega arith in
      subst (Same c (stands m (FailedAt code i)) T) (sym (ap (λ (o : Outcome). follow o gs) (finish_left m T (Failed code i n)) ∙ at.over_idle tail t long changes.no_change m T _ f gs))
      (record {
        same_asked = refl;
        same_maps = refl;
        same_reply = ap (λ (k : ℕ). flat_of (at.settings tail t).isolation (Failed code i k)) d;
        same_pages = refl;
        same_tables = refl;
        same_rest = refl;
      })

  halt_left : (m : Maps) (T : List ℕ) (q : Change) → left m T (changes.halt q) ≡ record { buffers = at.held tail t stage.Halted q m T; reply = flat_of (at.settings tail t).isolation (Halted q.count) }
  unfolding changes.halt entered
  halt_left m T q = ap (λ (m : Maps). record { buffers = at.held tail t stage.Halted q m T; reply = flat_of (at.settings tail t).isolation (Halted q.count) }) (at.none_written (flags_of q.flags) m)

  halts : (c : ℕ) (q : Change) (m : Maps) (T : List ℕ) → q.count ≡ c % 2 ^ 64 → (gs : List BackendAnswer) → Same c (stands m Halts) T (follow (left m T (changes.halt q)) gs)
  unfolding flat_of replies
  halts c q m T e gs =
      let d : q.count ≡ (c + 0) % 2 ^ 64 = omega arith in
      subst (Same c (stands m Halts) T) (sym (ap (λ (o : Outcome). follow o gs) (halt_left m T q) ∙ at.over_halted tail t long q m T _ gs))
      (record {
        same_asked = refl;
        same_maps = refl;
        same_reply = ap (λ (k : ℕ). flat_of (at.settings tail t).isolation (Halted k)) d;
        same_pages = refl;
        same_tables = refl;
        same_rest = refl;
      })

  -- ---- Wait, Flush, TlbWait

  ask_left : (g : Stage) (q : Change) (o : Operation) (e : Entry) (m : Maps) (T : List ℕ) → left m T (changes.ask g q (crossing o) e) ≡ asked g (changes.counted q q.at) m (entered e (changes.counted q q.at) T) o
  unfolding changes.ask flat_of
  ask_left g q o e m T = ap (λ (m : Maps). asked g (changes.counted q q.at) m (entered e (changes.counted q q.at) T) o) (at.none_written (flags_of q.flags) m)

  keep_left : (g : Stage) (q : Change) (o : Operation) (m : Maps) (T : List ℕ) → left m T (changes.ask g q (crossing o) Keep) ≡ asked g (changes.counted q q.at) m T o
  unfolding entered
  keep_left g q o m T = ask_left g q o Keep m T

  module _ (m : Maps) (T : List ℕ) (f : fit m T ≡ true) where
    last_one : (c : ℕ) (q : Change) → q.n ≤ 512 → q.count ≡ c % 2 ^ 64 → (gs : List BackendAnswer)
        → Same c (in_turn (protecting tr) (TlbWait q.vtl ∷ []) m gs ended) T (follow (left m T (changes.ask stage.TlbWait q (crossing (TlbWait q.vtl)) Keep)) gs)
    unfolding in_turn changes.done_of
    last_one c q h e gs =
        subst (λ (o : Outcome). Same c (one (TlbWait q.vtl) m gs (λ gs. ended m gs) (λ code k gs. stands m Halts)) T (follow o gs)) (sym (keep_left stage.TlbWait q (TlbWait q.vtl) m T))
        (at.asks tail t long c stage.TlbWait (changes.counted q q.at) (TlbWait q.vtl) m T (λ gs. ended m gs) (λ code k gs. stands m Halts) (λ gs. T) refl refl h f refl
        (λ gs. done_over (c + 1) ((q.count + 1) % 2 ^ 64) m T f (once c q.count e) gs) (λ code k gs z. false≢true z) (λ code k gs z. refl) gs)

    last_two : (c : ℕ) (q : Change) → q.n ≤ 512 → q.count ≡ c % 2 ^ 64 → (gs : List BackendAnswer)
        → Same c (in_turn (protecting tr) (Flush q.flush ∷ TlbWait q.vtl ∷ []) m gs ended) T (follow (left m T (changes.ask stage.Flush q (crossing (Flush q.flush)) Keep)) gs)
    unfolding in_turn changes.done_of
    last_two c q h e gs =
        subst (λ (o : Outcome). Same c (one (Flush q.flush) m gs (λ gs. in_turn (protecting tr) (TlbWait q.vtl ∷ []) m gs ended) (λ code k gs. stands m Halts)) T (follow o gs)) (sym (keep_left stage.Flush q (Flush q.flush) m T))
        (at.asks tail t long c stage.Flush (changes.counted q q.at) (Flush q.flush) m T (λ gs. in_turn (protecting tr) (TlbWait q.vtl ∷ []) m gs ended) (λ code k gs. stands m Halts) (λ gs. T) refl refl h f refl
        (λ gs. last_one (c + 1) (changes.counted q q.at) h (once c q.count e) gs) (λ code k gs z. false≢true z) (λ code k gs z. refl) gs)

    closes : (c : ℕ) (q : Change) → q.n ≤ 512 → q.count ≡ c % 2 ^ 64 → (gs : List BackendAnswer)
        → Same c (in_turn (protecting tr) (closing q.flush q.vtl) m gs ended) T (follow (asked stage.Wait (changes.counted q q.at) m T Wait) gs)
    unfolding in_turn changes.done_of
    closes c q h e gs =
        at.asks tail t long c stage.Wait (changes.counted q q.at) Wait m T (λ gs. in_turn (protecting tr) (Flush q.flush ∷ TlbWait q.vtl ∷ []) m gs ended) (λ code k gs. stands m Halts) (λ gs. T) refl refl h f refl
        (λ gs. last_two (c + 1) (changes.counted q q.at) h (once c q.count e) gs) (λ code k gs z. false≢true z) (λ code k gs z. refl) gs

  -- an entry is written before Wait
  waits : (c : ℕ) (q : Change) (e : Entry) (m : Maps) (T T' : List ℕ) → q.n ≤ 512 → q.count ≡ c % 2 ^ 64 → entered e (changes.counted q q.at) T ≡ T' → fit m T' ≡ true → (gs : List BackendAnswer)
      → Same c (in_turn (protecting tr) (closing q.flush q.vtl) m gs ended) T' (follow (left m T (changes.wait q e)) gs)
  unfolding changes.wait
  waits c q e m T T' h d z f gs =
      subst (λ (o : Outcome). Same c (in_turn (protecting tr) (closing q.flush q.vtl) m gs ended) T' (follow o gs))
      (sym (ask_left stage.Wait q Wait e m T ∙ ap (λ (T : List ℕ). asked stage.Wait (changes.counted q q.at) m T Wait) z)) (closes m T' f c q h d gs)

  -- ---- a Protect

  protect_left : (g : Stage) (q : Change) (a : ℕ) (r : PageRun) (m : Maps) (T : List ℕ)
      → left m T (changes.protect tr g q a r) ≡ asked g (changes.counted q a) (cond (eqb q.source 0) (protecting tr (Protect q.vtl (flags_of q.flags) r) m) m) T (Protect q.vtl (flags_of q.flags) r)
  unfolding changes.protect entered flat_of
  protect_left g q a r m T =
      ap (λ (m : Maps). asked g (changes.counted q a) m T (Protect q.vtl (flags_of q.flags) r)) (protect_writes m (flags_of q.flags) r q.vtl tr (eqb q.source 0))

  fit_protected : (v : GuestVtl) (f : HvMapGpaFlags) (r : PageRun) (b : Bool) (m : Maps) (T : List ℕ) → fit m T ≡ true → fit (cond b (protecting tr (Protect v f r) m) m) T ≡ true
  fit_protected v f r b m T e = ap (λ (m : Maps). fit m T) (sym (protect_writes m f r v tr b)) ∙ fit_written m T (cond (is_vtl0 v && (tr && b)) r changes.no_run) f ∙ e

  -- of a protection or default change: v and flags, n pages, a place, a count
  abbrev chg : GuestVtl → ℕ → ℕ → ℕ → ℕ → Change
  chg v fl n a x = record { vtl = v; flush = Vtl0; n = n; at = a; flags = fl; previous = 0; source = 0; count = x }

  module _ (v : GuestVtl) (fl n : ℕ) (h : n ≤ 512) (T : List ℕ) where
    abbrev f : HvMapGpaFlags
    f = flags_of fl

    abbrev runs : List PageRun → Maps → List BackendAnswer → Whole
    runs rs m gs = in_turn (protecting tr) (per_run (protects v f) rs ++ closing Vtl0 v) m gs ended

    protects_run : (g : Stage) → takes_at g false ≡ true → takes_at g true ≡ true → ((q : Change) → changes.failed_of g q ≡ changes.halt q)
        → (c x a₀ a : ℕ) (r : PageRun) (rs : List PageRun) (m : Maps) → x ≡ c % 2 ^ 64 → fit m T ≡ true
        → (let m' : Maps = protecting tr (Protect v f r) m in let q' : Change = chg v fl n a ((x + 1) % 2 ^ 64) in
        (gs : List BackendAnswer) → Same (c + 1) (runs rs m' gs) T (follow (left m' T (changes.done_of tr g q' t (at.next tail t g q' m' T))) gs))
        → (gs : List BackendAnswer) → Same c (runs (r ∷ rs) m gs) T (follow (left m T (changes.protect tr g (chg v fl n a₀ x) a r)) gs)
    unfolding in_turn per_run
    protects_run g a0 a1 fails c x a₀ a r rs m e k more gs =
        let m' : Maps = protecting tr (Protect v f r) m in
        let q' : Change = chg v fl n a ((x + 1) % 2 ^ 64) in
        subst (λ (o : Outcome). Same c (one (Protect v f r) m' gs (λ gs. runs rs m' gs) (λ code k gs. stands m' Halts)) T (follow o gs)) (sym (protect_left g (chg v fl n a₀ x) a r m T))
        (at.asks tail t long c g q' (Protect v f r) m' T (λ gs. runs rs m' gs) (λ code k gs. stands m' Halts) (λ gs. T) a0 a1 h (fit_protected v f r true m T k) refl
        more
        (λ code k gs z. subst (λ (y : ChangeStep). Same (c + 1) (stands m' Halts) T (follow (left m' T y) gs)) (sym (fails q')) (halts (c + 1) q' m' T (once c x e) gs))
        (λ code k gs z. false≢true (sym z)) gs)

    no_runs : (c x a₀ : ℕ) (m : Maps) → x ≡ c % 2 ^ 64 → fit m T ≡ true → (gs : List BackendAnswer) → Same c (runs [] m gs) T (follow (left m T (changes.wait (chg v fl n a₀ x) Keep)) gs)
    unfolding per_run entered
    no_runs c x a₀ m e k gs = waits c (chg v fl n a₀ x) Keep m T T h e refl k gs

    -- ---- of listed pages, from the run at place a on

    abbrev Pages : ℕ → ℕ → ℕ → ℕ → Maps → List BackendAnswer → Type 0
    Pages c x a₀ a m gs = Same c (runs (runs_of (part t n a)) m gs) T (follow (left m T (changes.protect_pages tr (chg v fl n a₀ x) t a)) gs)

    pages_over : (c x a₀ a : ℕ) (m : Maps) → x ≡ c % 2 ^ 64 → fit m T ≡ true → n ≤ a → (gs : List BackendAnswer) → Pages c x a₀ a m gs
    unfolding changes.protect_pages
    pages_over c x a₀ a m e k o gs = rw (le-ltb a n o, runs_end t n a (omega arith)) (no_runs c x a₀ m e k gs)

    pages_at : (c x a₀ a : ℕ) (m : Maps) → x ≡ c % 2 ^ 64 → fit m T ≡ true → a < n → n ≤ length t
        → ((c x : ℕ) (m : Maps) (gs : List BackendAnswer) → x ≡ c % 2 ^ 64 → fit m T ≡ true → Pages c x a (run_end t n a) m gs) → (gs : List BackendAnswer) → Pages c x a₀ a m gs
    unfolding changes.protect_pages changes.done_of changes.failed_of run_end
    pages_at c x a₀ a m e k o l more gs =
        rw (lt-ltb a n o, runs_at_lem t n a o (omega arith))
        (protects_run stage.ProtectPages refl refl (λ q. refl) c x a₀ a (run_at t n a) (runs_of (part t n (a + (run_at t n a).count))) m e k
        (λ gs. more (c + 1) ((x + 1) % 2 ^ 64) (protecting tr (Protect v f (run_at t n a)) m) gs (once c x e) (fit_protected v f (run_at t n a) true m T k)) gs)

    pub pages_law : n ≤ length t → (j c x a₀ a : ℕ) (m : Maps) → x ≡ c % 2 ^ 64 → fit m T ≡ true → n ≤ a + j → (gs : List BackendAnswer) → Pages c x a₀ a m gs
    pages_law l zero c x a₀ a m e k b gs = pages_over c x a₀ a m e k (omega arith) gs
    pages_law l (suc j) c x a₀ a m e k b gs =
        ⊎_elim (λ (o : a < n). pages_at c x a₀ a m e k o l (λ c x m gs e k. pages_law l j c x a (run_end t n a) m e k (omega (arith, end_after t n a o)) gs) gs)
        (λ (o : n ≤ a). pages_over c x a₀ a m e k o gs) (lt_or_le a n)

    -- ---- of RAM, from page a on

    abbrev W : List ℕ → ℕ → Bool
    W private = wanted private (overlays_of T v)

    abbrev es : List MemoryRangeWithNode
    es = at.entries tail t

    abbrev Ram : List ℕ → ℕ → ℕ → ℕ → ℕ → ℕ → Maps → List BackendAnswer → Type 0
    Ram private j c x a₀ a m gs = Same c (runs (pieces_from (W private) es j a) m gs) T (follow (left m T (changes.protect_ram tr (chg v fl n a₀ x) (next_of (W private) es a))) gs)

    ram_over : (p : List ℕ) (c x a₀ a : ℕ) (m : Maps) → x ≡ c % 2 ^ 64 → fit m T ≡ true → eqb (next_of (W p) es a).count 0 ≡ true → (gs : List BackendAnswer)
        → Same c (runs [] m gs) T (follow (left m T (changes.protect_ram tr (chg v fl n a₀ x) (next_of (W p) es a))) gs)
    unfolding changes.protect_ram
    ram_over p c x a₀ a m e k o gs = rw o (no_runs c x a₀ m e k gs)

    ram_at_lem : (p : List ℕ) (j c x a₀ a : ℕ) (m : Maps) → x ≡ c % 2 ^ 64 → fit m T ≡ true → m.private ≡ p → eqb (next_of (W p) es a).count 0 ≡ false
        → ((c x : ℕ) (m : Maps) (gs : List BackendAnswer) → x ≡ c % 2 ^ 64 → fit m T ≡ true → m.private ≡ p
        → Ram p j c x ((next_of (W p) es a).first + (next_of (W p) es a).count) ((next_of (W p) es a).first + (next_of (W p) es a).count) m gs)
        → (gs : List BackendAnswer) → Same c (runs (next_of (W p) es a ∷ pieces_from (W p) es j ((next_of (W p) es a).first + (next_of (W p) es a).count)) m gs) T
        (follow (left m T (changes.protect_ram tr (chg v fl n a₀ x) (next_of (W p) es a))) gs)
    unfolding changes.protect_ram changes.done_of changes.failed_of
    ram_at_lem p j c x a₀ a m e k d o more gs =
        let r : PageRun = next_of (W p) es a in
        let m' : Maps = protecting tr (Protect v f r) m in
        let i : m'.private ≡ p = protect_private tr v f r m ∙ d in
        rw o
        (protects_run stage.ProtectRam refl refl (λ q. refl) c x a₀ (r.first + r.count) r (pieces_from (W p) es j (r.first + r.count)) m e k
        (λ gs. subst (λ (y : List ℕ). Same (c + 1) (runs (pieces_from (W p) es j (r.first + r.count)) m' gs) T (follow (left m' T (changes.protect_ram tr (chg v fl n (r.first + r.count) ((x + 1) % 2 ^ 64)) (next_of (W y) es (r.first + r.count)))) gs))
        (sym i) (more (c + 1) ((x + 1) % 2 ^ 64) m' gs (once c x e) (fit_protected v f r true m T k) i)) gs)

    pub ram_law : (p : List ℕ) (j c x a₀ a : ℕ) (m : Maps) → x ≡ c % 2 ^ 64 → fit m T ≡ true → m.private ≡ p → page_end es ≤ a + j → (gs : List BackendAnswer) → Ram p j c x a₀ a m gs
    unfolding pieces_from
    ram_law p zero c x a₀ a m e k d b gs = ram_over p c x a₀ a m e k (eq-eqb (next_of (W p) es a).count 0 (none_past (W p) es a (omega arith))) gs
    ram_law p (suc j) c x a₀ a m e k d b gs =
        go (eqb (next_of (W p) es a).count 0) refl (λ to h c x m gs e k d. ram_law p j c x to to m e k d (omega (arith, b, h)) gs)
      where
        go : (y : Bool) → eqb (next_of (W p) es a).count 0 ≡ y
            → ((to : ℕ) → a < to → (c x : ℕ) (m : Maps) (gs : List BackendAnswer) → x ≡ c % 2 ^ 64 → fit m T ≡ true → m.private ≡ p → Ram p j c x to to m gs)
            → Same c (runs (cond y [] (next_of (W p) es a ∷ pieces_from (W p) es j ((next_of (W p) es a).first + (next_of (W p) es a).count))) m gs) T
            (follow (left m T (changes.protect_ram tr (chg v fl n a₀ x) (next_of (W p) es a))) gs)
        go true o more = ram_over p c x a₀ a m e k o gs
        go false o more = ram_at_lem p j c x a₀ a m e k d o (more _ (next_ahead (W p) es a o)) gs

  -- ---- an overlay call: its Protect, then an entry is written

  abbrev ovl : GuestVtl → ℕ → ℕ → ℕ → ℕ → ℕ → Change
  ovl v p fl previous source x = record { vtl = v; flush = v; n = 0; at = p; flags = fl; previous = previous; source = source; count = x }

  module _ (g : Stage) (e : Entry) (a0 : takes_at g false ≡ true) (a1 : takes_at g true ≡ true) (goes : (q : Change) (r : PageRun) → changes.done_of tr g q t r ≡ changes.wait q e)
      (fails : (q : Change) → changes.failed_of g q ≡ changes.finish (Failed operation_denied 0 q.count)) where
    pub overlay_law : (v : GuestVtl) (p fl previous source : ℕ) (m : Maps) (T T' : List ℕ) → entered e (ovl v p fl previous source 2) T ≡ T' → fit m T ≡ true → fit m T' ≡ true → (gs : List BackendAnswer)
        → Same 0 (whole_overlay tr (eqb source 0) v (flags_of fl) p m gs) (once_done gs T T') (follow (left m T (changes.protect tr g (ovl v p fl previous source 0) p (run p 1))) gs)
    unfolding whole_overlay whole_entry
    overlay_law v p fl previous source m T T' z k k' gs =
        let f : HvMapGpaFlags = flags_of fl in
        let m' : Maps = protecting_page tr (eqb source 0) v f p m in
        let q' : Change = ovl v p fl previous source 1 in
        let next : List BackendAnswer → Whole = λ gs. in_turn (protecting tr) (closing v v) m' gs ended in
        subst (λ (o : Outcome). Same 0 (one (Protect v f (run p 1)) m' gs next (λ code k gs. stands m' (FailedAt operation_denied 0))) (once_done gs T T') (follow o gs))
        (sym (protect_left g (ovl v p fl previous source 0) p (run p 1) m T))
        (at.asks tail t long 0 g q' (Protect v f (run p 1)) m' T next (λ code k gs. stands m' (FailedAt operation_denied 0)) (λ gs. once_done gs T T') a0 a1 (omega arith) (fit_protected v f (run p 1) (eqb source 0) m T k) refl
        (λ gs. subst (λ (y : ChangeStep). Same 1 (next gs) T' (follow (left m' T y) gs)) (sym (goes q' (at.next tail t g q' m' T)))
        (waits 1 q' e m' T T' (omega arith) refl z (fit_protected v f (run p 1) (eqb source 0) m T' k') gs))
        (λ code k' gs _. subst (λ (y : ChangeStep). Same 1 (stands m' (FailedAt operation_denied 0)) T (follow (left m' T y) gs)) (sym (fails q'))
        (failed_over 1 1 operation_denied 0 m' T (fit_protected v f (run p 1) (eqb source 0) m T k) refl gs))
        (λ code k gs z. false≢true (sym z)) gs)

  -- without new flags
  pub entry_law : (v : GuestVtl) (p fl previous source : ℕ) (e : Entry) (m : Maps) (T T' : List ℕ) → entered e (ovl v p fl previous source 1) T ≡ T' → fit m T' ≡ true → (gs : List BackendAnswer)
      → Same 0 (whole_entry tr v m gs) T' (follow (left m T (changes.wait (ovl v p fl previous source 0) e)) gs)
  unfolding whole_entry
  entry_law v p fl previous source e m T T' z k gs = waits 0 (ovl v p fl previous source 0) e m T T' (omega arith) refl z k gs
