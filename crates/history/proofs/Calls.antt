-- Every call, taken or not, keeps what stands. Assumes nothing.
use Prim.Native.Nat.{ℕ, ◌≤◌, ◌<◌}
use mathlib.Core.Path.{◌≡◌, refl, sym, ap, ◌∙◌, subst}
use mathlib.Core.List.{List, []}
use mathlib.Core.Bool.{Bool, true, false, cond}
use native.Mathlib.Omega.{arith}
use lib.ListN.{length, get_or, take, set, length-take}
use lib.Seq.{get_or-take, get_or-set_other, drop-set-lt}
use lib.Dec.{eqb, ltb}
use borrow.Author.Tests.{eqb-true, ltb-false}
use Rattle.abi.specs.Refusals as refusal
use Rattle.laws.specs.Refusal.{passed, when_passed}
use Rattle.call_refusals.proofs.Laws.{is_ready}
use Rattle.layout.specs.declared.MemoryRangeWithNode.{MemoryRangeWithNode}
use Rattle.layout.specs.Layout.{is_ram}
use Rattle.permissions.specs.declared.GuestVtl.{GuestVtl}
use Rattle.permissions.specs.Flags.{fit_vtl, vtl_of, fit_bool, bool_of}
use Rattle.page_list.specs.Pages.{pages_of, is_long, is_ragged, among, repeats}
use Rattle.page_list.proofs.Laws.{among_at}
use Rattle.request_pages.specs.Request.{wanted}
use Rattle.request_pages.proofs.Table.{length_pick, pages_few}
use Rattle.visibility_steps.specs.declared.Phase.TheVariants as at
use Rattle.visibility_steps.specs.declared.Settings.{Settings}
use Rattle.visibility_steps.specs.Steps.{asked, start_of}
use Rattle.change_steps.specs.declared.ChangeStep.{ChangeStep}
use Rattle.protector_state.specs.declared.Reply.{Reply}
use Rattle.protector_state.specs.State.{phase_in, request_of, settings_of, entries_in}
use Rattle.protector_state.specs.Reply.{asked_of, flat_of}
use Rattle.protector_state.specs.Changing.{is_changing}
use Rattle.call_refusals.specs.Buffers.{Buffers, buffers, Outcome, overlays_of, locks_of, fits, status_in}
use Rattle.protector.specs.Writes.{applied}
use Rattle.protector.specs.Calls.{refused_by, decided, carried_out, carried_change, stop_of, asked_for, table_for, visibility_taken, visibility_of}
use Rattle.call_refusals.specs.Refusals.{page_refusal, first_refusal, visibility_refusal}
use Rattle.visibility_claims.proofs.Calls.{modify_pages}
use Rattle.change_claims.proofs.Made.{among_take, among_pick}
use Rattle.history.specs.Observed.{Observed, asks, sees_call}
use Rattle.history.proofs.Took.{shared_in}
use Rattle.history.proofs.Right.{opened, Right}
use Rattle.history.proofs.Start.{repeats_take, repeats_pick, holds, places_apart, first_all, ram_page, start_right}
use Rattle.history.proofs.Buffers.{Stands, settled, stops, quiet_names, idle_shut, stands_step, stands_change}
use Rattle.history.proofs.Answers.{Told}

-- a call: refused it changes nothing, and asks for nothing
pub called : (K : Buffers → Observed → Type 0) (w : Buffers) (o : Observed) → K w o → (ps : List ℕ) (n : ℕ) (T : Outcome) → (n ≡ 0 → K T.buffers (sees_call ps T.reply T.buffers.pages o))
    → let X = decided w n T in K X.buffers (sees_call ps X.reply X.buffers.pages o)
called K w o k ps n T f = go (eqb n 0) refl
  where
    go : (b : Bool) → eqb n 0 ≡ b → K (cond b T (refused_by w n)).buffers (sees_call ps (cond b T (refused_by w n)).reply (cond b T (refused_by w n)).buffers.pages o)
    go true e = f (eqb-true n 0 e)
    go false e = k

-- ---- the state block with another word that no request has

module _ (s : List ℕ) (k x : ℕ) (low : 9 < k) (high : k < 31) where
  word : (j : ℕ) → j < 10 → get_or (set s k x) j 0 ≡ get_or s j 0
  word j h = get_or-set_other s k j x 0 (λ e. omega arith)

  first_word : get_or (set s k x) 0 0 ≡ get_or s 0 0
  first_word = word 0 (omega arith)

  set_request : request_of (set s k x) ≡ request_of s
  set_request =
      rw (word 1 (omega arith), word 2 (omega arith), word 3 (omega arith), word 4 (omega arith), word 5 (omega arith), word 6 (omega arith), word 7 (omega arith), word 8 (omega arith), word 9 (omega arith))

  pub set_entries : entries_in (set s k x) ≡ entries_in s
  set_entries = rw (get_or-set_other s k 31 x 0 (λ e. omega arith), drop-set-lt 32 s k x (omega arith))

module _ (es : List MemoryRangeWithNode) (w : Buffers) (o : Observed) (k : Stands es w o) where
  -- other tables, and another such word
  pub tables_stand : (tables : List ℕ) → Stands es (buffers w.maps w.state w.pages tables) o
  tables_stand tables = record { layout = k.layout; right = k.right; halts = k.halts; waits = k.waits; names = k.names; table = k.table }

  pub set_stands : (i x : ℕ) → 9 < i → i < 31 → Stands es (buffers w.maps (set w.state i x) w.pages w.tables) o
  set_stands i x low high =
      let s : List ℕ = w.state in
      let a : get_or (set s i x) 0 0 ≡ get_or s 0 0 = first_word s i x low high in
      let b : request_of (set s i x) ≡ request_of s = set_request s i x low high in
      record {
        layout = set_entries s i x low high ∙ k.layout;
        right = rw (a, b) k.right;
        halts = rw a k.halts;
        waits = rw a k.waits;
        names = rw (a, b) k.names;
        table = rw a k.table;
      }

  -- what a call that is taken finds: nothing under way
  module _ (idle : status_in w.state ≡ 0) where
    shut : opened (phase_in w.state) ≡ false
    shut = idle_shut (is_changing w.state) (phase_in w.state) idle

    free : o.halted ≡ false
    free = k.halts ∙ ap (λ (n : ℕ). eqb n refusal.halted) idle

    settled_right : Right (is_ram es) w.maps.private w.maps.shared (phase_in w.state) (request_of w.state) w.pages false o.listed (shared_in o)
    settled_right = subst (λ (h : Bool). Right (is_ram es) w.maps.private w.maps.shared (phase_in w.state) (request_of w.state) w.pages h o.listed (shared_in o)) free k.right

    -- another change starts
    pub change_starts : (s tables t : List ℕ) (x : ChangeStep) → entries_in s ≡ entries_in w.state → Told (settings_of s).isolation x → stops x.stage ≡ false
        → let T = carried_change (buffers w.maps s w.pages tables) t x in Stands es T.buffers (sees_call [] T.reply T.buffers.pages o)
    unfolding carried_change
    change_starts s tables t x e told on = go (asks r) refl
      where
        r : Reply
        r = flat_of (settings_of s).isolation x.answer

        T : Outcome
        T = carried_change (buffers w.maps s w.pages tables) t x

        o' : Observed
        o' = record { op = r; table = t; halted = o.halted; listed = []; last = o.last; age = o.age }

        go : (b : Bool) → asks r ≡ b → Stands es T.buffers (cond b o' o)
        go true d =
            stands_change es T.buffers.maps s t T.buffers.tables o' x.stage x.change (e ∙ k.layout) (λ p q h. settled (shared_in o) p q t [] o.halted shut h (λ z. refl) settled_right)
            (free ∙ sym on) told.waits told.quiet
        go false d =
            stands_change es T.buffers.maps s t T.buffers.tables o x.stage x.change (e ∙ k.layout)
            (λ p q h. settled (shared_in o) p q t o.listed o.halted shut h (λ z. refl) settled_right) (free ∙ sym on)
            (k.waits ∙ ap (λ (n : ℕ). eqb n refusal.busy) idle ∙ sym d ∙ told.waits) (quiet_names (phase_in w.state) (request_of w.state) w.pages o.op shut k.names)

-- ---- a visibility change

pub record Taken (w : Buffers) (v : GuestVtl) (share : Bool) (l : List ℕ) : Type 0 where
  pub fit : fits w ≡ true
  pub idle : status_in w.state ≡ 0
  pub short : length l ≤ 4096
  pub apart : repeats (pages_of l) ≡ false
  pub each : first_refusal (page_refusal (entries_in w.state) (overlays_of w.tables v) (locks_of w.tables v) share) (pages_of l) ≡ 0

pub taken : (w : Buffers) (vtl visibility : ℕ) (l : List ℕ) → visibility_refusal w.state (fits w) w.tables vtl visibility l ≡ 0 → Taken w (vtl_of vtl) (bool_of visibility) l
unfolding visibility_refusal
taken w vtl visibility l z =
    let a = is_ready w.state (fits w) _ z in
    let d = when_passed (is_long l) 4 _ a.goes in
    let e = when_passed (repeats (pages_of l)) 5 _ d.1 in
    let f = passed (fit_vtl vtl) 7 _ e.1 in
    let g = passed (fit_bool visibility) 7 _ f.1 in
    let h = when_passed (is_ragged l) 7 _ g.1 in
    record { fit = a.fits; idle = a.idle; short = ltb-false 4096 (length l) d.0; apart = e.0; each = h.1 }

module _ (es : List MemoryRangeWithNode) (w : Buffers) (o : Observed) (k : Stands es w o) (v : GuestVtl) (b : Bool) (l : List ℕ) (x : Taken w v b l) where
  abbrev P : ℕ → Bool
  P = wanted w.maps.shared b

  abbrev ps : List ℕ
  ps = take (stop_of w v b l) (pages_of l)

  abbrev Q : List ℕ
  Q = asked_for w v b l

  abbrev t : List ℕ
  t = table_for w v b l

  page : (j : ℕ) → j < length Q → get_or t j 0 ≡ get_or Q j 0
  page j h = sym (get_or-take (length Q) t j 0 h) ∙ ap (λ (m : List ℕ). get_or m j 0) (modify_pages w v b l)

  named : (j : ℕ) → j < length Q → among (pages_of l) (get_or t j 0) ≡ true
  named j h = ap (among (pages_of l)) (page j h) ∙ among_take (stop_of w v b l) (pages_of l) (get_or Q j 0) (among_pick P ps (get_or Q j 0) (among_at Q j h))

  pub in_ram : (j : ℕ) → j < length Q → is_ram es (get_or t j 0) ≡ true
  in_ram j h =
      ap (λ (y : List MemoryRangeWithNode). is_ram y (get_or t j 0)) (sym k.layout)
      ∙ ram_page (entries_in w.state) (overlays_of w.tables v) (locks_of w.tables v) b (get_or t j 0) (first_all _ (pages_of l) (get_or t j 0) x.each (named j h))

  apart : (i j : ℕ) → i < length Q → j < length Q → get_or t i 0 ≡ get_or t j 0 → i ≡ j
  apart i j h d e = places_apart Q (repeats_pick P ps (repeats_take (stop_of w v b l) (pages_of l) x.apart)) i j h d (sym (page i h) ∙ e ∙ page j d)

  pub few : length Q ≤ 512
  few = omega (arith, length_pick P ps, length-take (stop_of w v b l) (pages_of l), pages_few l x.short)

  taken_stands : let T = visibility_taken w v b l in Stands es T.buffers (sees_call (pages_of l) T.reply T.buffers.pages o)
  unfolding visibility_taken carried_out applied start_of flat_of asked_of
  taken_stands =
      let s : Settings = settings_of w.state in
      let stop : ℕ = stop_of w v b l in
      let stopped : Bool = ltb stop (length (pages_of l)) in
      let T = visibility_taken w v b l in
      let made =
      start_right (is_ram es) w.maps.private w.maps.shared (phase_in w.state) (request_of w.state) w.pages o.listed (shared_in o) (settled_right es w o k x.idle) (shut es w o k x.idle)
      t (pages_of l) (length Q) stop stopped s.tracked v apart in_ram named b (λ j h. ap P (page j h) ∙ holds P ps j h) in
      let o' : Observed = record { op = T.reply; table = t; halted = o.halted; listed = pages_of l; last = o.last; age = o.age } in
      stands_step es T.buffers.maps w.state t w.tables o' at.Wait (asked v b (length Q) stop stopped) few k.layout
      (subst (λ (h : Bool). Right (is_ram es) T.buffers.maps.private T.buffers.maps.shared at.Wait (asked v b (length Q) stop stopped) t h (pages_of l) (shared_in o)) (sym (free es w o k x.idle)) made)
      (free es w o k x.idle) refl refl (λ _. refl)

pub visibility_stands : (es : List MemoryRangeWithNode) (w : Buffers) (o : Observed) → Stands es w o → (vtl visibility : ℕ) (l : List ℕ)
    → let X = visibility_of w vtl visibility l in Stands es X.buffers (sees_call (pages_of l) X.reply X.buffers.pages o)
unfolding visibility_of
visibility_stands es w o k vtl visibility l =
    called (Stands es) w o k (pages_of l) (visibility_refusal w.state (fits w) w.tables vtl visibility l) (visibility_taken w (vtl_of vtl) (bool_of visibility) l)
    (λ z. taken_stands es w o k (vtl_of vtl) (bool_of visibility) l (taken w vtl visibility l z))
