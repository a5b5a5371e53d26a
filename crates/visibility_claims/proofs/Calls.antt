-- A visibility change through its calls is the whole call. Assumes nothing.
use native.Mathlib.Omega.{arith}
use mathlib.Core.Path.{◌≡◌, refl, sym, ap, ap₂, ◌∙◌, subst}
use mathlib.Core.Bool.{Bool, true, false, not, cond, ◌&&◌}
use mathlib.Core.List.{List, [], ◌∷◌, ◌++◌}
use Prim.Native.Nat.{ℕ, ◌≤◌, min}
use lib.Dec.{eqb, leb, ltb}
use lib.ListN.{length, take, drop, length-take, length-drop}
use lib.Seq.{get_or-drop, drop-drop, length-take-le}
use borrow.Author.Tests.{eqb-true, eq-eqb, ne_eqb, le-ltb, ltb-false}
use Rattle.permissions.proofs.Laws.{vtl_number_lem}
use Rattle.laws.specs.Bools.{false≢true, digit}
use Rattle.laws.specs.Refusal.{unless, when, first, when_passed, first_passed}
use Rattle.bitmap.proofs.Map.{length_written}
use Rattle.permissions.specs.declared.GuestVtl.{GuestVtl}
use Rattle.permissions.specs.declared.IsolationType.{IsolationType}
use Rattle.permissions.specs.Flags.{fit_vtl, vtl_of, fit_bool, bool_of}
use Rattle.mapping.specs.Maps.{Maps}
use Rattle.page_list.specs.declared.PageRun.{PageRun}
use Rattle.page_list.specs.Pages.{pages_of, is_long, repeats, is_ragged}
use Rattle.request_pages.specs.Request.{pick_places, put, wanted}
use Rattle.request_pages.proofs.Table.{in_use, length_table, length_pick, place_of, pages_few, stop_unasked}
use Rattle.visibility_steps.specs.declared.Phase.{Phase}
use Rattle.visibility_steps.specs.declared.Phase.TheVariants as at
use Rattle.visibility_steps.specs.declared.Operation as declared
use Rattle.visibility_steps.specs.declared.Operation.TheVariants as crossed
use Rattle.visibility_steps.specs.declared.Answer.{Answer}
use Rattle.visibility_steps.specs.declared.Answer.TheVariants.{Done, AccessDenied, Failed, Halted, Ask, Refused}
use Rattle.visibility_steps.specs.declared.Settings.{Settings}
use Rattle.visibility_steps.specs.declared.Request.{Request}
use Rattle.visibility_steps.specs.declared.Writes.{Writes}
use Rattle.visibility_steps.specs.declared.Step.{Step}
use Rattle.visibility_steps.specs.Steps.{run_of, operation_on, operation_of, counted, ask, no_request, end, halt, done_of, failed_of, start_of}
use Rattle.protector_state.specs.declared.Reply.{Reply}
use Rattle.protector_state.specs.State.{state_len, phase_number, first_phases, phase_of, phase_in, request_of, request_words, settings_of, entries_in}
use Rattle.protector_state.specs.Reply.{modifies, asked_of, flat_of}
use Rattle.protector_state.specs.Changing.{stage_in, is_changing}
use Rattle.call_refusals.specs.Buffers.{Buffers, buffers, Outcome, outcome, fits, status_of, status_in, takes, takes_at, takes_in}
use Rattle.protector.specs.Writes.{applied}
use Rattle.protector.specs.Calls.{refused_by, decided, carried_out, stop_of, asked_for, table_for, visibility_taken, visibility_of, answer_done, answer_failed}
use Rattle.call_refusals.specs.Refusals.{ready, visibility_refusal, answer_refusal}
use Rattle.call_refusals.proofs.Laws.{is_ready, fits_pages, untaken_refused}
use Rattle.visibility_claims.specs.Whole.{Operation, BackendAnswer, Succeeds, Fails, Status, Denied, stands, whole_share, whole_return}
use Rattle.visibility_claims.specs.Requested.{denial, requested_of, stored_in}
use Rattle.visibility_claims.specs.Runs.{Ran, named, asked_by, last_of, before, run, whole}
use Rattle.visibility_claims.specs.Calls.{input_refusal, whole_on, taken_by, asks_in, Told, follow, crossing, replies, NamesAll, Says, Match, VisibilityIsWhole, VisibilityRefused}
use Rattle.visibility_claims.proofs.Requested.{same_denial, same_pages, same_places, same_end, same_table}
use Rattle.visibility_claims.proofs.Taken.{done_has, failed_has}
use Rattle.visibility_claims.proofs.Counts.{share_is_whole, return_is_whole}

-- ---- a request keeps no more pages than it has, and no Modify asks for more

abbrev Small : declared.Operation → Type 0
Small crossed.Wait = Unit {0}
Small crossed.FlushAll = Unit {0}
Small (crossed.Protect v f r) = Unit {0}
Small (crossed.Invalidate r) = Unit {0}
Small (crossed.Release r) = Unit {0}
Small (crossed.Modify share n) = n ≤ 512
Small (crossed.Accept r) = Unit {0}
Small (crossed.Zero r) = Unit {0}
Small (crossed.Flush v) = Unit {0}
Small (crossed.TlbWait v) = Unit {0}

abbrev AsksSmall : Answer → Type 0
AsksSmall (Done n) = Unit {0}
AsksSmall (AccessDenied i n) = Unit {0}
AsksSmall (Failed code i n) = Unit {0}
AsksSmall (Halted n) = Unit {0}
AsksSmall (Ask o) = Small o
AsksSmall (Refused n) = Unit {0}

record Few (x : Step) : Type 0 where
  few : x.request.n ≤ 512
  small : AsksSmall x.answer

module _ (s : Settings) (t : List ℕ) where
  small_operation : (p : Phase) (q : Request) (r : PageRun) → q.n ≤ 512 → Small (operation_on s p q r)
  small_operation at.Idle q r h = tt
  small_operation at.Halted q r h = tt
  small_operation at.Wait q r h = tt
  small_operation at.FlushAll q r h = tt
  small_operation at.ProtectNone0 q r h = tt
  small_operation at.ProtectNone1 q r h = tt
  small_operation at.Invalidate q r h = tt
  small_operation at.Release q r h = tt
  small_operation at.Modify q r h = h
  small_operation at.Accept q r h = tt
  small_operation at.Zero q r h = tt
  small_operation at.ProtectDefault0 q r h = tt
  small_operation at.ProtectDefault1 q r h = tt

  few_ask : (p : Phase) (q : Request) (a : ℕ) (w : Writes) → q.n ≤ 512 → Few (ask s p q t a w)
  unfolding ask operation_of
  few_ask p q a w h = record { few = h; small = small_operation p (counted q a) (run_of (counted q a) t) h }

  few_end : (q : Request) (w : Writes) → q.n ≤ 512 → Few (end q w)
  unfolding end
  few_end q w h = record { few = omega arith; small = go q.stopped q.failed }
    where
      go : (a b : Bool) → AsksSmall (cond a (AccessDenied q.index q.count) (cond b (Failed q.code q.index q.count) (Done q.count)))
      go true b = tt
      go false true = tt
      go false false = tt

  few_halt : (q : Request) → q.n ≤ 512 → Few (halt q)
  unfolding halt
  few_halt q h = record { few = h; small = tt }

  done_few : (p : Phase) (q : Request) → takes p false ≡ true → q.n ≤ 512 → Few (done_of s p q t)
  done_few p q e h = done_has s t (λ q. q.n ≤ 512) Few few_ask few_end few_halt (λ q k code i l h. omega arith) p q e h

  failed_few : (p : Phase) (q : Request) (code k : ℕ) → takes p true ≡ true → q.n ≤ 512 → Few (failed_of s p q t code k)
  failed_few p q code k e h = failed_has s t (λ q. q.n ≤ 512) Few few_ask few_end few_halt (λ q k code i l h. omega arith) p q code k e h

  pub few_done : (p : Phase) (q : Request) → takes p false ≡ true → q.n ≤ 512 → (done_of s p q t).request.n ≤ 512
  few_done p q e h = (done_few p q e h).few

  pub few_failed : (p : Phase) (q : Request) (code k : ℕ) → takes p true ≡ true → q.n ≤ 512 → (failed_of s p q t code k).request.n ≤ 512
  few_failed p q code k e h = (failed_few p q code k e h).few

-- ---- what is kept is read again

pub phase_read : (p : Phase) → phase_of (phase_number p) ≡ p
unfolding phase_of first_phases
phase_read at.Idle = refl
phase_read at.Halted = refl
phase_read at.Wait = refl
phase_read at.FlushAll = refl
phase_read at.ProtectNone0 = refl
phase_read at.ProtectNone1 = refl
phase_read at.Invalidate = refl
phase_read at.Release = refl
phase_read at.Modify = refl
phase_read at.Accept = refl
phase_read at.Zero = refl
phase_read at.ProtectDefault0 = refl
phase_read at.ProtectDefault1 = refl

-- a phase is no stage of another change
pub no_change_lem : (p : Phase) → (leb 13 (phase_number p) && ltb (phase_number p) 20) ≡ false
no_change_lem at.Idle = refl
no_change_lem at.Halted = refl
no_change_lem at.Wait = refl
no_change_lem at.FlushAll = refl
no_change_lem at.ProtectNone0 = refl
no_change_lem at.ProtectNone1 = refl
no_change_lem at.Invalidate = refl
no_change_lem at.Release = refl
no_change_lem at.Modify = refl
no_change_lem at.Accept = refl
no_change_lem at.Zero = refl
no_change_lem at.ProtectDefault0 = refl
no_change_lem at.ProtectDefault1 = refl

bool_read : (b : Bool) → bool_of (digit b) ≡ b
bool_read true = refl
bool_read false = refl

pub request_read : (p : Phase) (q : Request) (tail : List ℕ) → q.n ≤ 512 → request_of (request_words p q ++ tail) ≡ q
request_read p q tail h =
    let e : min q.n 512 ≡ q.n = omega arith in
    rw (bool_read q.share, vtl_number_lem q.vtl, e, bool_read q.stopped, bool_read q.failed)

-- ---- replies

-- what a step asks for crosses as it is; of Modify the table, which is long enough, names the pages
module _ (i : IsolationType) (t : List ℕ) (wide : 512 ≤ length t) where
  asked_flat : (a : Answer) → AsksSmall a → asks_in (flat_of i a) ≡ replies i (asked_by t a)
  unfolding flat_of asked_of replies
  asked_flat (Done n) h = refl
  asked_flat (AccessDenied j n) h = refl
  asked_flat (Failed code j n) h = refl
  asked_flat (Halted n) h = refl
  asked_flat (Refused n) h = refl
  asked_flat (Ask o) h = go o h
    where
      go : (o : declared.Operation) → Small o → asks_in (asked_of i o) ≡ replies i (named t o ∷ [])
      go crossed.Wait h = refl
      go crossed.FlushAll h = refl
      go (crossed.Protect v f r) h = refl
      go (crossed.Invalidate r) h = refl
      go (crossed.Release r) h = refl
      go (crossed.Modify share n) h = ap (λ (k : ℕ). modifies share k ∷ []) (sym (length-take-le n t (omega arith)))
      go (crossed.Accept r) h = refl
      go (crossed.Zero r) h = refl
      go (crossed.Flush v) h = refl
      go (crossed.TlbWait v) h = refl

  names_flat : (a : Answer) → AsksSmall a → NamesAll t (asked_by t a)
  unfolding NamesAll
  names_flat (Done n) h = tt
  names_flat (AccessDenied j n) h = tt
  names_flat (Failed code j n) h = tt
  names_flat (Halted n) h = tt
  names_flat (Refused n) h = tt
  names_flat (Ask o) h = go o h
    where
      go : (o : declared.Operation) → Small o → NamesAll t (named t o ∷ [])
      go crossed.Wait h = (tt, tt)
      go crossed.FlushAll h = (tt, tt)
      go (crossed.Protect v f r) h = (tt, tt)
      go (crossed.Invalidate r) h = (tt, tt)
      go (crossed.Release r) h = (tt, tt)
      go (crossed.Modify share n) h = (ap (λ (k : ℕ). take k t) (length-take-le n t (omega arith)), tt)
      go (crossed.Accept r) h = (tt, tt)
      go (crossed.Zero r) h = (tt, tt)
      go (crossed.Flush v) h = (tt, tt)
      go (crossed.TlbWait v) h = (tt, tt)

names_more : (t : List ℕ) (xs ys : List Operation) → NamesAll t xs → NamesAll t ys → NamesAll t (xs ++ ys)
unfolding NamesAll
names_more t [] ys h k = k
names_more t (x ∷ xs) ys h k = (h.0, names_more t xs ys h.1 k)

says_flat : (i : IsolationType) (a : Answer) → Says i (last_of a) (flat_of i a)
unfolding flat_of asked_of
says_flat i (Done n) = refl
says_flat i (AccessDenied j n) = refl
says_flat i (Failed code j n) = refl
says_flat i (Halted n) = refl
says_flat i (Refused n) = refl
says_flat i (Ask o) = go o
  where
    go : (o : declared.Operation) → eqb (asked_of i o).operation 0 ≡ false
    go crossed.Wait = refl
    go crossed.FlushAll = refl
    go (crossed.Protect v f r) = refl
    go (crossed.Invalidate r) = refl
    go (crossed.Release r) = refl
    go (crossed.Modify share n) = refl
    go (crossed.Accept r) = refl
    go (crossed.Zero r) = refl
    go (crossed.Flush v) = refl
    go (crossed.TlbWait v) = refl

replies_more : (i : IsolationType) (xs ys : List Operation) → replies i (xs ++ ys) ≡ replies i xs ++ replies i ys
unfolding replies
replies_more i [] ys = refl
replies_more i (x ∷ xs) ys = ap (λ (l : List Reply). asked_of i (crossing x) ∷ l) (replies_more i xs ys)

-- ---- whether an answer is taken, where what is lent fits

pub taken_21 : (y : Bool) → eqb (unless y 21 0) 0 ≡ y
taken_21 true = refl
taken_21 false = refl

taken_at : (p : Phase) (b : Bool) → eqb (when (eqb (status_of p) 20) 20 (unless (takes p b) 21 0)) 0 ≡ takes p b
taken_at at.Idle b = refl
taken_at at.Halted b = refl
taken_at at.Wait b = taken_21 (not b)
taken_at at.FlushAll b = taken_21 (not b)
taken_at at.ProtectNone0 b = refl
taken_at at.ProtectNone1 b = refl
taken_at at.Invalidate b = refl
taken_at at.Release b = refl
taken_at at.Modify b = refl
taken_at at.Accept b = refl
taken_at at.Zero b = refl
taken_at at.ProtectDefault0 b = refl
taken_at at.ProtectDefault1 b = refl

refusal_taken : (s : List ℕ) (p : Phase) (f b : Bool) → length s ≡ 128 → is_changing s ≡ false → phase_in s ≡ p → f ≡ true → eqb (answer_refusal s f b) 0 ≡ takes p b
unfolding answer_refusal
refusal_taken s p f b l c e d = rw (eq-eqb (length s) 128 l, c, e, d) (taken_at p b)

-- ---- the buffers that a step leaves: the words of its request before a tail that no answer changes

module _ (tail t tables : List ℕ) (long : length tail ≡ 118) (wide : 512 ≤ length t) where
  abbrev settings : Settings
  settings = settings_of (request_words at.Idle no_request ++ tail)

  abbrev left : Step → Maps → Outcome
  left x m = outcome (applied t x.writes m) (request_words x.phase x.request ++ tail) t tables (flat_of settings.isolation x.answer)

  abbrev fit : Maps → Bool
  fit m = fits (buffers m (request_words at.Idle no_request ++ tail) t tables)

  length_put : (a b : ℕ) (s : Bool) (m : List ℕ) → length (put t a b s m) ≡ length m
  unfolding put
  length_put a b s m = length_written 8 _ s m

  fit_kept : (w : Writes) (m : Maps) → fit (applied t w m) ≡ fit m
  unfolding applied
  fit_kept w m =
      rw (
        length_put w.private.from w.private.to w.state m.private,
        length_put w.shared.from w.shared.to w.state m.shared,
        length_put w.permissions.from w.permissions.to w.flags.readable m.permissions.read,
        length_put w.permissions.from w.permissions.to w.flags.writable m.permissions.write,
        length_put w.permissions.from w.permissions.to w.flags.kernel_executable m.permissions.kernel,
        length_put w.permissions.from w.permissions.to w.flags.user_executable m.permissions.user,
      )

  module _ (x : Step) (m : Maps) (h : x.request.n ≤ 512) (f : fit m ≡ true) where
    abbrev w : Buffers
    w = (left x m).buffers

    block : length w.state ≡ 128
    block = omega arith

    taken : (b : Bool) → eqb (answer_refusal w.state (fits w) b) 0 ≡ takes x.phase b
    taken b = refusal_taken w.state x.phase (fits w) b block (no_change_lem x.phase) (phase_read x.phase) (fit_kept x.writes m ∙ f)

    done_left : takes x.phase false ≡ true → answer_done w ≡ left (done_of settings x.phase x.request t) (applied t x.writes m)
    unfolding answer_done carried_out
    done_left e =
        rw (taken false ∙ e, no_change_lem x.phase)
        (ap₂ (λ (p : Phase) (q : Request). left (done_of settings p q t) (applied t x.writes m)) (phase_read x.phase) (request_read x.phase x.request tail h))

    failed_left : (code k : ℕ) → takes x.phase true ≡ true → answer_failed w code k ≡ left (failed_of settings x.phase x.request t code k) (applied t x.writes m)
    unfolding answer_failed carried_out
    failed_left code k e =
        rw (taken true ∙ e, no_change_lem x.phase)
        (ap₂ (λ (p : Phase) (q : Request). left (failed_of settings p q t code k) (applied t x.writes m)) (phase_read x.phase) (request_read x.phase x.request tail h))

  abbrev Same : Ran → Told → Type 0
  Same r x = Match tables tail t settings.isolation r x

  -- one answer: taken it goes on, else nothing changes
  answered : (a : Answer) (b c : Bool) (r r₀ : Ran) (x x₀ : Told) → AsksSmall a → c ≡ b → (b ≡ true → Same r x) → Same r₀ x₀
      → Same (cond b (before (asked_by t a) r) r₀) (cond c (record { asked = asks_in (flat_of settings.isolation a) ++ x.asked; last = x.last }) x₀)
  answered a true true r r₀ x x₀ h e f g =
      let k = f refl in
      let i : IsolationType = settings.isolation in
      record {
        same_asked = ap₂ (λ (l l' : List Reply). l ++ l') (asked_flat i t wide a h) k.same_asked ∙ sym (replies_more i (asked_by t a) r.asked);
        same_named = names_more x.last.buffers.pages (asked_by t a) r.asked (subst (λ (t' : List ℕ). NamesAll t' (asked_by t a)) (sym k.same_pages) (names_flat i t wide a h)) k.same_named;
        same_maps = k.same_maps;
        same_reply = k.same_reply;
        same_pages = k.same_pages;
        same_tables = k.same_tables;
        same_rest = k.same_rest;
      }
  answered a false false r r₀ x x₀ h e f g = g
  answered a true false r r₀ x x₀ h e f g = false≢true e
  answered a false true r r₀ x x₀ h e f g = false≢true (sym e)

  followed : (gs : List BackendAnswer) (x : Step) (m : Maps) → Few x → fit m ≡ true → Same (run settings t x m gs) (follow (left x m) gs)
  unfolding run follow
  followed [] x m h f =
      record {
        same_asked = asked_flat settings.isolation t wide x.answer h.small;
        same_named = names_flat settings.isolation t wide x.answer h.small;
        same_maps = refl;
        same_reply = says_flat settings.isolation x.answer;
        same_pages = refl;
        same_tables = refl;
        same_rest = refl;
      }
  followed (Succeeds ∷ gs) x m h f =
      let y : Step = done_of settings x.phase x.request t in
      let m' : Maps = applied t x.writes m in
      answered x.answer (takes x.phase false) _ (run settings t y m' gs) _ (follow (answer_done (left x m).buffers) gs) _ h.small (taken x m h.few f false)
      (λ e. subst (λ (o : Outcome). Same (run settings t y m' gs) (follow o gs)) (sym (done_left x m h.few f e))
      (followed gs y m' (done_few settings t x.phase x.request e h.few) (fit_kept x.writes m ∙ f)))
      (followed gs x m h f)
  followed (Fails code k ∷ gs) x m h f =
      let y : Step = failed_of settings x.phase x.request t code k in
      let m' : Maps = applied t x.writes m in
      answered x.answer (takes x.phase true) _ (run settings t y m' gs) _ (follow (answer_failed (left x m).buffers code k) gs) _ h.small (taken x m h.few f true)
      (λ e. subst (λ (o : Outcome). Same (run settings t y m' gs) (follow o gs)) (sym (failed_left x m h.few f code k e))
      (followed gs y m' (failed_few settings t x.phase x.request code k e h.few) (fit_kept x.writes m ∙ f)))
      (followed gs x m h f)

-- ---- from the call on

-- settings and layout stand after the request's words
settings_kept : (s : List ℕ) (p : Phase) (q : Request) → settings_of (request_words p q ++ drop 10 s) ≡ settings_of s
settings_kept s p q = rw (get_or-drop 10 s 6 0, get_or-drop 10 s 7 0, get_or-drop 10 s 8 0, get_or-drop 10 s 9 0, get_or-drop 10 s 10 0, get_or-drop 10 s 11 0)

entries_kept : (s : List ℕ) (p : Phase) (q : Request) → entries_in (request_words p q ++ drop 10 s) ≡ entries_in s
entries_kept s p q = rw (get_or-drop 10 s 21 0, drop-drop 22 10 s)

fits_kept : (w : Buffers) (p : Phase) (q : Request) (t : List ℕ) → length t ≡ length w.pages
    → fits (buffers w.maps (request_words p q ++ drop 10 w.state) t w.tables) ≡ fits w
fits_kept w p q t e = rw (get_or-drop 10 w.state 7 0, get_or-drop 10 w.state 21 0, drop-drop 22 10 w.state, e)

-- ---- what refuses a call: its input and the state first, then its pages

when_chain : (t : Bool) (code rest rest' d : ℕ) → eqb code 0 ≡ false → rest ≡ first rest' d → when t code rest ≡ first (when t code rest') d
when_chain true code rest rest' d z h = rw z
when_chain false code rest rest' d z h = h

ready_chain : (s : List ℕ) (fit : Bool) (rest rest' d : ℕ) → rest ≡ first rest' d → ready s fit rest ≡ first (ready s fit rest') d
unfolding ready
ready_chain s fit rest rest' d h = go (eqb (length s) state_len) (eqb (status_in s) 0) refl fit
  where
    go : (long idle : Bool) → eqb (status_in s) 0 ≡ idle → (fit : Bool)
        → unless long 4 (cond idle (unless fit 4 rest) (status_in s)) ≡ first (unless long 4 (cond idle (unless fit 4 rest') (status_in s))) d
    go false idle e fit = refl
    go true false e fit = rw e
    go true true e false = refl
    go true true e true = h

unfit_chain : (a b c : Bool) (d : ℕ) → unless a 8 (unless b 8 (when c 8 d)) ≡ first (unless (a && (b && not c)) 8 0) d
unfit_chain true true true d = refl
unfit_chain true true false d = refl
unfit_chain true false c d = refl
unfit_chain false b c d = refl

refusal_is : (w : Buffers) (vtl visibility : ℕ) (l : List ℕ) → visibility_refusal w.state (fits w) w.tables vtl visibility l
    ≡ first (input_refusal w vtl visibility l) (denial w (vtl_of vtl) (bool_of visibility) (pages_of l))
unfolding visibility_refusal input_refusal
refusal_is w vtl visibility l =
    let d : ℕ = denial w (vtl_of vtl) (bool_of visibility) (pages_of l) in
    ready_chain w.state (fits w) _ _ d
    (when_chain (is_long l) 5 _ _ d refl
    (when_chain (repeats (pages_of l)) 6 _ _ d refl
    (ap (λ (n : ℕ). unless (fit_vtl vtl) 8 (unless (fit_bool visibility) 8 (when (is_ragged l) 8 n))) (sym (same_denial w (vtl_of vtl) (bool_of visibility) (pages_of l)))
    ∙ unfit_chain (fit_vtl vtl) (fit_bool visibility) (is_ragged l) d)))

-- a call that is taken is refused by neither
pub taken_input : (w : Buffers) (vtl visibility : ℕ) (l : List ℕ) → visibility_refusal w.state (fits w) w.tables vtl visibility l ≡ 0 → input_refusal w vtl visibility l ≡ 0
taken_input w vtl visibility l z = (first_passed (input_refusal w vtl visibility l) _ (sym (refusal_is w vtl visibility l) ∙ z)).0

pub taken_pages : (w : Buffers) (vtl visibility : ℕ) (l : List ℕ) → visibility_refusal w.state (fits w) w.tables vtl visibility l ≡ 0
    → denial w (vtl_of vtl) (bool_of visibility) (pages_of l) ≡ 0
taken_pages w vtl visibility l z = (first_passed (input_refusal w vtl visibility l) _ (sym (refusal_is w vtl visibility l) ∙ z)).1

-- one whose input and state don't refuse it: what it was found to have
record Taken (w : Buffers) (l : List ℕ) : Type 0 where
  block : length w.state ≡ 128
  idle : status_in w.state ≡ 0
  fit : fits w ≡ true
  short : length l ≤ 4096

taken_call : (w : Buffers) (vtl visibility : ℕ) (l : List ℕ) → input_refusal w vtl visibility l ≡ 0 → Taken w l
unfolding input_refusal
taken_call w vtl visibility l z =
    let a = is_ready w.state (fits w) _ z in
    record { block = a.long; idle = a.idle; fit = a.fits; short = ltb-false 4096 (length l) (when_passed (is_long l) 4 _ a.goes).0 }

-- where nothing is under way no answer is taken
pub idle_takes : (s : List ℕ) (b : Bool) → status_in s ≡ 0 → takes_in s b ≡ false
idle_takes s b e = go (is_changing s) e
  where
    none : (p : Phase) → status_of p ≡ 0 → takes p b ≡ false
    none at.Idle e = refl
    none at.Halted e = refl
    none at.Wait e = absurd (omega arith)
    none at.FlushAll e = absurd (omega arith)
    none at.ProtectNone0 e = absurd (omega arith)
    none at.ProtectNone1 e = absurd (omega arith)
    none at.Invalidate e = absurd (omega arith)
    none at.Release e = absurd (omega arith)
    none at.Modify e = absurd (omega arith)
    none at.Accept e = absurd (omega arith)
    none at.Zero e = absurd (omega arith)
    none at.ProtectDefault0 e = absurd (omega arith)
    none at.ProtectDefault1 e = absurd (omega arith)

    go : (c : Bool) → cond c 19 (status_of (phase_in s)) ≡ 0 → cond c (takes_at (stage_in s) b) (takes (phase_in s) b) ≡ false
    go true e = absurd (omega arith)
    go false e = none (phase_in s) e

-- the pages of Modify: the first of the table
pub modify_pages : (w : Buffers) (v : GuestVtl) (share : Bool) (l : List ℕ) → take (length (asked_for w v share l)) (table_for w v share l) ≡ asked_for w v share l
modify_pages w v share l = in_use (wanted w.maps.shared share) (take (stop_of w v share l) (pages_of l)) w.pages

module _ (w : Buffers) (v : GuestVtl) (l : List ℕ) (k : Taken w l) where
  pages_long : length w.pages ≡ 1024
  pages_long = fits_pages w k.fit

  few_pages : (n : ℕ) → length (take n (pages_of l)) ≤ 512
  few_pages n = omega (arith, length-take n (pages_of l), pages_few l k.short)

  module _ (share : Bool) where
    abbrev P : ℕ → Bool
    P = wanted w.maps.shared share

    abbrev ps : List ℕ
    ps = take (stop_of w v share l) (pages_of l)

    table_long : length (table_for w v share l) ≡ 1024
    table_long = length_table P ps w.pages pages_long (few_pages (stop_of w v share l))

    few_asked : length (asked_for w v share l) ≤ 512
    few_asked = omega (arith, length_pick P ps, few_pages (stop_of w v share l))

  abbrev start : Bool → Step
  start share = start_of (settings_of w.state) v share (length (asked_for w v share l)) (stop_of w v share l) (ltb (stop_of w v share l) (length (pages_of l)))

  steps_whole : (share : Bool) (gs : List BackendAnswer)
      → run (settings_of w.state) (table_for w v share l) (start share) w.maps gs ≡ whole (whole_on w v share (requested_of w v share l) gs)
  steps_whole true gs =
      let s : Settings = settings_of w.state in
      let stop : ℕ = stop_of w v true l in
      share_is_whole s v (length (asked_for w v true l)) stop (ltb stop (length (pages_of l))) (table_for w v true l) w.maps gs (omega (arith, table_long true, few_asked true)) (few_asked true)
      ∙ ap₂ (λ (ps : List ℕ) (end : Status). whole (whole_share s v ps end w.maps gs)) (modify_pages w v true l ∙ sym (same_pages w v true l)) (sym (same_end w v true l))
  steps_whole false gs =
      let s : Settings = settings_of w.state in
      let stop : ℕ = stop_of w v false l in
      let n : ℕ = length (asked_for w v false l) in
      let t : List ℕ = table_for w v false l in
      ap (λ (b : Bool). run s t (start_of s v false n stop b) w.maps gs)
      (le-ltb stop (length (pages_of l)) (omega (arith, stop_unasked w.maps.permissions.read w.maps.permissions.write false (pages_of l) refl)))
      ∙ return_is_whole s v n stop t (pick_places (P false) 0 (ps false)) w.maps gs (omega (arith, table_long false, few_asked false)) (few_asked false)
      (λ j h. place_of (P false) (ps false) w.pages pages_long (few_pages stop) j h)
      ∙ ap₂ (λ (ps their : List ℕ). whole (whole_return s ps their w.maps gs)) (modify_pages w v false l ∙ sym (same_pages w v false l)) (sym (same_places w v false l))

  abbrev Whole-of : Bool → List ℕ → Ran → Told → Type 0
  Whole-of share t r x = Match w.tables (drop 10 w.state) t (settings_of w.state).isolation r x

  taken_whole : (share : Bool) (gs : List BackendAnswer)
      → Whole-of share (stored_in (requested_of w v share l).listed w.pages) (whole (whole_on w v share (requested_of w v share l) gs)) (follow (visibility_taken w v share l) gs)
  unfolding visibility_taken carried_out start_of
  taken_whole share gs =
      let s : Settings = settings_of w.state in
      let tail : List ℕ = drop 10 w.state in
      let t : List ℕ = table_for w v share l in
      let x : Step = start share in
      let long : length tail ≡ 118 = length-drop 10 w.state ∙ omega (arith, k.block) in
      let same = followed tail t w.tables long (omega (arith, table_long share)) gs x w.maps (record { few = few_asked share; small = tt }) (fits_kept w at.Idle no_request t (table_long share ∙ sym pages_long) ∙ k.fit) in
      subst (λ (t : List ℕ). Whole-of share t (whole (whole_on w v share (requested_of w v share l) gs)) (follow (visibility_taken w v share l) gs)) (sym (same_table w v share l))
      (subst (λ (r : Ran). Whole-of share t r (follow (visibility_taken w v share l) gs)) (steps_whole share gs)
      (subst (λ (s' : Settings). Match w.tables tail t s'.isolation (run s' t x w.maps gs) (follow (outcome (applied t x.writes w.maps) (request_words x.phase x.request ++ tail) t w.tables (flat_of s'.isolation x.answer)) gs))
      (settings_kept w.state at.Idle no_request) same))

  -- ---- refused by a page: nothing is under way, so no answer is taken either

  none : (b : Bool) → eqb (answer_refusal w.state (fits w) b) 0 ≡ false
  none b = untaken_refused w.state (fits w) b (idle_takes w.state b k.idle)

  untaken : (g : BackendAnswer) → taken_by g w ≡ false
  untaken Succeeds = none false
  untaken (Fails code j) = none true

  denied_follow : (n : ℕ) (gs : List BackendAnswer) → follow (refused_by w n) gs ≡ record { asked = []; last = refused_by w n }
  unfolding follow
  denied_follow n [] = refl
  denied_follow n (g ∷ gs) = rw (untaken g) (denied_follow n gs)

  denied_whole : (share : Bool) (n : ℕ) (gs : List BackendAnswer) → Whole-of share w.pages (whole (stands w.maps (Denied n))) (follow (refused_by w n) gs)
  unfolding replies NamesAll flat_of
  denied_whole share n gs =
      subst (Whole-of share w.pages (whole (stands w.maps (Denied n)))) (sym (denied_follow n gs))
      (record { same_asked = refl; same_named = tt; same_maps = refl; same_reply = refl; same_pages = refl; same_tables = refl; same_rest = refl })

-- THE CLAIMS
pub visibility_is_whole : VisibilityIsWhole
unfolding visibility_of
visibility_is_whole w vtl visibility l gs z = go (eqb d 0) refl
  where
    v : GuestVtl
    v = vtl_of vtl

    b : Bool
    b = bool_of visibility

    d : ℕ
    d = denial w (vtl_of vtl) (bool_of visibility) (pages_of l)

    number : visibility_refusal w.state (fits w) w.tables vtl visibility l ≡ d
    number = refusal_is w vtl visibility l ∙ ap (λ (n : ℕ). cond (eqb n 0) d n) z

    k : Taken w l
    k = taken_call w vtl visibility l z

    go : (y : Bool) → eqb d 0 ≡ y
        → Whole-of w v l k b (cond y (stored_in (requested_of w v b l).listed w.pages) w.pages) (whole (cond y (whole_on w v b (requested_of w v b l) gs) (stands w.maps (Denied d))))
        (follow (decided w (visibility_refusal w.state (fits w) w.tables vtl visibility l) (visibility_taken w v b l)) gs)
    go true e =
        subst (λ (n : ℕ). Whole-of w v l k b (stored_in (requested_of w v b l).listed w.pages) (whole (whole_on w v b (requested_of w v b l) gs)) (follow (decided w n (visibility_taken w v b l)) gs))
        (sym (number ∙ eqb-true d 0 e)) (taken_whole w v l k b gs)
    go false e =
        subst (λ (n : ℕ). Whole-of w v l k b w.pages (whole (stands w.maps (Denied d))) (follow (decided w n (visibility_taken w v b l)) gs)) (sym number)
        (subst (λ (y : Bool). Whole-of w v l k b w.pages (whole (stands w.maps (Denied d))) (follow (cond y (visibility_taken w v b l) (refused_by w d)) gs)) (sym e) (denied_whole w v l k b d gs))

pub visibility_refused : VisibilityRefused
unfolding visibility_of
visibility_refused w vtl visibility l h =
    let n : ℕ = input_refusal w vtl visibility l in
    let d : ℕ = denial w (vtl_of vtl) (bool_of visibility) (pages_of l) in
    let e : eqb n 0 ≡ false = ne_eqb n 0 h in
    ap (λ (n : ℕ). decided w n (visibility_taken w (vtl_of vtl) (bool_of visibility) l)) (refusal_is w vtl visibility l ∙ ap (λ (y : Bool). cond y d n) e)
    ∙ ap (λ (y : Bool). cond y (visibility_taken w (vtl_of vtl) (bool_of visibility) l) (refused_by w n)) e
