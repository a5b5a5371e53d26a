-- Every call and every answer on SNP keeps the ages right. Assumes nothing.
use Prim.Native.Nat.{ℕ, ◌+◌, ◌-◌, ◌≤◌, ◌<◌}
use mathlib.Core.Path.{◌≡◌, refl, sym, ap, ◌∙◌, subst}
use mathlib.Core.List.{List, []}
use mathlib.Core.Bool.{Bool, true, false, not, cond, ◌&&◌}
use native.Mathlib.Omega.{arith}
use lib.ListN.{length, get_or, take, drop, set, length-take}
use lib.Seq.{get_or-drop, get_or-set_other}
use lib.Dec.{eqb, ltb}
use borrow.Author.Tests.{eqb-true}
use Rattle.laws.specs.Bools.{false≢true}
use Rattle.layout.specs.declared.MemoryRangeWithNode.{MemoryRangeWithNode}
use Rattle.permissions.specs.declared.GuestVtl.{GuestVtl}
use Rattle.permissions.specs.declared.GuestVtl.TheVariants.{Vtl0, Vtl1}
use Rattle.permissions.specs.Flags.{vtl_of, vtl_number, isolation_of, bool_of, bits_of}
use Rattle.page_list.specs.Pages.{pages_of}
use Rattle.overlay_table.specs.Overlays.{is_overlay}
use Rattle.request_pages.specs.Request.{wanted, put}
use Rattle.request_pages.proofs.Table.{length_table, pages_few}
use Rattle.visibility_steps.specs.declared.Phase.{Phase}
use Rattle.visibility_steps.specs.declared.Phase.TheVariants as at
use Rattle.visibility_steps.specs.declared.Request.{Request}
use Rattle.visibility_steps.specs.declared.Settings.{Settings}
use Rattle.visibility_steps.specs.declared.Step.{Step}
use Rattle.visibility_steps.specs.Steps as steps_of_visibility
use Rattle.visibility_steps.specs.Steps.{is_snp, run_of, asked, cleared, start_of}
use Rattle.change_steps.specs.declared.ChangeStep.{ChangeStep}
use Rattle.change_steps.specs.Changes.{start_new, start_old}
use Rattle.protector_state.specs.declared.Reply.{Reply}
use Rattle.protector_state.specs.State.{phase_in, request_of, with_request, settings_of}
use Rattle.protector_state.specs.Reply.{modifies, on_run, flat_of, asked_of}
use Rattle.protector_state.specs.Changing.{stage_in, is_changing, change_in}
use Rattle.call_refusals.specs.Buffers.{Buffers, buffers, Outcome, overlays_of, fits}
use Rattle.protector.specs.Writes.{applied}
use Rattle.protector.specs.Calls.{refused_by, carried_out, carried_change, stop_of, asked_for, table_for, visibility_taken, visibility_of, after_done, after_failed, visibility_done, visibility_failed, change_done, change_failed, answer_done, answer_failed}
use Rattle.call_refusals.specs.Refusals.{visibility_refusal}
use Rattle.protection_entries.specs.Calls.{default_refusal, stored_default, stored, barred, renewed_tables, renewed_in, default_step, default_started, default_taken, default_of, protection_refusal, all_listed, protection_step, protection_taken, protection_of}
use Rattle.overlay_refusals.specs.Refusals.{unregister_refusal, register_refusal}
use Rattle.overlay_entries.specs.Calls.{entry_in, counting, unregister_taken, unregister_of, current_in, register_taken, register_of}
use Rattle.visibility_claims.specs.Whole.{BackendAnswer, Succeeds, Fails}
use Rattle.visibility_claims.specs.Calls.{answer_of}
use Rattle.visibility_claims.proofs.Calls.{phase_read, request_read, few_done, few_failed}
use Rattle.history.specs.Observed.{Observed, ReturnState, asks, age_after, sees_taken, sees_answer, sees_call}
use Rattle.history.specs.Marks.{Has, is_settled}
use Rattle.call_refusals.proofs.Laws.{fits_pages}
use Rattle.history.proofs.Bits.{clash, clear_kept}
use Rattle.history.proofs.Right.{opened, is_quiet, Names, Fits}
use Rattle.history.proofs.Steps.{done_fits, failed_fits}
use Rattle.history.proofs.Buffers.{Stands, digit_read, quiet_names, changing_shut, change_shut}
use Rattle.history.proofs.Answers.{Told, done_told, failed_told, Leads, answered, either, takes_change}
use Rattle.history.proofs.Calls.{called, Taken, taken, few}
use Rattle.history.proofs.Ages.{is_never, is_valid, returning, zeroing, aged, Aged, Ages, made_aged, done_ages, failed_ages, moved_place}

pub record Snp (w : Buffers) (o : Observed) : Type 0 where
  pub snp : is_snp (settings_of w.state).isolation ≡ true
  pub ages : Aged w.maps.private (phase_in w.state) (request_of w.state) w.pages o.age

-- ---- what an answer is seen to do to a page's age is what the phase and the request say

quiet_not : (k : ℕ) → (not (ltb 5 k && ltb k 9) ≡ false) → (r : Reply) → is_quiet r ≡ true → eqb r.operation k ≡ false
quiet_not k q r h = go (eqb r.operation k) refl
  where
    go : (b : Bool) → eqb r.operation k ≡ b → eqb r.operation k ≡ false
    go false e = e
    go true e = false≢true (sym q ∙ ap (λ (n : ℕ). not (ltb 5 n && ltb n 9)) (sym (eqb-true r.operation k e)) ∙ h)

pub quiet_age : (g : BackendAnswer) (o : Observed) → is_quiet o.op ≡ true → (z : ℕ) → age_after g o z ≡ o.age z
quiet_age Succeeds o h z = rw (quiet_not 6 refl o.op h, quiet_not 7 refl o.op h, quiet_not 8 refl o.op h)
quiet_age (Fails code k) o h z = rw (quiet_not 6 refl o.op h)

modify_age : (g : BackendAnswer) (o : Observed) (q : Request) (t : List ℕ) → o.op ≡ modifies q.share q.n → o.table ≡ t → (z : ℕ) → age_after g o z ≡ aged at.Modify q t g o.age z
modify_age Succeeds o q t e d z = rw (e, d, digit_read q.share)
modify_age (Fails code k) o q t e d z = rw (e, d, digit_read q.share)

accept_age : (g : BackendAnswer) (o : Observed) (q : Request) (t : List ℕ) → o.op ≡ on_run 7 (run_of q t) → (z : ℕ) → age_after g o z ≡ aged at.Accept q t g o.age z
accept_age Succeeds o q t e z = rw e
accept_age (Fails code k) o q t e z = rw e

zero_age : (g : BackendAnswer) (o : Observed) (q : Request) (t : List ℕ) → o.op ≡ on_run 8 (run_of q t) → (z : ℕ) → age_after g o z ≡ aged at.Zero q t g o.age z
zero_age Succeeds o q t e z = rw e
zero_age (Fails code k) o q t e z = rw e

seen_age : (p : Phase) (g : BackendAnswer) (o : Observed) (q : Request) (t : List ℕ) → Names p q t o.op → (opened p ≡ true → o.table ≡ t) → (z : ℕ) → age_after g o z ≡ aged p q t g o.age z
seen_age at.Idle g o q t n d z = quiet_age g o n z
seen_age at.Halted g o q t n d z = quiet_age g o n z
seen_age at.Wait g o q t n d z = quiet_age g o n z
seen_age at.FlushAll g o q t n d z = quiet_age g o n z
seen_age at.ProtectNone0 g o q t n d z = quiet_age g o n z
seen_age at.ProtectNone1 g o q t n d z = quiet_age g o n z
seen_age at.Invalidate g o q t n d z = quiet_age g o n z
seen_age at.Release g o q t n d z = quiet_age g o n z
seen_age at.Modify g o q t n d z = modify_age g o q t n (d refl) z
seen_age at.Accept g o q t n d z = accept_age g o q t n z
seen_age at.Zero g o q t n d z = zero_age g o q t n z
seen_age at.ProtectDefault0 g o q t n d z = quiet_age g o n z
seen_age at.ProtectDefault1 g o q t n d z = quiet_age g o n z

-- ---- what no step touches

shut_returning : (p : Phase) → opened p ≡ false → returning p ≡ false
shut_returning at.Idle h = refl
shut_returning at.Halted h = refl
shut_returning at.Wait h = refl
shut_returning at.FlushAll h = refl
shut_returning at.ProtectNone0 h = refl
shut_returning at.ProtectNone1 h = refl
shut_returning at.Invalidate h = refl
shut_returning at.Release h = refl
shut_returning at.Modify h = refl
shut_returning at.Accept h = false≢true (sym h)
shut_returning at.Zero h = false≢true (sym h)
shut_returning at.ProtectDefault0 h = refl
shut_returning at.ProtectDefault1 h = refl

shut_zeroing : (p : Phase) → opened p ≡ false → zeroing p ≡ false
shut_zeroing at.Idle h = refl
shut_zeroing at.Halted h = refl
shut_zeroing at.Wait h = refl
shut_zeroing at.FlushAll h = refl
shut_zeroing at.ProtectNone0 h = refl
shut_zeroing at.ProtectNone1 h = refl
shut_zeroing at.Invalidate h = refl
shut_zeroing at.Release h = refl
shut_zeroing at.Modify h = refl
shut_zeroing at.Accept h = refl
shut_zeroing at.Zero h = false≢true (sym h)
shut_zeroing at.ProtectDefault0 h = refl
shut_zeroing at.ProtectDefault1 h = refl

aged_same : (P : List ℕ) (p : Phase) (q : Request) (t : List ℕ) (age now : ℕ → ReturnState) → ((z : ℕ) → now z ≡ age z) → Aged P p q t age → Aged P p q t now
aged_same P p q t age now e g =
    record {
      settled = λ z h. ap is_settled (e z) ∙ g.settled z h;
      long = g.long;
      came = λ r j h d. ap is_never (e (get_or t j 0)) ∙ g.came r j h d;
      past = λ r j h d k. e (get_or t j 0) ∙ g.past r j h d k;
      valid = λ r j h d l k. ap is_valid (e (get_or t j 0)) ∙ g.valid r j h d l k;
    }

-- nothing is under way afterwards
aged_shut : (P : List ℕ) (p p' : Phase) (q q' : Request) (t t' : List ℕ) (age now : ℕ → ReturnState) → opened p' ≡ false → ((z : ℕ) → now z ≡ age z) → Aged P p q t age → Aged P p' q' t' now
aged_shut P p p' q q' t t' age now s e g =
    record {
      settled = λ z h. ap is_settled (e z) ∙ g.settled z h;
      long = λ o. clash (opened p') o s;
      came = λ r. clash (returning p') r (shut_returning p' s);
      past = λ r. clash (returning p') r (shut_returning p' s);
      valid = λ r. clash (zeroing p') r (shut_zeroing p' s);
    }

request_snp : (p : Phase) (q : Request) (s : List ℕ) → (settings_of (with_request p q s)).isolation ≡ (settings_of s).isolation
request_snp p q s = ap isolation_of (get_or-drop 10 s 6 0)

set_snp : (s : List ℕ) (k x : ℕ) → 16 < k → (settings_of (set s k x)).isolation ≡ (settings_of s).isolation
set_snp s k x l = ap isolation_of (get_or-set_other s k 16 x 0 (λ e. omega arith))

-- ---- every answer

module _ (es : List MemoryRangeWithNode) (w : Buffers) (o : Observed) (k : Stands es w o) (a : Snp w o) where
  abbrev p : Phase
  p = phase_in w.state

  abbrev q : Request
  q = request_of w.state

  abbrev s : Settings
  s = settings_of w.state

  visible : (g : BackendAnswer) (x : Step) → Fits s.isolation w.pages (opened p) q.n x → Ages q.n w.pages (aged p q w.pages g o.age) x → x.request.n ≤ 512
      → Leads Snp o g (carried_out w w.pages x)
  unfolding carried_out applied
  visible g x f y few =
      let P' : List ℕ = (applied w.pages x.writes w.maps).private in
      let made =
      made_aged w.maps.private p q w.pages o.age (aged p q w.pages g o.age) x a.ages (λ j e h d. (k.right.bare e j h d).0)
      (λ z. moved_place q w.pages o.age g z p a.ages.long) (λ e. (f.opens e).3) y in
      let same = aged_same P' x.phase x.request w.pages (aged p q w.pages g o.age) (age_after g o) (seen_age p g o q w.pages k.names k.table) made in
      let s' : List ℕ = with_request x.phase x.request w.state in
      record {
        taken = f.tells.taken;
        stands = record {
          snp = ap is_snp (request_snp x.phase x.request w.state) ∙ a.snp;
          ages = subst (λ (y : Phase). Aged P' y (request_of s') w.pages (age_after g o)) (sym (phase_read x.phase))
              (subst (λ (y : Request). Aged P' x.phase y w.pages (age_after g o)) (sym (request_read x.phase x.request (drop 10 w.state) few)) same);
        };
      }

  -- another change, from a state block with the same isolation
  pub change_aged : (s' tables t : List ℕ) (x : ChangeStep) (o' : Observed) → (settings_of s').isolation ≡ s.isolation → ((z : ℕ) → o'.age z ≡ o.age z)
      → Snp (carried_change (buffers w.maps s' w.pages tables) t x).buffers o'
  unfolding carried_change
  change_aged s' tables t x o' i e =
      record {
        snp = ap is_snp (ap isolation_of (get_or-drop 14 s' 2 0) ∙ i) ∙ a.snp;
        ages = aged_shut w.maps.private p _ q _ w.pages t o.age o'.age (change_shut x.stage) e a.ages;
      }

  changed : (g : BackendAnswer) → is_changing w.state ≡ true → (x : ChangeStep) → Told s.isolation x → Leads Snp o g (carried_change w w.pages x)
  unfolding carried_change
  changed g c x t =
      let r : Reply = flat_of s.isolation x.answer in
      let still : is_quiet o.op ≡ true = quiet_names p q w.pages o.op (changing_shut w.state c) k.names in
      record { taken = t.taken; stands = change_aged w.state w.tables w.pages x (sees_taken g r w.pages o) refl (quiet_age g o still) }

  few_here : q.n ≤ 512
  few_here = omega arith

  pub answer_aged : (g : BackendAnswer) → Snp (answer_of g w).buffers (sees_answer g (answer_of g w).reply (answer_of g w).buffers.pages o)
  unfolding answer_done answer_failed after_done after_failed
  answer_aged Succeeds =
      answered Snp w o k.halts a Succeeds false (cond (is_changing w.state) (change_done w) (visibility_done w))
      (λ free t. either Snp w o k.halts a Succeeds (is_changing w.state) (change_done w) (visibility_done w) refl
      (λ c. changed Succeeds c _ (done_told s.isolation s.tracked (stage_in w.state) (change_in w.state) w.pages _ (takes_change w true false c t)))
      (λ c. let y = takes_change w false false c t in
      visible Succeeds (steps_of_visibility.done_of s p q w.pages) (done_fits s p q w.pages y) (done_ages s a.snp w.maps.private q w.pages o.age p y a.ages) (few_done s w.pages p q y few_here)))
  answer_aged (Fails code n) =
      answered Snp w o k.halts a (Fails code n) true (cond (is_changing w.state) (change_failed w) (visibility_failed w code n))
      (λ free t. either Snp w o k.halts a (Fails code n) (is_changing w.state) (change_failed w) (visibility_failed w code n) refl
      (λ c. changed (Fails code n) c _ (failed_told s.isolation (stage_in w.state) (change_in w.state) (takes_change w true true c t)))
      (λ c. let y = takes_change w false true c t in
      visible (Fails code n) (steps_of_visibility.failed_of s p q w.pages code n) (failed_fits s p q w.pages code n y) (failed_ages s a.snp w.maps.private q w.pages o.age p code n y) (few_failed s w.pages p q code n y few_here)))

-- ---- every call

module _ (w : Buffers) (o : Observed) (a : Snp w o) where
  pub tables_aged : (tables : List ℕ) → Snp (buffers w.maps w.state w.pages tables) o
  tables_aged tables = record { snp = a.snp; ages = a.ages }

  pub set_aged : (i x : ℕ) → 16 < i → Snp (buffers w.maps (set w.state i x) w.pages w.tables) o
  set_aged i x l =
      let word : (j : ℕ) → j < 10 → get_or (set w.state i x) j 0 ≡ get_or w.state j 0 = λ j h. get_or-set_other w.state i j x 0 (λ e. omega arith) in
      let b : request_of (set w.state i x) ≡ request_of w.state =
      rw (word 1 (omega arith), word 2 (omega arith), word 3 (omega arith), word 4 (omega arith), word 5 (omega arith), word 6 (omega arith), word 7 (omega arith), word 8 (omega arith), word 9 (omega arith)) in
      record { snp = ap is_snp (set_snp w.state i x l) ∙ a.snp; ages = rw (word 0 (omega arith), b) a.ages }

module _ (es : List MemoryRangeWithNode) (w : Buffers) (o : Observed) (k : Stands es w o) (a : Snp w o) where
  -- whatever the reply, a call moves no age
  call_ages : (ps : List ℕ) (r : Reply) (t : List ℕ) (z : ℕ) → (sees_call ps r t o).age z ≡ o.age z
  call_ages ps r t z = go (asks r)
    where
      go : (b : Bool) → (cond b (record { op = r; table = t; halted = o.halted; listed = ps; last = o.last; age = o.age }) o).age z ≡ o.age z
      go true = refl
      go false = refl

  starts : (s' tables t : List ℕ) (x : ChangeStep) → (settings_of s').isolation ≡ (settings_of w.state).isolation
      → let T = carried_change (buffers w.maps s' w.pages tables) t x in Snp T.buffers (sees_call [] T.reply T.buffers.pages o)
  starts s' tables t x i =
      let T = carried_change (buffers w.maps s' w.pages tables) t x in
      change_aged es w o k a s' tables t x (sees_call [] T.reply T.buffers.pages o) i (call_ages [] T.reply T.buffers.pages)

  pub protection_aged : (vtl flags : ℕ) (l : List ℕ) → let X = protection_of w vtl flags l in Snp X.buffers (sees_call [] X.reply X.buffers.pages o)
  unfolding protection_of protection_taken
  protection_aged vtl flags l =
      let t : List ℕ = all_listed l w.pages in
      called Snp w o a [] (protection_refusal w.state (fits w) w.maps.shared w.tables vtl flags l) (protection_taken w (vtl_of vtl) flags l)
      (λ z. starts w.state w.tables t (protection_step w.state t (vtl_of vtl) flags (length (pages_of l))) refl)

  module _ (v : GuestVtl) (flags : ℕ) where
    abbrev s' : List ℕ
    s' = stored_default w.state v flags

    place : (v : GuestVtl) → 16 < 20 + vtl_number v
    place Vtl0 = omega arith
    place Vtl1 = omega arith

    default_taken_lem : let T = default_taken (stored w v flags) v flags in Snp T.buffers (sees_call [] T.reply T.buffers.pages o)
    unfolding default_taken default_started
    default_taken_lem = go (barred w.maps.private s' w.tables v)
      where
        S : Outcome
        S = default_started (renewed_in (stored w v flags) v flags) v flags

        go : (b : Bool) → let T = cond b (refused_by (stored w v flags) 10) S in Snp T.buffers (sees_call [] T.reply T.buffers.pages o)
        go true = set_aged w o a (20 + vtl_number v) flags (place v)
        go false =
            let tables : List ℕ = renewed_tables w.maps.private s' w.tables v flags in
            starts s' tables w.pages (default_step w.maps.private s' tables v flags) (set_snp w.state (20 + vtl_number v) flags (place v))

  pub default_aged : (vtl flags : ℕ) → let X = default_of w vtl flags in Snp X.buffers (sees_call [] X.reply X.buffers.pages o)
  unfolding default_of
  default_aged vtl flags =
      called Snp w o a [] (default_refusal w.state (fits w) vtl flags) (default_taken (stored w (vtl_of vtl) flags) (vtl_of vtl) flags) (λ z. default_taken_lem (vtl_of vtl) flags)

  pub unregister_aged : (vtl p : ℕ) → let X = unregister_of w vtl p in Snp X.buffers (sees_call [] X.reply X.buffers.pages o)
  unfolding unregister_of unregister_taken
  unregister_aged vtl p =
      called Snp w o a [] (unregister_refusal w.state (fits w) w.tables vtl p) (unregister_taken w (vtl_of vtl) p) (λ z. go (ltb 1 (entry_in w.tables (vtl_of vtl) p).ref_count))
    where
      v : GuestVtl
      v = vtl_of vtl

      x : ChangeStep
      x = start_old (settings_of w.state).tracked v p (entry_in w.tables v p).previous_permissions (entry_in w.tables v p).gpn_source

      A : Outcome
      A = counting w v p ((entry_in w.tables v p).ref_count - 1)

      B : Outcome
      B = carried_change w w.pages x

      go : (b : Bool) → Snp (cond b A B).buffers (sees_call [] (cond b A B).reply (cond b A B).buffers.pages o)
      go true = tables_aged w o a A.buffers.tables
      go false = starts w.state w.tables w.pages x refl

  pub register_aged : (vtl p source checked new : ℕ) → let X = register_of w vtl p source checked new in Snp X.buffers (sees_call [] X.reply X.buffers.pages o)
  unfolding register_of register_taken
  register_aged vtl p source checked new =
      called Snp w o a [] (register_refusal w.state (fits w) w.maps.shared w.tables (current_in w (vtl_of vtl) p source) vtl p source checked new) (register_taken w (vtl_of vtl) p source new)
      (λ z. go (is_overlay (overlays_of w.tables (vtl_of vtl)) p))
    where
      v : GuestVtl
      v = vtl_of vtl

      x : ChangeStep
      x = start_new (settings_of w.state).tracked v p source (bits_of (current_in w v p source)) new

      A : Outcome
      A = counting w v p ((entry_in w.tables v p).ref_count + 1)

      B : Outcome
      B = carried_change w w.pages x

      go : (b : Bool) → Snp (cond b A B).buffers (sees_call [] (cond b A B).reply (cond b A B).buffers.pages o)
      go true = tables_aged w o a A.buffers.tables
      go false = starts w.state w.tables w.pages x refl

  -- a visibility change that is taken
  module _ (v : GuestVtl) (b : Bool) (l : List ℕ) (x : Taken w v b l) where
    abbrev t : List ℕ
    t = table_for w v b l

    abbrev n : ℕ
    n = length (asked_for w v b l)

    table_long : length t ≡ 1024
    table_long = length_table (wanted w.maps.shared b) (take (stop_of w v b l) (pages_of l)) w.pages (fits_pages w x.fit) (omega (arith, length-take (stop_of w v b l) (pages_of l), pages_few l x.short))

    few_asked : n ≤ 512
    few_asked = few es w o k v b l x

    kept_private : (b : Bool) (z : ℕ) → Has (applied t (cleared (settings_of w.state).tracked v b n) w.maps).private z → Has w.maps.private z
    unfolding applied cleared put
    kept_private true z h = clear_kept _ w.maps.private z h
    kept_private false z h = clear_kept _ w.maps.private z h

    taken_aged : let T = visibility_taken w v b l in Snp T.buffers (sees_call (pages_of l) T.reply T.buffers.pages o)
    unfolding visibility_taken carried_out start_of flat_of asked_of
    taken_aged =
        let stop : ℕ = stop_of w v b l in
        let q : Request = asked v b n stop (ltb stop (length (pages_of l))) in
        let s' : List ℕ = with_request at.Wait q w.state in
        let P' : List ℕ = (applied t (cleared (settings_of w.state).tracked v b n) w.maps).private in
        let made : Aged P' at.Wait q t o.age =
        record {
          settled = λ z h. a.ages.settled z (kept_private b z h);
          long = λ _. omega (arith, table_long, few_asked);
          came = λ e. clash false e refl;
          past = λ e. clash false e refl;
          valid = λ e. clash false e refl;
        } in
        record {
          snp = ap is_snp (request_snp at.Wait q w.state) ∙ a.snp;
          ages = subst (λ (y : Phase). Aged P' y (request_of s') t o.age) (sym (phase_read at.Wait))
              (subst (λ (y : Request). Aged P' at.Wait y t o.age) (sym (request_read at.Wait q (drop 10 w.state) few_asked)) made);
        }

  pub visibility_aged : (vtl visibility : ℕ) (l : List ℕ) → let X = visibility_of w vtl visibility l in Snp X.buffers (sees_call (pages_of l) X.reply X.buffers.pages o)
  unfolding visibility_of
  visibility_aged vtl visibility l =
      called Snp w o a (pages_of l) (visibility_refusal w.state (fits w) w.tables vtl visibility l) (visibility_taken w (vtl_of vtl) (bool_of visibility) l)
      (λ z. taken_aged (vtl_of vtl) (bool_of visibility) l (taken w vtl visibility l z))
