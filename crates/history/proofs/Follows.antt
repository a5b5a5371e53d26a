-- Whatever is called between its answers, a call of a list that asks for something is the whole call as 01 writes it, under the answers that were taken: from any
-- buffers that meet the invariant. Assumes nothing.
use Prim.Native.Nat.{ℕ}
use mathlib.Core.Path.{◌≡◌, refl, sym, ap, ap₂, ◌∙◌, subst}
use mathlib.Core.List.{List, [], ◌∷◌, ◌++◌, append-nil, append_assoc}
use mathlib.Core.Bool.{Bool, true, false, cond}
use lib.Dec.{eqb}
use lib.ListN.{length, set}
use borrow.Author.Tests.{eqb-true}
use Rattle.layout.specs.declared.MemoryRangeWithNode.{MemoryRangeWithNode}
use Rattle.layout.specs.Layout.{ordered}
use Rattle.permissions.specs.Flags.{vtl_of, bool_of}
use Rattle.permissions.specs.HvError.{code_of}
use Rattle.page_list.specs.Pages.{pages_of}
use Rattle.protector_state.specs.declared.Reply.{Reply}
use Rattle.protector_state.specs.State.{entries_in}
use Rattle.protector_state.specs.Reply.{finished}
use Rattle.call_refusals.specs.Buffers.{Buffers, Outcome, fits}
use Rattle.protector.specs.Calls.{decided, refused_by, visibility_taken, visibility_of}
use Rattle.protection_entries.specs.Calls.{protection_taken, protection_of, default_refusal, stored_default, stored, barred, renewed_in, default_started, default_taken, default_of}
use Rattle.overlay_entries.specs.Calls.{register_taken, register_of, unregister_taken, unregister_of}
use Rattle.lock_entries.specs.Calls.{ended, lock_refusal, lock_taken, lock_of, unlock_taken, unlock_of}
use Rattle.setting_entries.specs.Calls.{enable_refusal, enabled, enable_of}
use Rattle.visibility_claims.specs.Whole.{BackendAnswer}
use Rattle.visibility_claims.specs.Calls.{answer_of, taken_by, asks_in, Told, follow}
use Rattle.visibility_claims.proofs.Ends as claims
use Rattle.visibility_claims.proofs.Calls.{taken_input, visibility_is_whole}
use Rattle.change_claims.proofs.Calls.{protection_is_whole, register_is_whole, unregister_is_whole}
use Rattle.change_claims.proofs.Default.{default_is_whole}
use Rattle.history.specs.Observed.{Observed, asks, is_waiting, is_taken, sees_taken, sees_call, sees_answer}
use Rattle.history.specs.Call.{Reader, Shown, Writer, Visibility, Protection, Default, Register, Unregister, Lock, Unlock, Enable, Write, Read, Answer, Result, Effect, gives_writer, sees_writer}
use Rattle.history.specs.Made.{Made, Built}
use Rattle.history.specs.History.{OtherCallLengths, IsRefusal, History, none, call, call_with_other_lengths, refused_build}
use Rattle.history.specs.Answered.{given}
use Rattle.history.specs.Ends.{Trace, start, answer, other, trace_of, Falls, Meanwhile}
use Rattle.history.specs.Requests.{given_in, asked_in, told_in, WholeOf, IsWhole, Begun, nothing, since, then_call, then_call_with_other_lengths, then_build, begun_in, AskedAt, Asked}
use Rattle.history.proofs.Bits.{clash}
use Rattle.history.proofs.Buffers.{Stands}
use Rattle.history.proofs.Answers.{taken_seen}
use Rattle.history.proofs.Is.{is}
use Rattle.history.proofs.Refused.{other_lengths_unseen, other_lengths_untaken, busy_no_effect}
use Rattle.history.proofs.Falls.{answer_is, at_stop, waiting, steps_fall}

-- ---- what the answers lead to, with one more that is taken

abbrev joined : Outcome → Told → Told
joined X r = record { asked = asks_in X.reply ++ r.asked; last = r.last }

abbrev added : Told → BackendAnswer → Told
added r g = record { asked = r.asked ++ asks_in (answer_of g r.last.buffers).reply; last = answer_of g r.last.buffers }

joined_added : (X : Outcome) (r : Told) (g : BackendAnswer) → joined X (added r g) ≡ added (joined X r) g
joined_added X r g =
    ap (λ (l : List Reply). record { asked = l; last = answer_of g r.last.buffers }) (sym (append_assoc (asks_in X.reply) r.asked (asks_in (answer_of g r.last.buffers).reply)))

follow_taken : (X : Outcome) (gs : List BackendAnswer) (g : BackendAnswer) → taken_by g (follow X gs).last.buffers ≡ true → follow X (gs ++ (g ∷ [])) ≡ added (follow X gs) g
unfolding follow
follow_taken X [] g t = ap (λ (b : Bool). cond b (added (follow X []) g) (follow X [])) t
follow_taken X (g₀ ∷ gs) g t = go (taken_by g₀ X.buffers) t (λ t. follow_taken (answer_of g₀ X.buffers) gs g t) (λ t. follow_taken X gs g t)
  where
    go : (b : Bool) → taken_by g (cond b (joined X (follow (answer_of g₀ X.buffers) gs)) (follow X gs)).last.buffers ≡ true
        → (taken_by g (follow (answer_of g₀ X.buffers) gs).last.buffers ≡ true → follow (answer_of g₀ X.buffers) (gs ++ (g ∷ [])) ≡ added (follow (answer_of g₀ X.buffers) gs) g)
        → (taken_by g (follow X gs).last.buffers ≡ true → follow X (gs ++ (g ∷ [])) ≡ added (follow X gs) g)
        → cond b (joined X (follow (answer_of g₀ X.buffers) (gs ++ (g ∷ [])))) (follow X (gs ++ (g ∷ []))) ≡ added (cond b (joined X (follow (answer_of g₀ X.buffers) gs)) (follow X gs)) g
    go true t f h = ap (joined X) (f t) ∙ joined_added X (follow (answer_of g₀ X.buffers) gs) g
    go false t f h = h t

-- ---- each call of a list: a taken answer gives what the definition gives; nothing else moves a request that is under way

unfoldable Goes : {w : Buffers} {a : Observed} {v : Buffers} {o : Observed} → Trace w a v o → Type 0
Goes start = Unit {0}
Goes (answer {left = u} {after = v} {seen = o} {next = p} h g b) = Goes h × (b ≡ true → (taken_by g u ≡ true) × (given v p.op ≡ answer_of g u)) × (b ≡ false → (v ≡ u) × (p.op ≡ o.op))
Goes (other {left = u} {after = v} {seen = o} {next = p} h) = Goes h × (is_waiting o ≡ true → (v ≡ u) × (p.op ≡ o.op))

-- so the calls tell what following the answers does
told_follows : {w : Buffers} {a : Observed} {v : Buffers} {o : Observed} (X : Outcome) (h : Trace w a v o) → Goes h → Meanwhile h → given w a.op ≡ X → told_in h ≡ follow X (given_in h)
unfolding Goes Meanwhile given_in asked_in follow
told_follows X start f m e = ap (λ (X : Outcome). record { asked = asks_in X.reply; last = X }) e
told_follows X (answer {left = u} {after = v} {seen = o} {next = p} h g b) f m e = go (told_follows X h f.0 m e) b f.1 f.2
  where
    go : told_in h ≡ follow X (given_in h) → (b : Bool) → (b ≡ true → (taken_by g u ≡ true) × (given v p.op ≡ answer_of g u)) → (b ≡ false → (v ≡ u) × (p.op ≡ o.op))
        → record { asked = asked_in h ++ cond b (asks_in p.op) []; last = given v p.op } ≡ follow X (given_in h ++ cond b (g ∷ []) [])
    go before true f k =
        let t = f refl in
        ap (λ (Z : Outcome). record { asked = asked_in h ++ asks_in Z.reply; last = Z }) t.1
        ∙ ap (λ (r : Told). added r g) before
        ∙ sym (follow_taken X (given_in h) g (ap (λ (r : Told). taken_by g r.last.buffers) (sym before) ∙ t.0))
    go before false f k =
        let t = k refl in
        ap₂ (λ (l : List Reply) (Z : Outcome). record { asked = l; last = Z }) (append-nil (asked_in h)) (ap₂ (λ (v : Buffers) (r : Reply). given v r) t.0 t.1)
        ∙ before
        ∙ sym (ap (λ (gs : List BackendAnswer). follow X gs) (append-nil (given_in h)))
told_follows X (other {left = u} {after = v} {seen = o} {next = p} h) f m e =
    let t = f.1 m.1 in
    ap (λ (Z : Outcome). record { asked = asked_in h; last = Z }) (ap₂ (λ (v : Buffers) (r : Reply). given v r) t.0 t.1) ∙ told_follows X h f.0 m.0 e

module _ (es : List MemoryRangeWithNode) (u : Buffers) (o : Observed) (k : Stands es u o) where
  abbrev Answers : Buffers → Reply → List ℕ → BackendAnswer → Type 0
  Answers v r t g = (is_taken o r ≡ true → (taken_by g u ≡ true) × (given v (sees_answer g r t o).op ≡ answer_of g u)) × (is_taken o r ≡ false → (v ≡ u) × ((sees_answer g r t o).op ≡ o.op))

  answer_goes : (g : BackendAnswer) (v : Buffers) (r : Reply) → given v r ≡ answer_of g u → Answers v r v.pages g
  answer_goes g v r e =
      let t : is_taken o r ≡ taken_by g u = ap (λ (X : Outcome). is_taken o X.reply) e ∙ taken_seen es u o k g in
      let d : v ≡ (answer_of g u).buffers = ap (λ (X : Outcome). X.buffers) e in (
        λ b. (sym t ∙ b, ap (λ (c : Bool). given v (cond c (sees_taken g r v.pages o) o).op) b ∙ e),
        λ b. (d ∙ claims.untaken_keeps u g (sym t ∙ b), ap (λ (c : Bool). (cond c (sees_taken g r v.pages o) o).op) b),
      )

  untaken_goes : (g : BackendAnswer) (r : Reply) (t : List ℕ) → is_taken o r ≡ false → Answers u r t g
  untaken_goes g r t f = (λ b. clash _ b f, λ b. (refl, ap (λ (c : Bool). (cond c (sees_taken g r t o) o).op) b))

module _ (es : List MemoryRangeWithNode) {w : Buffers} {a : Observed} (k : Stands es w a) where
  steps_go : {v : Buffers} {o : Observed} (h : History w a v o) → Goes (trace_of h)
  unfolding trace_of Goes
  steps_go none = tt
  steps_go (call {left = u} {after = v} {seen = o} h (Write d) r m) = (
    steps_go h,
    λ b. (
      ap (λ (X : Effect Reply). X.buffers) (is m) ∙ (busy_no_effect d u (waiting es k h b)).keeps,
      ap (λ (X : Effect Reply). (sees_writer d X.answer X.buffers.pages o).op) (is m) ∙ ap (λ (p : Observed). p.op) ((busy_no_effect d u (waiting es k h b)).unseen o),
    ),
  )
  steps_go (call h (Read q) r m) = (steps_go h, λ b. (ap (λ (X : Effect (Result (Read q))). X.buffers) (is m), refl))
  steps_go (call {left = u} {after = v} {seen = o} h (Answer g) r m) = let f = answer_goes es u o (at_stop es k h) g v r (answer_is m) in (steps_go h, f.0, f.1)
  steps_go (call_with_other_lengths {left = u} {lent = x} {after = y} {seen = o} h (Write d) r m s) = (
    steps_go h,
    λ b. (refl, ap (λ (X : Effect Reply). (sees_writer d X.answer X.buffers.pages o).op) (is m) ∙ ap (λ (p : Observed). p.op) (other_lengths_unseen (Write d) u x o (at_stop es k h).halts s)),
  )
  steps_go (call_with_other_lengths h (Read q) r m s) = (steps_go h, λ b. (refl, refl))
  steps_go (call_with_other_lengths {left = u} {lent = x} {after = y} {seen = o} h (Answer g) r m s) =
      let f = untaken_goes es u o (at_stop es k h) g r y.pages (ap (λ (X : Outcome). is_taken o X.reply) (answer_is m) ∙ other_lengths_untaken u x s o (at_stop es k h).halts g) in (steps_go h, f.0, f.1)
  steps_go (refused_build h ram i t l r m f) = (steps_go h, λ b. (refl, refl))

-- ---- a call that asks for something is taken, and with its answers in turn is the whole call

decided_taken : (w : Buffers) (n : ℕ) (T : Outcome) → asks (decided w n T).reply ≡ true → n ≡ 0
decided_taken w n T a = go (eqb n 0) refl a
  where
    go : (b : Bool) → eqb n 0 ≡ b → asks (cond b T (refused_by w n)).reply ≡ true → n ≡ 0
    go true e a = eqb-true n 0 e
    go false e a = clash _ a refl

-- a default change that is taken may still be refused (10)
default_free : (w : Buffers) (vtl flags : ℕ) → asks (default_of w vtl flags).reply ≡ true
    → (default_refusal w.state (fits w) vtl flags ≡ 0) × (barred w.maps.private (stored_default w.state (vtl_of vtl) flags) w.tables (vtl_of vtl) ≡ false)
unfolding default_of default_taken
default_free w vtl flags a = (decided_taken w (default_refusal w.state (fits w) vtl flags) T a, go (eqb (default_refusal w.state (fits w) vtl flags) 0) (barred w.maps.private w₁.state w.tables (vtl_of vtl)) a)
  where
    w₁ : Buffers
    w₁ = stored w (vtl_of vtl) flags

    S : Outcome
    S = default_started (renewed_in w₁ (vtl_of vtl) flags) (vtl_of vtl) flags

    T : Outcome
    T = cond (barred w.maps.private w₁.state w.tables (vtl_of vtl)) (refused_by w₁ 10) S

    go : (c b : Bool) → asks (cond c (cond b (refused_by w₁ 10) S) (refused_by w (default_refusal w.state (fits w) vtl flags))).reply ≡ true → b ≡ false
    go c false a = refl
    go true true a = clash _ a refl
    go false true a = clash _ a refl

-- the calls on locks and the setter ask for nothing
lock_silent : (s t : List ℕ) (vtl : ℕ) (l : List ℕ) → asks (lock_of s t vtl l).reply ≡ false
unfolding lock_of
lock_silent s t vtl l = go (eqb (lock_refusal s (length t) vtl l) 0)
  where
    go : (b : Bool) → asks (cond b (lock_taken t (vtl_of vtl) (pages_of l)) (ended t (lock_refusal s (length t) vtl l))).reply ≡ false
    go true = refl
    go false = refl

unlock_silent : (s t : List ℕ) (vtl : ℕ) (l : List ℕ) → asks (unlock_of s t vtl l).reply ≡ false
unfolding unlock_of
unlock_silent s t vtl l = go (eqb (lock_refusal s (length t) vtl l) 0)
  where
    go : (b : Bool) → asks (cond b (unlock_taken t (vtl_of vtl) (pages_of l)) (ended t (lock_refusal s (length t) vtl l))).reply ≡ false
    go true = refl
    go false = refl

enable_silent : (s : List ℕ) → asks (enable_of s).reply ≡ false
unfolding enable_of
enable_silent s = go (eqb (enable_refusal s) 0)
  where
    go : (b : Bool) → asks (cond b (enabled (set s 19 1) (finished 0 0 0 0)) (enabled s (finished (enable_refusal s) (code_of (enable_refusal s)) 0 0))).reply ≡ false
    go true = refl
    go false = refl

abbrev outcome_of : Writer → Buffers → Outcome
outcome_of d u = given (gives_writer d u).buffers (gives_writer d u).answer

follows_whole : (d : Writer) (u : Buffers) → ordered 0 (entries_in u.state) ≡ true → asks (gives_writer d u).answer ≡ true → (gs : List BackendAnswer) → WholeOf d u gs (follow (outcome_of d u) gs)
unfolding visibility_of protection_of register_of unregister_of
follows_whole (Visibility vtl share list) u e a gs = visibility_is_whole u vtl share list gs (taken_input u vtl share list (decided_taken u _ (visibility_taken u (vtl_of vtl) (bool_of share) list) a))
follows_whole (Protection vtl flags list) u e a gs = protection_is_whole u vtl flags list (decided_taken u _ (protection_taken u (vtl_of vtl) flags list) a) gs
follows_whole (Default vtl flags) u e a gs = let z = default_free u vtl flags a in default_is_whole u vtl flags gs z.0 z.1 e
follows_whole (Register vtl page source checked new) u e a gs = register_is_whole u vtl page source checked new (decided_taken u _ (register_taken u (vtl_of vtl) page source new) a) gs
follows_whole (Unregister vtl page) u e a gs = unregister_is_whole u vtl page (decided_taken u _ (unregister_taken u (vtl_of vtl) page) a) gs
follows_whole (Lock vtl list) u e a gs = clash _ a (lock_silent u.state u.tables vtl list)
follows_whole (Unlock vtl list) u e a gs = clash _ a (unlock_silent u.state u.tables vtl list)
follows_whole Enable u e a gs = clash _ a (enable_silent u.state)

-- what is seen of such a call is its reply
asks_seen : (d : Writer) (u : Buffers) (r : Reply) → r ≡ (gives_writer d u).answer → asks r ≡ true → (t : List ℕ) (o : Observed) → (sees_writer d r t o).op ≡ r
asks_seen d u r e a t o = by d e
  where
    seen : (ps : List ℕ) → (sees_call ps r t o).op ≡ r
    seen ps = ap (λ (b : Bool). (cond b (record { op = r; table = t; halted = o.halted; listed = ps; last = o.last; age = o.age }) o).op) a

    by : (d : Writer) → r ≡ (gives_writer d u).answer → (sees_writer d r t o).op ≡ r
    by (Visibility vtl share list) e = seen (pages_of list)
    by (Protection vtl flags list) e = seen []
    by (Default vtl flags) e = seen []
    by (Register vtl page source checked new) e = seen []
    by (Unregister vtl page) e = seen []
    by (Lock vtl list) e = clash _ a (ap asks e ∙ lock_silent u.state u.tables vtl list)
    by (Unlock vtl list) e = clash _ a (ap asks e ∙ unlock_silent u.state u.tables vtl list)
    by Enable e = clash _ a (ap asks e ∙ enable_silent u.state)

-- ---- a call of a list

module _ {u v : Buffers} {d : Writer} {r : Reply} (m : Made (Write d) u v r) (a : asks r ≡ true) (o : Observed) where
  made : given v r ≡ outcome_of d u
  made = ap (λ (X : Effect Reply). given X.buffers X.answer) (is m)

  -- from any buffers that meet the invariant, whatever other calls come meanwhile
  pub whole_from : (es : List MemoryRangeWithNode) → Stands es u o → ordered 0 es ≡ true
      → {x : Buffers} {p : Observed} (h : History v (sees_writer d r v.pages o) x p) → Meanwhile (trace_of h) → IsWhole d u (trace_of h)
  whole_from es k e h b =
      subst (λ (t : Told). WholeOf d u (given_in (trace_of h)) t)
      (sym (told_follows (outcome_of d u) (trace_of h) (steps_go es (at_stop es k (call none (Write d) r m)) h) b
      (ap (λ (r : Reply). given v r) (asks_seen d u r (ap (λ (X : Outcome). X.reply) made) a v.pages o) ∙ made)))
      (follows_whole d u (subst (λ (es : List MemoryRangeWithNode). ordered 0 es ≡ true) (sym k.layout) e) (sym (ap (λ (X : Outcome). asks X.reply) made) ∙ a) (given_in (trace_of h)))

-- ---- each of a list, from any buffers that meet the invariant, nothing being under way

none_waits : (b c : Bool) → (b ≡ true → c ≡ true) → c ≡ false → b ≡ false
none_waits true c f e = clash c (f refl) e
none_waits false c f e = refl

silent_seen : (d : Writer) (r : Reply) → asks r ≡ false → (t : List ℕ) (o : Observed) → sees_writer d r t o ≡ o
silent_seen d r e t o = by d
  where
    seen : (ps : List ℕ) → sees_call ps r t o ≡ o
    seen ps = ap (λ (b : Bool). cond b (record { op = r; table = t; halted = o.halted; listed = ps; last = o.last; age = o.age }) o) e

    by : (d : Writer) → sees_writer d r t o ≡ o
    by (Visibility vtl share list) = seen (pages_of list)
    by (Protection vtl flags list) = seen []
    by (Default vtl flags) = seen []
    by (Register vtl page source checked new) = seen []
    by (Unregister vtl page) = seen []
    by (Lock vtl list) = refl
    by (Unlock vtl list) = refl
    by Enable = refl

module _ (es : List MemoryRangeWithNode) {w : Buffers} {a : Observed} (k : Stands es w a) (order : ordered 0 es ≡ true) (free : is_waiting a ≡ false) where
  -- the request's call asked for something, and no other began since
  abbrev Open : {x : Buffers} {p : Observed} → Begun w a x p → Type 0
  Open {x} {p} nothing = is_waiting p ≡ false
  Open (since g d r m h) = (asks r ≡ true) × Meanwhile (trace_of h)

  open_do : {u v : Buffers} {o : Observed} (b : Begun w a u o) → Open b → is_waiting o ≡ true → (d : Writer) (r : Reply) (m : Made (Write d) u v r) → Open (then_call b (Write d) r m)
  unfolding trace_of Meanwhile
  open_do nothing f e d r m = clash _ e f
  open_do (since g d s n h) f e c r m = (f.0, (f.1, e))

  open_read : {u v : Buffers} {o : Observed} (b : Begun w a u o) → Open b → is_waiting o ≡ true → (q : Reader) (r : Shown q) (m : Made (Read q) u v r) → Open (then_call b (Read q) r m)
  unfolding trace_of Meanwhile
  open_read nothing f e q r m = clash _ e f
  open_read (since g d s n h) f e q r m = (f.0, (f.1, e))

  open_answer : {u v : Buffers} {o : Observed} (b : Begun w a u o) → Open b → (g : BackendAnswer) (r : Reply) (m : Made (Answer g) u v r)
      → (is_waiting (sees_answer g r v.pages o) ≡ true → is_waiting o ≡ true) → Open (then_call b (Answer g) r m)
  unfolding trace_of Meanwhile
  open_answer nothing f g r m e = none_waits _ _ e f
  open_answer (since g d s n h) f c r m e = f

  other_lengths_do : {u x y : Buffers} {o : Observed} (b : Begun w a u o) → Open b → is_waiting o ≡ true → (d : Writer) (r : Reply) (m : Made (Write d) x y r) (s : OtherCallLengths (Write d) u x) → Open (then_call_with_other_lengths b (Write d) r m s)
  unfolding trace_of Meanwhile
  other_lengths_do nothing f e d r m s = clash _ e f
  other_lengths_do (since g d s n h) f e c r m t = (f.0, (f.1, e))

  other_lengths_read : {u x y : Buffers} {o : Observed} (b : Begun w a u o) → Open b → is_waiting o ≡ true → (q : Reader) (r : Shown q) (m : Made (Read q) x y r) (s : OtherCallLengths (Read q) u x) → Open (then_call_with_other_lengths b (Read q) r m s)
  unfolding trace_of Meanwhile
  other_lengths_read nothing f e q r m s = clash _ e f
  other_lengths_read (since g d s n h) f e q r m t = (f.0, (f.1, e))

  other_lengths_answer : {u x y : Buffers} {o : Observed} (b : Begun w a u o) → Open b → (g : BackendAnswer) (r : Reply) (m : Made (Answer g) x y r) (s : OtherCallLengths (Answer g) u x)
      → (is_waiting (sees_answer g r y.pages o) ≡ true → is_waiting o ≡ true) → Open (then_call_with_other_lengths b (Answer g) r m s)
  unfolding trace_of Meanwhile
  other_lengths_answer nothing f g r m s e = none_waits _ _ e f
  other_lengths_answer (since g d s n h) f c r m t e = f

  other_lengths_build : {u x y : Buffers} {o : Observed} (b : Begun w a u o) → Open b → is_waiting o ≡ true → (ram : List ℕ) (i t l : ℕ) (r : Reply) (m : Built ram i t l x y r) (n : IsRefusal r) → Open (then_build b ram i t l r m n)
  unfolding trace_of Meanwhile
  other_lengths_build nothing f e ram i t l r m n = clash _ e f
  other_lengths_build (since g d s n h) f e ram i t l r m z = (f.0, (f.1, e))

  begun_open : {x : Buffers} {p : Observed} (h : History w a x p) → Open (begun_in h)
  unfolding begun_in trace_of Meanwhile Falls
  begun_open none = free
  begun_open (call {left = u} {after = v} {seen = o} h (Write d) r m) = go (begun_open h) (asks r) refl (is_waiting o) refl
    where
      go : Open (begun_in h) → (b : Bool) → asks r ≡ b → (c : Bool) → is_waiting o ≡ c → Open (cond b (since h d r m none) (cond c (then_call (begun_in h) (Write d) r m) nothing))
      go f true e c i = (e, tt)
      go f false e true i = open_do (begun_in h) f i d r m
      go f false e false i = ap is_waiting (silent_seen d r e v.pages o) ∙ i
  begun_open (call {left = u} {after = v} {seen = o} h (Read q) r m) = go (begun_open h) (is_waiting o) refl
    where
      go : Open (begun_in h) → (c : Bool) → is_waiting o ≡ c → Open (cond c (then_call (begun_in h) (Read q) r m) nothing)
      go f true i = open_read (begun_in h) f i q r m
      go f false i = i
  begun_open (call h (Answer g) r m) = open_answer (begun_in h) (begun_open h) g r m (steps_fall es k (call h (Answer g) r m)).3
  begun_open (call_with_other_lengths {left = u} {lent = x} {after = y} {seen = o} h (Write d) r m s) = go (begun_open h) (is_waiting o) refl
    where
      go : Open (begun_in h) → (c : Bool) → is_waiting o ≡ c → Open (cond c (then_call_with_other_lengths (begun_in h) (Write d) r m s) nothing)
      go f true i = other_lengths_do (begun_in h) f i d r m s
      go f false i = (at_stop es k (call_with_other_lengths h (Write d) r m s)).waits ∙ sym (at_stop es k h).waits ∙ i
  begun_open (call_with_other_lengths {left = u} {lent = x} {after = y} {seen = o} h (Read q) r m s) = go (begun_open h) (is_waiting o) refl
    where
      go : Open (begun_in h) → (c : Bool) → is_waiting o ≡ c → Open (cond c (then_call_with_other_lengths (begun_in h) (Read q) r m s) nothing)
      go f true i = other_lengths_read (begun_in h) f i q r m s
      go f false i = i
  begun_open (call_with_other_lengths h (Answer g) r m s) = other_lengths_answer (begun_in h) (begun_open h) g r m s (steps_fall es k (call_with_other_lengths h (Answer g) r m s)).3
  begun_open (refused_build {left = u} {lent = x} {after = y} {seen = o} h ram i t l r m n) = go (begun_open h) (is_waiting o) refl
    where
      go : Open (begun_in h) → (c : Bool) → is_waiting o ≡ c → Open (cond c (then_build (begun_in h) ram i t l r m n) nothing)
      go f true e = other_lengths_build (begun_in h) f e ram i t l r m n
      go f false e = e

  open_asked : {x : Buffers} {p : Observed} (b : Begun w a x p) → Open b → AskedAt b
  open_asked nothing f = f
  open_asked (since {left = u} {after = v} {earlier = o} g d r m h) f = whole_from m f.0 o es (at_stop es k g) order h f.1

  pub asked_from : {x : Buffers} {p : Observed} (h : History w a x p) → Asked h
  unfolding Asked
  asked_from none = tt
  asked_from (call h c r m) = (asked_from h, open_asked (begun_in (call h c r m)) (begun_open (call h c r m)))
  asked_from (call_with_other_lengths h c r m s) = (asked_from h, open_asked (begun_in (call_with_other_lengths h c r m s)) (begun_open (call_with_other_lengths h c r m s)))
  asked_from (refused_build h ram i t l r m n) = (asked_from h, open_asked (begun_in (refused_build h ram i t l r m n)) (begun_open (refused_build h ram i t l r m n)))
