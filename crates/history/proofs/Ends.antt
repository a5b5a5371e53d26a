-- Every request ends, whatever is called between its answers. Assumes nothing.
use native.Mathlib.Omega.{arith}
use Prim.Native.Nat.{ℕ, zero, suc, ◌+◌, ◌≤◌, ◌<◌}
use mathlib.Core.Path.{◌≡◌, refl, sym, ap, ap₂, ◌∙◌, subst}
use mathlib.Core.List.{List, [], ◌∷◌, ◌++◌, map, append-nil, append_assoc}
use mathlib.Core.Bool.{Bool, true, false, cond, not, ◌||◌}
use lib.ListN.{length, replicate, length-replicate}
use borrow.Author.Tests.{not-true}
use Rattle.laws.specs.Bools.{not_of}
use Rattle.layout.specs.declared.MemoryRangeWithNode.{MemoryRangeWithNode}
use Rattle.layout.specs.Layout.{entries_of}
use Rattle.protector_state.specs.declared.Reply.{Reply}
use Rattle.protector_state.specs.State.{entries_in}
use Rattle.call_refusals.specs.Buffers.{Buffers, Outcome}
use Rattle.protector.specs.Calls.{answer_done}
use Rattle.visibility_claims.specs.Whole.{BackendAnswer, Succeeds}
use Rattle.visibility_claims.specs.Calls.{answer_of, taken_by}
use Rattle.visibility_claims.specs.Ends.{left_in, under_way, after_all, taken_of, unrefused}
use Rattle.visibility_claims.proofs.Ends as claims
use Rattle.history.specs.Observed.{Observed, unseen, asks, is_waiting, is_taken, sees_call, sees_answer}
use Rattle.history.specs.Marks.{read_off, Settled}
use Rattle.history.specs.Call.{Answer, sees}
use Rattle.history.specs.Made.{Made, Built}
use Rattle.history.specs.History.{History, none, call, Event, Called, events_in}
use Rattle.history.specs.Ends.{Trace, start, answer, other, trace_of, taken_in, heard_in, Falls, Meanwhile, Answers, Ends, Heard, insisting, Told, RequestEnds}
use Rattle.history.proofs.Bits.{clash}
use Rattle.history.proofs.Buffers.{Stands}
use Rattle.history.proofs.Answers.{taken_seen}
use Rattle.history.proofs.Passed.{Fitting}
use Rattle.history.proofs.Fittings.{answer_long}
use Rattle.history.proofs.Histories.{Lent, lent_kept, history_keeps}
use Rattle.history.proofs.Falls.{taken_waits, answer_is, at_stop, steps_fall}
use Rattle.history.proofs.Claim.{lent_holds}
use Rattle.history.proofs.Restart.{settled_lent}
use Rattle.history.proofs.Exists.{any_call}
use Rattle.history.proofs.Eight.{sharing8, asking8, share8_asks}

-- ---- and the whole of it

answer_sum : (l k : ℕ) (u v : Buffers) (b : Bool) → (b ≡ true → left_in v < left_in u) → (b ≡ false → v ≡ u) → left_in u + k ≤ l → left_in v + (cond b 1 0 + k) ≤ l
answer_sum l k u v true f g h = add (left_in v) (left_in u) (f refl) h
  where
    add : (a b : ℕ) → a < b → b + k ≤ l → a + (1 + k) ≤ l
    add a b c d = omega (arith, c, d)
answer_sum l k u v false f g h = add (left_in v) (subst (λ (v : Buffers). left_in v + k ≤ l) (sym (g refl)) h)
  where
    add : (a : ℕ) → a + k ≤ l → a + (0 + k) ≤ l
    add a h = omega (arith, h)

sum_falls : {w : Buffers} {a : Observed} {v : Buffers} {o : Observed} (h : Trace w a v o) → Falls h → Meanwhile h → left_in v + taken_in h ≤ left_in w
unfolding Falls Meanwhile taken_in
sum_falls start f m = omega arith
sum_falls {w} (answer {left = u} {after = v} h g b) f m = answer_sum (left_in w) (taken_in h) u v b f.1 f.2 (sum_falls h f.0 m)
sum_falls {w} (other {left = u} {after = v} h) f m = subst (λ (v : Buffers). left_in v + taken_in h ≤ left_in w) (sym (f.1 m.1)) (sum_falls h f.0 m.0)

idle_at_none : (v : Buffers) → left_in v ≤ 0 → under_way v ≡ false
unfolding after_all taken_of
idle_at_none v h = claims.ends v [] h

-- where it still waits it waited at each answer, and each that wasn't refused was taken
all_taken : {w : Buffers} {a : Observed} {v : Buffers} {o : Observed} (h : Trace w a v o) → Falls h → Meanwhile h → is_waiting o ≡ true → heard_in h ≡ taken_in h
unfolding Falls Meanwhile taken_in heard_in
all_taken start f m e = refl
all_taken (answer {left = u} {after = v} {seen = o} {next = p} h g b) f m e =
    let before : is_waiting o ≡ true = f.3 e in
    ap₂ (λ (c : Bool) (n : ℕ). cond c 1 0 + n) (ap (λ (x : Bool). b || not x) before ∙ or_false b) (all_taken h f.0 m before)
  where
    or_false : (b : Bool) → (b || false) ≡ b
    or_false true = refl
    or_false false = refl
all_taken (other h) f m e = all_taken h f.0 m.0 m.1

module _ (es : List MemoryRangeWithNode) {w : Buffers} {a : Observed} {v : Buffers} {o : Observed} (k : Stands es w a) (h : History w a v o) (m : Meanwhile (trace_of h)) where
  still_fewer : is_waiting o ≡ true → taken_in (trace_of h) < left_in w
  still_fewer e = go (left_in v) refl
    where
      rest : (a b c n : ℕ) → a + c ≤ b → a ≡ suc n → c < b
      rest a b c n d e = omega (arith, d, e)

      none : (a : ℕ) → a ≡ 0 → a ≤ 0
      none a e = omega (arith, e)

      go : (n : ℕ) → left_in v ≡ n → taken_in (trace_of h) < left_in w
      go (suc n) d = rest (left_in v) (left_in w) (taken_in (trace_of h)) n (sum_falls (trace_of h) (steps_fall es k h) m) d
      go zero d = absurd (clash _ e ((at_stop es k h).waits ∙ idle_at_none v (none (left_in v) d)))

  request_ends : left_in w ≤ heard_in (trace_of h) → is_waiting o ≡ false
  request_ends e = go (is_waiting o) refl
    where
      go : (b : Bool) → is_waiting o ≡ b → is_waiting o ≡ false
      go false b = b
      go true b = absurd (rest (left_in w) (taken_in (trace_of h)) (heard_in (trace_of h)) (still_fewer b) (all_taken (trace_of h) (steps_fall es k h) m b) e)
        where
          rest : (a b c : ℕ) → b < a → c ≡ b → a ≤ c → ⊥
          rest a b c d e f = omega (arith, d, e, f)

-- ---- lists of answers alone

abbrev answered : BackendAnswer → Event
answered g = Called (Answer g)

-- from where h stops, gs in turn
record Further (v : Buffers) (o : Observed) (l : List Event) (w : Buffers) (gs : List BackendAnswer) : Type 0 where
  seen : Observed
  calls : History v o (after_all w gs) seen
  alone : events_in calls ≡ l ++ map answered gs
  meanwhile : Meanwhile (trace_of calls)

further : {v : Buffers} {o : Observed} {w : Buffers} {p : Observed} (h : History v o w p) → Meanwhile (trace_of h) → (gs : List BackendAnswer) → Further v o (events_in h) w gs
unfolding after_all trace_of events_in Meanwhile
further {p = p} h m [] = record { seen = p; calls = h; alone = sym (append-nil (events_in h)); meanwhile = m }
further {w = w} h m (g ∷ gs) =
    let x = further {w = (answer_of g w).buffers} (call h (Answer g) (answer_of g w).reply ((any_call w).made (Answer g))) m gs in
    record { seen = x.seen; calls = x.calls; alone = x.alone ∙ append_assoc (events_in h) (answered g ∷ []) (map answered gs); meanwhile = x.meanwhile }

-- done after each that isn't taken
insisting_over : (w : Buffers) → Fitting w → (gs : List BackendAnswer) → (under_way w ≡ true → left_in w ≤ length gs) → under_way (after_all w (insisting w gs)) ≡ false
unfolding after_all insisting
insisting_over w k [] f = not-true (under_way w) (not_of (under_way w) (λ e. clash (under_way w) e (idle_at_none w (f e))))
insisting_over w k (g ∷ gs) f = go (taken_by g w) refl (λ (h : BackendAnswer) e. insisting_over (answer_of h w).buffers (answer_long w k h) gs e)
  where
    less : (a b n : ℕ) → a < b → b ≤ suc n → a ≤ n
    less a b n c d = omega (arith, c, d)

    lower : (h : BackendAnswer) → taken_by h w ≡ true → left_in (answer_of h w).buffers ≤ length gs
    lower h t = less (left_in (answer_of h w).buffers) (left_in w) (length gs) (claims.taken_lowers w h t) (f (taken_waits w h t))

    again : (b : Bool) → taken_by Succeeds w ≡ b → under_way (answer_of Succeeds w).buffers ≡ true → left_in (answer_of Succeeds w).buffers ≤ length gs
    again true t b = lower Succeeds t
    again false t b = clash _ (claims.done_taken w k.long k.fit (sym (ap under_way (claims.untaken_keeps w Succeeds t)) ∙ b)) t

    go : (b : Bool) → taken_by g w ≡ b
        → ((h : BackendAnswer) → (under_way (answer_of h w).buffers ≡ true → left_in (answer_of h w).buffers ≤ length gs) → under_way (after_all (answer_of h w).buffers (insisting (answer_of h w).buffers gs)) ≡ false)
        → under_way (after_all w (cond b (g ∷ insisting (answer_of g w).buffers gs) (g ∷ Succeeds ∷ insisting (answer_of Succeeds w).buffers gs))) ≡ false
    go true t next = next g (λ _. lower g t)
    go false t next =
        subst (λ (u : Buffers). under_way (after_all (answer_of Succeeds u).buffers (insisting (answer_of Succeeds w).buffers gs)) ≡ false) (sym (claims.untaken_keeps w g t))
        (next Succeeds (again (taken_by Succeeds w) refl))

-- done alone
dones_unrefused : (n : ℕ) (w : Buffers) → Fitting w → unrefused w (replicate n Succeeds)
unfolding unrefused
dones_unrefused zero w k = tt
dones_unrefused (suc n) w k = (claims.done_taken w k.long k.fit, dones_unrefused n (answer_done w).buffers (answer_long w k Succeeds))

-- ---- THE CLAIM, from any buffers that meet the invariant

stands_told : (es : List MemoryRangeWithNode) (v : Buffers) (o : Observed) → Stands es v o → Told v o
stands_told es v o k = record { waits = k.waits; takes = taken_seen es v o k }

-- while a request is under way done is taken
done_answers : (es : List MemoryRangeWithNode) (v : Buffers) (o : Observed) → Lent es v o → {x : Buffers} {r : Reply} → Made (Answer Succeeds) v x r → is_waiting o ≡ true → is_taken o r ≡ true
done_answers es v o k m b = ap (λ (X : Outcome). is_taken o X.reply) (answer_is m) ∙ taken_seen es v o k.first Succeeds ∙ claims.done_taken v k.second.long k.second.fit (sym k.first.waits ∙ b)

module _ (es : List MemoryRangeWithNode) (v : Buffers) (o : Observed) (k : Lent es v o) where
  giving : (gs : List BackendAnswer) → Answers v o gs
  unfolding trace_of events_in Meanwhile
  giving gs =
      let x = further none tt gs in
      record { buffers = after_all v gs; seen = x.seen; calls = x.calls; alone = x.alone; enough = request_ends es k.first x.calls x.meanwhile }

  ending : (gs : List BackendAnswer) → under_way (after_all v gs) ≡ false → Ends v o gs
  unfolding giving
  ending gs e = record { answers = giving gs; over = (at_stop es k.first (giving gs).calls).waits ∙ e }

  -- done so many times
  done_heard : {x y : Buffers} {p : Observed} {r : Reply} → Lent es x p → Made (Answer Succeeds) x y r → (is_taken p r || not (is_waiting p)) ≡ true
  done_heard {x} {p = p} {r = r} s m = go (is_waiting p) refl
    where
      go : (b : Bool) → is_waiting p ≡ b → (is_taken p r || not b) ≡ true
      go true b = ap (λ (t : Bool). t || false) (done_answers es x p s m b)
      go false b = or_true (is_taken p r)
        where
          or_true : (b : Bool) → (b || true) ≡ true
          or_true true = refl
          or_true false = refl

  hearing : (n : ℕ) → Heard v o n
  unfolding trace_of Meanwhile heard_in
  hearing zero = record { buffers = v; seen = o; calls = none; meanwhile = tt; heard = refl }
  hearing (suc n) =
      let x = hearing n in
      let X : Outcome = answer_done x.buffers in
      let m = (any_call x.buffers).made (Answer Succeeds) in
      record {
        buffers = X.buffers;
        seen = sees_answer Succeeds X.reply X.buffers.pages x.seen;
        calls = call x.calls (Answer Succeeds) X.reply m;
        meanwhile = x.meanwhile;
        heard = ap₂ (λ (b : Bool) (n : ℕ). cond b 1 0 + n) (done_heard (history_keeps (Lent es) (lent_kept es) x.calls k) m) x.heard ∙ one_more_lem n;
      }
    where
      one_more_lem : (n : ℕ) → 1 + n ≡ suc n
      one_more_lem n = omega arith

  pub lent_ends : RequestEnds v o
  lent_ends =
      record {
        told = stands_told es v o k.first;
        falls = λ h. steps_fall es k.first h;
        few = λ h m. sum_falls (trace_of h) (steps_fall es k.first h) m;
        still = λ h m. still_fewer es k.first h m;
        ends = λ h m. request_ends es k.first h m;
        heard = hearing;
        done_taken = λ m b. done_answers es v o k m b;
        given = giving;
        insisted = λ gs e. ending (insisting v gs) (insisting_over v k.second gs (λ _. e));
        unrefused_end = λ gs r e. ending gs (claims.every_request_ends v gs r e);
        done_ends = ending (replicate (left_in v) Succeeds) (claims.every_request_ends v (replicate (left_in v) Succeeds) (dones_unrefused (left_in v) v k.second) (omega (arith, length-replicate {A = BackendAnswer} (left_in v) Succeeds)));
      }

-- THE CLAIM, wherever a list of calls from a build stops
pub every_request_ends : {ram : List ℕ} {i t r : ℕ} {u w v : Buffers} {reply : Reply} {o : Observed} → Built ram i t r u w reply → reply.number ≡ 0 → History w unseen v o → RequestEnds v o
every_request_ends {ram} {v = v} {o = o} b d h = lent_ends (entries_of ram) v o (lent_holds b d h)

-- and wherever one stops from buffers that are settled
pub settled_requests_end : {w v : Buffers} {o : Observed} → Settled w → History w (read_off w.maps) v o → RequestEnds v o
settled_requests_end {w} {v} {o} k h = lent_ends (entries_in w.state) v o (settled_lent w k h)

-- ---- a request that is under way, of eight pages of RAM: page 3 is shared

asked_waits : (ps : List ℕ) (r : Reply) (p : List ℕ) (o : Observed) → asks r ≡ true → is_waiting (sees_call ps r p o) ≡ true
asked_waits ps r p o e = ap (λ (b : Bool). is_waiting (cond b (record { op = r; table = p; halted = o.halted; listed = ps; last = o.last; age = o.age }) o)) e ∙ e

abbrev seen8 : Observed
seen8 = sees sharing8 asking8.reply asking8.buffers.pages unseen

pub share8_waits : is_waiting seen8 ≡ true
share8_waits = asked_waits _ asking8.reply asking8.buffers.pages unseen share8_asks
