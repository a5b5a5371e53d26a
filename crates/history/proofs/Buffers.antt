-- What holds at every stop, of all that is lent and of what was seen; and what keeps it whatever the call. Assumes nothing.
use Prim.Native.Nat.{ℕ, ◌≤◌, ◌<◌}
use mathlib.Core.Path.{◌≡◌, refl, sym, ap, ◌∙◌, subst}
use mathlib.Core.List.{List}
use mathlib.Core.Bool.{Bool, true, false, cond, ◌&&◌}
use native.Mathlib.Omega.{arith}
use lib.ListN.{get_or, take, drop}
use lib.Seq.{get_or-drop, drop-drop}
use lib.Dec.{eqb}
use borrow.Author.Tests.{eqb-true, ne_eqb, leb-true}
use Rattle.abi.specs.Refusals as refusal
use Rattle.laws.specs.Bools.{false≢true, digit, and_left}
use Rattle.layout.specs.declared.MemoryRangeWithNode.{MemoryRangeWithNode}
use Rattle.layout.specs.Layout.{is_ram}
use Rattle.page_list.specs.Pages.{among}
use Rattle.page_list.specs.Runs.{part}
use Rattle.mapping.specs.Maps.{Maps}
use Rattle.visibility_steps.specs.declared.Phase.{Phase}
use Rattle.visibility_steps.specs.declared.Phase.TheVariants as at
use Rattle.visibility_steps.specs.declared.Request.{Request}
use Rattle.change_steps.specs.declared.Stage.{Stage}
use Rattle.change_steps.specs.declared.Stage.TheVariants as stage
use Rattle.change_steps.specs.declared.Change.{Change}
use Rattle.protector_state.specs.declared.Reply.{Reply}
use Rattle.protector_state.specs.State.{first_phases, phase_of, phase_in, request_of, with_request, entries_in}
use Rattle.protector_state.specs.Reply.{modifies}
use Rattle.protector_state.specs.Changing.{stage_number, is_changing, with_change}
use Rattle.call_refusals.specs.Buffers.{Buffers, buffers, status_of, status_in, takes}
use Rattle.visibility_claims.specs.Whole.{BackendAnswer}
use Rattle.visibility_claims.proofs.Calls.{phase_read, request_read, no_change_lem}
use Rattle.visibility_claims.proofs.Ends.{change_entries}
use Rattle.history.specs.Observed.{Observed, took_as, is_waiting, is_modify, processed, last_after}
use Rattle.history.proofs.Took.{is_shared, shared_in, shared_either}
use Rattle.history.proofs.Bits.{clash}
use Rattle.history.proofs.Right.{opened, is_halted, is_quiet, Names, Right}
use Rattle.history.proofs.Steps.{after}

pub record Stands (es : List MemoryRangeWithNode) (w : Buffers) (o : Observed) : Type 0 where
  pub layout : entries_in w.state ≡ es
  pub right : Right (is_ram es) w.maps.private w.maps.shared (phase_in w.state) (request_of w.state) w.pages o.halted o.listed (shared_in o)
  pub halts : o.halted ≡ eqb (status_in w.state) refusal.halted
  pub waits : is_waiting o ≡ eqb (status_in w.state) refusal.busy
  pub names : Names (phase_in w.state) (request_of w.state) w.pages o.op
  pub table : opened (phase_in w.state) ≡ true → o.table ≡ w.pages

-- ---- marks that no step touches

module _ {ram : ℕ → Bool} {P S : List ℕ} {p : Phase} {q : Request} {t : List ℕ} {listed : List ℕ} {last : ℕ → Bool} where
  -- nothing is under way before and after: every RAM page has its mark
  pub settled : (now : ℕ → Bool) (p' : Phase) (q' : Request) (t' listed' : List ℕ) (h : Bool) → opened p ≡ false → opened p' ≡ false → ((z : ℕ) → now z ≡ last z)
      → Right ram P S p q t false listed last → Right ram P S p' q' t' h listed' now
  settled now p' q' t' listed' h a b same g =
      record {
        room_private = g.room_private;
        room_shared = g.room_shared;
        private_ram_lem = g.private_ram_lem;
        shared_ram = g.shared_ram;
        only_private = λ z k. same z ∙ g.only_private z k;
        only_shared = λ z k. same z ∙ g.only_shared z k;
        full = λ z r _ _. let f = g.full z r (λ j o. clash (opened p) o a) (λ e. clash false e refl) in (λ l. f.0 (sym (same z) ∙ l), λ l. f.1 (sym (same z) ∙ l));
        bare = λ o. clash (opened p') o b;
        once = λ o. clash (opened p') o b;
        toward = λ o. clash (opened p') o b;
        within = λ o. clash (opened p') o b;
        named = λ o. clash (opened p') o b;
      }

  pub right_same : (now : ℕ → Bool) (h : Bool) → ((z : ℕ) → now z ≡ last z) → Right ram P S p q t h listed last → Right ram P S p q t h listed now
  right_same now h same g =
      record {
        room_private = g.room_private;
        room_shared = g.room_shared;
        private_ram_lem = g.private_ram_lem;
        shared_ram = g.shared_ram;
        only_private = λ z k. same z ∙ g.only_private z k;
        only_shared = λ z k. same z ∙ g.only_shared z k;
        full = λ z r a off. let f = g.full z r a off in (λ l. f.0 (sym (same z) ∙ l), λ l. f.1 (sym (same z) ∙ l));
        bare = g.bare;
        once = g.once;
        toward = λ o j h d. same _ ∙ g.toward o j h d;
        within = g.within;
        named = g.named;
      }

-- ---- what an answer is seen to take is what the phase and the request say

pub digit_read : (b : Bool) → eqb (digit b) 1 ≡ b
digit_read true = refl
digit_read false = refl

quiet_modify : (r : Reply) → is_quiet r ≡ true → is_modify r ≡ false
quiet_modify r h = go (is_modify r) refl
  where
    go : (b : Bool) → is_modify r ≡ b → is_modify r ≡ false
    go false e = e
    go true e = false≢true (sym (ap (λ (k : ℕ). is_quiet (record { number = r.number; code = r.code; index = r.index; count = r.count; operation = k; vtl = r.vtl; flags = r.flags; operand = r.operand; first = r.first; pages = r.pages; shared = r.shared })) (eqb-true r.operation 6 e)) ∙ h)

pub quiet_last : (g : BackendAnswer) (o : Observed) → is_quiet o.op ≡ true → (z : ℕ) → is_shared (last_after g o z) ≡ shared_in o z
quiet_last g o h z = ap (λ (b : Bool). is_shared (cond (b && among (take (processed g o.op.pages) o.table) z) (took_as (eqb o.op.shared 1)) (o.last z))) (quiet_modify o.op h)

modify_last : (g : BackendAnswer) (o : Observed) (q : Request) (t : List ℕ) → o.op ≡ modifies q.share q.n → o.table ≡ t → (z : ℕ)
    → is_shared (last_after g o z) ≡ cond (among (part t (processed g q.n) 0) z) q.share (shared_in o z)
modify_last g o q t e d z = rw (e, d, digit_read q.share) (shared_either (among (part t (processed g q.n) 0) z) q.share (o.last z))

run_last : (g : BackendAnswer) (o : Observed) (r : Reply) → o.op ≡ r → is_modify r ≡ false → (z : ℕ) → is_shared (last_after g o z) ≡ shared_in o z
run_last g o r e h z = ap (λ (b : Bool). is_shared (cond (b && among (take (processed g o.op.pages) o.table) z) (took_as (eqb o.op.shared 1)) (o.last z))) (ap (λ (x : Reply). is_modify x) e ∙ h)

pub seen_last : (p : Phase) (g : BackendAnswer) (o : Observed) (q : Request) (t : List ℕ) → Names p q t o.op → (opened p ≡ true → o.table ≡ t) → (z : ℕ) → is_shared (last_after g o z) ≡ after p q t g (shared_in o) z
seen_last at.Idle g o q t n d z = quiet_last g o n z
seen_last at.Halted g o q t n d z = quiet_last g o n z
seen_last at.Wait g o q t n d z = quiet_last g o n z
seen_last at.FlushAll g o q t n d z = quiet_last g o n z
seen_last at.ProtectNone0 g o q t n d z = quiet_last g o n z
seen_last at.ProtectNone1 g o q t n d z = quiet_last g o n z
seen_last at.Invalidate g o q t n d z = quiet_last g o n z
seen_last at.Release g o q t n d z = quiet_last g o n z
seen_last at.Modify g o q t n d z = modify_last g o q t n (d refl) z
seen_last at.Accept g o q t n d z = run_last g o _ n refl z
seen_last at.Zero g o q t n d z = run_last g o _ n refl z
seen_last at.ProtectDefault0 g o q t n d z = quiet_last g o n z
seen_last at.ProtectDefault1 g o q t n d z = quiet_last g o n z

-- ---- the words of the state block

pub request_entries : (p : Phase) (q : Request) (s : List ℕ) → entries_in (with_request p q s) ≡ entries_in s
request_entries p q s = rw (get_or-drop 10 s 21 0, drop-drop 22 10 s)

pub request_status : (p : Phase) (q : Request) (s : List ℕ) → status_in (with_request p q s) ≡ status_of p
request_status p q s = rw (no_change_lem p, phase_read p)

halted_status : (p : Phase) → eqb (status_of p) refusal.halted ≡ is_halted p
halted_status at.Idle = refl
halted_status at.Halted = refl
halted_status at.Wait = refl
halted_status at.FlushAll = refl
halted_status at.ProtectNone0 = refl
halted_status at.ProtectNone1 = refl
halted_status at.Invalidate = refl
halted_status at.Release = refl
halted_status at.Modify = refl
halted_status at.Accept = refl
halted_status at.Zero = refl
halted_status at.ProtectDefault0 = refl
halted_status at.ProtectDefault1 = refl

abbrev pub stops : Stage → Bool
stops stage.Idle = false
stops stage.Halted = true
stops stage.ProtectPages = false
stops stage.ProtectRam = false
stops stage.ProtectNew = false
stops stage.ProtectOld = false
stops stage.Wait = false
stops stage.Flush = false
stops stage.TlbWait = false

pub change_status : (g : Stage) (q : Change) (s : List ℕ) → eqb (status_in (with_change g q s)) refusal.halted ≡ stops g
unfolding phase_of first_phases
change_status stage.Idle q s = refl
change_status stage.Halted q s = refl
change_status stage.ProtectPages q s = refl
change_status stage.ProtectRam q s = refl
change_status stage.ProtectNew q s = refl
change_status stage.ProtectOld q s = refl
change_status stage.Wait q s = refl
change_status stage.Flush q s = refl
change_status stage.TlbWait q s = refl

abbrev pub goes : Stage → Bool
goes stage.Idle = false
goes stage.Halted = false
goes stage.ProtectPages = true
goes stage.ProtectRam = true
goes stage.ProtectNew = true
goes stage.ProtectOld = true
goes stage.Wait = true
goes stage.Flush = true
goes stage.TlbWait = true

change_waits : (g : Stage) (q : Change) (s : List ℕ) → eqb (status_in (with_change g q s)) refusal.busy ≡ goes g
unfolding phase_of first_phases
change_waits stage.Idle q s = refl
change_waits stage.Halted q s = refl
change_waits stage.ProtectPages q s = refl
change_waits stage.ProtectRam q s = refl
change_waits stage.ProtectNew q s = refl
change_waits stage.ProtectOld q s = refl
change_waits stage.Wait q s = refl
change_waits stage.Flush q s = refl
change_waits stage.TlbWait q s = refl

pub change_shut : (g : Stage) → opened (phase_of (stage_number g)) ≡ false
unfolding phase_of first_phases
change_shut stage.Idle = refl
change_shut stage.Halted = refl
change_shut stage.ProtectPages = refl
change_shut stage.ProtectRam = refl
change_shut stage.ProtectNew = refl
change_shut stage.ProtectOld = refl
change_shut stage.Wait = refl
change_shut stage.Flush = refl
change_shut stage.TlbWait = refl

change_names : (g : Stage) (q : Request) (t : List ℕ) (r : Reply) → is_quiet r ≡ true → Names (phase_of (stage_number g)) q t r
unfolding phase_of first_phases
change_names stage.Idle q t r h = h
change_names stage.Halted q t r h = h
change_names stage.ProtectPages q t r h = h
change_names stage.ProtectRam q t r h = h
change_names stage.ProtectNew q t r h = h
change_names stage.ProtectOld q t r h = h
change_names stage.Wait q t r h = h
change_names stage.Flush q t r h = h
change_names stage.TlbWait q t r h = h

pub quiet_names : (p : Phase) (q : Request) (t : List ℕ) (r : Reply) → opened p ≡ false → Names p q t r → is_quiet r ≡ true
quiet_names at.Idle q t r s n = n
quiet_names at.Halted q t r s n = n
quiet_names at.Wait q t r s n = false≢true (sym s)
quiet_names at.FlushAll q t r s n = false≢true (sym s)
quiet_names at.ProtectNone0 q t r s n = false≢true (sym s)
quiet_names at.ProtectNone1 q t r s n = false≢true (sym s)
quiet_names at.Invalidate q t r s n = false≢true (sym s)
quiet_names at.Release q t r s n = false≢true (sym s)
quiet_names at.Modify q t r s n = false≢true (sym s)
quiet_names at.Accept q t r s n = false≢true (sym s)
quiet_names at.Zero q t r s n = false≢true (sym s)
quiet_names at.ProtectDefault0 q t r s n = n
quiet_names at.ProtectDefault1 q t r s n = n

-- nothing under way
pub idle_shut : (c : Bool) (p : Phase) → cond c refusal.busy (status_of p) ≡ 0 → opened p ≡ false
idle_shut true p h = absurd (omega arith)
idle_shut false at.Idle h = refl
idle_shut false at.Halted h = refl
idle_shut false at.Wait h = absurd (omega arith)
idle_shut false at.FlushAll h = absurd (omega arith)
idle_shut false at.ProtectNone0 h = absurd (omega arith)
idle_shut false at.ProtectNone1 h = absurd (omega arith)
idle_shut false at.Invalidate h = absurd (omega arith)
idle_shut false at.Release h = absurd (omega arith)
idle_shut false at.Modify h = absurd (omega arith)
idle_shut false at.Accept h = absurd (omega arith)
idle_shut false at.Zero h = absurd (omega arith)
idle_shut false at.ProtectDefault0 h = refl
idle_shut false at.ProtectDefault1 h = refl

-- another change under way: its stage is no phase
between_phase : (n : ℕ) → 13 ≤ n → opened (phase_of n) ≡ false
unfolding phase_of first_phases
between_phase n h = rw (no 7 (omega arith), no 8 (omega arith), no 9 (omega arith), no 10 (omega arith), no 11 (omega arith), no 12 (omega arith), no 0 (omega arith), no 2 (omega arith), no 3 (omega arith), no 4 (omega arith), no 5 (omega arith), no 6 (omega arith))
  where
    no : (k : ℕ) → k < n → eqb n k ≡ false
    no k l = ne_eqb n k (λ e. omega arith)

pub changing_shut : (s : List ℕ) → is_changing s ≡ true → opened (phase_in s) ≡ false
changing_shut s h = between_phase (get_or s 0 0) (leb-true 13 _ (and_left _ _ h))

-- ---- what stands, once a step is made

module _ (es : List MemoryRangeWithNode) (m : Maps) (s t tables : List ℕ) (o : Observed) where
  pub stands_step : (p : Phase) (q : Request) → q.n ≤ 512 → entries_in s ≡ es → Right (is_ram es) m.private m.shared p q t o.halted o.listed (shared_in o) → o.halted ≡ is_halted p
      → is_waiting o ≡ eqb (status_of p) refusal.busy → Names p q t o.op → (opened p ≡ true → o.table ≡ t) → Stands es (buffers m (with_request p q s) t tables) o
  stands_step p q few e r h a n d =
      let p₀ : Phase = p in
      let c : phase_in (with_request p q s) ≡ p = phase_read p in
      let b : request_of (with_request p q s) ≡ q = request_read p q (drop 10 s) few in
      record {
        layout = request_entries p q s ∙ e;
        right = subst (λ (p : Phase). Right (is_ram es) m.private m.shared p (request_of (with_request p₀ q s)) t o.halted o.listed (shared_in o)) (sym c)
            (subst (λ (q : Request). Right (is_ram es) m.private m.shared p q t o.halted o.listed (shared_in o)) (sym b) r);
        halts = h ∙ sym (halted_status p) ∙ ap (λ (k : ℕ). eqb k refusal.halted) (sym (request_status p q s));
        waits = a ∙ ap (λ (k : ℕ). eqb k refusal.busy) (sym (request_status p q s));
        names = subst (λ (x : Phase). Names x (request_of (with_request p q s)) t o.op) (sym c) (subst (λ (x : Request). Names p x t o.op) (sym b) n);
        table = λ k. d (sym (ap opened c) ∙ k);
      }

  -- of a change other than of visibility
  pub stands_change : (g : Stage) (q : Change) → entries_in s ≡ es → ((p : Phase) (q : Request) → opened p ≡ false → Right (is_ram es) m.private m.shared p q t o.halted o.listed (shared_in o))
      → o.halted ≡ stops g → is_waiting o ≡ goes g → is_quiet o.op ≡ true → Stands es (buffers m (with_change g q s) t tables) o
  stands_change g q e r h a n =
      record {
        layout = change_entries g q s ∙ e;
        right = r _ _ (change_shut g);
        halts = h ∙ sym (change_status g q s);
        waits = a ∙ sym (change_waits g q s);
        names = change_names g (request_of (with_change g q s)) t o.op n;
        table = λ k. clash _ k (change_shut g);
      }

-- what an answer is taken for is under way
pub phase_waits : (p : Phase) (b : Bool) → takes p b ≡ true → eqb (status_of p) refusal.busy ≡ true
phase_waits at.Idle b e = e
phase_waits at.Halted b e = e
phase_waits at.Wait b e = refl
phase_waits at.FlushAll b e = refl
phase_waits at.ProtectNone0 b e = refl
phase_waits at.ProtectNone1 b e = refl
phase_waits at.Invalidate b e = refl
phase_waits at.Release b e = refl
phase_waits at.Modify b e = refl
phase_waits at.Accept b e = refl
phase_waits at.Zero b e = refl
phase_waits at.ProtectDefault0 b e = refl
phase_waits at.ProtectDefault1 b e = refl
