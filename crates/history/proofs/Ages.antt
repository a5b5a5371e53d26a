-- How far each page is since it was returned, kept by every step of a visibility change on SNP. Assumes nothing.
use Rattle.permissions.specs.declared.HvMapGpaFlags.{HvMapGpaFlags}
use Rattle.std.specs.Prelude.{Option, Some, None}
use Prim.Native.Nat.{ℕ, ◌+◌, ◌≤◌, ◌<◌, min}
use mathlib.Core.Path.{◌≡◌, refl, sym, ap, ap₂, ◌∙◌}
use mathlib.Core.List.{List}
use mathlib.Core.Bool.{Bool, true, false, cond, ◌&&◌}
use mathlib.Core.Logic.{⊎_elim}
use native.Mathlib.Omega.{arith}
use lib.ListN.{length, get_or}
use lib.Dec.{ltb, leb}
use borrow.Author.Tests.{ltb-true, ltb-false, leb-false}
use Rattle.laws.specs.Bools.{false≢true, and_right, lt_or_le}
use Rattle.laws.specs.Ranges.{between}
use Rattle.bitmap.specs.Pages.{bit_at, written}
use Rattle.permissions.specs.declared.IsolationType.{IsolationType}
use Rattle.permissions.specs.declared.IsolationType.TheVariants.{Snp, Tdx, Cca}
use Rattle.page_list.specs.Pages.{among}
use Rattle.page_list.specs.Runs.{part, run_at}
use Rattle.page_list.specs.declared.PageRun.{PageRun}
use Rattle.page_list.proofs.RunLaws.{run_none}
use Rattle.request_pages.specs.Request.{run_end, put}
use Rattle.request_pages.proofs.Runs.{end_le, end_none, run_places}
use Rattle.visibility_steps.specs.declared.Phase.{Phase}
use Rattle.visibility_steps.specs.declared.Phase.TheVariants as at
use Rattle.visibility_steps.specs.declared.Settings.{Settings}
use Rattle.visibility_steps.specs.declared.Request.{Request}
use Rattle.visibility_steps.specs.declared.Writes.{Writes}
use Rattle.visibility_steps.specs.declared.Step.{Step}
use Rattle.visibility_steps.specs.Steps.{is_snp, is_cca, releases, no_writes, set_shared, set_private, ask, end, halt, share_run, default_run, return_run, after_flush, after_wait, after_modify, after_accept, after_default0, cut_at, failed_modify, done_of, failed_of}
use Rattle.call_refusals.specs.Buffers.{takes}
use Rattle.protector.specs.Writes.{put_places}
use Rattle.visibility_claims.specs.Whole.{BackendAnswer, Succeeds, Fails}
use Rattle.history.specs.Observed.{ReturnState, Never, Returned, Validated, Zeroed, processed, accepted, zeroed, is_done}
use Rattle.history.specs.Marks.{Has, is_settled}
use Rattle.history.proofs.Bits.{clash, of_part, in_part, inside, set_cases}
use Rattle.history.proofs.Right.{opened}

-- ---- the pages of a run are those at its places

abbrev in_run_at : List ℕ → ℕ → ℕ → ℕ → Bool
in_run_at t n a z = between (run_at t n a).first ((run_at t n a).first + (run_at t n a).count) z

in_run_lem : (t : List ℕ) (n a j : ℕ) → n ≤ length t → a ≤ j → j < run_end t n a → j < length t → in_run_at t n a (get_or t j 0) ≡ true
in_run_lem t n a j g l k d =
    ⊎_elim (λ (h : a < n). sym (run_places t n a h g (get_or t j 0)) ∙ inside a (run_end t n a) t j l k d) (λ (h : n ≤ a). absurd (omega (arith, end_none t n a h))) (lt_or_le a n)

of_run : (t : List ℕ) (n a z : ℕ) → n ≤ length t → in_run_at t n a z ≡ true → ((j : ℕ) → j < n → j < length t → get_or t j 0 ≡ z → ⊥) → ⊥
of_run t n a z g e f =
    ⊎_elim (λ (h : a < n). of_part a (run_end t n a) t z (run_places t n a h g z ∙ e) (λ j l k d y. f j (omega (arith, end_le t n a h)) d y))
    (λ (h : n ≤ a). none (ap (λ (r : PageRun). between r.first (r.first + r.count) z) (run_none t n a h) ∙ e)) (lt_or_le a n)
  where
    none : between 0 0 z ≡ true → ⊥
    none h = absurd (omega (arith, ltb-true z 0 (and_right (leb 0 z) (ltb z 0) h)))

-- ---- ages

abbrev pub is_never : ReturnState → Bool
is_never Never = true
is_never Returned = false
is_never Validated = false
is_never Zeroed = false

abbrev pub is_valid : ReturnState → Bool
is_valid Never = false
is_valid Returned = false
is_valid Validated = true
is_valid Zeroed = true

abbrev pub returning : Phase → Bool
returning at.Idle = false
returning at.Halted = false
returning at.Wait = false
returning at.FlushAll = false
returning at.ProtectNone0 = false
returning at.ProtectNone1 = false
returning at.Invalidate = false
returning at.Release = false
returning at.Modify = false
returning at.Accept = true
returning at.Zero = true
returning at.ProtectDefault0 = false
returning at.ProtectDefault1 = false

abbrev pub zeroing : Phase → Bool
zeroing at.Idle = false
zeroing at.Halted = false
zeroing at.Wait = false
zeroing at.FlushAll = false
zeroing at.ProtectNone0 = false
zeroing at.ProtectNone1 = false
zeroing at.Invalidate = false
zeroing at.Release = false
zeroing at.Modify = false
zeroing at.Accept = false
zeroing at.Zero = true
zeroing at.ProtectDefault0 = false
zeroing at.ProtectDefault1 = false

abbrev pub aged : Phase → Request → List ℕ → BackendAnswer → (ℕ → ReturnState) → ℕ → ReturnState
aged at.Idle q t g age z = age z
aged at.Halted q t g age z = age z
aged at.Wait q t g age z = age z
aged at.FlushAll q t g age z = age z
aged at.ProtectNone0 q t g age z = age z
aged at.ProtectNone1 q t g age z = age z
aged at.Invalidate q t g age z = age z
aged at.Release q t g age z = age z
aged at.Modify q t g age z = cond (among (part t (processed g q.n) 0) z) (cond q.share Never Returned) (age z)
aged at.Accept q t g age z = cond (is_done g && in_run_at t q.n q.at z) (accepted (age z)) (age z)
aged at.Zero q t g age z = cond (is_done g && in_run_at t q.n q.at z) (zeroed (age z)) (age z)
aged at.ProtectDefault0 q t g age z = age z
aged at.ProtectDefault1 q t g age z = age z

-- what holds, of the private marks, the phase, the request and its table
pub record Aged (P : List ℕ) (p : Phase) (q : Request) (t : List ℕ) (age : ℕ → ReturnState) : Type 0 where
  pub settled : (z : ℕ) → Has P z → is_settled (age z) ≡ true
  pub long : opened p ≡ true → q.n ≤ length t
  pub came : returning p ≡ true → (j : ℕ) → j < q.n → j < length t → is_never (age (get_or t j 0)) ≡ false
  pub past : returning p ≡ true → (j : ℕ) → j < q.n → j < length t → j < q.at → age (get_or t j 0) ≡ Zeroed
  pub valid : zeroing p ≡ true → (j : ℕ) → j < q.n → j < length t → q.at ≤ j → j < run_end t q.n q.at → is_valid (age (get_or t j 0)) ≡ true

-- how a step goes with it
pub record Ages (n : ℕ) (t : List ℕ) (now : ℕ → ReturnState) (x : Step) : Type 0 where
  pub on : x.writes.state ≡ true
  pub new : (j : ℕ) → j < x.writes.private.to → j < length t → is_settled (now (get_or t j 0)) ≡ true
  pub fewer : opened x.phase ≡ true → x.request.n ≤ n
  pub came : returning x.phase ≡ true → (j : ℕ) → j < x.request.n → j < length t → is_never (now (get_or t j 0)) ≡ false
  pub past : returning x.phase ≡ true → (j : ℕ) → j < x.request.n → j < length t → j < x.request.at → now (get_or t j 0) ≡ Zeroed
  pub valid : zeroing x.phase ≡ true → (j : ℕ) → j < x.request.n → j < length t → x.request.at ≤ j → j < run_end t x.request.n x.request.at
      → is_valid (now (get_or t j 0)) ≡ true

-- a page whose age moves is at a place of a request whose pages are bare
pub made_aged : (P : List ℕ) (p : Phase) (q : Request) (t : List ℕ) (age now : ℕ → ReturnState) (x : Step) → Aged P p q t age
    → ((j : ℕ) → opened p ≡ true → j < q.n → j < length t → Has P (get_or t j 0) → ⊥)
    → ((z : ℕ) → (now z ≡ age z → ⊥) → ((j : ℕ) → opened p ≡ true → j < q.n → j < length t → get_or t j 0 ≡ z → ⊥) → ⊥)
    → (opened x.phase ≡ true → opened p ≡ true) → Ages q.n t now x → Aged (put_places t x.writes.private x.writes.state P) x.phase x.request t now
unfolding put
made_aged P p q t age now x g bare moved opens a =
    record { settled = λ z h. still z h (is_settled (now z)) refl; long = λ o. omega (arith, a.fewer o, g.long (opens o)); came = a.came; past = a.past; valid = a.valid }
  where
    Is : ℕ → Bool
    Is = among (part t x.writes.private.to x.writes.private.from)

    still : (z : ℕ) → Has (written 8 Is x.writes.state P) z → (c : Bool) → is_settled (now z) ≡ c → is_settled (now z) ≡ true
    still z h true e = e
    still z h false e =
        absurd
        (set_cases Is P z (ap (λ (b : Bool). bit_at 8 (written 8 Is b P) z) (sym a.on) ∙ h)
        (λ m. of_part x.writes.private.from x.writes.private.to t z m (λ j l k d y. clash (is_settled (now z)) (ap (λ (y : ℕ). is_settled (now y)) (sym y) ∙ a.new j k d) e))
        (λ old. moved z (λ s. clash (is_settled (now z)) (ap is_settled s ∙ g.settled z old) e) (λ j o b d y. bare j o b d (ap (λ (y : ℕ). bit_at 8 P y) y ∙ old))))

-- ---- every step on SNP goes so

snp_not_cca : (i : IsolationType) → is_snp i ≡ true → is_cca i ≡ false
snp_not_cca Snp e = refl
snp_not_cca Tdx e = refl
snp_not_cca Cca e = false≢true e

module _ (s : Settings) (t : List ℕ) (now : ℕ → ReturnState) where
  pick : {n : ℕ} {x y : Step} (b : Bool) → Ages n t now x → Ages n t now y → Ages n t now (cond b x y)
  pick true f g = f
  pick false f g = g

  first_of : {n : ℕ} {x : Step} (y : Step) (b : Bool) → b ≡ true → Ages n t now x → Ages n t now (cond b x y)
  first_of y true e f = f
  first_of y false e f = false≢true e

  plain_ask : (n : ℕ) (q : Request) (p : Phase) (i : ℕ) (w : Writes) → q.n ≤ n → returning p ≡ false → zeroing p ≡ false → w.state ≡ true → w.private.to ≡ 0 → Ages n t now (ask s p q t i w)
  unfolding ask
  plain_ask n q p i w l a b on z =
      record { on = on; new = λ j k d. absurd (omega arith); fewer = λ _. l; came = λ e. clash (returning p) e a; past = λ e. clash (returning p) e a; valid = λ e. clash (zeroing p) e b }

  plain_end : (n : ℕ) (q : Request) (w : Writes) → w.state ≡ true → ((j : ℕ) → j < w.private.to → j < length t → is_settled (now (get_or t j 0)) ≡ true) → Ages n t now (end q w)
  unfolding end
  plain_end n q w on new = record { on = on; new = new; fewer = λ e. clash false e refl; came = λ e. clash false e refl; past = λ e. clash false e refl; valid = λ e. clash false e refl }

  plain_halt : (n : ℕ) (q : Request) → Ages n t now (halt q)
  unfolding halt
  plain_halt n q = record { on = refl; new = λ j k d. absurd (omega arith); fewer = λ e. clash false e refl; came = λ e. clash false e refl; past = λ e. clash false e refl; valid = λ e. clash false e refl }

  quiet_ask : (q : Request) (p : Phase) (i : ℕ) → returning p ≡ false → zeroing p ≡ false → Ages q.n t now (ask s p q t i no_writes)
  quiet_ask q p i a b = plain_ask q.n q p i no_writes (omega arith) a b refl refl

  share_ages : (q : Request) (i : ℕ) → Ages q.n t now (share_run s q t i)
  unfolding share_run
  share_ages q i =
      pick (ltb i q.n && is_snp s.isolation) (quiet_ask q at.ProtectNone0 i refl refl)
      (pick (ltb i q.n && releases s.isolation s.release) (quiet_ask q at.Release i refl refl) (quiet_ask q at.Modify 0 refl refl))

  flush_ages : (q : Request) → Ages q.n t now (after_flush s q t)
  unfolding after_flush
  flush_ages q = pick q.share (share_ages q 0) (quiet_ask q at.Modify 0 refl refl)

  -- private marks are set only at places whose pages are settled
  default_ages : (n : ℕ) (q : Request) (i : ℕ) (w : Writes) → q.n ≤ n → w.state ≡ true → ((j : ℕ) → j < w.private.to → j < length t → is_settled (now (get_or t j 0)) ≡ true)
      → Ages n t now (default_run s q t i w)
  unfolding default_run ask
  default_ages n q i w l on new =
      pick (ltb i q.n)
      (record { on = on; new = new; fewer = λ e. clash false e refl; came = λ e. clash false e refl; past = λ e. clash false e refl; valid = λ e. clash false e refl })
      (plain_end n q w on new)

  return_ages : (n : ℕ) (q : Request) (i : ℕ) (w : Writes) → is_snp s.isolation ≡ true → q.n ≤ n → w.state ≡ true → w.private.to ≡ 0
      → ((j : ℕ) → j < q.n → j < length t → is_never (now (get_or t j 0)) ≡ false) → ((j : ℕ) → j < q.n → j < length t → j < i → now (get_or t j 0) ≡ Zeroed)
      → Ages n t now (return_run s q t i w)
  unfolding return_run ask
  return_ages n q i w snp l on z came past = go (ltb i q.n) refl (is_cca s.isolation) (snp_not_cca s.isolation snp)
    where
      all : Step
      all = default_run s q t 0 (set_private w q.n)

      asks : Ages n t now (ask s at.Accept q t i w)
      asks = record { on = on; new = λ j k d. absurd (omega arith); fewer = λ _. l; came = λ _. came; past = λ _ j h d k. past j h d k; valid = λ e. clash false e refl }

      go : (b : Bool) → ltb i q.n ≡ b → (c : Bool) → c ≡ false → Ages n t now (cond b (cond c all (ask s at.Accept q t i w)) all)
      go true e true c = false≢true (sym c)
      go true e false c = asks
      go false e c _ = default_ages n q 0 (set_private w q.n) l on (λ j h d. ap is_settled (past j h d (omega (arith, ltb-false i q.n e))))

-- ---- the answers

accepted_came : (a : ReturnState) → is_never a ≡ false → is_never (accepted a) ≡ false
accepted_came Never e = e
accepted_came Returned e = refl
accepted_came Validated e = refl
accepted_came Zeroed e = refl

accepted_valid : (a : ReturnState) → is_never a ≡ false → is_valid (accepted a) ≡ true
accepted_valid Never e = false≢true (sym e)
accepted_valid Returned e = refl
accepted_valid Validated e = refl
accepted_valid Zeroed e = refl

zeroed_came : (a : ReturnState) → is_never a ≡ false → is_never (zeroed a) ≡ false
zeroed_came Never e = e
zeroed_came Returned e = refl
zeroed_came Validated e = refl
zeroed_came Zeroed e = refl

zeroed_valid : (a : ReturnState) → is_valid a ≡ true → zeroed a ≡ Zeroed
zeroed_valid Never e = false≢true e
zeroed_valid Returned e = false≢true e
zeroed_valid Validated e = refl
zeroed_valid Zeroed e = refl

either : (b : Bool) (x y : ReturnState) (T : ReturnState → Type 0) → T x → T y → T (cond b x y)
either true x y T f g = f
either false x y T f g = g

module _ (s : Settings) (snp : is_snp s.isolation ≡ true) (P : List ℕ) (q : Request) (t : List ℕ) (age : ℕ → ReturnState) where
  modify_done : Ages q.n t (aged at.Modify q t Succeeds age) (after_modify s q t)
  unfolding after_modify
  modify_done = go q.share refl
    where
      now : ℕ → ReturnState
      now = aged at.Modify q t Succeeds age

      back : q.share ≡ false → (j : ℕ) → j < q.n → j < length t → now (get_or t j 0) ≡ Returned
      back e j h d = ap₂ (λ (a b : Bool). cond a (cond b Never Returned) (age (get_or t j 0))) (in_part q.n t j h d) e

      go : (c : Bool) → q.share ≡ c → Ages q.n t now (cond c (end q (set_shared no_writes 0 q.n)) (return_run s q t 0 no_writes))
      go true e = plain_end s t now q.n q (set_shared no_writes 0 q.n) refl (λ j k d. absurd (omega arith))
      go false e = return_ages s t now q.n q 0 no_writes snp (omega arith) refl refl (λ j h d. ap is_never (back e j h d)) (λ j h d k. absurd (omega arith))

  modify_failed : (code k : ℕ) → Ages q.n t (aged at.Modify q t (Fails code k) age) (failed_modify s q t code k)
  unfolding failed_modify
  modify_failed code k = go q.share refl (leb q.n k) refl
    where
      now : ℕ → ReturnState
      now = aged at.Modify q t (Fails code k) age

      i : ℕ
      i = get_or t (512 + k) 0

      back : q.share ≡ false → (j : ℕ) → j < min k q.n → j < length t → now (get_or t j 0) ≡ Returned
      back e j h d = ap₂ (λ (a b : Bool). cond a (cond b Never Returned) (age (get_or t j 0))) (in_part (min k q.n) t j h d) e

      go : (c : Bool) → q.share ≡ c → (l : Bool) → leb q.n k ≡ l → Ages q.n t now (cond c (halt q) (cond l (halt q) (return_run s (cut_at q k code i) t 0 (set_shared no_writes k q.n))))
      go true e l f = plain_halt s t now q.n q
      go false e true f = plain_halt s t now q.n q
      go false e false f =
          let lt : k < q.n = leb-false q.n k f in
          return_ages s t now q.n (cut_at q k code i) 0 (set_shared no_writes k q.n) snp (omega arith) refl refl (λ j h d. ap is_never (back e j (omega arith) d)) (λ j h d k. absurd (omega arith))

  accept_done : Aged P at.Accept q t age → Ages q.n t (aged at.Accept q t Succeeds age) (after_accept s q t)
  unfolding after_accept ask
  accept_done g =
      first_of s t (aged at.Accept q t Succeeds age) (return_run s q t (run_end t q.n q.at) no_writes) (is_snp s.isolation) snp
      (record {
        on = refl;
        new = λ j k d. absurd (omega arith);
        fewer = λ _. omega arith;
        came = λ _ j h d. either (in_run_at t q.n q.at (get_or t j 0)) _ _ (λ (a : ReturnState). is_never a ≡ false) (accepted_came (age (get_or t j 0)) (g.came refl j h d)) (g.came refl j h d);
        past = λ _ j h d k. either (in_run_at t q.n q.at (get_or t j 0)) _ _ (λ (a : ReturnState). a ≡ Zeroed) (ap accepted (g.past refl j h d k)) (g.past refl j h d k);
        valid = λ _ j h d l k.
            ap (λ (b : Bool). is_valid (cond b (accepted (age (get_or t j 0))) (age (get_or t j 0)))) (in_run_lem t q.n q.at j (g.long refl) l k d) ∙ accepted_valid (age (get_or t j 0)) (g.came refl j h d);
      })

  zero_done : Aged P at.Zero q t age → Ages q.n t (aged at.Zero q t Succeeds age) (return_run s q t (run_end t q.n q.at) no_writes)
  zero_done g =
      return_ages s t (aged at.Zero q t Succeeds age) q.n q (run_end t q.n q.at) no_writes snp (omega arith) refl refl
      (λ j h d. either (in_run_at t q.n q.at (get_or t j 0)) _ _ (λ (a : ReturnState). is_never a ≡ false) (zeroed_came (age (get_or t j 0)) (g.came refl j h d)) (g.came refl j h d))
      (λ j h d k. ⊎_elim
      (λ (b : j < q.at). either (in_run_at t q.n q.at (get_or t j 0)) _ _ (λ (a : ReturnState). a ≡ Zeroed) (ap zeroed (g.past refl j h d b)) (g.past refl j h d b))
      (λ (b : q.at ≤ j). ap (λ (c : Bool). cond c (zeroed (age (get_or t j 0))) (age (get_or t j 0))) (in_run_lem t q.n q.at j (g.long refl) b k d) ∙ zeroed_valid (age (get_or t j 0)) (g.valid refl j h d b k)) (lt_or_le j q.at))

  second : (f : Option HvMapGpaFlags) → Ages q.n t age (after_default0 f s q t)
  second (Some f) = quiet_ask s t age q at.ProtectDefault1 q.at refl refl
  second None = default_ages s t age q.n q (run_end t q.n q.at) no_writes (omega arith) refl (λ j k d. absurd (omega arith))

  pub done_ages : (p : Phase) → takes p false ≡ true → Aged P p q t age → Ages q.n t (aged p q t Succeeds age) (done_of s p q t)
  unfolding done_of after_wait
  done_ages at.Idle e g = false≢true e
  done_ages at.Halted e g = false≢true e
  done_ages at.Wait e g = pick s t age (is_snp s.isolation) (quiet_ask s t age q at.FlushAll 0 refl refl) (flush_ages s t age q)
  done_ages at.FlushAll e g = flush_ages s t age q
  done_ages at.ProtectNone0 e g = quiet_ask s t age q at.ProtectNone1 q.at refl refl
  done_ages at.ProtectNone1 e g = quiet_ask s t age q at.Invalidate q.at refl refl
  done_ages at.Invalidate e g = share_ages s t age q (run_end t q.n q.at)
  done_ages at.Release e g = share_ages s t age q (run_end t q.n q.at)
  done_ages at.Modify e g = modify_done
  done_ages at.Accept e g = accept_done g
  done_ages at.Zero e g = zero_done g
  done_ages at.ProtectDefault0 e g = second s.defaults.vtl1
  done_ages at.ProtectDefault1 e g = default_ages s t age q.n q (run_end t q.n q.at) no_writes (omega arith) refl (λ j k d. absurd (omega arith))

  pub failed_ages : (p : Phase) (code k : ℕ) → takes p true ≡ true → Ages q.n t (aged p q t (Fails code k) age) (failed_of s p q t code k)
  unfolding failed_of
  failed_ages at.Idle code k e = false≢true e
  failed_ages at.Halted code k e = false≢true e
  failed_ages at.Wait code k e = false≢true e
  failed_ages at.FlushAll code k e = false≢true e
  failed_ages at.Modify code k e = modify_failed code k
  failed_ages at.ProtectNone0 code k e = plain_halt s t age q.n q
  failed_ages at.ProtectNone1 code k e = plain_halt s t age q.n q
  failed_ages at.Invalidate code k e = plain_halt s t age q.n q
  failed_ages at.Release code k e = plain_halt s t age q.n q
  failed_ages at.Accept code k e = plain_halt s t age q.n q
  failed_ages at.Zero code k e = plain_halt s t age q.n q
  failed_ages at.ProtectDefault0 code k e = plain_halt s t age q.n q
  failed_ages at.ProtectDefault1 code k e = plain_halt s t age q.n q

-- a page whose age moves is at a place
module _ (q : Request) (t : List ℕ) (age : ℕ → ReturnState) (g : BackendAnswer) (z : ℕ) where
  moved_modify : (aged at.Modify q t g age z ≡ age z → ⊥) → ((j : ℕ) → j < q.n → j < length t → get_or t j 0 ≡ z → ⊥) → ⊥
  moved_modify k f = go (among (part t (processed g q.n) 0) z) refl
    where
      few : (g : BackendAnswer) → processed g q.n ≤ q.n
      few Succeeds = omega arith
      few (Fails code k) = omega arith

      go : (b : Bool) → among (part t (processed g q.n) 0) z ≡ b → ⊥
      go true e = of_part 0 (processed g q.n) t z e (λ j _ h d y. f j (omega (arith, few g)) d y)
      go false e = k (ap (λ (b : Bool). cond b (cond q.share Never Returned) (age z)) e)

  moved_run : (step : ReturnState → ReturnState) → q.n ≤ length t → (cond (is_done g && in_run_at t q.n q.at z) (step (age z)) (age z) ≡ age z → ⊥) → ((j : ℕ) → j < q.n → j < length t → get_or t j 0 ≡ z → ⊥) → ⊥
  moved_run step l k f = go (in_run_at t q.n q.at z) refl
    where
      none : (b : Bool) → b ≡ false → cond (is_done g && b) (step (age z)) (age z) ≡ age z
      none true e = false≢true (sym e)
      none false e = shut (is_done g)
        where
          shut : (b : Bool) → cond (b && false) (step (age z)) (age z) ≡ age z
          shut true = refl
          shut false = refl

      go : (b : Bool) → in_run_at t q.n q.at z ≡ b → ⊥
      go true e = of_run t q.n q.at z l e f
      go false e = k (none (in_run_at t q.n q.at z) e)

  pub moved_place : (p : Phase) → (opened p ≡ true → q.n ≤ length t) → (aged p q t g age z ≡ age z → ⊥) → ((j : ℕ) → opened p ≡ true → j < q.n → j < length t → get_or t j 0 ≡ z → ⊥) → ⊥
  moved_place at.Idle l k f = k refl
  moved_place at.Halted l k f = k refl
  moved_place at.Wait l k f = k refl
  moved_place at.FlushAll l k f = k refl
  moved_place at.ProtectNone0 l k f = k refl
  moved_place at.ProtectNone1 l k f = k refl
  moved_place at.Invalidate l k f = k refl
  moved_place at.Release l k f = k refl
  moved_place at.Modify l k f = moved_modify k (λ j. f j refl)
  moved_place at.Accept l k f = moved_run accepted (l refl) k (λ j. f j refl)
  moved_place at.Zero l k f = moved_run zeroed (l refl) k (λ j. f j refl)
  moved_place at.ProtectDefault0 l k f = k refl
  moved_place at.ProtectDefault1 l k f = k refl
