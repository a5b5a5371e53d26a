-- A call that is refused writes nothing, and nothing is seen to change: one that is lent something of another length, one that is no answer while a request is under
-- way, and a build. Assumes nothing.
use Prim.Native.Nat.{ℕ}
use mathlib.Core.Path.{◌≡◌, refl, ap}
use mathlib.Core.List.{List, []}
use mathlib.Core.Bool.{Bool, true, false, cond}
use lib.ListN.{length}
use lib.Dec.{eqb}
use borrow.Author.Tests.{ne_eqb}
use Rattle.abi.specs.Refusals as refusal
use Rattle.layout.specs.Layout.{entries_of, map_len}
use Rattle.permissions.specs.Flags.{vtl_of, bool_of}
use Rattle.page_list.specs.Pages.{pages_of}
use Rattle.protector_state.specs.declared.Reply.{Reply}
use Rattle.protector_state.specs.Changing.{is_changing}
use Rattle.call_refusals.specs.Buffers.{Buffers, buffers, Outcome, fits, status_in, lengths_in}
use Rattle.protector.specs.Calls.{refused_by, decided, build_taken, build_of, visibility_taken, visibility_of, visibility_done, visibility_failed, change_done, change_failed, answer_done, answer_failed}
use Rattle.call_refusals.specs.Refusals.{build_fits, build_refusal, answer_refusal}
use Rattle.protection_entries.specs.Calls.{protection_taken, protection_of, stored, default_taken, default_of}
use Rattle.overlay_entries.specs.Calls.{register_taken, register_of, unregister_taken, unregister_of}
use Rattle.lock_entries.specs.Calls.{ended, lock_refusal, lock_taken, lock_of, unlock_taken, unlock_of}
use Rattle.setting_entries.specs.Calls.{enable_refusal, enable_of}
use Rattle.visibility_claims.specs.Whole.{BackendAnswer, Succeeds, Fails}
use Rattle.visibility_claims.specs.Calls.{answer_of}
use Rattle.visibility_claims.specs.Ends.{under_way}
use Rattle.history.specs.Observed.{Observed, is_taken, sees_call}
use Rattle.history.specs.Call.{Writer, Visibility, Protection, Default, Register, Unregister, Lock, Unlock, Enable, Call, Write, Read, Answer, Effect, replied, gives_writer, gives, sees_writer, sees}
use Rattle.history.specs.History.{OtherLengths, OtherWriterLengths, OtherCallLengths, IsRefusal}
use Rattle.history.specs.Answered.{given}
use Rattle.history.proofs.Bits.{clash}
use Rattle.history.proofs.Passed.{refusal_in, lent_fits, Passed, passed_in, fitting}
use Rattle.history.proofs.OtherLengths.{not_fitting, not_lent, answer_fitting, untaken_seen, answer_other_lengths}

-- nothing comes of it: it leaves what it was lent, and nothing is seen
pub record NoEffect (x : Buffers) (X : Effect Reply) (view : Reply → List ℕ → Observed → Observed) : Type 0 where
  pub keeps : X.buffers ≡ x
  pub unseen : (o : Observed) → view X.answer X.buffers.pages o ≡ o

refused : (x : Buffers) (n : ℕ) (T : Outcome) → (n ≡ 0 → ⊥) → decided x n T ≡ refused_by x n
refused x n T f = ap (λ (b : Bool). cond b T (refused_by x n)) (ne_eqb n 0 f)

call_no_effect : (ps : List ℕ) (x : Buffers) (n : ℕ) (T : Outcome) → (n ≡ 0 → ⊥) → NoEffect x (replied (decided x n T)) (sees_call ps)
call_no_effect ps x n T f =
    record { keeps = ap (λ (X : Outcome). X.buffers) (refused x n T f); unseen = λ o. ap (λ (X : Outcome). sees_call ps X.reply X.buffers.pages o) (refused x n T f) }

pub barred_no_effect : (a : Writer) (x : Buffers) → (refusal_in a x ≡ 0 → ⊥) → NoEffect x (gives_writer a x) (sees_writer a)
unfolding visibility_of protection_of default_of register_of unregister_of lock_of unlock_of enable_of
barred_no_effect (Visibility vtl share list) x f = call_no_effect (pages_of list) x _ (visibility_taken x (vtl_of vtl) (bool_of share) list) f
barred_no_effect (Protection vtl flags list) x f = call_no_effect [] x _ (protection_taken x (vtl_of vtl) flags list) f
barred_no_effect (Default vtl flags) x f = call_no_effect [] x _ (default_taken (stored x (vtl_of vtl) flags) (vtl_of vtl) flags) f
barred_no_effect (Register vtl page source checked new) x f = call_no_effect [] x _ (register_taken x (vtl_of vtl) page source new) f
barred_no_effect (Unregister vtl page) x f = call_no_effect [] x _ (unregister_taken x (vtl_of vtl) page) f
barred_no_effect (Lock vtl list) x f =
    let n : ℕ = lock_refusal x.state (length x.tables) vtl list in
    record { keeps = ap (λ (b : Bool). buffers x.maps x.state x.pages (cond b (lock_taken x.tables (vtl_of vtl) (pages_of list)) (ended x.tables n)).tables) (ne_eqb n 0 f); unseen = λ o. refl }
barred_no_effect (Unlock vtl list) x f =
    let n : ℕ = lock_refusal x.state (length x.tables) vtl list in
    record { keeps = ap (λ (b : Bool). buffers x.maps x.state x.pages (cond b (unlock_taken x.tables (vtl_of vtl) (pages_of list)) (ended x.tables n)).tables) (ne_eqb n 0 f); unseen = λ o. refl }
barred_no_effect Enable x f = record { keeps = rw (ne_eqb (enable_refusal x.state) 0 f); unseen = λ o. refl }

-- ---- something of another length bars it

other_lengths_barred : (a : Writer) (u x : Buffers) → OtherWriterLengths a u x → refusal_in a x ≡ 0 → ⊥
other_lengths_barred a u x s z = go a s (passed_in a x z)
  where
    go : (a : Writer) → OtherWriterLengths a u x → Passed x (lent_fits a x) → ⊥
    go (Visibility vtl share list) s k = not_fitting u x s (fitting x k)
    go (Protection vtl flags list) s k = not_fitting u x s (fitting x k)
    go (Default vtl flags) s k = not_fitting u x s (fitting x k)
    go (Register vtl page source checked new) s k = not_fitting u x s (fitting x k)
    go (Unregister vtl page) s k = not_fitting u x s (fitting x k)
    go (Lock vtl list) s k = not_lent u x s k
    go (Unlock vtl list) s k = not_lent u x s k
    go Enable s k = s k.long

-- an answer too writes nothing then, and isn't taken
module _ (u x : Buffers) (s : OtherLengths u x) where
  answer_keeps : (g : BackendAnswer) → (answer_of g x).buffers ≡ x
  unfolding answer_done answer_failed
  answer_keeps Succeeds = ap (λ (X : Outcome). X.buffers) (refused x (answer_refusal x.state (fits x) false) (cond (is_changing x.state) (change_done x) (visibility_done x)) (λ z. not_fitting u x s (answer_fitting x false z)))
  answer_keeps (Fails code n) = ap (λ (X : Outcome). X.buffers) (refused x (answer_refusal x.state (fits x) true) (cond (is_changing x.state) (change_failed x) (visibility_failed x code n)) (λ z. not_fitting u x s (answer_fitting x true z)))

  module _ (o : Observed) (halts : o.halted ≡ eqb (status_in u.state) refusal.halted) where
    pub other_lengths_untaken : (g : BackendAnswer) → is_taken o (answer_of g x).reply ≡ false
    unfolding answer_done answer_failed
    other_lengths_untaken Succeeds = untaken_seen u x o halts false (cond (is_changing x.state) (change_done x) (visibility_done x)) s
    other_lengths_untaken (Fails code n) = untaken_seen u x o halts true (cond (is_changing x.state) (change_failed x) (visibility_failed x code n)) s

    answer_unseen : (g : BackendAnswer) → sees (Answer g) (answer_of g x).reply (answer_of g x).buffers.pages o ≡ o
    unfolding answer_done answer_failed
    answer_unseen Succeeds = answer_other_lengths u x o halts false (cond (is_changing x.state) (change_done x) (visibility_done x)) s (λ (p : Observed). p ≡ o) Succeeds refl
    answer_unseen (Fails code n) = answer_other_lengths u x o halts true (cond (is_changing x.state) (change_failed x) (visibility_failed x code n)) s (λ (p : Observed). p ≡ o) (Fails code n) refl

pub other_lengths_keeps : (c : Call) (u x : Buffers) → OtherCallLengths c u x → (gives c x).buffers ≡ x
other_lengths_keeps (Write a) u x s = (barred_no_effect a x (other_lengths_barred a u x s)).keeps
other_lengths_keeps (Read q) u x s = refl
other_lengths_keeps (Answer g) u x s = answer_keeps u x s g

pub other_lengths_unseen : (c : Call) (u x : Buffers) (o : Observed) → o.halted ≡ eqb (status_in u.state) refusal.halted → OtherCallLengths c u x → sees c (gives c x).answer (gives c x).buffers.pages o ≡ o
other_lengths_unseen (Write a) u x o halts s = (barred_no_effect a x (other_lengths_barred a u x s)).unseen o
other_lengths_unseen (Read q) u x o halts s = refl
other_lengths_unseen (Answer g) u x o halts s = answer_unseen u x s o halts g

-- ---- so does a request under way

busy : (n : ℕ) → eqb n refusal.busy ≡ true → n ≡ 0 → ⊥
busy n e z = clash (eqb n refusal.busy) e (ap (λ n. eqb n refusal.busy) z)

busy_barred : (a : Writer) (x : Buffers) → under_way x ≡ true → refusal_in a x ≡ 0 → ⊥
busy_barred a x b z = busy _ b (passed_in a x z).idle

pub busy_no_effect : (a : Writer) (x : Buffers) → under_way x ≡ true → NoEffect x (gives_writer a x) (sees_writer a)
busy_no_effect a x b = barred_no_effect a x (busy_barred a x b)

-- ---- a build

pub build_keeps : (x y : Buffers) (ram : List ℕ) (i t l : ℕ) (r : Reply) → given y r ≡ build_of x ram i t l → IsRefusal r → y ≡ x
unfolding build_of build_taken
build_keeps x y ram i t l r e f = go (eqb n 0) e
  where
    n : ℕ
    n = build_refusal ram i t l (build_fits (map_len (entries_of ram)) t (length x.state) (lengths_in x))

    go : (b : Bool) → given y r ≡ cond b (build_taken x ram i t l) (refused_by x n) → y ≡ x
    go true e = absurd (f (ap (λ (X : Outcome). X.reply.number) e))
    go false e = ap (λ (X : Outcome). X.buffers) e
