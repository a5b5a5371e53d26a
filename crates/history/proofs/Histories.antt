-- What every call keeps, every list of calls of the protector's entries keeps. The invariant is made of parts, each kept by its own law; here are the marks, on SNP the
-- ages, the lengths, and what is listed. Assumes nothing.
use native.Mathlib.Omega.{arith}
use mathlib.Core.Path.{◌≡◌, refl, sym, ap, ap₂, ◌∙◌, subst}
use mathlib.Core.Bool.{Bool, true, false, cond, ◌||◌}
use mathlib.Core.List.{List, []}
use Prim.Native.Nat.{ℕ}
use lib.Dec.{eqb}
use Rattle.abi.specs.Refusals as refusal
use Rattle.layout.specs.declared.MemoryRangeWithNode.{MemoryRangeWithNode}
use Rattle.permissions.specs.declared.IsolationType.{IsolationType}
use Rattle.visibility_steps.specs.Steps.{is_snp}
use Rattle.page_list.specs.Pages.{pages_of}
use Rattle.protector_state.specs.declared.Reply.{Reply}
use Rattle.call_refusals.specs.Buffers.{Buffers, status_in}
use Rattle.visibility_claims.specs.Whole.{BackendAnswer}
use Rattle.history.specs.Observed.{Observed, asks, is_waiting, is_taken, sees_taken, sees_call, sees_answer}
use Rattle.history.specs.Call.{Writer, Visibility, Protection, Default, Register, Unregister, Lock, Unlock, Enable, Call, Write, Read, Answer, Result, Effect, gives_writer, gives, sees_writer, sees}
use Rattle.history.specs.History.{History, none, call, call_with_other_lengths, refused_build}
use Rattle.history.proofs.Bits.{clash}
use Rattle.history.proofs.Buffers.{Stands}
use Rattle.history.proofs.Is.{is}
use Rattle.history.proofs.Refused.{other_lengths_unseen}
use Rattle.history.proofs.Answers.{answer_stands}
use Rattle.history.proofs.Passed.{Fitting}
use Rattle.history.proofs.Lengths.{tables_fitting, set_fitting}
use Rattle.history.proofs.Fittings.{visibility_long, answer_long, protection_long, default_long, register_long, unregister_long}
use Rattle.history.proofs.Calls.{visibility_stands, tables_stand, set_stands}
use Rattle.history.proofs.Aging.{Snp, answer_aged, tables_aged, set_aged, protection_aged, default_aged, unregister_aged, register_aged, visibility_aged}
use Rattle.history.proofs.Others.{protection_stands, default_stands, unregister_stands, register_stands}
use Rattle.history.proofs.Frame.{Framed, After, frame}

-- ---- what every call keeps, every list of calls keeps

pub record Keeps (K : Buffers → Observed → Type 0) : Type 0 where
  pub halts : (w : Buffers) (o : Observed) → K w o → o.halted ≡ eqb (status_in w.state) refusal.halted
  pub step : (c : Call) (w : Buffers) (o : Observed) → K w o → After K c w o

module _ (K : Buffers → Observed → Type 0) (f : Keeps K) where
  pub history_keeps : {w : Buffers} {a : Observed} {v : Buffers} {o : Observed} → History w a v o → K w a → K v o
  history_keeps none k = k
  history_keeps (call {left = u} {after = v} {seen = o} h c r m) k =
      subst (λ (X : Effect (Result c)). K X.buffers (sees c X.answer X.buffers.pages o)) (sym (is m)) (f.step c u o (history_keeps h k))
  history_keeps (call_with_other_lengths {left = u} {lent = x} {after = y} {seen = o} h c r m s) k =
      subst (λ (p : Observed). K u p)
      (sym (ap (λ (X : Effect (Result c)). sees c X.answer X.buffers.pages o) (is m) ∙ other_lengths_unseen c u x o (f.halts u o (history_keeps h k)) s)) (history_keeps h k)
  history_keeps (refused_build h ram i t l r m n) k = history_keeps h k

-- ---- parts

-- a part Q that every call keeps where P stands
abbrev pub KeepsWith : (P Q : Buffers → Observed → Type 0) → Type 0
KeepsWith P Q = (c : Call) (w : Buffers) (o : Observed) → P w o → Q w o → After Q c w o

-- one that is of the buffers alone
abbrev pub InBuffers : (Buffers → Type 0) → Buffers → Observed → Type 0
InBuffers K w o = K w

pub record Both (P Q : Buffers → Observed → Type 0) (w : Buffers) (o : Observed) : Type 0 where
  pub first : P w o
  pub second : Q w o

-- THE PRODUCT LAW: one more part, and nothing that is kept is proved again
pub product : {P Q : Buffers → Observed → Type 0} → Keeps P → KeepsWith P Q → Keeps (Both P Q)
product f g = record { halts = λ w o k. f.halts w o k.first; step = λ c w o k. record { first = f.step c w o k.first; second = g c w o k.first k.second } }

-- ---- the marks

pub stands_framed : (es : List MemoryRangeWithNode) → Framed (Stands es)
stands_framed es = record { tables = λ w o t _ k. tables_stand es w o k t; setting = λ w o k. set_stands es w o k 19 1 (omega arith) (omega arith) }

module _ (es : List MemoryRangeWithNode) (w : Buffers) (o : Observed) (k : Stands es w o) where
  stands_writer : (a : Writer) → Stands es (gives_writer a w).buffers (sees_writer a (gives_writer a w).answer (gives_writer a w).buffers.pages o)
  stands_writer (Visibility vtl share list) = visibility_stands es w o k vtl share list
  stands_writer (Protection vtl flags list) = protection_stands es w o k vtl flags list
  stands_writer (Default vtl flags) = default_stands es w o k vtl flags
  stands_writer (Register vtl page source checked new) = register_stands es w o k vtl page source checked new
  stands_writer (Unregister vtl page) = unregister_stands es w o k vtl page
  stands_writer (Lock vtl list) = frame (stands_framed es) (Write (Lock vtl list)) refl w o k
  stands_writer (Unlock vtl list) = frame (stands_framed es) (Write (Unlock vtl list)) refl w o k
  stands_writer Enable = frame (stands_framed es) (Write Enable) refl w o k

  stands_step : (c : Call) → After (Stands es) c w o
  stands_step (Write a) = stands_writer a
  stands_step (Read q) = frame (stands_framed es) (Read q) refl w o k
  stands_step (Answer g) = answer_stands es w o k g

pub stands_kept : (es : List MemoryRangeWithNode) → Keeps (Stands es)
stands_kept es = record { halts = λ w o k. k.halts; step = λ c w o k. stands_step es w o k c }

-- ---- on SNP the ages

snp_framed : Framed Snp
snp_framed = record { tables = λ w o t _ k. tables_aged w o k t; setting = λ w o k. set_aged w o k 19 1 (omega arith) }

module _ (es : List MemoryRangeWithNode) (w : Buffers) (o : Observed) (k : Stands es w o) (n : Snp w o) where
  aged_writer : (a : Writer) → Snp (gives_writer a w).buffers (sees_writer a (gives_writer a w).answer (gives_writer a w).buffers.pages o)
  aged_writer (Visibility vtl share list) = visibility_aged es w o k n vtl share list
  aged_writer (Protection vtl flags list) = protection_aged es w o k n vtl flags list
  aged_writer (Default vtl flags) = default_aged es w o k n vtl flags
  aged_writer (Register vtl page source checked new) = register_aged es w o k n vtl page source checked new
  aged_writer (Unregister vtl page) = unregister_aged es w o k n vtl page
  aged_writer (Lock vtl list) = frame snp_framed (Write (Lock vtl list)) refl w o n
  aged_writer (Unlock vtl list) = frame snp_framed (Write (Unlock vtl list)) refl w o n
  aged_writer Enable = frame snp_framed (Write Enable) refl w o n

  aged_step : (c : Call) → After Snp c w o
  aged_step (Write a) = aged_writer a
  aged_step (Read q) = frame snp_framed (Read q) refl w o n
  aged_step (Answer g) = answer_aged es w o k n g

abbrev pub SnpAges : IsolationType → Buffers → Observed → Type 0
SnpAges i w o = is_snp i ≡ true → Snp w o

pub ages_kept : (es : List MemoryRangeWithNode) (i : IsolationType) → KeepsWith (Stands es) (SnpAges i)
ages_kept es i c w o k n e = aged_step es w o k (n e) c

-- ---- the lengths

abbrev pub Lengths : Buffers → Observed → Type 0
Lengths = InBuffers Fitting

lengths_framed : Framed Lengths
lengths_framed = record { tables = λ w o t e k. tables_fitting w t e k; setting = λ w o k. set_fitting w 19 1 (omega arith) (omega arith) k }

module _ (w : Buffers) (o : Observed) (k : Fitting w) where
  long_writer : (a : Writer) → Fitting (gives_writer a w).buffers
  long_writer (Visibility vtl share list) = visibility_long w k vtl share list
  long_writer (Protection vtl flags list) = protection_long w k vtl flags list
  long_writer (Default vtl flags) = default_long w k vtl flags
  long_writer (Register vtl page source checked new) = register_long w k vtl page source checked new
  long_writer (Unregister vtl page) = unregister_long w k vtl page
  long_writer (Lock vtl list) = frame lengths_framed (Write (Lock vtl list)) refl w o k
  long_writer (Unlock vtl list) = frame lengths_framed (Write (Unlock vtl list)) refl w o k
  long_writer Enable = frame lengths_framed (Write Enable) refl w o k

  long_step : (c : Call) → Fitting (gives c w).buffers
  long_step (Write a) = long_writer a
  long_step (Read q) = frame lengths_framed (Read q) refl w o k
  long_step (Answer g) = answer_long w k g

pub lengths_kept : (P : Buffers → Observed → Type 0) → KeepsWith P Lengths
lengths_kept P c w o _ k = long_step w o k c

-- what every request's end needs
abbrev pub Lent : List MemoryRangeWithNode → Buffers → Observed → Type 0
Lent es = Both (Stands es) Lengths

pub lent_kept : (es : List MemoryRangeWithNode) → Keeps (Lent es)
lent_kept es = product (stands_kept es) (lengths_kept (Stands es))

-- ---- nothing is listed with nothing under way and nothing halted

abbrev pub Unlisted : Buffers → Observed → Type 0
Unlisted w o = is_waiting o ≡ false → o.halted ≡ false → o.listed ≡ []

module _ (w v : Buffers) (o : Observed) (k : Unlisted w o) where
  unlisted_call : (ps : List ℕ) (r : Reply) (p : List ℕ) → Unlisted v (sees_call ps r p o)
  unlisted_call ps r p = go (asks r) refl
    where
      go : (b : Bool) → asks r ≡ b → Unlisted v (cond b (record { op = r; table = p; halted = o.halted; listed = ps; last = o.last; age = o.age }) o)
      go true e = λ f _. clash (asks r) e f
      go false e = k

  unlisted_answer : (g : BackendAnswer) (r : Reply) (p : List ℕ) → Unlisted v (sees_answer g r p o)
  unlisted_answer g r p = go (is_taken o r)
    where
      go : (b : Bool) → Unlisted v (cond b (sees_taken g r p o) o)
      go true = λ f h. ap₂ (λ (a b : Bool). cond (a || b) o.listed []) f h
      go false = k

  unlisted_writer : (a : Writer) (r : Reply) (p : List ℕ) → Unlisted v (sees_writer a r p o)
  unlisted_writer (Visibility vtl share list) r p = unlisted_call (pages_of list) r p
  unlisted_writer (Protection vtl flags list) r p = unlisted_call [] r p
  unlisted_writer (Default vtl flags) r p = unlisted_call [] r p
  unlisted_writer (Register vtl page source checked new) r p = unlisted_call [] r p
  unlisted_writer (Unregister vtl page) r p = unlisted_call [] r p
  unlisted_writer (Lock vtl list) r p = k
  unlisted_writer (Unlock vtl list) r p = k
  unlisted_writer Enable r p = k

pub unlisted_kept : (P : Buffers → Observed → Type 0) → KeepsWith P Unlisted
unlisted_kept P (Write a) w o _ k = unlisted_writer w (gives_writer a w).buffers o k a (gives_writer a w).answer (gives_writer a w).buffers.pages
unlisted_kept P (Read q) w o _ k = k
unlisted_kept P (Answer g) w o _ k = unlisted_answer w (gives (Answer g) w).buffers o k g (gives (Answer g) w).answer (gives (Answer g) w).buffers.pages
