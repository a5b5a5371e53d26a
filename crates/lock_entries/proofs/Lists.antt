-- What the calls do to the lists of each VTL, where the tables keep lists; and that a call with a number changes nothing. Assumes nothing.
use mathlib.Core.Path.{◌≡◌, refl, sym, ap, ap₂, subst, ◌∙◌}
use mathlib.Core.Bool.{Bool, true, false, cond}
use mathlib.Core.List.{List, [], ◌∷◌, ◌++◌}
use Prim.Native.Nat.{ℕ}
use lib.Dec.{eqb}
use lib.ListN.{length}
use borrow.Author.Tests.{eq-eqb, ne_eqb}
use Rattle.permissions.specs.declared.GuestVtl.{GuestVtl}
use Rattle.permissions.specs.declared.GuestVtl.TheVariants.{Vtl0, Vtl1}
use Rattle.permissions.specs.Flags.{vtl_of}
use Rattle.page_list.specs.Pages.{pages_of}
use Rattle.lock_table.specs.Locks.{used, held_in, has_room, one_more, equal_from, without, Fit, room_for, unlocked, table_of, lists_of, lock_code, lock_words, unlock_code, unlock_words}
use Rattle.lock_table.specs.Locks as locks
use Rattle.lock_table.proofs.Lists.{table_length, table_held, table_lock, table_lock_code}
use Rattle.lock_table.proofs.Unlocked.{none_unlocked, table_unlock, table_unlock_code}
use Rattle.lock_table.proofs.Fits.{lock_fits, unlock_fits}
use Rattle.call_refusals.specs.Buffers.{locks_of}
use Rattle.lock_entries.specs.Calls.{Kept, ended, lock_refusal, with_locks, lock_taken, lock_of, unlock_taken, unlock_of}
use Rattle.lock_entries.specs.Lists.{Lists, lists_at, with_lists, Holds, Makes}
use Rattle.lock_entries.proofs.Parts.{same_locks, length_with, locks_with, other_locks0, other_locks1, overlays_with}

-- ---- a page is found locked just where one of the lists has it

pub held_as_listed : (t : List ℕ) (x : Lists) → Holds t x → (v : GuestVtl) (p : ℕ) → held_in (locks_of t v) p ≡ locks.held (lists_at x v) p
held_as_listed t x h v p = ap (λ (r : List ℕ). held_in r p) (h.words v) ∙ table_held (lists_at x v) (h.fit v) p

-- ---- the tables with other lists of a VTL

module _ (t : List ℕ) (x : Lists) (h : Holds t x) (ls : List (List ℕ)) (fit : Fit ls) where
  abbrev made : GuestVtl → List ℕ
  made v = with_locks t v (table_of ls)

  holds_words : (v w : GuestVtl) → locks_of (made v) w ≡ table_of (lists_at (with_lists x v ls) w)
  holds_words Vtl0 Vtl0 = locks_with t (table_of ls) h.long (table_length ls fit) Vtl0
  holds_words Vtl0 Vtl1 = other_locks1 t (table_of ls) h.long (table_length ls fit) ∙ h.words Vtl1
  holds_words Vtl1 Vtl0 = other_locks0 t (table_of ls) h.long (table_length ls fit) ∙ h.words Vtl0
  holds_words Vtl1 Vtl1 = locks_with t (table_of ls) h.long (table_length ls fit) Vtl1

  holds_fit : (v w : GuestVtl) → Fit (lists_at (with_lists x v ls) w)
  holds_fit Vtl0 Vtl0 = fit
  holds_fit Vtl0 Vtl1 = h.fit Vtl1
  holds_fit Vtl1 Vtl0 = h.fit Vtl0
  holds_fit Vtl1 Vtl1 = fit

  makes : (v : GuestVtl) → Makes t (with_lists x v ls) (ended (made v) 0)
  makes v =
      record {
        lists = record { long = length_with t (table_of ls) h.long (table_length ls fit) v; fit = holds_fit v; words = holds_words v };
        overlays = overlays_with t (table_of ls) h.long (table_length ls fit) v;
        reply = refl;
      }

-- ---- a call that isn't refused before its table is looked at

module _ (s t : List ℕ) (vtl : ℕ) (l : List ℕ) (z : lock_refusal s (length t) vtl l ≡ 0) where
  abbrev v : GuestVtl
  v = vtl_of vtl

  abbrev ps : List ℕ
  ps = pages_of l

  lock_is : lock_of s t vtl l ≡ lock_taken t v ps
  unfolding lock_of
  lock_is = rw (eq-eqb (lock_refusal s (length t) vtl l) 0 z) refl

  unlock_is : unlock_of s t vtl l ≡ unlock_taken t v ps
  unfolding unlock_of
  unlock_is = rw (eq-eqb (lock_refusal s (length t) vtl l) 0 z) refl

  module _ (x : Lists) (h : Holds t x) where
    abbrev ls : List (List ℕ)
    ls = lists_at x v

    pub lock_on : lock_of s t vtl l ≡ cond (room_for ls (length ps)) (ended (with_locks t v (table_of (ls ++ (ps ∷ [])))) 0) (ended t 17)
    lock_on =
        lock_is
        ∙ ap (λ (r : List ℕ). ended (with_locks t v (lock_words r ps)) (lock_code r ps)) (h.words v)
        ∙ ap₂ (λ (r : List ℕ) (n : ℕ). ended (with_locks t v r) n) (table_lock ls (h.fit v) ps) (table_lock_code ls (h.fit v) ps) ∙ go (room_for ls (length ps))
      where
        go : (b : Bool) → ended (with_locks t v (cond b (table_of (ls ++ (ps ∷ []))) (table_of ls))) (cond b 0 17) ≡ cond b (ended (with_locks t v (table_of (ls ++ (ps ∷ [])))) 0) (ended t 17)
        go true = refl
        go false = ap (λ (r : List ℕ). ended r 17) (ap (with_locks t v) (sym (h.words v)) ∙ same_locks t v)

    -- one list more
    pub lock_room : room_for ls (length ps) ≡ true → Makes t (with_lists x v (ls ++ (ps ∷ []))) (lock_of s t vtl l)
    lock_room r =
        subst (λ (k : Kept). Makes t (with_lists x v (ls ++ (ps ∷ []))) k) (sym (lock_on ∙ ap (λ (b : Bool). cond b (ended (with_locks t v (table_of (ls ++ (ps ∷ [])))) 0) (ended t 17)) r))
        (makes t x h (ls ++ (ps ∷ [])) (lock_fits ls ps r) v)

    pub lock_full : room_for ls (length ps) ≡ false → lock_of s t vtl l ≡ ended t 17
    lock_full r = lock_on ∙ ap (λ (b : Bool). cond b (ended (with_locks t v (table_of (ls ++ (ps ∷ [])))) 0) (ended t 17)) r

    pub unlock_on : unlock_of s t vtl l ≡ ended (with_locks t v (table_of (unlocked ls ps))) (cond (locks.kept ls ps) 0 18)
    unlock_on =
        unlock_is
        ∙ ap (λ (r : List ℕ). ended (with_locks t v (unlock_words r ps)) (unlock_code r ps)) (h.words v)
        ∙ ap₂ (λ (r : List ℕ) (n : ℕ). ended (with_locks t v r) n) (table_unlock ls (h.fit v) ps) (table_unlock_code ls (h.fit v) ps)

    -- the first equal list is gone, and the last stands in its place
    pub unlock_found : locks.kept ls ps ≡ true → Makes t (with_lists x v (unlocked ls ps)) (unlock_of s t vtl l)
    unlock_found r =
        subst (λ (k : Kept). Makes t (with_lists x v (unlocked ls ps)) k) (sym (unlock_on ∙ ap (λ (b : Bool). ended (with_locks t v (table_of (unlocked ls ps))) (cond b 0 18)) r))
        (makes t x h (unlocked ls ps) (unlock_fits ls ps (h.fit v)) v)

    pub unlock_none : locks.kept ls ps ≡ false → unlock_of s t vtl l ≡ ended t 18
    unlock_none r =
        unlock_on
        ∙ ap₂ (λ (y : List (List ℕ)) (b : Bool). ended (with_locks t v (table_of y)) (cond b 0 18)) (none_unlocked ls ps r) r
        ∙ ap (λ (y : List ℕ). ended y 18) (ap (with_locks t v) (sym (h.words v)) ∙ same_locks t v)

-- ---- any words: a call with a number changes nothing

as_it_was : (t : List ℕ) (v : GuestVtl) (w : List ℕ) (n : ℕ) (b : Bool) → (◌≡◌ {A = ℕ} (cond b 0 n) 0 → ⊥) → with_locks t v (cond b w (locks_of t v)) ≡ t
as_it_was t v w n true h = absurd (h refl)
as_it_was t v w n false h = same_locks t v

lock_kept : (t : List ℕ) (v : GuestVtl) (ps : List ℕ) → (lock_code (locks_of t v) ps ≡ 0 → ⊥) → with_locks t v (lock_words (locks_of t v) ps) ≡ t
lock_kept t v ps = let x : List ℕ = locks_of t v in as_it_was t v (one_more x ps) 17 (has_room x (length ps))

unlock_kept : (t : List ℕ) (v : GuestVtl) (ps : List ℕ) → (unlock_code (locks_of t v) ps ≡ 0 → ⊥) → with_locks t v (unlock_words (locks_of t v) ps) ≡ t
unlock_kept t v ps = let x : List ℕ = locks_of t v in as_it_was t v (without x (used x) (equal_from x (used x) 0 ps)) 18 (locks.kept (lists_of x) ps)

-- a call is refused, or its table is looked at
decided : (t : List ℕ) (n : ℕ) (taken : Kept) (b : Bool) → ((taken.reply.number ≡ 0 → ⊥) → taken.tables ≡ t) → ((cond b taken (ended t n)).reply.number ≡ 0 → ⊥)
    → (cond b taken (ended t n)).tables ≡ t
decided t n taken true f h = f h
decided t n taken false f h = refl

module _ (s t : List ℕ) (vtl : ℕ) (l : List ℕ) where
  pub lock_nothing : ((lock_of s t vtl l).reply.number ≡ 0 → ⊥) → (lock_of s t vtl l).tables ≡ t
  unfolding lock_of
  lock_nothing = decided t (lock_refusal s (length t) vtl l) (lock_taken t (vtl_of vtl) (pages_of l)) (eqb (lock_refusal s (length t) vtl l) 0) (lock_kept t (vtl_of vtl) (pages_of l))

  pub unlock_nothing : ((unlock_of s t vtl l).reply.number ≡ 0 → ⊥) → (unlock_of s t vtl l).tables ≡ t
  unfolding unlock_of
  unlock_nothing = decided t (lock_refusal s (length t) vtl l) (unlock_taken t (vtl_of vtl) (pages_of l)) (eqb (lock_refusal s (length t) vtl l) 0) (unlock_kept t (vtl_of vtl) (pages_of l))

  pub lock_refused : (lock_refusal s (length t) vtl l ≡ 0 → ⊥) → lock_of s t vtl l ≡ ended t (lock_refusal s (length t) vtl l)
  unfolding lock_of
  lock_refused h = rw (ne_eqb (lock_refusal s (length t) vtl l) 0 h) refl

  pub unlock_refused : (lock_refusal s (length t) vtl l ≡ 0 → ⊥) → unlock_of s t vtl l ≡ ended t (lock_refusal s (length t) vtl l)
  unfolding unlock_of
  unlock_refused h = rw (ne_eqb (lock_refusal s (length t) vtl l) 0 h) refl
