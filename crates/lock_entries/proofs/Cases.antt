-- A list locked and unlocked again, an empty list, and which list an unlock takes (01, "Overlays and locks"). Assumes nothing.
use native.Mathlib.Omega.{arith}
use mathlib.Core.Path.{◌≡◌, refl, sym, ap, ap₂, subst, ◌∙◌}
use mathlib.Core.Bool.{Bool, true, false, cond}
use mathlib.Core.List.{List, [], ◌∷◌, ◌++◌, append-nil}
use Prim.Native.Nat.{ℕ, ◌<◌}
use lib.ListN.{length}
use Rattle.laws.specs.Bools.{or_right}
use Rattle.permissions.specs.declared.GuestVtl.{GuestVtl}
use Rattle.permissions.specs.declared.GuestVtl.TheVariants.{Vtl0, Vtl1}
use Rattle.permissions.specs.Flags.{vtl_of}
use Rattle.page_list.specs.Pages.{pages_of, numbers_from}
use Rattle.lock_table.specs.Locks.{same, room_for, last_of, all_but_last, last_first, unlocked, table_of}
use Rattle.lock_table.specs.Locks as locks
use Rattle.lock_table.proofs.Lists.{table_length}
use Rattle.lock_table.proofs.Unlocked.{first_unlocked}
use Rattle.lock_table.proofs.Fits.{same_self, lock_fits}
use Rattle.lock_entries.specs.Calls.{Kept, ended, lock_refusal, with_locks, lock_of, unlock_of}
use Rattle.lock_entries.specs.Lists.{Lists, lists, lists_at, with_lists, Holds, Makes}
use Rattle.lock_entries.proofs.Parts.{same_locks, with_twice}
use Rattle.lock_entries.proofs.Lists.{lock_on, lock_room, unlock_on, unlock_found, unlock_none}
use Rattle.lock_entries.proofs.Limits.{room}

-- ---- an empty list takes a place

pub lock_empty : (s t : List ℕ) (vtl : ℕ) → lock_refusal s (length t) vtl [] ≡ 0 → (x : Lists) → Holds t x → length (lists_at x (vtl_of vtl)) < 64
    → Makes t (with_lists x (vtl_of vtl) (lists_at x (vtl_of vtl) ++ ([] ∷ []))) (lock_of s t vtl [])
unfolding numbers_from
lock_empty s t vtl z x h k = lock_room s t vtl [] z x h (room (lists_at x (vtl_of vtl)) 0 k (omega (arith, (h.fit (vtl_of vtl)).1)))

-- ---- locked and unlocked: where no equal list was before, every word is as it was

kept_last : (ls : List (List ℕ)) (l : List ℕ) → locks.kept (ls ++ (l ∷ [])) l ≡ true
unfolding locks.kept
kept_last [] l = rw (same_self l) refl
kept_last (x ∷ ls) l = or_right (same x l) (locks.kept (ls ++ (l ∷ [])) l) (kept_last ls l)

unlocked_last : (ls : List (List ℕ)) (l : List ℕ) → locks.kept ls l ≡ false → unlocked (ls ++ (l ∷ [])) l ≡ ls
unfolding last_first
unlocked_last ls l k = first_unlocked ls l [] l k (same_self l) ∙ append-nil ls

at_with : (x : Lists) (v : GuestVtl) (ls : List (List ℕ)) → lists_at (with_lists x v ls) v ≡ ls
at_with x Vtl0 ls = refl
at_with x Vtl1 ls = refl

module _ (s t : List ℕ) (vtl : ℕ) (l : List ℕ) (z : lock_refusal s (length t) vtl l ≡ 0) (x : Lists) (h : Holds t x) where
  abbrev v : GuestVtl
  v = vtl_of vtl

  abbrev ps : List ℕ
  ps = pages_of l

  abbrev ls : List (List ℕ)
  ls = lists_at x v

  abbrev more : List (List ℕ)
  more = ls ++ (ps ∷ [])

  abbrev then : List ℕ
  then = (lock_of s t vtl l).tables

  pub locked_unlocked : room_for ls (length ps) ≡ true → locks.kept ls ps ≡ false → unlock_of s then vtl l ≡ ended t 0
  locked_unlocked r k =
      let made = (lock_room s t vtl l z x h r).lists in
      let words : then ≡ with_locks t v (table_of more) =
      ap (λ (y : Kept). y.tables) (lock_on s t vtl l z x h ∙ ap (λ (b : Bool). cond b (ended (with_locks t v (table_of more)) 0) (ended t 17)) r) in
      let passes : lock_refusal s (length then) vtl l ≡ 0 = ap (λ (n : ℕ). lock_refusal s n vtl l) (made.long ∙ sym h.long) ∙ z in
      unlock_on s then vtl l passes (with_lists x v more) made
      ∙ ap (λ (y : List (List ℕ)). ended (with_locks then v (table_of (unlocked y ps))) (cond (locks.kept y ps) 0 18)) (at_with x v more)
      ∙ ap₂ (λ (y : List (List ℕ)) (b : Bool). ended (with_locks then v (table_of y)) (cond b 0 18)) (unlocked_last ls ps k) (kept_last ls ps)
      ∙ ap (λ (y : List ℕ). ended y 0)
      (ap (λ (y : List ℕ). with_locks y v (table_of ls)) words ∙ with_twice t (table_of more) h.long (table_length more (lock_fits ls ps r)) (table_of ls) v
      ∙ ap (with_locks t v) (sym (h.words v)) ∙ same_locks t v)

-- ---- of lists that are equal the first goes, and the last takes its place; the same pages in another order are another list

module _ (s t l : List ℕ) (z : lock_refusal s (length t) 0 l ≡ 0) (b : List (List ℕ)) where
  pub unlock_first : pages_of l ≡ 1 ∷ [] → Holds t (lists ((2 ∷ []) ∷ (1 ∷ []) ∷ (1 ∷ 1 ∷ []) ∷ (1 ∷ []) ∷ (3 ∷ []) ∷ []) b)
      → Makes t (lists ((2 ∷ []) ∷ (3 ∷ []) ∷ (1 ∷ 1 ∷ []) ∷ (1 ∷ []) ∷ []) b) (unlock_of s t 0 l)
  unfolding locks.kept same unlocked last_first last_of all_but_last
  unlock_first e h =
      let first : List (List ℕ) = (2 ∷ []) ∷ (1 ∷ []) ∷ (1 ∷ 1 ∷ []) ∷ (1 ∷ []) ∷ (3 ∷ []) ∷ [] in
      subst (λ (q : List ℕ). Makes t (lists (unlocked first q) b) (unlock_of s t 0 l)) e
      (unlock_found s t 0 l z (lists first b) h (ap (locks.kept first) e))

  pub unlock_turned : pages_of l ≡ 4 ∷ 3 ∷ [] → Holds t (lists ((3 ∷ 4 ∷ []) ∷ []) b) → unlock_of s t 0 l ≡ ended t 18
  unfolding locks.kept same
  unlock_turned e h = unlock_none s t 0 l z (lists ((3 ∷ 4 ∷ []) ∷ []) b) h (ap (locks.kept ((3 ∷ 4 ∷ []) ∷ [])) e)
