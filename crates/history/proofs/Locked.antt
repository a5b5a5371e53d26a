-- Locked lists stay lists that fit, whatever is locked and unlocked. Assumes nothing.
use mathlib.Core.Path.{◌≡◌, refl, sym, subst}
use mathlib.Core.Bool.{Bool, true, false, cond}
use mathlib.Core.List.{List, [], ◌∷◌, ◌++◌}
use Prim.Native.Nat.{ℕ, ◌≤◌}
use lib.Dec.{eqb}
use lib.ListN.{length}
use borrow.Author.Tests.{eqb-true, eqb-false, ltb-false}
use Rattle.laws.specs.Refusal.{when_passed}
use Rattle.call_refusals.proofs.Laws.{is_ready}
use Rattle.layout.specs.declared.MemoryRangeWithNode.{MemoryRangeWithNode}
use Rattle.permissions.specs.declared.GuestVtl.{GuestVtl}
use Rattle.permissions.specs.declared.GuestVtl.TheVariants.{Vtl0, Vtl1}
use Rattle.permissions.specs.Flags.{vtl_of}
use Rattle.page_list.specs.Pages.{pages_of, is_long}
use Rattle.request_pages.proofs.Table.{pages_few}
use Rattle.lock_table.specs.Locks as locks
use Rattle.lock_table.specs.Locks.{Fit, room_for, same, last_of, all_but_last, last_first, unlocked}
use Rattle.call_refusals.specs.Buffers.{overlays_of, locks_of}
use Rattle.lock_entries.specs.Calls.{Kept, ended, lock_refusal, lock_of, unlock_of}
use Rattle.lock_entries.specs.Lists.{Lists, lists, lists_at, with_lists, Holds, Makes}
use Rattle.lock_entries.proofs.Lists.{lock_room, lock_full, unlock_found, unlock_none, lock_refused, unlock_refused}
use Rattle.history.specs.Tables.{EachShort, Overlays, Tables}

-- ---- each list short

short_more : (ls : List (List ℕ)) (l : List ℕ) → EachShort ls → length l ≤ 512 → EachShort (ls ++ (l ∷ []))
unfolding EachShort
short_more [] l k h = (h, tt)
short_more (x ∷ ls) l k h = (k.0, short_more ls l k.1 h)

short_last : (x : List ℕ) (xs : List (List ℕ)) → length x ≤ 512 → EachShort xs → (length (last_of x xs) ≤ 512) × EachShort (all_but_last x xs)
unfolding EachShort last_of all_but_last
short_last x [] h k = (h, tt)
short_last x (y ∷ ys) h k = let d = short_last y ys k.0 k.1 in (d.0, (h, d.1))

short_first : (xs : List (List ℕ)) → EachShort xs → EachShort (last_first xs)
unfolding EachShort last_first
short_first [] k = tt
short_first (x ∷ xs) k = short_last x xs k.0 k.1

short_unlocked : (ls : List (List ℕ)) (l : List ℕ) → EachShort ls → EachShort (unlocked ls l)
unfolding EachShort unlocked
short_unlocked [] l k = tt
short_unlocked (x ∷ xs) l k = go (same x l) (short_unlocked xs l k.1)
  where
    go : (b : Bool) → EachShort (unlocked xs l) → EachShort (cond b (last_first xs) (x ∷ unlocked xs l))
    go true m = short_first xs k.1
    go false m = (k.0, m)

-- ---- a call on locks leaves lists that fit, and the overlays as they were

pub record Relocked (es : List MemoryRangeWithNode) (t u : List ℕ) : Type 0 where
  pub tables : Tables es u
  pub same : (v : GuestVtl) → overlays_of u v ≡ overlays_of t v

module _ (es : List MemoryRangeWithNode) (s t : List ℕ) (k : Tables es t) where
  abbrev x : Lists
  x = lists (k.locks Vtl0).lists (k.locks Vtl1).lists

  x_fit : (v : GuestVtl) → Fit (lists_at x v)
  x_fit Vtl0 = (k.locks Vtl0).fit
  x_fit Vtl1 = (k.locks Vtl1).fit

  x_words : (v : GuestVtl) → locks_of t v ≡ locks.table_of (lists_at x v)
  x_words Vtl0 = (k.locks Vtl0).words
  x_words Vtl1 = (k.locks Vtl1).words

  x_short : (v : GuestVtl) → EachShort (lists_at x v)
  x_short Vtl0 = (k.locks Vtl0).short
  x_short Vtl1 = (k.locks Vtl1).short

  -- the tables hold these lists, in the form that the laws of `lock_entries` ask for
  pub locks_held : Holds t (lists (k.locks Vtl0).lists (k.locks Vtl1).lists)
  locks_held = record { long = k.long; fit = x_fit; words = x_words }

  with_short : (v u : GuestVtl) (ls : List (List ℕ)) → EachShort ls → EachShort (lists_at (with_lists x v ls) u)
  with_short Vtl0 Vtl0 ls h = h
  with_short Vtl0 Vtl1 ls h = x_short Vtl1
  with_short Vtl1 Vtl0 ls h = x_short Vtl0
  with_short Vtl1 Vtl1 ls h = h

  same_tables : Relocked es t t
  same_tables = record { tables = k; same = λ v. refl }

  made_tables : (v : GuestVtl) (ls : List (List ℕ)) → EachShort ls → (y : Kept) → Makes t (with_lists x v ls) y → Relocked es t y.tables
  made_tables v ls h y m =
      record {
        tables = record {
          long = m.lists.long;
          overlays = λ u. subst (λ (o : List ℕ). Overlays es o) (sym (m.overlays u)) (k.overlays u);
          locks = λ u. record { lists = lists_at (with_lists x v ls) u; fit = m.lists.fit u; short = with_short v u ls h; words = m.lists.words u };
        };
        same = m.overlays;
      }

  module _ (vtl : ℕ) (l : List ℕ) where
    abbrev v : GuestVtl
    v = vtl_of vtl

    abbrev ls : List (List ℕ)
    ls = lists_at x v

    abbrev ps : List ℕ
    ps = pages_of l

    few : lock_refusal s (length t) vtl l ≡ 0 → length ps ≤ 512
    unfolding lock_refusal
    few z = pages_few l (ltb-false 4096 (length l) (when_passed (is_long l) 4 _ (is_ready s _ _ z).goes).0)

    gave : (y : Kept) (n : ℕ) → y ≡ ended t n → Relocked es t y.tables
    gave y n e = subst (λ (y : Kept). Relocked es t y.tables) (sym e) same_tables

    pub lock_tables_lem : Relocked es t (lock_of s t vtl l).tables
    lock_tables_lem = go (eqb (lock_refusal s (length t) vtl l) 0) refl
      where
        room : lock_refusal s (length t) vtl l ≡ 0 → (b : Bool) → room_for ls (length ps) ≡ b → Relocked es t (lock_of s t vtl l).tables
        room z true r = made_tables v (ls ++ (ps ∷ [])) (short_more ls ps (x_short v) (few z)) (lock_of s t vtl l) (lock_room s t vtl l z x locks_held r)
        room z false r = gave (lock_of s t vtl l) 17 (lock_full s t vtl l z x locks_held r)

        go : (b : Bool) → eqb (lock_refusal s (length t) vtl l) 0 ≡ b → Relocked es t (lock_of s t vtl l).tables
        go true e = room (eqb-true _ 0 e) (room_for ls (length ps)) refl
        go false e = gave (lock_of s t vtl l) _ (lock_refused s t vtl l (eqb-false _ 0 e))

    pub unlock_tables : Relocked es t (unlock_of s t vtl l).tables
    unlock_tables = go (eqb (lock_refusal s (length t) vtl l) 0) refl
      where
        found : lock_refusal s (length t) vtl l ≡ 0 → (b : Bool) → locks.kept ls ps ≡ b → Relocked es t (unlock_of s t vtl l).tables
        found z true r = made_tables v (unlocked ls ps) (short_unlocked ls ps (x_short v)) (unlock_of s t vtl l) (unlock_found s t vtl l z x locks_held r)
        found z false r = gave (unlock_of s t vtl l) 18 (unlock_none s t vtl l z x locks_held r)

        go : (b : Bool) → eqb (lock_refusal s (length t) vtl l) 0 ≡ b → Relocked es t (unlock_of s t vtl l).tables
        go true e = found (eqb-true _ 0 e) (locks.kept ls ps) refl
        go false e = gave (unlock_of s t vtl l) _ (unlock_refused s t vtl l (eqb-false _ 0 e))
