-- The limits of the locks (01, "Overlays and locks"): 64 lists and 1,024 pages in all, each VTL on its own. Assumes nothing.
use native.Mathlib.Omega.{arith}
use mathlib.Core.Path.{◌≡◌, refl}
use mathlib.Core.Bool.{true, false}
use mathlib.Core.List.{List, [], ◌∷◌, ◌++◌}
use Prim.Native.Nat.{ℕ, ◌+◌, ◌≤◌, ◌<◌}
use lib.Dec.{ltb, leb}
use lib.ListN.{length, replicate}
use borrow.Author.Tests.{lt-ltb, le-ltb, le-leb, lt-leb}
use Rattle.laws.specs.Bools.{and_true, and_false}
use Rattle.permissions.specs.declared.GuestVtl.{GuestVtl}
use Rattle.permissions.specs.declared.GuestVtl.TheVariants.{Vtl0, Vtl1}
use Rattle.permissions.specs.Flags.{vtl_of}
use Rattle.page_list.specs.Pages.{pages_of}
use Rattle.lock_table.specs.Locks.{total, Fit, room_for, ends, joined, table_of}
use Rattle.call_refusals.specs.Buffers.{tables_len, locks_of}
use Rattle.lock_entries.specs.Calls.{ended, lock_refusal, lock_of}
use Rattle.lock_entries.specs.Lists.{Lists, lists, lists_at, with_lists, Holds, Makes}
use Rattle.lock_entries.proofs.Lists.{lock_room, lock_full}

-- ---- room for n pages beside lists

module _ (ls : List (List ℕ)) (n : ℕ) where
  pub room : length ls < 64 → total ls + n ≤ 1024 → room_for ls n ≡ true
  room h k = and_true (ltb (length ls) 64) (leb (total ls + n) 1024) (lt-ltb (length ls) 64 h) (le-leb (total ls + n) 1024 k)

  many_lists : 64 ≤ length ls → room_for ls n ≡ false
  many_lists h = rw (le-ltb (length ls) 64 h) refl

  many_pages : 1024 < total ls + n → room_for ls n ≡ false
  many_pages h = and_false (ltb (length ls) 64) (leb (total ls + n) 1024) (lt-leb (total ls + n) 1024 h)

module _ (s t : List ℕ) (vtl : ℕ) (l : List ℕ) (z : lock_refusal s (length t) vtl l ≡ 0) (x : Lists) (h : Holds t x) where
  abbrev v : GuestVtl
  v = vtl_of vtl

  abbrev ls : List (List ℕ)
  ls = lists_at x v

  abbrev n : ℕ
  n = length (pages_of l)

  pub list_64 : length ls ≡ 63 → total ls + n ≤ 1024 → Makes t (with_lists x v (ls ++ (pages_of l ∷ []))) (lock_of s t vtl l)
  list_64 e k = lock_room s t vtl l z x h (room ls n (omega (arith, e)) k)

  pub list_65 : length ls ≡ 64 → lock_of s t vtl l ≡ ended t 17
  list_65 e = lock_full s t vtl l z x h (many_lists ls n (omega (arith, e)))

  pub pages_1024 : length ls < 64 → total ls + n ≡ 1024 → Makes t (with_lists x v (ls ++ (pages_of l ∷ []))) (lock_of s t vtl l)
  pages_1024 k e = lock_room s t vtl l z x h (room ls n k (omega (arith, e)))

  pub pages_1025 : total ls + n ≡ 1025 → lock_of s t vtl l ≡ ended t 17
  pages_1025 e = lock_full s t vtl l z x h (many_pages ls n (omega (arith, e)))

-- ---- each VTL on its own: one is full, the other takes a list

abbrev full : List (List ℕ)
full = replicate 64 []

module _ (s t l : List ℕ) where
  pub full_0 : Holds t (lists full []) → lock_refusal s (length t) 0 l ≡ 0 → lock_of s t 0 l ≡ ended t 17
  full_0 h z = list_65 s t 0 l z (lists full []) h refl

  pub free_1 : length (pages_of l) ≤ 1024 → Holds t (lists full []) → lock_refusal s (length t) 1 l ≡ 0 → Makes t (lists full (pages_of l ∷ [])) (lock_of s t 1 l)
  unfolding total
  free_1 k h z = lock_room s t 1 l z (lists full []) h (room [] (length (pages_of l)) (omega arith) (omega (arith, k)))

-- ---- as a build leaves the tables: no list

none_fits : Fit []
unfolding total
none_fits = (omega arith, omega arith)

pub none_locked : Holds (replicate tables_len 0) (lists [] [])
unfolding table_of ends joined
none_locked = record { long = refl; fit = fit; words = words }
  where
    fit : (v : GuestVtl) → Fit (lists_at (lists [] []) v)
    fit Vtl0 = none_fits
    fit Vtl1 = none_fits

    words : (v : GuestVtl) → locks_of (replicate tables_len 0) v ≡ table_of (lists_at (lists [] []) v)
    words Vtl0 = refl
    words Vtl1 = refl
