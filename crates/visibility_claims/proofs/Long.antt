-- A list of 512 pages is taken, and one of 513 pages refused (5). Assumes nothing.
use native.Mathlib.Omega.{arith}
use mathlib.Core.Path.{◌≡◌, refl, ap, ap₂, ◌∙◌}
use mathlib.Core.Bool.{true, false, not}
use mathlib.Core.List.{List, [], ◌∷◌, ◌++◌}
use Prim.Native.Nat.{ℕ, zero, suc, ◌+◌, ◌*◌, ◌/◌, ◌%◌, ◌≤◌, ◌<◌}
use lib.ListN.{length, get_or}
use lib.Seq.{get_or-append-add}
use borrow.Author.Tests.{ne_eqb, eq-eqb, le-ltb, lt-ltb}
use Rattle.laws.specs.Ranges.{between_true}
use Rattle.layout.specs.Layout.{entries_of, ram_byte}
use Rattle.permissions.specs.declared.GuestVtl.TheVariants.{Vtl0}
use Rattle.page_list.specs.Pages.{number_of, number_at, numbers_from, pages_of, is_long, among, repeats, is_ragged}
use Rattle.overlay_table.specs.Overlays.{place_from}
use Rattle.protector_state.specs.State.{first_phases, phase_of, entries_in}
use Rattle.call_refusals.specs.Buffers.{overlays_of, locks_of, fits, status_in}
use Rattle.call_refusals.specs.Refusals.{ready, page_refusal, first_refusal, visibility_refusal}
use Rattle.visibility_claims.specs.Table.{bytes_from, broad, Lists}

-- n pages from p on
unfoldable up_from : ℕ → ℕ → List ℕ
up_from p zero = []
up_from p (suc n) = p ∷ up_from (suc p) n

-- ---- the pages are read from the bytes

module _ (a b : ℕ) (l : List ℕ) where
  abbrev eight : List ℕ
  eight = a ∷ b ∷ 0 ∷ 0 ∷ 0 ∷ 0 ∷ 0 ∷ 0 ∷ []

  later : (j k : ℕ) → j ≡ 8 + k → get_or (eight ++ l) j 0 ≡ get_or l k 0
  later j k e = ap (λ (i : ℕ). get_or (eight ++ l) i 0) e ∙ get_or-append-add eight l k 0

  number_later : (i : ℕ) → number_at (eight ++ l) (suc i) ≡ number_at l i
  unfolding number_at
  number_later i =
      rw (
        later (8 * suc i) (8 * i) (omega arith),
        later (8 * suc i + 1) (8 * i + 1) (omega arith),
        later (8 * suc i + 2) (8 * i + 2) (omega arith),
        later (8 * suc i + 3) (8 * i + 3) (omega arith),
        later (8 * suc i + 4) (8 * i + 4) (omega arith),
        later (8 * suc i + 5) (8 * i + 5) (omega arith),
        later (8 * suc i + 6) (8 * i + 6) (omega arith),
        later (8 * suc i + 7) (8 * i + 7) (omega arith),
      )

  numbers_later : (k i : ℕ) → numbers_from (eight ++ l) (suc i) k ≡ numbers_from l i k
  unfolding numbers_from
  numbers_later zero i = refl
  numbers_later (suc k) i = ap₂ (λ (x : ℕ) (xs : List ℕ). x ∷ xs) (number_later i) (numbers_later k (suc i))

numbers_read : (n p : ℕ) → numbers_from (bytes_from p n) 0 n ≡ up_from p n
unfolding numbers_from bytes_from up_from number_at number_of
numbers_read zero p = refl
numbers_read (suc n) p =
    let e : p % 256 + 0x100 * (p / 256) + 0x1_0000 * 0 + 0x100_0000 * 0 + 0x1_0000_0000 * 0 + 0x100_0000_0000 * 0 + 0x1_0000_0000_0000 * 0 + 0x100_0000_0000_0000 * 0 ≡ p = omega arith in
    ap₂ (λ (x : ℕ) (xs : List ℕ). x ∷ xs) e (numbers_later (p % 256) (p / 256) (bytes_from (suc p) n) n 0 ∙ numbers_read n (suc p))

length_bytes : (n p : ℕ) → length (bytes_from p n) ≡ 8 * n
unfolding bytes_from
length_bytes zero p = refl
length_bytes (suc n) p = omega (arith, length_bytes n (suc p))

-- ---- no page stands twice, and none is refused

above : (n p q : ℕ) → q < p → among (up_from p n) q ≡ false
unfolding up_from among
above zero p q h = refl
above (suc n) p q h = rw (ne_eqb q p (λ e. omega arith)) (above n (suc p) q (omega arith))

no_repeat : (n p : ℕ) → repeats (up_from p n) ≡ false
unfolding up_from repeats
no_repeat zero p = refl
no_repeat (suc n) p = rw (above n (suc p) p (omega arith)) (no_repeat n (suc p))

none_refused : (f : ℕ → ℕ) (b n p : ℕ) → ((q : ℕ) → q < b → f q ≡ 0) → p + n ≤ b → first_refusal f (up_from p n) ≡ 0
unfolding up_from first_refusal
none_refused f b zero p h l = refl
none_refused f b (suc n) p h l = rw (h p (omega arith)) (none_refused f b n (suc p) h (omega arith))

page_taken : (q : ℕ) → q < 512 → page_refusal (entries_in broad.state) (overlays_of broad.tables Vtl0) (locks_of broad.tables Vtl0) true q ≡ 0
unfolding entries_of ram_byte place_from among
page_taken q h = rw (between_true 0 2097152 (q * 4096) (omega arith) (omega arith))

module _ (n : ℕ) where
  pages_are : pages_of (bytes_from 0 n) ≡ up_from 0 n
  pages_are = let e : length (bytes_from 0 n) / 8 ≡ n = omega (arith, length_bytes n 0) in ap (numbers_from (bytes_from 0 n) 0) e ∙ numbers_read n 0

  short : n ≤ 512 → is_long (bytes_from 0 n) ≡ false
  short h = le-ltb 4096 (length (bytes_from 0 n)) (omega (arith, length_bytes n 0))

  whole_pages_lem : is_ragged (bytes_from 0 n) ≡ false
  whole_pages_lem = ap not (eq-eqb (length (bytes_from 0 n) % 8) 0 (omega (arith, length_bytes n 0)))

broad_fits : fits broad ≡ true
unfolding entries_of
broad_fits = refl

broad_idle : status_in broad.state ≡ 0
unfolding phase_of first_phases
broad_idle = refl

-- THE CLAIMS
pub lists : Lists
unfolding ready visibility_refusal
lists =
    record {
      taken_512 = rw (broad_fits, broad_idle, short 512 (omega arith), pages_are 512, no_repeat 512 0, whole_pages_lem 512)
          (none_refused (page_refusal (entries_in broad.state) (overlays_of broad.tables Vtl0) (locks_of broad.tables Vtl0) true) 512 512 0 page_taken (omega arith));
      refused_513 = rw (broad_fits, broad_idle, lt-ltb 4096 (length (bytes_from 0 513)) (omega (arith, length_bytes 513 0)));
    }
