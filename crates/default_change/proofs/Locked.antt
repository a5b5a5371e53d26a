-- Laws of the search for a locked page, and what it tells. Assumes nothing.
use mathlib.Core.Bool.{Bool, true, false, not, ◌&&◌}
use mathlib.Core.List.{List, [], ◌∷◌}
use mathlib.Core.Logic.{⊎_elim}
use mathlib.Core.Path.{◌≡◌, refl, sym, ap, ap₂, ◌∙◌}
use Prim.Native.Nat.{ℕ, ◌+◌, ◌≤◌, ◌<◌, min}
use native.Mathlib.Numerals.{add-one}
use native.Mathlib.Omega.{arith}
use lib.Dec.{eqb}
use lib.ListN.{length, get_or, take, drop, length-take, drop_of_length-le}
use lib.Seq.{drop-cons, get_or-take}
use borrow.Author.Tests.{eq-eqb, eqb-true}
use Rattle.laws.specs.Bools.{false≢true, and_left, and_right, and_true, or_true, or_left, or_right}
use Rattle.bitmap.specs.Pages.{bit_at}
use Rattle.layout.specs.declared.MemoryRangeWithNode.{MemoryRangeWithNode}
use Rattle.layout.specs.Layout.{is_ram}
use Rattle.page_list.specs.Pages.{among}
use Rattle.page_list.specs.Runs.{part}
use Rattle.overlay_table.specs.Overlays.{is_overlay}
use Rattle.lock_table.specs.Locks.{locked_pages, held_in}
use Rattle.default_change.specs.Barred.{barring, any_of, barred}

-- ---- the loop over the pages
module _ (P : ℕ → Bool) (t : List ℕ) (i n q : ℕ) (h : i < n) (g : i < length t) (e : q ≡ get_or t i 0) where
  here : part t n i ≡ q ∷ part t n (i + 1)
  here =
      drop-cons (take n t) i 0 (omega (arith, length-take n t))
      ∙ ap₂ (λ (x m : ℕ). x ∷ drop m (take n t)) (get_or-take n t i 0 h ∙ sym e) (sym (add-one i))

  module _ (all : Bool) (inv : any_of P (part t n i) ≡ all) where
    pub any_hit : (b : Bool) → b ≡ P q → b ≡ true → true ≡ all
    unfolding any_of
    any_hit b f d = let x : any_of P (part t n i) ≡ true = rw (here, sym f, d) in sym x ∙ inv

    pub any_miss : (b : Bool) → b ≡ P q → b ≡ false → any_of P (part t n (i + 1)) ≡ all
    unfolding any_of
    any_miss b f d = let x : any_of P (part t n i) ≡ any_of P (part t n (i + 1)) = rw (here, sym f, d) refl in sym x ∙ inv

pub any_end : (P : ℕ → Bool) (t : List ℕ) (i n : ℕ) → min n (length t) ≤ i → (all : Bool) → any_of P (part t n i) ≡ all → false ≡ all
unfolding any_of
any_end P t i n h all inv = sym (ap (any_of P) (drop_of_length-le (take n t) {i = i} (omega (arith, length-take n t)))) ∙ inv

-- ---- what it tells: some page of a list, and any

among_any : (P : ℕ → Bool) (l : List ℕ) → any_of P l ≡ true → (p : ℕ) × (P p ≡ true) × (among l p ≡ true)
unfolding any_of among
among_any P [] h = false≢true h
among_any P (x ∷ l) h =
    ⊎_elim
    (λ (e : P x ≡ true). (x, e, or_left (eqb x x) (among l x) (eq-eqb x x refl)))
    (λ (e : any_of P l ≡ true). let m = among_any P l e in (m.0, m.1, or_right (eqb m.0 x) (among l m.0) m.2))
    (or_true (P x) (any_of P l) h)

any_among : (P : ℕ → Bool) (l : List ℕ) (p : ℕ) → P p ≡ true → among l p ≡ true → any_of P l ≡ true
unfolding any_of among
any_among P [] p e h = false≢true h
any_among P (x ∷ l) p e h =
    ⊎_elim
    (λ (d : eqb p x ≡ true). or_left (P x) (any_of P l) (ap P (sym (eqb-true p x d)) ∙ e))
    (λ (d : among l p ≡ true). or_right (P x) (any_of P l) (any_among P l p e d))
    (or_true (eqb p x) (among l p) h)

-- a default change is barred just where some page is RAM, private and locked
module _ (private overlays locks : List ℕ) (es : List MemoryRangeWithNode) where
  pub record Bar : Type 0 where
    pub page : ℕ
    pub ram : is_ram es page ≡ true
    pub marked : bit_at 8 private page ≡ true
    pub locked : (held_in locks page && not (is_overlay overlays page)) ≡ true

  pub barred_by : barred private overlays locks es ≡ true → Bar
  barred_by h =
      let m = among_any (barring private overlays es) (locked_pages locks) h in
      let p : ℕ = m.0 in
      let a : (is_ram es p && bit_at 8 private p) ≡ true = and_left (is_ram es p && bit_at 8 private p) (not (is_overlay overlays p)) m.1 in
      let b : not (is_overlay overlays p) ≡ true = and_right (is_ram es p && bit_at 8 private p) (not (is_overlay overlays p)) m.1 in
      record {
        page = p;
        ram = and_left (is_ram es p) (bit_at 8 private p) a;
        marked = and_right (is_ram es p) (bit_at 8 private p) a;
        locked = and_true (held_in locks p) (not (is_overlay overlays p)) m.2 b;
      }

  pub bars : Bar → barred private overlays locks es ≡ true
  bars b =
      let p : ℕ = b.page in
      let f : not (is_overlay overlays p) ≡ true = and_right (held_in locks p) (not (is_overlay overlays p)) b.locked in
      any_among (barring private overlays es) (locked_pages locks) p
      (and_true (is_ram es p && bit_at 8 private p) (not (is_overlay overlays p)) (and_true (is_ram es p) (bit_at 8 private p) b.ram b.marked) f)
      (and_left (held_in locks p) (not (is_overlay overlays p)) b.locked)
