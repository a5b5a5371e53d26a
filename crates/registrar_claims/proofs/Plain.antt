-- The chunks of a request in plain form: where a chunk is whole pages, widening to pages first makes no difference. Assumes nothing.
use native.Mathlib.Omega.{arith}
use native.Mathlib.Decide.{dec_lt}
use mathlib.Core.Path.{◌≡◌, refl, sym, ap, ◌∙◌}
use mathlib.Core.Logic.{⊎_elim}
use mathlib.Core.Bool.{Bool, true, false, cond}
use Prim.Native.Nat.{ℕ, zero, suc, ◌+◌, ◌-◌, ◌*◌, ◌/◌, ◌%◌, ◌^◌, ◌≤◌, ◌<◌}
use native.Mathlib.Nat.{mul-le-mul_right, mul_assoc, mul_comm, add-mul, one-mul, mul-mod_left, div-lt_iff_lt-mul, div-div-eq-div-mul, mul-div_cancel_left}
use lib.Dec.{eqb, leb}
use lib.Pow.{pow-add, pow_pos, pow-lt}
use borrow.Author.Tests.{eqb-true, eqb-false, leb-true}
use Rattle.abi.specs.Lengths.{page_size, word_bits}
use Rattle.laws.specs.Bools.{false≢true, or_true}
use Rattle.chunks.specs.Chunks.{up, first_chunk, end_chunk, power_from, is_power}
use Rattle.registrar_claims.proofs.Stretches.{up_above}

up_least : (n g c : ℕ) → zero < g → n ≤ c * g → up n g ≤ c
up_least n g c p h = go (eqb (n % g) 0) refl
  where
    go : (t : Bool) → eqb (n % g) 0 ≡ t → cond t (n / g) (n / g + 1) ≤ c
    go true e = omega (arith, (div-lt_iff_lt-mul {k = g} {x = n} {y = c + 1} p).1 (omega (arith, add-mul c 1 g, one-mul g)))
    go false e =
        let other : n ≡ c * g → ⊥ = λ q. eqb-false (n % g) 0 e (ap (λ (m : ℕ). m % g) q ∙ mul-mod_left c g) in
        omega (arith, (div-lt_iff_lt-mul {k = g} {x = n} {y = c} p).1 (omega (arith, other)))

up_up : (n a b : ℕ) → zero < a → zero < b → zero < a * b → up (up n a) b ≡ up n (a * b)
up_up n a b pa pb pab =
    let u : ℕ = up n a in
    let v : ℕ = up u b in
    let w : ℕ = up n (a * b) in
    let turn : (m : ℕ) → m * (a * b) ≡ m * b * a = λ m. ap (λ (x : ℕ). m * x) (mul_comm a b) ∙ sym (mul_assoc m b a) in
    let x : v ≤ w = up_least u b w pb (up_least n a (w * b) pa (omega (arith, up_above n (a * b) pab, turn w))) in
    let y : w ≤ v = up_least n (a * b) v pab (omega (arith, up_above n a pa, mul-le-mul_right {m = u} {n = v * b} a (up_above u b pb), turn v)) in
    omega (arith, x, y)

-- a granularity that is fit is so many pages
pub record Pages (g : ℕ) : Type 0 where
  pub pages : ℕ
  pub some : zero < pages
  pub multiple : g ≡ page_size * pages

module _ (g address len : ℕ) (k : Pages g) where
  in_pages : g / page_size ≡ k.pages
  in_pages = ap (λ (m : ℕ). m / page_size) k.multiple ∙ mul-div_cancel_left k.pages {n = page_size} (omega arith)

  -- THE CLAIMS: the chunk of the first byte, and the one after the chunk of the last
  pub first_plain : first_chunk g address ≡ address / g
  first_plain =
      ap (λ (m : ℕ). address / page_size / m) in_pages ∙ div-div-eq-div-mul address page_size k.pages ∙ ap (λ (m : ℕ). address / m) (sym k.multiple)

  pub end_plain : end_chunk g address len ≡ up (address + len) g
  end_plain =
      ap (up (up (address + len) page_size)) in_pages ∙ up_up (address + len) page_size k.pages (omega arith) k.some (omega (arith, k.some)) ∙ ap (up (address + len)) (sym k.multiple)

power_is : (n k m : ℕ) → power_from n k m ≡ true → (j : ℕ) × (n ≡ 2 ^ j)
unfolding power_from
power_is n k zero h = false≢true h
power_is n k (suc m) h = ⊎_elim (λ e. (k, eqb-true n (2 ^ k) e)) (λ e. power_is n (suc k) m e) (or_true (eqb n (2 ^ k)) (power_from n (suc k) m) h)

pub fit_pages : (g : ℕ) → leb page_size g ≡ true → is_power g ≡ true → Pages g
fit_pages g l h = go (power_is g 0 word_bits h)
  where
    go : (j : ℕ) × (g ≡ 2 ^ j) → Pages g
    go p =
        let j : ℕ = p.0 in
        let big : page_size ≤ 2 ^ j = omega (arith, leb-true page_size g l, p.1) in
        let from : 12 ≤ j = elim (dec_lt j 12) [ yes d ↦ absurd (omega (arith, pow-lt d, big)) | no d ↦ omega arith ] in
        let e : 12 + (j - 12) ≡ j = omega arith in
        record { pages = 2 ^ (j - 12); some = pow_pos (j - 12); multiple = p.1 ∙ ap (λ (i : ℕ). 2 ^ i) (sym e) ∙ pow-add 2 12 (j - 12) }
