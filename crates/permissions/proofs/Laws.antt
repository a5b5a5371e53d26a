-- Flags and VTLs as numbers and back. Assumes nothing.
use mathlib.Core.Bool.{Bool, true, false}
use mathlib.Core.Path.{◌≡◌, refl, ap}
use Prim.Native.Nat.{ℕ, ◌+◌, ◌*◌, ◌/◌, ◌%◌, ◌<◌}
use native.Mathlib.Omega.{arith}
use native.Mathlib.Decide.{dec_lt}
use lib.Dec.{eqb}
use Rattle.laws.specs.Bools.{digit, digit_le}
use Rattle.permissions.specs.declared.GuestVtl.{GuestVtl}
use Rattle.permissions.specs.declared.GuestVtl.TheVariants.{Vtl0, Vtl1}
use Rattle.permissions.specs.declared.HvMapGpaFlags.{HvMapGpaFlags}
use Rattle.permissions.specs.Flags.{vtl_of, vtl_number, flags_of, bits_of}

pub bits_lt : (f : HvMapGpaFlags) → bits_of f < 16
bits_lt f =
    omega (arith, digit_le f.readable, digit_le f.writable, digit_le f.kernel_executable, digit_le f.user_executable)

-- a digit of a number, as a flag
told : (b : Bool) (n : ℕ) → n ≡ digit b → eqb n 1 ≡ b
told true n e = ap (λ (m : ℕ). eqb m 1) e
told false n e = ap (λ (m : ℕ). eqb m 1) e

pub flags_bits : (f : HvMapGpaFlags) → flags_of (bits_of f) ≡ f
flags_bits f =
    let r = f.readable in let w = f.writable in let k = f.kernel_executable in let u = f.user_executable in
    let n : ℕ = bits_of f in
    let hr = digit_le r in let hw = digit_le w in let hk = digit_le k in let hu = digit_le u in
    let er = told r (n % 2) (omega arith) in
    let ew = told w (n / 2 % 2) (omega arith) in
    let ek = told k (n / 4 % 2) (omega arith) in
    let eu = told u (n / 8 % 2) (omega arith) in
    rw (er, ew, ek, eu)

-- the lowest bit of a number, as a flag and back
lowest : (n : ℕ) → digit (eqb (n % 2) 1) ≡ n % 2
lowest n = elim (dec_lt (n % 2) 1) [
  | yes d ↦ let e : n % 2 ≡ 0 = omega arith in rw e
  | no d ↦ let e : n % 2 ≡ 1 = omega arith in rw e
]

pub bits_flags : (n : ℕ) → n < 16 → bits_of (flags_of n) ≡ n
bits_flags n h =
    let er = lowest n in
    let ew = lowest (n / 2) in
    let ek = lowest (n / 4) in
    let eu = lowest (n / 8) in
    let two : n / 2 ≡ n / 2 % 2 + 2 * (n / 4) = omega arith in
    let four : n / 4 ≡ n / 4 % 2 + 2 * (n / 8) = omega arith in
    let eight : n / 8 ≡ n / 8 % 2 = omega arith in
    let one : n ≡ n % 2 + 2 * (n / 2) = omega arith in
    rw (er, ew, ek, eu) (omega (arith, one, two, four, eight))

pub vtl_number_lem : (v : GuestVtl) → vtl_of (vtl_number v) ≡ v
vtl_number_lem Vtl0 = refl
vtl_number_lem Vtl1 = refl

pub vtl_lt : (v : GuestVtl) → vtl_number v < 2
vtl_lt Vtl0 = omega arith
vtl_lt Vtl1 = omega arith
