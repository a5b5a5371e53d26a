use mathlib.Core.Bool.{Bool, true}
use mathlib.Core.List.{List, [], ◌∷◌}
use mathlib.Core.Path.{◌≡◌, refl, ap, ap₂, ◌∙◌}
use Prim.Native.Nat.{ℕ, ◌+◌, ◌*◌, ◌/◌, ◌%◌, ◌<◌}
use native.Mathlib.Omega.{arith}
use lib.Dec.{eqb}
use lib.ListN.{length, get_or}
use borrow.Author.Tests.{eqb-true}
use Rattle.permissions.specs.declared.GuestVtl.{GuestVtl}
use Rattle.permissions.specs.declared.HvMapGpaFlags.{HvMapGpaFlags}
use Rattle.permissions.specs.Flags.{vtl_of, vtl_number, flags_of, bits_of}
use Rattle.permissions.specs.Rmpadjust.{operand_of}
use Rattle.permissions.proofs.Table.{every, at}
use Rattle.permissions.proofs.Laws.{bits_lt, flags_bits, vtl_number_lem, vtl_lt}
use Rattle.permissions.proofs.rmpadjust.Goals as goal

-- `permissions::rmpadjust` meets its contract: the rule is a test that antt computes at each of the 32 entries. Assumes nothing.
-- the code's constant
abbrev operands : List ℕ
operands =
    2 ∷ 258 ∷ 514 ∷ 770 ∷ 2050 ∷ 2306 ∷ 2562 ∷ 2818 ∷ 1026 ∷ 1282 ∷ 1538 ∷ 1794 ∷ 3074 ∷ 3330 ∷ 3586 ∷ 3842
    ∷ 1 ∷ 257 ∷ 513 ∷ 769 ∷ 2049 ∷ 2305 ∷ 2561 ∷ 2817 ∷ 1025 ∷ 1281 ∷ 1537 ∷ 1793 ∷ 3073 ∷ 3329 ∷ 3585 ∷ 3841 ∷ []

-- the entry at place k is the operand of the k-th VTL and flags
right : ℕ → ℕ → Bool
right k x = eqb x (operand_of (vtl_of (k / 16)) (flags_of (k % 16)))

-- the place in the table
place : (v : GuestVtl) (f : HvMapGpaFlags) (n b : ℕ) → n ≡ vtl_number v → b ≡ bits_of f → 16 * n + b < 32
place v f n b e d = omega (arith, bits_lt f, vtl_lt v)

-- a table of 32 that passes the test at every entry has the operand of each VTL and flags
rule : (xs : List ℕ) (v : GuestVtl) (f : HvMapGpaFlags) (i : ℕ) → every right 0 xs ≡ true → length xs ≡ 32 → i ≡ 16 * vtl_number v + bits_of f → get_or xs i 0 ≡ operand_of v f
unfolding right
rule xs v f i t n e =
    let b = bits_lt f in let l = vtl_lt v in
    let hi : i / 16 ≡ vtl_number v = omega arith in
    let lo : i % 16 ≡ bits_of f = omega arith in
    eqb-true _ _ (at right xs t i (omega arith)) ∙ ap₂ operand_of (ap vtl_of hi ∙ vtl_number_lem v) (ap flags_of lo ∙ flags_bits f)

pub overflow_mul-i : goal.overflow_mul-i
overflow_mul-i c = omega (arith, c.vtl_number.ensures, vtl_lt c.args.vtl)

pub overflow_add-i : goal.overflow_add-i
overflow_add-i c = omega (arith, place c.args.vtl c.args.protections _ _ c.vtl_number.ensures c.into_bits.ensures)

pub offset_bounds-i : goal.offset_bounds-i
offset_bounds-i c = omega (arith, place c.args.vtl c.args.protections _ _ c.vtl_number.ensures c.into_bits.ensures)

pub returns : goal.returns
unfolding right operand_of
returns c =
    let a = c.args in
    rule operands a.vtl a.protections _ refl refl (ap₂ (λ (m n : ℕ). 16 * m + n) c.vtl_number.ensures c.into_bits.ensures)
