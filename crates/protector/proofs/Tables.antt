-- The tables with other overlays of a VTL: read back, with all else as it was. Assumes nothing.
use native.Mathlib.Omega.{arith}
use mathlib.Core.Path.{◌≡◌, refl, sym, ap, ◌∙◌}
use mathlib.Core.List.{List, ◌++◌}
use Prim.Native.Nat.{ℕ, ◌+◌, ◌-◌, ◌*◌, ◌≤◌}
use lib.ListN.{length, take, drop, length-drop}
use lib.Seq.{length-take-le, take_at, drop_at, drop-drop, take-append-le, take-take}
use Rattle.permissions.specs.declared.GuestVtl.{GuestVtl}
use Rattle.permissions.specs.declared.GuestVtl.TheVariants.{Vtl0, Vtl1}
use Rattle.permissions.specs.Flags.{vtl_number}
use Rattle.call_refusals.specs.Buffers.{tables_len, overlays_of, locks_of}
use Rattle.protector.specs.Writes.{with_overlays}

start_fits : (v : GuestVtl) → 641 * vtl_number v ≤ 2819
start_fits Vtl0 = omega arith
start_fits Vtl1 = omega arith

pub overlays_long : (t : List ℕ) (v : GuestVtl) → length t ≡ tables_len → length (overlays_of t v) ≡ 641
overlays_long t v h = length-take-le 641 (drop (641 * vtl_number v) t) (omega (arith, h, length-drop (641 * vtl_number v) t, start_fits v))

module _ (t o : List ℕ) (v : GuestVtl) (h : length t ≡ tables_len) (l : length o ≡ 641) where
  before : length (take (641 * vtl_number v) t) ≡ 641 * vtl_number v
  before = length-take-le (641 * vtl_number v) t (omega (arith, h, start_fits v))

  pub overlays_written : overlays_of (with_overlays t v o) v ≡ o
  overlays_written =
      ap (take 641) (drop_at (take (641 * vtl_number v) t) (o ++ drop (641 * vtl_number v + 641) t) (641 * vtl_number v) before)
      ∙ take_at o (drop (641 * vtl_number v + 641) t) 641 l

  after : drop (641 * vtl_number v + 641) (with_overlays t v o) ≡ drop (641 * vtl_number v + 641) t
  after =
      sym (drop-drop 641 (641 * vtl_number v) (with_overlays t v o))
      ∙ ap (drop 641) (drop_at (take (641 * vtl_number v) t) (o ++ drop (641 * vtl_number v + 641) t) (641 * vtl_number v) before)
      ∙ drop_at o (drop (641 * vtl_number v + 641) t) 641 l

  past : (k m : ℕ) → k ≡ 641 * vtl_number v + 641 + m → drop k (with_overlays t v o) ≡ drop k t
  past k m e =
      ap (λ (x : ℕ). drop x (with_overlays t v o)) e ∙ sym (drop-drop m (641 * vtl_number v + 641) (with_overlays t v o)) ∙ ap (drop m) after
      ∙ drop-drop m (641 * vtl_number v + 641) t ∙ ap (λ (x : ℕ). drop x t) (sym e)

  pub locks_kept : (u : GuestVtl) → locks_of (with_overlays t v o) u ≡ locks_of t u
  locks_kept u = ap (take 1089) (past (1282 + 1089 * vtl_number u) (1282 + 1089 * vtl_number u - (641 * vtl_number v + 641)) (go v))
    where
      go : (x : GuestVtl) → 1282 + 1089 * vtl_number u ≡ 641 * vtl_number x + 641 + (1282 + 1089 * vtl_number u - (641 * vtl_number x + 641))
      go Vtl0 = omega arith
      go Vtl1 = omega arith

pub vtl1_kept : (t o : List ℕ) → length t ≡ tables_len → length o ≡ 641 → overlays_of (with_overlays t Vtl0 o) Vtl1 ≡ overlays_of t Vtl1
vtl1_kept t o h l = ap (take 641) (past t o Vtl0 h l 641 0 refl)

pub vtl0_kept : (t o : List ℕ) → length t ≡ tables_len → length o ≡ 641 → overlays_of (with_overlays t Vtl1 o) Vtl0 ≡ overlays_of t Vtl0
vtl0_kept t o h l =
    take-append-le 641 (take 641 t) (o ++ drop 1282 t) (omega (arith, length-take-le 641 t (omega (arith, h)))) ∙ take-take 641 641 t (omega arith)
