-- The tables keep their length, whatever is entered, counted or renewed. Assumes nothing.
use native.Mathlib.Omega.{arith}
use mathlib.Core.Path.{◌≡◌, refl, ◌∙◌}
use mathlib.Core.Bool.{Bool, true, false, cond}
use mathlib.Core.List.{List, ◌++◌}
use Prim.Native.Nat.{ℕ, zero, suc, ◌+◌, ◌-◌, ◌*◌, ◌≤◌}
use lib.Dec.{ltb}
use lib.ListN.{length, get_or, set, take, drop, length-append, length-drop, length-set}
use lib.Seq.{sets, length-sets, length-take-le}
use Rattle.words.specs.Words.{closed_to}
use Rattle.words.proofs.Padded.{length_closed}
use Rattle.layout.specs.declared.MemoryRangeWithNode.{MemoryRangeWithNode}
use Rattle.permissions.specs.declared.GuestVtl.{GuestVtl}
use Rattle.permissions.specs.declared.GuestVtl.TheVariants.{Vtl0, Vtl1}
use Rattle.permissions.specs.Flags.{vtl_number}
use Rattle.overlay_table.specs.declared.OverlayPage.{OverlayPage}
use Rattle.overlay_table.specs.Overlays.{used, words_of, is_overlay, place_of, add_words, remove_words, previous_words}
use Rattle.default_change.specs.Pieces.{private_ram}
use Rattle.default_change.specs.Renewed.{renewed_at, renewed_from}
use Rattle.call_refusals.specs.Buffers.{tables_len, overlays_of}
use Rattle.protector.specs.Writes.{with_overlays, without_page}

module _ (t : List ℕ) (e : length t ≡ tables_len) where
  room : (v : GuestVtl) → 641 * vtl_number v + 641 ≤ length t
  room Vtl0 = omega (arith, e)
  room Vtl1 = omega (arith, e)

  overlays_long : (v : GuestVtl) → length (overlays_of t v) ≡ 641
  overlays_long v = length-take-le 641 (drop (641 * vtl_number v) t) (omega (arith, length-drop (641 * vtl_number v) t, room v))

  pub with_long : (v : GuestVtl) (o : List ℕ) → length o ≡ length (overlays_of t v) → length (with_overlays t v o) ≡ tables_len
  with_long v o d =
      let a = length-append (take (641 * vtl_number v) t) (o ++ drop (641 * vtl_number v + 641) t) in
      let b = length-append o (drop (641 * vtl_number v + 641) t) in
      let c = length-take-le (641 * vtl_number v) t (omega (arith, room v)) in
      omega (arith, a, b, c, length-drop (641 * vtl_number v + 641) t, room v, e, d, overlays_long v)

pub add_long : (o : List ℕ) (x : OverlayPage) → length (add_words o x) ≡ length o
add_long o x = go (ltb (used o) 128)
  where
    go : (b : Bool) → length (cond b (set (sets o (1 + 5 * used o) (words_of x)) 0 (used o + 1)) o) ≡ length o
    go true = length-set (sets o (1 + 5 * used o) (words_of x)) 0 (used o + 1) ∙ length-sets o (1 + 5 * used o) (words_of x)
    go false = refl

pub without_long : (o : List ℕ) (p : ℕ) → length (without_page o p) ≡ length o
without_long o p = go (is_overlay o p)
  where
    go : (b : Bool) → length (cond b (remove_words o (place_of o p)) o) ≡ length o
    go true = length-set (closed_to o (place_of o p) 5 (1 + 5 * used o)) 0 (used o - 1) ∙ length_closed o (place_of o p) 5 (1 + 5 * used o)
    go false = refl

pub renewed_long : (private : List ℕ) (es : List MemoryRangeWithNode) (bits : ℕ) (k : ℕ) (t : List ℕ) (o : ℕ) → length (renewed_from private es bits t k o) ≡ length t
unfolding renewed_from
renewed_long private es bits zero t o = refl
renewed_long private es bits (suc k) t o = renewed_long private es bits k (renewed_at private es bits t o) (o + 5) ∙ go (private_ram private es (get_or t o 0))
  where
    go : (b : Bool) → length (cond b (previous_words t o bits) t) ≡ length t
    go true = length-set t (o + 1) bits
    go false = refl
