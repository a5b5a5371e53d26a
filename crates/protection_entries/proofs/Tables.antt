-- The overlays of the target VTL once a default change has renewed them (01, "Defaults"). Assumes nothing.
use mathlib.Core.Path.{◌≡◌, refl, ◌∙◌}
use mathlib.Core.Bool.{Bool, true, false, cond}
use mathlib.Core.List.{List}
use Prim.Native.Nat.{ℕ, zero, suc, ◌+◌}
use lib.ListN.{length, get_or, set, length-set}
use Rattle.layout.specs.declared.MemoryRangeWithNode.{MemoryRangeWithNode}
use Rattle.permissions.specs.declared.GuestVtl.{GuestVtl}
use Rattle.overlay_table.specs.Overlays.{used}
use Rattle.default_change.specs.Pieces.{private_ram}
use Rattle.default_change.specs.Renewed.{renewed_at, renewed_from, renewed}
use Rattle.protector_state.specs.State.{entries_in}
use Rattle.call_refusals.specs.Buffers.{tables_len, overlays_of}
use Rattle.protector.proofs.Tables.{overlays_long, overlays_written}
use Rattle.protection_entries.specs.Calls.{renewed_tables}

-- ---- renewed overlays are as many words

module _ (private : List ℕ) (es : List MemoryRangeWithNode) (bits : ℕ) where
  at_length : (t : List ℕ) (o : ℕ) → length (renewed_at private es bits t o) ≡ length t
  at_length t o = go (private_ram private es (get_or t o 0))
    where
      go : (b : Bool) → length (cond b (set t (o + 1) bits) t) ≡ length t
      go true = length-set t (o + 1) bits
      go false = refl

  from_length : (k o : ℕ) (t : List ℕ) → length (renewed_from private es bits t k o) ≡ length t
  unfolding renewed_from
  from_length zero o t = refl
  from_length (suc k) o t = from_length k (o + 5) (renewed_at private es bits t o) ∙ at_length t o

module _ (private s t : List ℕ) (flags : ℕ) (h : length t ≡ tables_len) where
  renewed_length : (v : GuestVtl) → length (renewed private (entries_in s) flags (overlays_of t v)) ≡ 641
  renewed_length v = from_length private (entries_in s) flags (used (overlays_of t v)) 1 (overlays_of t v) ∙ overlays_long t v h

  pub renewed_own : (v : GuestVtl) → overlays_of (renewed_tables private s t v flags) v ≡ renewed private (entries_in s) flags (overlays_of t v)
  renewed_own v = overlays_written t (renewed private (entries_in s) flags (overlays_of t v)) v h (renewed_length v)
