-- Laws of the renewal: the loop over the entries. Assumes nothing.
use mathlib.Core.List.{List}
use mathlib.Core.Path.{◌≡◌, refl}
use Prim.Native.Nat.{ℕ, zero, suc, ◌+◌, ◌-◌, ◌≤◌, ◌<◌}
use native.Mathlib.Omega.{arith}
use Rattle.layout.specs.declared.MemoryRangeWithNode.{MemoryRangeWithNode}
use Rattle.default_change.specs.Renewed.{renewed_at, renewed_from}

module _ (m : List ℕ) (es : List MemoryRangeWithNode) (bits : ℕ) where
  pub renew_more : (k o : ℕ) (t u : List ℕ) → 0 < k → u ≡ renewed_at m es bits t o → renewed_from m es bits u (k - 1) (o + 5) ≡ renewed_from m es bits t k o
  unfolding renewed_from
  renew_more zero o t u h e = absurd (omega arith)
  renew_more (suc k) o t u h e = let d : suc k - 1 ≡ k = omega arith in rw (e, d) refl

  pub renew_end : (k o : ℕ) (t : List ℕ) → k ≤ 0 → renewed_from m es bits t k o ≡ t
  unfolding renewed_from
  renew_end zero o t h = refl
  renew_end (suc k) o t h = absurd (omega arith)
