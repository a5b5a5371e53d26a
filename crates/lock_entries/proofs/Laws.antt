-- Laws of the calls that lock and unlock: one for each way out. Assumes nothing.
use native.Mathlib.Omega.{arith}
use mathlib.Core.Path.{◌≡◌, refl, sym, ◌∙◌}
use mathlib.Core.List.{List}
use Prim.Native.Nat.{ℕ, ◌+◌, ◌-◌, ◌*◌}
use lib.ListN.{length}
use lib.Seq.{drop-drop}
use borrow.Author.Tests.{eqb-true}
use borrow.Rule.Slice.PartMut.{mid_of, put_mid}
use Rattle.abi.specs.Lengths.{locks_start, locks_len}
use Rattle.permissions.specs.declared.GuestVtl.{GuestVtl}
use Rattle.permissions.specs.Flags.{vtl_number}
use Rattle.call_refusals.specs.Buffers.{tables_len, locks_of}
use Rattle.call_refusals.proofs.Laws.{is_ready}
use Rattle.lock_entries.specs.Calls.{lock_refusal, with_locks}

-- ---- the locks of a VTL, written where they begin

pub locks_cut : (t : List ℕ) (v : GuestVtl) (s : ℕ) → s ≡ locks_start + locks_len * vtl_number v → mid_of s (s + locks_len - s) t ≡ locks_of t v
locks_cut t v s h = let d : s + locks_len - s ≡ locks_len = omega arith in rw (d, h) refl

module _ (t n : List ℕ) (f : List ℕ → List ℕ) (v : GuestVtl) (s : ℕ) where
  pub put_locks : s ≡ locks_start + locks_len * vtl_number v → n ≡ f (mid_of s (s + locks_len - s) t)
      → put_mid s (s + locks_len - s) t n ≡ with_locks t v (f (locks_of t v))
  put_locks h e =
      let d : s + locks_len - s ≡ locks_len = omega arith in
      rw (e, d, h, drop-drop locks_len (locks_start + locks_len * vtl_number v) t) refl

-- ---- a call that isn't refused

module _ (s t : List ℕ) (vtl : ℕ) (l : List ℕ) (n : ℕ) (e : n ≡ lock_refusal s (length t) vtl l) where
  pub passed_length : n ≡ 0 → length t ≡ tables_len
  unfolding lock_refusal
  passed_length z = eqb-true (length t) tables_len (is_ready s _ _ (sym e ∙ z)).fits
