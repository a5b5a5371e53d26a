-- Laws of the words of a change, one for each way that the code goes. Assumes nothing.
use native.Mathlib.Omega.{arith}
use mathlib.Core.Path.{◌≡◌, refl, ◌∙◌}
use mathlib.Core.List.{List, [], ◌∷◌}
use Prim.Native.Nat.{ℕ, ◌≤◌}
use lib.ListN.{length, drop, set}
use Rattle.permissions.specs.Flags.{vtl_number}
use Rattle.change_steps.specs.declared.Stage.{Stage}
use Rattle.change_steps.specs.declared.Change.{Change}
use Rattle.protector_state.specs.Changing.{stage_number, with_change}

module _ (a0 a1 a2 a3 a4 a5 a6 a7 a8 a9 a10 a11 a12 a13 : ℕ) where
  saved : (s : List ℕ) → 14 ≤ length s → set (set (set (set (set (set (set (set (set (set (set (set (set (set s 0 a0) 1 a1) 2 a2) 3 a3) 4 a4) 5 a5) 6 a6) 7 a7) 8 a8) 9 a9) 10 a10) 11 a11) 12 a12) 13 a13 ≡ a0 ∷ a1 ∷ a2 ∷ a3 ∷ a4 ∷ a5 ∷ a6 ∷ a7 ∷ a8 ∷ a9 ∷ a10 ∷ a11 ∷ a12 ∷ a13 ∷ drop 14 s
  saved [] h = absurd (omega arith)
  saved (x0 ∷ []) h = absurd (omega arith)
  saved (x0 ∷ x1 ∷ []) h = absurd (omega arith)
  saved (x0 ∷ x1 ∷ x2 ∷ []) h = absurd (omega arith)
  saved (x0 ∷ x1 ∷ x2 ∷ x3 ∷ []) h = absurd (omega arith)
  saved (x0 ∷ x1 ∷ x2 ∷ x3 ∷ x4 ∷ []) h = absurd (omega arith)
  saved (x0 ∷ x1 ∷ x2 ∷ x3 ∷ x4 ∷ x5 ∷ []) h = absurd (omega arith)
  saved (x0 ∷ x1 ∷ x2 ∷ x3 ∷ x4 ∷ x5 ∷ x6 ∷ []) h = absurd (omega arith)
  saved (x0 ∷ x1 ∷ x2 ∷ x3 ∷ x4 ∷ x5 ∷ x6 ∷ x7 ∷ []) h = absurd (omega arith)
  saved (x0 ∷ x1 ∷ x2 ∷ x3 ∷ x4 ∷ x5 ∷ x6 ∷ x7 ∷ x8 ∷ []) h = absurd (omega arith)
  saved (x0 ∷ x1 ∷ x2 ∷ x3 ∷ x4 ∷ x5 ∷ x6 ∷ x7 ∷ x8 ∷ x9 ∷ []) h = absurd (omega arith)
  saved (x0 ∷ x1 ∷ x2 ∷ x3 ∷ x4 ∷ x5 ∷ x6 ∷ x7 ∷ x8 ∷ x9 ∷ x10 ∷ []) h = absurd (omega arith)
  saved (x0 ∷ x1 ∷ x2 ∷ x3 ∷ x4 ∷ x5 ∷ x6 ∷ x7 ∷ x8 ∷ x9 ∷ x10 ∷ x11 ∷ []) h = absurd (omega arith)
  saved (x0 ∷ x1 ∷ x2 ∷ x3 ∷ x4 ∷ x5 ∷ x6 ∷ x7 ∷ x8 ∷ x9 ∷ x10 ∷ x11 ∷ x12 ∷ []) h = absurd (omega arith)
  saved (x0 ∷ x1 ∷ x2 ∷ x3 ∷ x4 ∷ x5 ∷ x6 ∷ x7 ∷ x8 ∷ x9 ∷ x10 ∷ x11 ∷ x12 ∷ x13 ∷ s) h = refl

pub change_saved : (g : Stage) (q : Change) (s : List ℕ) (n vtl flush : ℕ) → 14 ≤ length s → n ≡ stage_number g → vtl ≡ vtl_number q.vtl → flush ≡ vtl_number q.flush
    → set (set (set (set (set (set (set (set (set (set (set (set (set (set s 0 n) 1 0) 2 vtl) 3 q.n) 4 q.at) 5 0) 6 0) 7 0) 8 0) 9 q.count) 10 flush) 11 q.flags) 12 q.previous) 13 q.source ≡ with_change g q s
change_saved g q s n vtl flush h e0 e2 e10 = saved n 0 vtl q.n q.at 0 0 0 0 q.count flush q.flags q.previous q.source s h ∙ rw (e0, e2, e10) refl
