-- What refuses a fault. Assumes nothing.
use mathlib.Core.Bool.{Bool, true, false, cond}
use mathlib.Core.List.{List}
use mathlib.Core.Path.{◌≡◌, refl, sym}
use Prim.Native.Nat.{ℕ}
use borrow.Author.Tests.{eqb-true}
use lib.Dec.{eqb}
use Rattle.layout.specs.declared.MemoryRangeWithNode.{MemoryRangeWithNode}
use Rattle.layout.specs.Layout.{map_len}
use Rattle.fault.specs.declared.PageFaultAction.{PageFaultAction}
use Rattle.mapping.specs.Maps.{Maps, maps_fit, lengths_of}
use Rattle.std.specs.Prelude.{Ok, Err}
use Rattle.fault.specs.Fault.{fault_refusal, or_refused, page_fault, fault_number}

-- what refuses a fault: its numbers and the lengths, no page
pub fault_number_lem : (es : List MemoryRangeWithNode) (m : Maps) (tracked : Bool) (mapping view address write failure : ℕ)
    → fault_number (page_fault es m tracked mapping view address write failure) ≡ fault_refusal (maps_fit (map_len es) tracked (lengths_of m)) mapping view write failure
unfolding page_fault
fault_number_lem es m tracked mapping view address write failure =
    go (fault_refusal (maps_fit (map_len es) tracked (lengths_of m)) mapping view write failure) _
  where
    go : (n : ℕ) (a : PageFaultAction) → fault_number (or_refused n a) ≡ n
    go n a = by_test (eqb n 0) refl
      where
        by_test : (b : Bool) → eqb n 0 ≡ b → fault_number (cond b (Ok a) (Err n)) ≡ n
        by_test true f = sym (eqb-true n 0 f)
        by_test false f = refl
