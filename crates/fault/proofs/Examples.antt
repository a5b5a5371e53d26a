-- Each action, each view, and past the end: pages 0 to 7. Assumes nothing.
use mathlib.Core.Bool.{true}
use mathlib.Core.List.{[], ◌∷◌}
use mathlib.Core.Path.{◌≡◌, refl}
use Prim.Native.Nat.{ℕ, ◌*◌}
use Rattle.std.specs.Prelude.{Result, Ok}
use Rattle.layout.specs.Layout.{entries_of}
use Rattle.mapping.specs.Maps.{Maps, maps}
use Rattle.fault.specs.declared.PageFaultAction.{PageFaultAction}
use Rattle.fault.specs.declared.PageFaultAction.TheVariants.{Retry, NotPrivate, VtlProtected}
use Rattle.fault.specs.Fault.{fault_of, fault_refusal, page_fault}

-- page 1 read, 2 written, 3 executed by the kernel, 4 by the user; all private
abbrev m : Maps
m = maps (0xff ∷ []) (0x00 ∷ []) (0x02 ∷ []) (0x04 ∷ []) (0x08 ∷ []) (0x10 ∷ [])

abbrev at : ℕ → ℕ → ℕ → Result PageFaultAction ℕ
at view page write = page_fault (entries_of (0 ∷ 32768 ∷ 0 ∷ [])) m true 0 view (page * 4096) write 1

kernel_3 : at 1 3 0 ≡ Ok Retry
unfolding entries_of fault_of fault_refusal page_fault
kernel_3 = refl

kernel_4 : at 1 4 0 ≡ Ok VtlProtected
unfolding entries_of fault_of fault_refusal page_fault
kernel_4 = refl

user_4 : at 2 4 0 ≡ Ok Retry
unfolding entries_of fault_of fault_refusal page_fault
user_4 = refl

write_2 : at 1 2 1 ≡ Ok Retry
unfolding entries_of fault_of fault_refusal page_fault
write_2 = refl

past : at 0 8 0 ≡ Ok NotPrivate
unfolding entries_of fault_of fault_refusal page_fault
past = refl
