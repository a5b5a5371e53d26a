-- A fault (01, "Bitmaps", and the order of refusals: 4, 8), on any page: past the maps none is marked (02, (vi)).
use Rattle.std.specs.Prelude.{Bool, false, not, cond, ◌&&◌, List, ℕ, Result, Ok, Err, ◌/◌, eqb, leb}
use Rattle.abi.specs.Faults as number
use Rattle.abi.specs.Refusals as refusal
use Rattle.abi.specs.Lengths.{page_size}
use Rattle.bitmap.specs.Pages.{bit_at}
use Rattle.layout.specs.declared.MemoryRangeWithNode.{MemoryRangeWithNode}
use Rattle.layout.specs.Layout.{map_len}
use Rattle.laws.specs.Refusal.{unless}
use Rattle.fault.specs.declared.GuestValidMemoryType.{GuestValidMemoryType}
use Rattle.fault.specs.declared.GuestValidMemoryType.TheVariants.{Encrypted, Shared}
use Rattle.fault.specs.declared.GuestMemoryViewReadType.{GuestMemoryViewReadType}
use Rattle.fault.specs.declared.GuestMemoryViewReadType.TheVariants.{Read, KernelExecute, UserExecute}
use Rattle.fault.specs.declared.PageFaultAction.{PageFaultAction}
use Rattle.fault.specs.declared.PageFaultAction.TheVariants.{Retry, NotMapped, NotShared, NotPrivate, VtlProtected}
use Rattle.permissions.specs.Flags.{fit_bool, bool_of}
use Rattle.permissions.specs.HvError.{code_of}
use Rattle.mapping.specs.Maps.{Permissions, Maps, maps_fit, lengths_of}

-- a mapping and a view by their numbers
abbrev pub fit_mapping : ℕ → Bool
fit_mapping n = leb n number.shared

abbrev pub mapping_of : ℕ → GuestValidMemoryType
mapping_of n = cond (eqb n number.encrypted) Encrypted Shared

abbrev pub fit_view : ℕ → Bool
fit_view n = leb n number.user_execute

abbrev pub view_of : ℕ → GuestMemoryViewReadType
view_of n = cond (eqb n number.read) Read (cond (eqb n number.kernel_execute) KernelExecute UserExecute)

-- the marks that a mapping is tested by, and what an unmarked page gives there
abbrev pub marks : GuestValidMemoryType → Maps → List ℕ
marks Encrypted m = m.private
marks Shared m = m.shared

abbrev pub unmarked : GuestValidMemoryType → PageFaultAction
unmarked Encrypted = NotPrivate
unmarked Shared = NotShared

-- only the encrypted mapping has permission maps, if tracked
abbrev pub has_permissions : GuestValidMemoryType → Bool → Bool
has_permissions Encrypted tracked = tracked
has_permissions Shared tracked = false

-- the permission map that an access is tested by
abbrev pub view_map : GuestMemoryViewReadType → Permissions → List ℕ
view_map Read m = m.read
view_map KernelExecute m = m.kernel
view_map UserExecute m = m.user

abbrev pub access_map : GuestMemoryViewReadType → Bool → Permissions → List ℕ
access_map view write m = cond write m.write (view_map view m)

unfoldable pub fault_of : Maps → Bool → GuestValidMemoryType → GuestMemoryViewReadType → ℕ → Bool → Bool → PageFaultAction
fault_of m tracked mapping view p write failure =
    cond (not failure) NotMapped
    (cond (not (bit_at 8 (marks mapping m) p)) (unmarked mapping)
    (cond (has_permissions mapping tracked && not (bit_at 8 (access_map view write m.permissions) p)) VtlProtected
    Retry))

-- 4 unless the maps fit, 8 for a number that names nothing
unfoldable pub fault_refusal : Bool → ℕ → ℕ → ℕ → ℕ → ℕ
fault_refusal fits mapping view write failure =
    unless fits refusal.wrong_length
    (unless (fit_mapping mapping) refusal.unfit_number
    (unless (fit_view view) refusal.unfit_number
    (unless (fit_bool write) refusal.unfit_number
    (unless (fit_bool failure) refusal.unfit_number
    0))))

abbrev pub or_refused : ℕ → PageFaultAction → Result PageFaultAction ℕ
or_refused n a = cond (eqb n 0) (Ok a) (Err n)

-- a fault at an address, whose page is address / 4,096
unfoldable pub page_fault : List MemoryRangeWithNode → Maps → Bool → ℕ → ℕ → ℕ → ℕ → ℕ → Result PageFaultAction ℕ
page_fault es m tracked mapping view address write failure =
    or_refused (fault_refusal (maps_fit (map_len es) tracked (lengths_of m)) mapping view write failure)
    (fault_of m tracked (mapping_of mapping) (view_of view) (address / page_size) (bool_of write) (bool_of failure))

-- the number of 01 for an answer, 0 where nothing is refused; and its value, a number of the port's choice or the code that a refusal carries
abbrev pub fault_number : Result PageFaultAction ℕ → ℕ
fault_number (Ok a) = 0
fault_number (Err n) = n

abbrev pub fault_value : Result PageFaultAction ℕ → ℕ
fault_value (Ok Retry) = number.retry
fault_value (Ok NotMapped) = number.not_mapped
fault_value (Ok NotShared) = number.not_shared
fault_value (Ok NotPrivate) = number.not_private
fault_value (Ok VtlProtected) = number.vtl_protected
fault_value (Err n) = code_of n
