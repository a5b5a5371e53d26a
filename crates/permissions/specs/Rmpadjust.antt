-- The operand of RMPADJUST (AMD64 APM volume 2, VMPL permissions; 01, "Defaults"): the target VMPL in bits 0 to 7, and from bit 8 on the
-- permission mask, whose four bits are read, write, user execute and supervisor execute. The VMSA bit, 16, is 0.
use Rattle.std.specs.Prelude.{ℕ, ◌+◌, ◌*◌}
use Rattle.laws.specs.Bools.{digit}
use Rattle.permissions.specs.declared.GuestVtl.{GuestVtl}
use Rattle.permissions.specs.declared.GuestVtl.TheVariants.{Vtl0, Vtl1}
use Rattle.permissions.specs.declared.HvMapGpaFlags.{HvMapGpaFlags}

-- VTL0 runs at VMPL 2, VTL1 at VMPL 1
abbrev pub vmpl_of : GuestVtl → ℕ
vmpl_of Vtl0 = 2
vmpl_of Vtl1 = 1

abbrev pub mask_of : HvMapGpaFlags → ℕ
mask_of f = digit f.readable + 2 * digit f.writable + 4 * digit f.user_executable + 8 * digit f.kernel_executable

unfoldable pub operand_of : GuestVtl → HvMapGpaFlags → ℕ
operand_of v f = vmpl_of v + 256 * mask_of f
