-- The default permissions (01, "Defaults").
use Rattle.std.specs.Prelude.{Some, None}
use Rattle.permissions.specs.declared.GuestVtl.{GuestVtl}
use Rattle.permissions.specs.declared.GuestVtl.TheVariants.{Vtl0, Vtl1}
use Rattle.permissions.specs.declared.HvMapGpaFlags.{HvMapGpaFlags}
use Rattle.permissions.specs.declared.DefaultVtlPermissions.{DefaultVtlPermissions}
use Rattle.permissions.specs.Flags.{all_flags}

-- at first all four flags for VTL0, and none given for VTL1
abbrev pub first_defaults : DefaultVtlPermissions
first_defaults = record { vtl0 = all_flags; vtl1 = None }

-- one field is written, the other kept
abbrev pub with_default : DefaultVtlPermissions → GuestVtl → HvMapGpaFlags → DefaultVtlPermissions
with_default d Vtl0 f = record { vtl0 = f; vtl1 = d.vtl1 }
with_default d Vtl1 f = record { vtl0 = d.vtl0; vtl1 = Some f }
