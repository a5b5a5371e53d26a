-- The one table of document 01's worked examples (P1 to P10), of the readings that it shuts out and of computed cases that tell right from nearly right, by family: RAM
-- pages 0 to 15 and 32 to 39, through the entries' own definitions and the numbers that cross.
use Rattle.std.specs.Prelude.{◌≡◌, ℕ, Some}
use Rattle.permissions.specs.declared.GuestVtl.TheVariants.{Vtl0, Vtl1}
use Rattle.permissions.specs.declared.DefaultVtlPermissions.{DefaultVtlPermissions}
use Rattle.permissions.specs.Defaults.{with_default}
use Rattle.permissions.specs.Flags.{flags_of}
use Rattle.permissions.specs.Rmpadjust.{operand_of}
use Rattle.change_claims.specs.Table as changes
use Rattle.visibility_claims.specs.Table.{Visibility}
use Rattle.worked.specs.Builds.{Builds}
use Rattle.worked.specs.Faults.{Faults, Permissions}
use Rattle.worked.specs.Lists.{Lists}
use Rattle.worked.specs.Shares.{Operations, Moves, Stops, Calls, Failures}
use Rattle.worked.specs.Changes.{Protections, DefaultChanges}
use Rattle.worked.specs.Overlays.{NewOverlays, KnownOverlays}
use Rattle.worked.specs.Past.{PastFaults, PastPermissions, PastLists}
use Rattle.worked.specs.Bars.{Bars, Locks, Queries, Turns}
use Rattle.worked.specs.Limits.{OverlayLimit, FirstOverlays, LastOverlays, LockLimits, PageLimits}
use Rattle.worked.specs.Registrar.{RegistrarBuilds, Registers, AllAligned}

abbrev pub defaults : ℕ → ℕ → DefaultVtlPermissions
defaults a b = record { vtl0 = flags_of a; vtl1 = Some (flags_of b) }

pub record Worked : Type 0 where
  -- P1 and P6
  pub builds : Builds
  -- P2 to P5, by the calls and as whole calls
  pub calls : Calls
  pub p2_to_p5 : Visibility
  pub p7_vtl0 : operand_of Vtl0 (flags_of 5) ≡ 2306
  pub p7_vtl1 : operand_of Vtl1 (flags_of 4) ≡ 2049
  -- one default is set, the other kept
  pub set_vtl0 : with_default (defaults 6 9) Vtl0 (flags_of 4) ≡ defaults 4 9
  pub set_vtl1 : with_default (defaults 6 9) Vtl1 (flags_of 4) ≡ defaults 6 4
  -- P8 and P9
  pub registrar_builds : RegistrarBuilds
  pub registers : Registers
  pub all_aligned : AllAligned
  -- P10
  pub faults : Faults
  pub permissions : Permissions
  -- above the last page, and in holes
  pub past_faults : PastFaults
  pub past_permissions : PastPermissions
  pub past_lists : PastLists
  -- 512 listed pages, 513, and lists by their bytes
  pub lists : Lists
  -- visibility changes: their operations, when marks move, where they stop (15), how they fail (16, 20)
  pub operations : Operations
  pub moves : Moves
  pub stops : Stops
  pub failures : Failures
  pub protections : Protections
  pub default_changes : DefaultChanges
  pub new_overlays : NewOverlays
  pub known_overlays : KnownOverlays
  -- what bars a call (10, 11), whose it is; locked lists; the visibility query; 19 and 20
  pub bars : Bars
  pub locks : Locks
  pub queries : Queries
  pub turns : Turns
  -- 128 overlays, 64 lists and 1,024 pages, made by calls
  pub overlay_limit : OverlayLimit
  pub first_overlays : FirstOverlays
  pub last_overlays : LastOverlays
  pub lock_limits : LockLimits
  pub page_limits : PageLimits
  -- protection and default changes and overlay calls as whole calls, and the limits of counts and tables
  pub other_changes : changes.Changes
  pub limits : changes.Limits
