-- The six page maps (01, "Bitmaps"): the marks private and shared, and the permission maps, which are empty where permissions are not tracked.
use Rattle.std.specs.Prelude.{◌≡◌, Bool, true, false, cond, ◌&&◌, List, ℕ, ◌/◌, eqb, ltb, length, replicate}
use Rattle.laws.specs.Ranges.{between}
use Rattle.bitmap.specs.Pages.{bit_at, written}
use Rattle.layout.specs.declared.MemoryRangeWithNode.{MemoryRangeWithNode}
use Rattle.layout.specs.Layout.{is_ram, map_len}
use Rattle.permissions.specs.declared.HvMapGpaFlags.{HvMapGpaFlags}
use Rattle.mapping.specs.declared.MapLengths.{MapLengths}
use Rattle.mapping.specs.declared.PageMaps.{PageMaps}
use Rattle.mapping.specs.declared.PermissionMaps.{PermissionMaps}
use Rattle.mapping.specs.declared.PermissionMapsMut.{PermissionMapsMut}

pub record Permissions : Type 0 where
  pub read : List ℕ
  pub write : List ℕ
  pub kernel : List ℕ
  pub user : List ℕ

pub record Maps : Type 0 where
  pub private : List ℕ
  pub shared : List ℕ
  pub permissions : Permissions

abbrev pub perms : List ℕ → List ℕ → List ℕ → List ℕ → Permissions
perms r w k u = record { read = r; write = w; kernel = k; user = u }

abbrev pub maps : List ℕ → List ℕ → List ℕ → List ℕ → List ℕ → List ℕ → Maps
maps p s r w k u = record { private = p; shared = s; permissions = perms r w k u }

-- what lent maps hold
abbrev pub perms_in : PermissionMaps → Permissions
perms_in m = perms m.read.now m.write.now m.kernel.now m.user.now

abbrev pub maps_in : PageMaps → Maps
maps_in m = record { private = m.private.now; shared = m.shared.now; permissions = perms_in m.permissions }

-- what maps lent to be written hold
abbrev pub perms_lent : PermissionMapsMut → Permissions
perms_lent m = perms m.read.now m.write.now m.kernel.now m.user.now

abbrev pub maps_lent : List ℕ → List ℕ → PermissionMapsMut → Maps
maps_lent p s m = record { private = p; shared = s; permissions = perms_lent m }

-- whether what is lent is lent from the same places: a call writes what the maps hold, and puts no other map in their place
abbrev pub same_maps : PermissionMapsMut → PermissionMapsMut → Type 0
same_maps a b =
    (b.read.ghost_name ≡ a.read.ghost_name) × (b.write.ghost_name ≡ a.write.ghost_name) × (b.kernel.ghost_name ≡ a.kernel.ghost_name)
    × (b.user.ghost_name ≡ a.user.ghost_name)

-- a map of n bytes with s at each RAM page, and no other bit
abbrev pub fresh : List MemoryRangeWithNode → Bool → ℕ → List ℕ
fresh es s n = written 8 (is_ram es) s (replicate n 0)

-- the maps as a build leaves them: RAM is private, not shared, and has every permission that is tracked
abbrev pub fresh_perms : List MemoryRangeWithNode → Permissions → Permissions
fresh_perms es m =
    perms (fresh es true (length m.read)) (fresh es true (length m.write)) (fresh es true (length m.kernel)) (fresh es true (length m.user))

abbrev pub built : List MemoryRangeWithNode → Maps → Maps
built es m =
    record {
      private = fresh es true (length m.private);
      shared = fresh es false (length m.shared);
      permissions = fresh_perms es m.permissions;
    }

-- refusal 4: a mark map has len bytes, one for each 32,768 bytes up to the last end; a permission map too if tracked, and else none
abbrev pub marks_fit : ℕ → MapLengths → Bool
marks_fit len l = eqb l.private len && eqb l.shared len

abbrev pub permission_len : ℕ → Bool → ℕ
permission_len len tracked = cond tracked len 0

abbrev pub permissions_fit : ℕ → MapLengths → Bool
permissions_fit len l = eqb l.read len && (eqb l.write len && (eqb l.kernel len && eqb l.user len))

abbrev pub maps_fit : ℕ → Bool → MapLengths → Bool
maps_fit len tracked l = marks_fit len l && permissions_fit (permission_len len tracked) l

-- the lengths that maps have
abbrev pub lengths_of : Maps → MapLengths
lengths_of m =
    record {
      private = length m.private;
      shared = length m.shared;
      read = length m.permissions.read;
      write = length m.permissions.write;
      kernel = length m.permissions.kernel;
      user = length m.permissions.user;
    }

-- whether the maps have a page, one in a hole below the last end too
abbrev pub in_maps : List MemoryRangeWithNode → ℕ → Bool
in_maps es p = ltb (p / 8) (map_len es)

-- what the permission maps hold of a page
abbrev pub flags_at : Permissions → ℕ → HvMapGpaFlags
flags_at m p =
    record {
      readable = bit_at 8 m.read p;
      writable = bit_at 8 m.write p;
      kernel_executable = bit_at 8 m.kernel p;
      user_executable = bit_at 8 m.user p;
    }

-- the permission maps with these flags at the pages from a to before b
abbrev pub permitted : ℕ → ℕ → HvMapGpaFlags → Permissions → Permissions
permitted a b f m =
    perms (written 8 (between a b) f.readable m.read) (written 8 (between a b) f.writable m.write)
    (written 8 (between a b) f.kernel_executable m.kernel) (written 8 (between a b) f.user_executable m.user)
