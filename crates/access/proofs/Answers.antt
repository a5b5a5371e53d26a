-- What refuses a permission query. Assumes nothing.
use mathlib.Core.Bool.{Bool, true, false, cond}
use mathlib.Core.List.{List}
use mathlib.Core.Path.{◌≡◌, refl, sym}
use Prim.Native.Nat.{ℕ}
use borrow.Author.Tests.{eqb-true}
use lib.Dec.{eqb}
use Rattle.layout.specs.declared.MemoryRangeWithNode.{MemoryRangeWithNode}
use Rattle.layout.specs.Layout.{map_len}
use Rattle.permissions.specs.declared.HvMapGpaFlags.{HvMapGpaFlags}
use Rattle.permissions.specs.Flags.{vtl_of}
use Rattle.mapping.specs.Maps.{Maps, maps_fit, lengths_of, flags_at}
use Rattle.std.specs.Prelude.{Ok, Err}
use Rattle.access.specs.Query.{answer, access_refusal, access_permission, is_hole, lower_refusal, lower_flags, lower_vtl_permissions, permissions_number}

-- what refuses a query
module _ (es : List MemoryRangeWithNode) (m : Maps) (tracked : Bool) (p : ℕ) where
  number_of : (n : ℕ) (f : HvMapGpaFlags) → permissions_number (answer n f) ≡ n
  number_of n f = go (eqb n 0) refl
    where
      go : (b : Bool) → eqb n 0 ≡ b → permissions_number (cond b (Ok f) (Err n)) ≡ n
      go true e = sym (eqb-true n 0 e)
      go false e = refl

  pub access_number : permissions_number (access_permission es m tracked p) ≡ access_refusal (maps_fit (map_len es) tracked (lengths_of m)) tracked
  unfolding access_permission
  access_number = number_of (access_refusal (maps_fit (map_len es) tracked (lengths_of m)) tracked) (flags_at m.permissions p)

  pub lower_number : (vtl : ℕ) → permissions_number (lower_vtl_permissions es m tracked vtl p) ≡ lower_refusal (maps_fit (map_len es) tracked (lengths_of m)) vtl (is_hole es p)
  unfolding lower_vtl_permissions
  lower_number vtl = number_of (lower_refusal (maps_fit (map_len es) tracked (lengths_of m)) vtl (is_hole es p)) (lower_flags m.permissions tracked (vtl_of vtl) p)
