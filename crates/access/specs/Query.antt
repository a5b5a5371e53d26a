-- The permission queries (01, "From the input" 4, 7 and 8, "From the state" 24; past the maps 02, (vi)).
use Rattle.std.specs.Prelude.{Bool, false, not, cond, ◌&&◌, List, ℕ, Result, Ok, Err, eqb}
use Rattle.abi.specs.Refusals as refusal
use Rattle.laws.specs.Refusal.{unless, when}
use Rattle.layout.specs.declared.MemoryRangeWithNode.{MemoryRangeWithNode}
use Rattle.layout.specs.Layout.{is_ram, map_len}
use Rattle.permissions.specs.declared.GuestVtl.{GuestVtl}
use Rattle.permissions.specs.declared.GuestVtl.TheVariants.{Vtl0, Vtl1}
use Rattle.permissions.specs.declared.HvMapGpaFlags.{HvMapGpaFlags}
use Rattle.permissions.specs.Flags.{fit_vtl, vtl_of, bits_of, all_flags}
use Rattle.permissions.specs.HvError.{code_of}
use Rattle.mapping.specs.Maps.{Permissions, Maps, maps_fit, lengths_of, in_maps, flags_at}

abbrev pub answer : ℕ → HvMapGpaFlags → Result HvMapGpaFlags ℕ
answer n f = cond (eqb n 0) (Ok f) (Err n)

-- of the maps: 4, 24, else what they hold: past their last byte no flag
abbrev pub access_refusal : Bool → Bool → ℕ
access_refusal fits tracked = unless fits refusal.wrong_length (unless tracked refusal.untracked 0)

unfoldable pub access_permission : List MemoryRangeWithNode → Maps → Bool → ℕ → Result HvMapGpaFlags ℕ
access_permission es m tracked p = answer (access_refusal (maps_fit (map_len es) tracked (lengths_of m)) tracked) (flags_at m.permissions p)

-- a page below the end of the maps that is not RAM
abbrev pub is_hole : List MemoryRangeWithNode → ℕ → Bool
is_hole es p = in_maps es p && not (is_ram es p)

-- of a VTL: 4, 8, 7 in a hole; else what the maps hold for VTL0 if tracked, and all four elsewhere
abbrev pub lower_refusal : Bool → ℕ → Bool → ℕ
lower_refusal fits vtl hole = unless fits refusal.wrong_length (unless (fit_vtl vtl) refusal.unfit_number (when hole refusal.not_ram 0))

abbrev pub is_tracked : GuestVtl → Bool → Bool
is_tracked Vtl0 tracked = tracked
is_tracked Vtl1 tracked = false

abbrev pub lower_flags : Permissions → Bool → GuestVtl → ℕ → HvMapGpaFlags
lower_flags m tracked vtl p = cond (is_tracked vtl tracked) (flags_at m p) all_flags

unfoldable pub lower_vtl_permissions : List MemoryRangeWithNode → Maps → Bool → ℕ → ℕ → Result HvMapGpaFlags ℕ
lower_vtl_permissions es m tracked vtl p =
    answer (lower_refusal (maps_fit (map_len es) tracked (lengths_of m)) vtl (is_hole es p)) (lower_flags m.permissions tracked (vtl_of vtl) p)

-- the number of 01 for an answer, 0 where nothing is refused; and its value, the flags or the code that a refusal carries
abbrev pub permissions_number : Result HvMapGpaFlags ℕ → ℕ
permissions_number (Ok f) = 0
permissions_number (Err n) = n

abbrev pub permissions_value : Result HvMapGpaFlags ℕ → ℕ
permissions_value (Ok f) = bits_of f
permissions_value (Err n) = code_of n
