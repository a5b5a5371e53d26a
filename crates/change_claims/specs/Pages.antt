-- What a call does page by page: the pages that its Protects name, and the permission maps (document 01, "Bitmaps", "Defaults", "The request under way", its last
-- paragraph).
use Rattle.std.specs.Prelude.{◌≡◌, Bool, true, false, cond, ◌&&◌, List, [], ◌∷◌, ◌++◌, ℕ, ◌/◌, eqb, ltb, length}
use Rattle.abi.specs.Operations as operation
use Rattle.bitmap.specs.Pages.{bit_at}
use Rattle.permissions.specs.declared.GuestVtl.{GuestVtl}
use Rattle.permissions.specs.declared.GuestVtl.TheVariants.{Vtl0, Vtl1}
use Rattle.permissions.specs.declared.HvMapGpaFlags.{HvMapGpaFlags}
use Rattle.mapping.specs.Maps.{Permissions, Maps}
use Rattle.default_change.specs.Visit.{up_to}
use Rattle.protector_state.specs.declared.Reply.{Reply}

-- ---- the pages of the Protects among replies, in order

abbrev pub is_protect : Reply → Bool
is_protect reply = eqb reply.operation operation.protect

unfoldable pub protected_in : List Reply → List ℕ
protected_in [] = []
protected_in (reply ∷ replies) = cond (is_protect reply) (up_to reply.first reply.pages) [] ++ protected_in replies

-- ---- the permission maps

-- a map at every page: the state at the pages of P, and the bit that it had at any other
abbrev pub Sets : (ℕ → Bool) → Bool → List ℕ → List ℕ → Type 0
Sets P state old new = (gpn : ℕ) → bit_at 8 new gpn ≡ cond (P gpn) state (bit_at 8 old gpn)

-- the pages of P: all of them, or those that a map has
abbrev pub all : (ℕ → Bool) → List ℕ → ℕ → Bool
all P map gpn = P gpn

abbrev pub within : (ℕ → Bool) → List ℕ → ℕ → Bool
within P map gpn = P gpn && ltb (gpn / 8) (length map)

-- each of the four has its own of the flags at the pages of P
pub record Permits (P : List ℕ → ℕ → Bool) (flags : HvMapGpaFlags) (old new : Permissions) : Type 0 where
  pub read : Sets (P old.read) flags.readable old.read new.read
  pub write : Sets (P old.write) flags.writable old.write new.write
  pub kernel : Sets (P old.kernel) flags.kernel_executable old.kernel new.kernel
  pub user : Sets (P old.user) flags.user_executable old.user new.user

-- where VTL0's permissions are tracked; of VTL1 or untracked nothing is written
abbrev pub PermitsFor : Bool → GuestVtl → (List ℕ → ℕ → Bool) → HvMapGpaFlags → Permissions → Permissions → Type 0
PermitsFor true Vtl0 P flags old new = Permits P flags old new
PermitsFor false Vtl0 P flags old new = new ≡ old
PermitsFor tracked Vtl1 P flags old new = new ≡ old

-- and both marks stay as they were
pub record Leaves (tracked : Bool) (vtl : GuestVtl) (P : List ℕ → ℕ → Bool) (flags : HvMapGpaFlags) (old new : Maps) : Type 0 where
  pub private : new.private ≡ old.private
  pub shared : new.shared ≡ old.shared
  pub permissions : PermitsFor tracked vtl P flags old.permissions new.permissions
