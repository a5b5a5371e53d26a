-- What the permission maps hold between calls (01, "Bitmaps"): no bit of a page that isn't RAM; nor will the request under way set one.
use Rattle.std.specs.Prelude.{◌≡◌, Bool, true, false, cond, List, ℕ, ◌<◌, eqb, length, get_or}
use Rattle.abi.specs.Refusals as refusal
use Rattle.layout.specs.declared.MemoryRangeWithNode.{MemoryRangeWithNode}
use Rattle.layout.specs.Layout.{is_ram}
use Rattle.mapping.specs.Maps.{Permissions}
use Rattle.change_steps.specs.declared.Stage.{Stage}
use Rattle.change_steps.specs.declared.Stage.TheVariants as stage
use Rattle.protector_state.specs.State.{phase_in, request_of}
use Rattle.protector_state.specs.Changing.{stage_in, is_changing}
use Rattle.call_refusals.specs.Buffers.{Buffers, status_of}
use Rattle.history.specs.Marks.{Has}

pub record Inside (entries : List MemoryRangeWithNode) (permissions : Permissions) : Type 0 where
  pub read : (gpn : ℕ) → Has permissions.read gpn → is_ram entries gpn ≡ true
  pub write : (gpn : ℕ) → Has permissions.write gpn → is_ram entries gpn ≡ true
  pub kernel : (gpn : ℕ) → Has permissions.kernel gpn → is_ram entries gpn ≡ true
  pub user : (gpn : ℕ) → Has permissions.user gpn → is_ram entries gpn ≡ true

-- the first count pages of the pages run are RAM
abbrev pub OnRam : List MemoryRangeWithNode → ℕ → List ℕ → Type 0
OnRam entries count pages = (j : ℕ) → j < count → j < length pages → is_ram entries (get_or pages j 0) ≡ true

abbrev pub is_pages : Stage → Bool
is_pages stage.Idle = false
is_pages stage.Halted = false
is_pages stage.ProtectPages = true
is_pages stage.ProtectRam = false
is_pages stage.ProtectNew = false
is_pages stage.ProtectOld = false
is_pages stage.Wait = false
is_pages stage.Flush = false
is_pages stage.TlbWait = false

-- a visibility change, or a protection change that still protects, is under way
abbrev pub is_listing : List ℕ → Bool
is_listing state = cond (is_changing state) (is_pages (stage_in state)) (eqb (status_of (phase_in state)) refusal.busy)

pub record Permitted (entries : List MemoryRangeWithNode) (buffers : Buffers) : Type 0 where
  pub inside : Inside entries buffers.maps.permissions
  pub listed : is_listing buffers.state ≡ true → OnRam entries (request_of buffers.state).n buffers.pages
