-- The claim at a stop (01, "The request under way", "Bitmaps"): the marks against what the hypervisor last took.
use Rattle.std.specs.Prelude.{◌≡◌, Bool, true, false, List, [], ℕ, length}
use Rattle.bitmap.specs.Pages.{bit_at}
use Rattle.layout.specs.declared.MemoryRangeWithNode.{MemoryRangeWithNode}
use Rattle.layout.specs.Layout.{refusal_of, is_ram}
use Rattle.permissions.specs.declared.IsolationType.{IsolationType}
use Rattle.visibility_steps.specs.Steps.{is_snp}
use Rattle.page_list.specs.Pages.{among}
use Rattle.mapping.specs.Maps.{Maps}
use Rattle.protector_state.specs.State.{state_len, ram_of, entries_in}
use Rattle.protector_state.specs.Reply.{finished}
use Rattle.call_refusals.specs.Buffers.{Buffers, fits, status_in}
use Rattle.history.specs.Observed.{Observed, is_waiting, Private, Shared, took_as, ReturnState, Never, Returned, Validated, Zeroed}

-- a page's mark in a map
abbrev pub Has : List ℕ → ℕ → Type 0
Has map gpn = bit_at 8 map gpn ≡ true

-- a page that was never returned, or validated and then zeroed since it was
abbrev pub is_settled : ReturnState → Bool
is_settled Never = true
is_settled Returned = false
is_settled Validated = false
is_settled Zeroed = true

-- both marks of a page say as what it was last taken
pub record Exact (maps : Maps) (seen : Observed) (gpn : ℕ) : Type 0 where
  pub private : seen.last gpn ≡ Private → Has maps.private gpn
  pub private_only : Has maps.private gpn → seen.last gpn ≡ Private
  pub shared : seen.last gpn ≡ Shared → Has maps.shared gpn
  pub shared_only : Has maps.shared gpn → seen.last gpn ≡ Shared

pub record Marked (entries : List MemoryRangeWithNode) (maps : Maps) (seen : Observed) : Type 0 where
  -- a RAM page not listed by the visibility change under way, nor by the one that halted
  pub exact : (gpn : ℕ) → is_ram entries gpn ≡ true → among seen.listed gpn ≡ false → Exact maps seen gpn
  -- and so every RAM page, with nothing under way and nothing halted
  pub at_rest : is_waiting seen ≡ false → seen.halted ≡ false → (gpn : ℕ) → is_ram entries gpn ≡ true → Exact maps seen gpn
  -- any page: a mark says what was last taken
  pub private_right : (gpn : ℕ) → Has maps.private gpn → seen.last gpn ≡ Private
  pub shared_right : (gpn : ℕ) → Has maps.shared gpn → seen.last gpn ≡ Shared
  pub never_both : (gpn : ℕ) → Has maps.private gpn → Has maps.shared gpn → ⊥
  pub private_ram_lem : (gpn : ℕ) → Has maps.private gpn → is_ram entries gpn ≡ true
  pub shared_ram : (gpn : ℕ) → Has maps.shared gpn → is_ram entries gpn ≡ true

-- the whole claim at a stop: the marks, and on SNP a page is marked private only if it was never returned, or validated and then zeroed since its return
pub record Holds (entries : List MemoryRangeWithNode) (isolation : IsolationType) (maps : Maps) (seen : Observed) : Type 0 where
  pub marks : Marked entries maps seen
  pub settled : is_snp isolation ≡ true → (gpn : ℕ) → Has maps.private gpn → is_settled (seen.age gpn) ≡ true

-- ---- a list may begin where nothing is under way and each RAM page has one mark, as after a build: what was last taken is then read off the marks

abbrev pub read_off : Maps → Observed
read_off maps = record { op = finished 0 0 0 0; table = []; halted = false; listed = []; last = λ gpn. took_as (bit_at 8 maps.shared gpn); age = λ gpn. Never }

pub record Settled (buffers : Buffers) : Type 0 where
  pub layout : refusal_of (ram_of buffers.state) ≡ 0
  pub idle : status_in buffers.state ≡ 0
  pub long : length buffers.state ≡ state_len
  pub lent : fits buffers ≡ true
  pub private_ram_lem : (gpn : ℕ) → Has buffers.maps.private gpn → is_ram (entries_in buffers.state) gpn ≡ true
  pub shared_ram : (gpn : ℕ) → Has buffers.maps.shared gpn → is_ram (entries_in buffers.state) gpn ≡ true
  pub never_both : (gpn : ℕ) → Has buffers.maps.private gpn → Has buffers.maps.shared gpn → ⊥
  pub either : (gpn : ℕ) → is_ram (entries_in buffers.state) gpn ≡ true → bit_at 8 buffers.maps.shared gpn ≡ false → Has buffers.maps.private gpn
