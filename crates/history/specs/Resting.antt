-- What stands where nothing is under way and a list of calls may begin (01, "The request under way", "Overlays and locks", "Bitmaps", "Defaults"): the marks are settled,
-- the tables and the settings are such as 01's limits allow, and no permission is of a page outside RAM.
use Rattle.std.specs.Prelude.{ℕ}
use Rattle.protector_state.specs.State.{entries_in}
use Rattle.call_refusals.specs.Buffers.{Buffers}
use Rattle.history.specs.Marks.{Settled}
use Rattle.history.specs.Tables.{Tables}
use Rattle.history.specs.Settings.{SettingsFit}
use Rattle.history.specs.Permitted.{Inside}

pub record Rests (isolation tracked release : ℕ) (buffers : Buffers) : Type 0 where
  pub settled : Settled buffers
  pub tables : Tables (entries_in buffers.state) buffers.tables
  pub settings : SettingsFit isolation tracked release buffers.state
  pub inside : Inside (entries_in buffers.state) buffers.maps.permissions
