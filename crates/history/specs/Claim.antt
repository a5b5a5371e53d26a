-- The claim of a list of calls.
use Rattle.std.specs.Prelude.{◌≡◌, true, List, ℕ, length}
use Rattle.layout.specs.declared.MemoryRangeWithNode.{MemoryRangeWithNode}
use Rattle.layout.specs.Layout.{entries_of}
use Rattle.permissions.specs.Flags.{isolation_of}
use Rattle.protector_state.specs.declared.Reply.{Reply}
use Rattle.protector_state.specs.State.{state_len, settings_of, entries_in}
use Rattle.call_refusals.specs.Buffers.{Buffers, fits}
use Rattle.protector.specs.Calls.{build_of}
use Rattle.history.specs.Observed.{Observed, unseen}
use Rattle.history.specs.Marks.{Holds}
use Rattle.history.specs.Tables.{TablesFit}
use Rattle.history.specs.Settings.{first_settings, SettingsFit}
use Rattle.history.specs.Permitted.{Permitted}
use Rattle.history.specs.Made.{Unasked}
use Rattle.history.specs.History.{History}
use Rattle.history.specs.Answered.{given, Answered, leaves}
use Rattle.history.specs.Requests.{Asked}

-- ---- of a list of calls h from any buffers, of this layout and these settings

pub record ClaimFrom (entries : List MemoryRangeWithNode) (isolation tracked release : ℕ) {first : Buffers} {before : Observed} {final : Buffers} {seen : Observed} (h : History first before final seen) : Type 0 where
  -- no entry asks anything of its arguments
  pub unasked : Unasked
  -- each call gave what its definition gives of what it was lent, and what is lent now is these definitions composed
  pub answered : Answered h
  pub composed : final ≡ leaves h
  -- each that asked for something has asked, answered and left what the whole call as 01 writes it does, under the answers taken so far
  pub asked : Asked h
  -- where the list stops: all that is lent has its length; the layout is this still; the marks are what the hypervisor last took; the tables are tables; the settings fit; no permission is of a
  -- page outside RAM
  pub long : length final.state ≡ state_len
  pub lent : fits final ≡ true
  pub layout : entries_in final.state ≡ entries
  pub holds : Holds entries (isolation_of isolation) final.maps seen
  pub tables : TablesFit entries final
  pub settings : SettingsFit isolation tracked release final.state
  pub permitted : Permitted entries final

-- and from a build, by what it was lent, what it replied and what it left: the build too gave what its definition gives, and left these settings
pub record Claim (ram : List ℕ) (isolation tracked release : ℕ) (lent : Buffers) (reply : Reply) {left final : Buffers} {seen : Observed} (h : History left unseen final seen) : Type 0 where
  pub built : given left reply ≡ build_of lent ram isolation tracked release
  pub first : settings_of left.state ≡ first_settings isolation tracked release
  pub calls : ClaimFrom (entries_of ram) isolation tracked release h
