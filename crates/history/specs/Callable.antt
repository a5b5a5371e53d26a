-- That no list of calls is cut short for want of a call: with any arguments every entry has a call, whatever it is lent, as it is defined; and something of another
-- length may be lent, whatever was last left.
use Rattle.std.specs.Prelude.{◌≡◌, false, List, [], ℕ}
use Rattle.permissions.specs.Flags.{fit_isolation}
use Rattle.call_refusals.specs.Buffers.{Buffers, buffers}
use Rattle.protector.specs.Calls.{build_of}
use Rattle.history.specs.Call.{Call, gives}
use Rattle.history.specs.Made.{Made, Built}
use Rattle.history.specs.History.{OtherLengths, OtherLockLengths, IsRefusal}

-- every call, of buffers of any lengths; and a build that is refused, as for any isolation outside the domain
pub record Callable (buffers : Buffers) : Type 0 where
  pub made : (call : Call) → Made call buffers (gives call buffers).buffers (gives call buffers).answer
  pub built : (ram : List ℕ) (isolation tracked release : ℕ) → let X = build_of buffers ram isolation tracked release in Built ram isolation tracked release buffers X.buffers X.reply
  pub refused : (ram : List ℕ) (isolation tracked release : ℕ) → fit_isolation isolation ≡ false → IsRefusal (build_of buffers ram isolation tracked release).reply

-- something of another length: no state block at all; or, beside the state block as it was left, no pages run, or no tables
pub record AnyOtherLengths (left : Buffers) : Type 0 where
  pub no_block : OtherLengths left (buffers left.maps [] left.pages left.tables)
  pub no_pages : OtherLengths left (buffers left.maps left.state [] left.tables)
  pub no_lock_block : OtherLockLengths left (buffers left.maps [] left.pages left.tables)
  pub no_lock_tables : OtherLockLengths left (buffers left.maps left.state left.pages [])
