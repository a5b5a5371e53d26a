-- Lists of calls of the protector's entries, and what is seen of them.
use Rattle.std.specs.Prelude.{◌≡◌, false, List, [], ◌∷◌, ◌++◌, ℕ, length}
use Rattle.protector_state.specs.declared.Reply.{Reply}
use Rattle.protector_state.specs.State.{state_len}
use Rattle.call_refusals.specs.Buffers.{Buffers, tables_len, fits}
use Rattle.history.specs.Observed.{Observed}
use Rattle.history.specs.Call.{Writer, Visibility, Protection, Default, Register, Unregister, Lock, Unlock, Enable, Call, Write, Read, Answer, Result, sees}
use Rattle.history.specs.Made.{Made, Built}

-- ---- for one call alone, what is lent may have another length than what was last left: of the state block, or of another buffer beside the state block as
-- it was left

pub data OtherLengths (left lent : Buffers) : Type 0 where
  block : (length lent.state ≡ state_len → ⊥) → OtherLengths left lent
  other : lent.state ≡ left.state → fits lent ≡ false → OtherLengths left lent

-- the calls on locks are lent the state block and the tables alone
pub data OtherLockLengths (left lent : Buffers) : Type 0 where
  lock_block : (length lent.state ≡ state_len → ⊥) → OtherLockLengths left lent
  lock_tables : lent.state ≡ left.state → (length lent.tables ≡ tables_len → ⊥) → OtherLockLengths left lent

abbrev pub OtherWriterLengths : Writer → Buffers → Buffers → Type 0
OtherWriterLengths (Visibility vtl share list) left lent = OtherLengths left lent
OtherWriterLengths (Protection vtl flags list) left lent = OtherLengths left lent
OtherWriterLengths (Default vtl flags) left lent = OtherLengths left lent
OtherWriterLengths (Register vtl page source checked new) left lent = OtherLengths left lent
OtherWriterLengths (Unregister vtl page) left lent = OtherLengths left lent
OtherWriterLengths (Lock vtl list) left lent = OtherLockLengths left lent
OtherWriterLengths (Unlock vtl list) left lent = OtherLockLengths left lent
OtherWriterLengths Enable left lent = length lent.state ≡ state_len → ⊥

-- a call that only reads may be lent anything
abbrev pub OtherCallLengths : Call → Buffers → Buffers → Type 0
OtherCallLengths (Write writer) left lent = OtherWriterLengths writer left lent
OtherCallLengths (Read reader) left lent = Unit {0}
OtherCallLengths (Answer answer) left lent = OtherLengths left lent

-- a reply that refuses
abbrev pub IsRefusal : Reply → Type 0
IsRefusal reply = reply.number ≡ 0 → ⊥

-- ---- lists of calls from the first buffers, where something was seen before them: the buffers that they leave, and what is seen then

pub data History (first : Buffers) (before : Observed) : Buffers → Observed → Type 0 where
  none : History first before first before
  -- each call is lent what the one before left
  call : {left after : Buffers} {seen : Observed} → History first before left seen → (c : Call) (r : Result c) → Made c left after r → History first before after (sees c r after.pages seen)
  -- or something of another length for itself alone: the next is lent again what was left
  call_with_other_lengths : {left lent after : Buffers} {seen : Observed} → History first before left seen → (c : Call) (r : Result c) → Made c lent after r → OtherCallLengths c left lent → History first before left (sees c r after.pages seen)
  -- a build that is refused may be lent anything, what was left too; one that is taken is no step of a list: it begins another
  refused_build : {left lent after : Buffers} {seen : Observed} → History first before left seen → (ram : List ℕ) (isolation tracked release : ℕ) (r : Reply) → Built ram isolation tracked release lent after r
      → IsRefusal r → History first before left seen

-- what was called, in turn
pub data Event : Type 0 where
  Called : Call → Event
  BuildRefused : (ram : List ℕ) (isolation tracked release : ℕ) → Event

unfoldable pub events_in : {first : Buffers} {before : Observed} {final : Buffers} {seen : Observed} → History first before final seen → List Event
events_in none = []
events_in (call h c r m) = events_in h ++ (Called c ∷ [])
events_in (call_with_other_lengths h c r m s) = events_in h ++ (Called c ∷ [])
events_in (refused_build h ram isolation tracked release r m f) = events_in h ++ (BuildRefused ram isolation tracked release ∷ [])
