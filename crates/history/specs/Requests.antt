-- A request of a list of calls, from its call on (01, "The request under way"): the answers taken since then, the operations asked for, and what was given last.
-- Read from the calls and what they gave; and that each of them is the whole call as 01 writes it.
use Rattle.std.specs.Prelude.{◌≡◌, false, cond, List, [], ◌∷◌, ◌++◌, ℕ, drop}
use Rattle.abi.specs.Places as place
use Rattle.permissions.specs.Flags.{vtl_of, bool_of}
use Rattle.protector_state.specs.declared.Reply.{Reply}
use Rattle.protector_state.specs.State.{settings_of}
use Rattle.call_refusals.specs.Buffers.{Buffers}
use Rattle.protection_entries.specs.Calls.{stored, all_listed}
use Rattle.visibility_claims.specs.Whole.{BackendAnswer}
use Rattle.visibility_claims.specs.Runs.{whole}
use Rattle.visibility_claims.specs.Calls.{whole_of, pages_for, asks_in, Told, Match}
use Rattle.change_claims.specs.Calls.{protection_whole, default_whole, register_whole, unregister_whole}
use Rattle.change_claims.specs.Claims.{AgreesIn}
use Rattle.history.specs.Observed.{Observed, asks, is_waiting}
use Rattle.history.specs.Call.{Writer, Visibility, Protection, Default, Register, Unregister, Lock, Unlock, Enable, Call, Write, Read, Answer, Result, sees_writer, sees}
use Rattle.history.specs.Made.{Made, Built}
use Rattle.history.specs.History.{OtherCallLengths, IsRefusal, History, none, call, call_with_other_lengths, refused_build, Event, Called, events_in}
use Rattle.history.specs.Answered.{given}
use Rattle.history.specs.Ends.{Trace, start, answer, other, trace_of}

-- the answers that were taken, in order
unfoldable pub given_in : {first : Buffers} {before : Observed} {final : Buffers} {seen : Observed} → Trace first before final seen → List BackendAnswer
given_in start = []
given_in (answer h given taken) = given_in h ++ cond taken (given ∷ []) []
given_in (other h) = given_in h

-- the operations asked for: by the call itself, then by each taken answer
unfoldable pub asked_in : {first : Buffers} {before : Observed} {final : Buffers} {seen : Observed} → Trace first before final seen → List Reply
asked_in {first} {before} start = asks_in before.op
asked_in (answer {left} {after} {seen} {next} h given taken) = asked_in h ++ cond taken (asks_in next.op) []
asked_in (other h) = asked_in h

abbrev pub told_in : {first : Buffers} {before : Observed} {final : Buffers} {seen : Observed} → Trace first before final seen → Told
told_in {first} {before} {final} {seen} h = record { asked = asked_in h; last = given final seen.op }

-- ---- a call of these buffers, once these answers were taken: the operations that it asked for, in turn, what was given last, and what it leaves, are those of the
-- whole call as 01 writes it

abbrev pub WholeOf : Writer → Buffers → List BackendAnswer → Told → Type 0
WholeOf (Visibility vtl share list) buffers answers told =
    Match buffers.tables (drop place.after_request buffers.state) (pages_for buffers (vtl_of vtl) (bool_of share) list) (settings_of buffers.state).isolation
    (whole (whole_of buffers (vtl_of vtl) (bool_of share) list answers)) told
WholeOf (Protection vtl flags list) buffers answers told = AgreesIn buffers (all_listed list buffers.pages) (protection_whole buffers (vtl_of vtl) flags list answers) told
WholeOf (Default vtl flags) buffers answers told = AgreesIn (stored buffers (vtl_of vtl) flags) buffers.pages (default_whole (stored buffers (vtl_of vtl) flags) (vtl_of vtl) flags answers) told
WholeOf (Register vtl page source checked new) buffers answers told = AgreesIn buffers buffers.pages (register_whole buffers (vtl_of vtl) page source new answers) told
WholeOf (Unregister vtl page) buffers answers told = AgreesIn buffers buffers.pages (unregister_whole buffers (vtl_of vtl) page answers) told
-- the calls on locks and the setter ask for nothing
WholeOf (Lock vtl list) buffers answers told = ⊥
WholeOf (Unlock vtl list) buffers answers told = ⊥
WholeOf Enable buffers answers told = ⊥

-- a call of these buffers that asked for something, and the calls from there on
abbrev pub IsWhole : Writer → Buffers → {first : Buffers} {before : Observed} {final : Buffers} {seen : Observed} → Trace first before final seen → Type 0
IsWhole writer buffers h = WholeOf writer buffers (given_in h) (told_in h)

-- ---- the request of a list of calls that is under way where the list stops, or that ended with no call but answers since: the calls before it, its own, and those
-- after it

pub data Begun (first : Buffers) (before : Observed) (final : Buffers) (seen : Observed) : Type 0 where
  nothing : Begun first before final seen
  since : {left after : Buffers} {earlier : Observed} → History first before left earlier → (writer : Writer) (reply : Reply) → Made (Write writer) left after reply → History after (sees_writer writer reply after.pages earlier) final seen → Begun first before final seen

abbrev pub then_call : {first left after : Buffers} {before seen : Observed} → Begun first before left seen → (c : Call) (r : Result c) → Made c left after r → Begun first before after (sees c r after.pages seen)
then_call nothing c r m = nothing
then_call (since g d s n h) c r m = since g d s n (call h c r m)

abbrev pub then_call_with_other_lengths : {first left lent after : Buffers} {before seen : Observed} → Begun first before left seen → (c : Call) (r : Result c) → Made c lent after r → OtherCallLengths c left lent → Begun first before left (sees c r after.pages seen)
then_call_with_other_lengths nothing c r m s = nothing
then_call_with_other_lengths (since g d s n h) c r m t = since g d s n (call_with_other_lengths h c r m t)

abbrev pub then_build : {first left lent after : Buffers} {before seen : Observed} → Begun first before left seen → (ram : List ℕ) (isolation tracked release : ℕ) (r : Reply) → Built ram isolation tracked release lent after r
    → IsRefusal r → Begun first before left seen
then_build nothing ram isolation tracked release r m f = nothing
then_build (since g d s n h) ram isolation tracked release r m f = since g d s n (refused_build h ram isolation tracked release r m f)

unfoldable pub begun_in : {first : Buffers} {before : Observed} {final : Buffers} {seen : Observed} → History first before final seen → Begun first before final seen
begun_in none = nothing
begun_in (call {left} {after} {seen} h (Write writer) r m) = cond (asks r) (since h writer r m none) (cond (is_waiting seen) (then_call (begun_in h) (Write writer) r m) nothing)
begun_in (call {left} {after} {seen} h (Read reader) r m) = cond (is_waiting seen) (then_call (begun_in h) (Read reader) r m) nothing
begun_in (call h (Answer given) r m) = then_call (begun_in h) (Answer given) r m
begun_in (call_with_other_lengths {left} {lent} {after} {seen} h (Write writer) r m s) = cond (is_waiting seen) (then_call_with_other_lengths (begun_in h) (Write writer) r m s) nothing
begun_in (call_with_other_lengths {left} {lent} {after} {seen} h (Read reader) r m s) = cond (is_waiting seen) (then_call_with_other_lengths (begun_in h) (Read reader) r m s) nothing
begun_in (call_with_other_lengths h (Answer given) r m s) = then_call_with_other_lengths (begun_in h) (Answer given) r m s
begun_in (refused_build {left} {lent} {after} {seen} h ram isolation tracked release r m f) = cond (is_waiting seen) (then_build (begun_in h) ram isolation tracked release r m f) nothing

-- it is the whole call under the answers taken so far; where there is none, nothing is under way
abbrev pub AskedAt : {first : Buffers} {before : Observed} {final : Buffers} {seen : Observed} → Begun first before final seen → Type 0
AskedAt {first} {before} {final} {seen} nothing = is_waiting seen ≡ false
AskedAt (since {left} g writer r m h) = IsWhole writer left (trace_of h)

-- wherever the list is stopped
unfoldable pub Asked : {first : Buffers} {before : Observed} {final : Buffers} {seen : Observed} → History first before final seen → Type 0
Asked none = Unit {0}
Asked (call h c r m) = Asked h × AskedAt (begun_in (call h c r m))
Asked (call_with_other_lengths h c r m s) = Asked h × AskedAt (begun_in (call_with_other_lengths h c r m s))
Asked (refused_build h ram isolation tracked release r m f) = Asked h × AskedAt (begun_in (refused_build h ram isolation tracked release r m f))

-- the calls before it, its own and those since are these of the list
abbrev pub Parts : List Event → {first : Buffers} {before : Observed} {final : Buffers} {seen : Observed} → Begun first before final seen → Type 0
Parts events nothing = Unit {0}
Parts events (since g writer r m h) = events ≡ events_in g ++ (Called (Write writer) ∷ events_in h)
