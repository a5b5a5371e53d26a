-- What is seen of the calls from outside: the operation outstanding, the call under way or halted, and what the hypervisor last took (01, "The request
-- under way"). It is read from the calls, their replies and the pages run as they leave it, never from the marks or the state block.
use Rattle.std.specs.Prelude.{Bool, true, false, cond, not, ◌&&◌, ◌||◌, List, [], ℕ, ◌+◌, min, eqb, take}
use Rattle.abi.specs.Operations as operation
use Rattle.abi.specs.Refusals as refusal
use Rattle.laws.specs.Ranges.{between}
use Rattle.page_list.specs.Pages.{among}
use Rattle.protector_state.specs.declared.Reply.{Reply}
use Rattle.protector_state.specs.Reply.{finished}
use Rattle.visibility_claims.specs.Whole.{BackendAnswer, Succeeds, Fails}
use Rattle.visibility_claims.specs.Calls.{no_operation}

-- ---- what is seen

-- of a page: never returned, or since its return nothing, validated, validated and then zeroed
pub data ReturnState : Type 0 where
  Never : ReturnState
  Returned : ReturnState
  Validated : ReturnState
  Zeroed : ReturnState

-- how the hypervisor took a page
pub data Took : Type 0 where
  Private : Took
  Shared : Took

abbrev pub took_as : Bool → Took
took_as b = cond b Shared Private

pub record Observed : Type 0 where
  -- the last reply of a call that asked or of a taken answer: the operation outstanding, or none where it asks for none
  pub op : Reply
  -- the pages run as that call left it: the pages of a Modify are its first
  pub table : List ℕ
  -- a taken answer gave 20
  pub halted : Bool
  -- the pages listed by the visibility change under way, or by the one that halted
  pub listed : List ℕ
  -- as what the hypervisor last took a page
  pub last : ℕ → Took
  -- how far a page is since it was last returned
  pub age : ℕ → ReturnState

-- at a build
abbrev pub unseen : Observed
unseen = record { op = finished 0 0 0 0; table = []; halted = false; listed = []; last = λ gpn. Private; age = λ gpn. Never }

abbrev pub asks : Reply → Bool
asks reply = not (eqb reply.operation no_operation)

-- a call is under way: its operation is outstanding
abbrev pub is_waiting : Observed → Bool
is_waiting seen = asks seen.op

abbrev pub is_modify : Reply → Bool
is_modify reply = eqb reply.operation operation.modify

-- how many of n pages an answer to Modify processed
abbrev pub processed : BackendAnswer → ℕ → ℕ
processed Succeeds n = n
processed (Fails code k) n = min k n

-- what Modify took, once a taken answer came to it
abbrev pub last_after : BackendAnswer → Observed → ℕ → Took
last_after answer seen gpn = cond (is_modify seen.op && among (take (processed answer seen.op.pages) seen.table) gpn) (took_as (eqb seen.op.shared 1)) (seen.last gpn)

-- an Accept or a Zero that is done takes the pages of its run one step on, in that order
abbrev pub accepted : ReturnState → ReturnState
accepted Never = Never
accepted Returned = Validated
accepted Validated = Validated
accepted Zeroed = Zeroed

abbrev pub zeroed : ReturnState → ReturnState
zeroed Never = Never
zeroed Returned = Returned
zeroed Validated = Zeroed
zeroed Zeroed = Zeroed

abbrev pub is_done : BackendAnswer → Bool
is_done Succeeds = true
is_done (Fails code processed) = false

abbrev pub in_run : Reply → ℕ → Bool
in_run reply gpn = between reply.first (reply.first + reply.pages) gpn

abbrev pub age_after : BackendAnswer → Observed → ℕ → ReturnState
age_after answer seen gpn =
    cond (is_modify seen.op && among (take (processed answer seen.op.pages) seen.table) gpn) (cond (eqb seen.op.shared 1) Never Returned)
    (cond (is_done answer && (eqb seen.op.operation operation.accept && in_run seen.op gpn)) (accepted (seen.age gpn))
    (cond (is_done answer && (eqb seen.op.operation operation.zero && in_run seen.op gpn)) (zeroed (seen.age gpn))
    (seen.age gpn)))

-- an answer that came when nothing was halted, and was refused neither for a length (4) nor as not asked for (21)
abbrev pub is_taken : Observed → Reply → Bool
is_taken seen reply = not seen.halted && (not (eqb reply.number refusal.wrong_length) && not (eqb reply.number refusal.nothing_asked))

-- a taken answer that asks on, or gives 20, leaves the call under way or halted; any other ends it
abbrev pub goes_on : Reply → Bool
goes_on reply = asks reply || eqb reply.number refusal.halted

abbrev pub sees_taken : BackendAnswer → Reply → List ℕ → Observed → Observed
sees_taken answer reply pages seen =
    record { op = reply; table = pages; halted = eqb reply.number refusal.halted; listed = cond (goes_on reply) seen.listed []; last = last_after answer seen; age = age_after answer seen }

-- an answer, by what it gave and the pages run that it left
abbrev pub sees_answer : BackendAnswer → Reply → List ℕ → Observed → Observed
sees_answer answer reply pages seen = cond (is_taken seen reply) (sees_taken answer reply pages seen) seen

-- a call, by what it gave and the pages run that it left: of a visibility change its pages are listed, of another none
abbrev pub sees_call : List ℕ → Reply → List ℕ → Observed → Observed
sees_call listed reply pages seen = cond (asks reply) (record { op = reply; table = pages; halted = seen.halted; listed = listed; last = seen.last; age = seen.age }) seen
