-- The build, visibility changes, answers and the visibility query, each with the number that refuses it: document 01, "From the input" and "From the state".
use Rattle.std.specs.Prelude.{Bool, true, false, cond, ◌||◌, ◌≡◌, List, ℕ, eqb, ltb, length}
use Rattle.abi.specs.Refusals as refusals
use Rattle.layout.specs.Layout.{entries_of, map_len}
use Rattle.page_list.specs.Pages.{pages_of}
use Rattle.protector_state.specs.declared.Reply.{Reply}
use Rattle.call_refusals.specs.Buffers.{Buffers, Outcome, fits, lengths_in}
use Rattle.call_refusals.specs.Refusals.{build_fits, build_refusal, visibility_refusal, answer_refusal}
use Rattle.protector.specs.Calls.{build_of, visibility_of}
use Rattle.queries.specs.Queries.{query_refusal, ram_before, query_of}
use Rattle.visibility_claims.specs.Whole.{BackendAnswer, Succeeds, Fails}
use Rattle.visibility_claims.specs.Calls.{answer_of}

pub data Call : Type 0 where
  Build : List ℕ → ℕ → ℕ → ℕ → Call
  ChangeVisibility : ℕ → ℕ → List ℕ → Call
  AnswerWith : BackendAnswer → Call
  QueryVisibility : List ℕ → Call

-- what is lent: the protector's own, and the output of a query
pub record Lent : Type 0 where
  pub buffers : Buffers
  pub out : List ℕ

pub record Gave : Type 0 where
  pub lent : Lent
  pub reply : Reply

abbrev pub gave : List ℕ → Outcome → Gave
gave out outcome = record { lent = record { buffers = outcome.buffers; out = out }; reply = outcome.reply }

unfoldable pub give : Lent → Call → Gave
give lent (Build ram isolation tracked release) = gave lent.out (build_of lent.buffers ram isolation tracked release)
give lent (ChangeVisibility vtl visibility list) = gave lent.out (visibility_of lent.buffers vtl visibility list)
give lent (AnswerWith answer) = gave lent.out (answer_of answer lent.buffers)
give lent (QueryVisibility list) =
    let query = query_of lent.buffers.state lent.buffers.maps.shared list lent.out in
    record { lent = record { buffers = lent.buffers; out = query.out }; reply = query.reply }

-- 0 where it is taken
unfoldable pub refusal : Lent → Call → ℕ
refusal lent (Build ram isolation tracked release) = build_refusal ram isolation tracked release (build_fits (map_len (entries_of ram)) tracked (length lent.buffers.state) (lengths_in lent.buffers))
refusal lent (ChangeVisibility vtl visibility list) = visibility_refusal lent.buffers.state (fits lent.buffers) lent.buffers.tables vtl visibility list
refusal lent (AnswerWith Succeeds) = answer_refusal lent.buffers.state (fits lent.buffers) false
refusal lent (AnswerWith (Fails code processed)) = answer_refusal lent.buffers.state (fits lent.buffers) true
refusal lent (QueryVisibility list) =
    let number = query_refusal lent.buffers.state (length lent.buffers.maps.shared) list in
    cond (eqb number 0) (cond (ltb (ram_before lent.buffers.state list) (length (pages_of list))) refusals.not_ram 0) number

-- Ok or an operation asked for, 15, 16, 20: every other number changes nothing
abbrev pub may_change : ℕ → Bool
may_change number = eqb number 0 || (eqb number refusals.access_denied || (eqb number refusals.backend_failed || eqb number refusals.halted))

-- ---- THE CLAIMS: a call that is refused changes nothing

abbrev pub RefusedKeeps : Type 0
RefusedKeeps = (lent : Lent) (call : Call) → (refusal lent call ≡ 0 → ⊥) → (give lent call).lent ≡ lent

-- the same by the number alone that a call gave
abbrev pub OtherNumbersKeep : Type 0
OtherNumbersKeep = (lent : Lent) (call : Call) → may_change (give lent call).reply.number ≡ false → (give lent call).lent ≡ lent
