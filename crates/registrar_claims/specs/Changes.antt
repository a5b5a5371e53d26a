-- What a call may change that is refused or ends with 22 or 23: document 01, "From the state".
use Rattle.std.specs.Prelude.{◌≡◌, true, false, List, ℕ, ◌≤◌, ◌<◌}
use Rattle.abi.specs.Refusals as refusal
use Rattle.abi.specs.Lengths.{word_bits}
use Rattle.bitmap.specs.Pages.{bit_at}
use Rattle.registrar_steps.specs.Steps.{chunk_state, idle, passes}
use Rattle.registrar_state.specs.Buffers.{Buffers, Outcome, request_of, with_request, granularity_of, entries_in, marked, taken_to}
use Rattle.registrar_claims.specs.Runs.{Call, Build, RegisterRange, RegisterAll, AnswerDone, AnswerFailed, not_refused}

-- the registered chunks with those that an answer takes, and the failed chunks with those that it fails
abbrev pub with_taken : Buffers → Call → List ℕ
with_taken lent (Build ram offset granularity) = lent.registered
with_taken lent (RegisterRange address len) = lent.registered
with_taken lent (RegisterAll alignment ignore) = lent.registered
with_taken lent AnswerDone = marked (request_of lent.state).from (taken_to lent.state) lent.registered
with_taken lent AnswerFailed = lent.registered

abbrev pub with_failed : Buffers → Call → List ℕ
with_failed lent (Build ram offset granularity) = lent.failed
with_failed lent (RegisterRange address len) = lent.failed
with_failed lent (RegisterAll alignment ignore) = lent.failed
with_failed lent AnswerDone = lent.failed
with_failed lent AnswerFailed = marked (request_of lent.state).from (request_of lent.state).to lent.failed

-- nothing is asked any more, and every other word of the state block stays
abbrev pub IdleState : Buffers → Outcome → Type 0
IdleState lent outcome = outcome.buffers.state ≡ with_request idle lent.state

-- 22: what was registered before stays
pub record Unaligned22 (lent : Buffers) (registered : List ℕ) (outcome : Outcome) : Type 0 where
  pub same_state : IdleState lent outcome
  pub same_registered : outcome.buffers.registered ≡ registered
  pub same_failed : outcome.buffers.failed ≡ lent.failed

-- 23: the failed chunks are marked, and before a chunk that failed before those that ask for nothing are passed
pub record Failed23 (lent : Buffers) (registered failed : List ℕ) (outcome : Outcome) : Type 0 where
  pub from : ℕ
  pub to : ℕ
  pub same_state : IdleState lent outcome
  pub same_registered : outcome.buffers.registered ≡ marked from to registered
  pub passed : (chunk : ℕ) → from ≤ chunk → chunk < to → passes (chunk_state (granularity_of lent.state) (entries_in lent.state) registered lent.failed) chunk ≡ true
  pub same_failed : outcome.buffers.failed ≡ failed

-- every other refusal changes nothing
pub record Kept (lent : Buffers) (registered marked_failed : List ℕ) (outcome : Outcome) : Type 0 where
  pub refused : not_refused outcome.reply.number ≡ false → outcome.buffers ≡ lent
  pub unaligned : outcome.reply.number ≡ refusal.unaligned_memory → Unaligned22 lent registered outcome
  pub failed : outcome.reply.number ≡ refusal.registration_failed → Failed23 lent registered marked_failed outcome

-- a chunk that is marked registered or failed stays so
abbrev pub Stays : Buffers → ℕ → Outcome → Type 0
Stays lent chunk outcome =
    (bit_at word_bits lent.registered chunk ≡ true → bit_at word_bits outcome.buffers.registered chunk ≡ true) × (bit_at word_bits lent.failed chunk ≡ true → bit_at word_bits outcome.buffers.failed chunk ≡ true)
