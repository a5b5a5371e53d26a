-- Every request ends: document 01, "The request under way". A taken answer lowers the number `left`, and meanwhile no other call but a build is taken.
use Rattle.std.specs.Prelude.{◌≡◌, true, false, List, [], ◌∷◌, ℕ, ◌+◌, ◌≤◌, ◌<◌, replicate}
use Rattle.registrar_state.specs.Buffers.{Buffers}
use Rattle.registrar_claims.specs.Runs.{Call, AnswerDone, AnswerFailed, give, is_build, is_taken, under_way, left, after, taken_in, is_answer, only_answers, answers_in}

-- one call of a registrar
pub record Falls (lent : Buffers) (call : Call) : Type 0 where
  -- an answer is taken where something is asked for and nowhere else, and then it lowers the number
  pub answered : is_answer call ≡ true → is_taken (give lent call) ≡ under_way lent
  pub lowers : is_answer call ≡ true → is_taken (give lent call) ≡ true → left (give lent call).buffers < left lent
  -- meanwhile a request is refused, and what is refused changes nothing
  pub busy : under_way lent ≡ true → is_answer call ≡ false → is_build call ≡ false → is_taken (give lent call) ≡ false
  pub keeps : is_taken (give lent call) ≡ false → (give lent call).buffers ≡ lent

pub record RequestEnds (lent : Buffers) : Type 0 where
  -- in any list of calls from here on
  pub falls : (calls : List Call) (call : Call) → Falls (after lent calls) call
  -- so, where only answers are taken, no more of them than the number says, and fewer while the request is still under way
  pub few : (calls : List Call) → only_answers lent calls ≡ true → taken_in lent calls + left (after lent calls) ≤ left lent
  pub still : (calls : List Call) → only_answers lent calls ≡ true → under_way (after lent calls) ≡ true → taken_in lent calls < left lent
  -- it has ended once as many answers came as the number says, done or failed in any order, with any refused calls between them; most end sooner
  pub ends : (calls : List Call) → only_answers lent calls ≡ true → left lent ≤ answers_in calls → under_way (after lent calls) ≡ false
  -- such lists exist with any number of answers, of done alone; so many end it, and so does one failed
  pub heard : (n : ℕ) → (only_answers lent (replicate n AnswerDone) ≡ true) × (answers_in (replicate n AnswerDone) ≡ n)
  pub done_ends : under_way (after lent (replicate (left lent) AnswerDone)) ≡ false
  pub failed_ends : under_way (after lent (AnswerFailed ∷ [])) ≡ false
