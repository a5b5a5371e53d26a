-- What is seen of P2 and P3 of document 01, reply by reply, and of a share that halts: on SNP pages 3, 9 and 10 are shared; then 9 and 10 are returned, failed at
-- processed 1; then 9 is shared again.
use Rattle.std.specs.Prelude.{ℕ, ◌≡◌, true, false, List, [], ◌∷◌}
use Rattle.abi.specs.Operations as operation
use Rattle.abi.specs.Refusals as refusal
use Rattle.permissions.specs.declared.GuestVtl.TheVariants.{Vtl0, Vtl1}
use Rattle.permissions.specs.declared.IsolationType.TheVariants.{Snp}
use Rattle.permissions.specs.Flags.{no_flags, all_flags}
use Rattle.page_list.specs.declared.PageRun.{PageRun}
use Rattle.page_list.specs.Pages.{among}
use Rattle.page_list.specs.Runs.{run}
use Rattle.protector_state.specs.declared.Reply.{Reply}
use Rattle.protector_state.specs.Reply.{finished, plain, modifies, on_run, protects}
use Rattle.visibility_claims.specs.Whole.{Succeeds, Fails}
use Rattle.visibility_claims.specs.Calls.{replies}
use Rattle.visibility_claims.specs.Table.{P2}
use Rattle.history.specs.Observed.{Observed, unseen, Private, Shared, Never, Returned, Validated, Zeroed, is_waiting, is_taken, sees_call, sees_answer}
use Rattle.history.specs.Marks.{is_settled}

-- replies that ask: Wait, FlushAll, and of a run of a share Protect VTL0, Protect VTL1, Invalidate
abbrev waits : Reply
waits = plain operation.wait

abbrev flushes : Reply
flushes = plain operation.flush_all

abbrev none0 : PageRun → Reply
none0 run = protects Snp Vtl0 no_flags run

abbrev none1 : PageRun → Reply
none1 run = protects Snp Vtl1 no_flags run

abbrev invalidates : PageRun → Reply
invalidates run = on_run operation.invalidate run

-- each answered by done in turn; the pages run is t
unfoldable pub done : List ℕ → List Reply → Observed → Observed
done pages [] seen = seen
done pages (reply ∷ replies) seen = done pages replies (sees_answer Succeeds reply pages seen)

abbrev three : List ℕ
three = 3 ∷ 9 ∷ 10 ∷ []

abbrev two : List ℕ
two = 9 ∷ 10 ∷ []

abbrev one : List ℕ
one = 9 ∷ []

-- P2, until Modify is asked for, and to its end
abbrev sharing_replies : List Reply
sharing_replies =
    flushes ∷ none0 (run 3 1) ∷ none1 (run 3 1) ∷ invalidates (run 3 1) ∷ none0 (run 9 2) ∷ none1 (run 9 2) ∷ invalidates (run 9 2) ∷ modifies true 3 ∷ []

abbrev pub sharing : Observed
sharing = done three sharing_replies (sees_call three waits three unseen)

abbrev pub shared : Observed
shared = sees_answer Succeeds (finished 0 0 0 9) three sharing

-- P3: a Wait that is said to have failed (21) and an answer with a short buffer (4) are not taken
abbrev pub returning : Observed
returning =
    done two (flushes ∷ modifies false 2 ∷ [])
    (sees_answer Succeeds (finished refusal.wrong_length 0 0 0) [] (sees_answer (Fails 1 1) (finished refusal.nothing_asked 0 0 0) two (sees_call two waits two shared)))

abbrev pub returned : Observed
returned = sees_answer (Fails 77 1) (on_run operation.accept (run 9 1)) two returning

abbrev pub validated : Observed
validated = sees_answer Succeeds (on_run operation.zero (run 9 1)) two returned

abbrev pub cleared : Observed
cleared = sees_answer Succeeds (protects Snp Vtl0 all_flags (run 9 1)) two validated

abbrev pub ended : Observed
ended = sees_answer Succeeds (finished refusal.backend_failed 77 1 6) two cleared

-- Zero asked for and done before Accept
abbrev pub unordered : Observed
unordered = sees_answer Succeeds (on_run operation.accept (run 9 1)) two (sees_answer (Fails 77 1) (on_run operation.zero (run 9 1)) two returning)

-- page 9 shared again
abbrev pub again : Observed
again = done one (flushes ∷ none0 (run 9 1) ∷ none1 (run 9 1) ∷ invalidates (run 9 1) ∷ modifies true 1 ∷ finished 0 0 0 6 ∷ []) (sees_call one waits one ended)

-- P2 with its first Protect failed: halted; and an answer after that
abbrev pub halted : Observed
halted = sees_answer (Fails 5 0) (finished refusal.halted 0 0 3) three (done three (flushes ∷ none0 (run 3 1) ∷ []) (sees_call three waits three unseen))

abbrev pub late : Observed
late = sees_answer Succeeds (finished refusal.halted 0 0 0) three halted

-- a Modify of P3 that is said to have failed with both its pages processed, and one of P2 with one of three: halted
abbrev pub returned_halted : Observed
returned_halted = sees_answer (Fails 77 2) (finished refusal.halted 0 0 3) two returning

abbrev pub shared_halted : Observed
shared_halted = sees_answer (Fails 77 1) (finished refusal.halted 0 0 9) three sharing

pub record ObservedTable : Type 0 where
  -- these are what the whole call asks for
  pub sharing_asks : replies Snp P2.asked ≡ waits ∷ sharing_replies
  -- until Modify is answered nothing is taken, and the pages are listed
  pub sharing_waits : is_waiting sharing ≡ true
  pub sharing_last : sharing.last 9 ≡ Private
  pub sharing_listed : among sharing.listed 10 ≡ true
  -- answers that are not taken change nothing
  pub untaken_length : sees_answer Succeeds (finished refusal.wrong_length 0 0 0) [] sharing ≡ sharing
  pub untaken_unasked : sees_answer (Fails 1 1) (finished refusal.nothing_asked 0 0 0) three sharing ≡ sharing
  pub shared_waits : is_waiting shared ≡ false
  pub shared_last : shared.last 9 ≡ Shared
  pub shared_other : shared.last 8 ≡ Private
  pub shared_listed : among shared.listed 9 ≡ false
  pub shared_age : shared.age 9 ≡ Never
  pub returning_waits : is_waiting returning ≡ true
  pub returning_last : returning.last 9 ≡ Shared
  pub returning_listed : among returning.listed 9 ≡ true
  -- a Modify that failed took the pages before the one that it failed at
  pub returned_first : returned.last 9 ≡ Private
  pub returned_second : returned.last 10 ≡ Shared
  pub returned_age : returned.age 9 ≡ Returned
  pub returned_unsettled : is_settled (returned.age 9) ≡ false
  pub validated_age : validated.age 9 ≡ Validated
  pub validated_unsettled : is_settled (validated.age 9) ≡ false
  pub cleared_age : cleared.age 9 ≡ Zeroed
  pub cleared_settled : is_settled (cleared.age 9) ≡ true
  pub cleared_other : cleared.age 10 ≡ Never
  pub ended_listed : among ended.listed 10 ≡ false
  pub ended_waits : is_waiting ended ≡ false
  -- a Zero before its Accept settles nothing
  pub unordered_unsettled : is_settled (unordered.age 9) ≡ false
  pub again_last : again.last 9 ≡ Shared
  pub again_age : again.age 9 ≡ Never
  -- a call that halted isn't under way; its pages stay listed, and no answer is taken any more
  pub halted_halted : halted.halted ≡ true
  pub halted_waits : is_waiting halted ≡ false
  pub halted_listed : among halted.listed 10 ≡ true
  pub halted_last : halted.last 3 ≡ Private
  pub late_untaken : is_taken halted (finished refusal.halted 0 0 0) ≡ false
  pub late_listed : among late.listed 10 ≡ true
  -- a Modify that halts the call took what it processed all the same
  pub returned_halted_last : returned_halted.last 10 ≡ Private
  pub returned_halted_age : returned_halted.age 10 ≡ Returned
  pub returned_halted_listed : among returned_halted.listed 10 ≡ true
  pub shared_halted_first : shared_halted.last 3 ≡ Shared
  pub shared_halted_second : shared_halted.last 9 ≡ Private
