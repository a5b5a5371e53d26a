-- Calls of the protector, and a whole visibility change made of them: document 01, "The request under way".
use Rattle.std.specs.Prelude.{◌≡◌, Bool, true, false, cond, not, ◌&&◌, List, [], ◌∷◌, ◌++◌, ℕ, eqb, length, drop, take}
use Rattle.abi.specs.Places as place
use Rattle.abi.specs.Refusals as refusal
use Rattle.laws.specs.Refusal.{unless, when}
use Rattle.permissions.specs.declared.GuestVtl.{GuestVtl}
use Rattle.permissions.specs.declared.IsolationType.{IsolationType}
use Rattle.permissions.specs.Flags.{fit_vtl, vtl_of, fit_bool, bool_of}
use Rattle.page_list.specs.Pages.{pages_of, is_long, repeats, is_ragged}
use Rattle.visibility_steps.specs.declared.Operation as declared
use Rattle.visibility_steps.specs.declared.Operation.TheVariants as crossed
use Rattle.protector_state.specs.declared.Reply.{Reply}
use Rattle.protector_state.specs.State.{settings_of}
use Rattle.protector_state.specs.Reply.{asked_of, flat_of}
use Rattle.call_refusals.specs.Buffers.{Buffers, Outcome, fits}
use Rattle.protector.specs.Calls.{refused_by, visibility_of, answer_done, answer_failed}
use Rattle.call_refusals.specs.Refusals.{ready, answer_refusal}
use Rattle.visibility_claims.specs.Whole.{Operation, Wait, FlushAll, Protect, Invalidate, Release, Modify, Accept, Zero, Flush, TlbWait, BackendAnswer, Succeeds, Fails, Denied, Whole, stands, whole_share, whole_return}
use Rattle.visibility_claims.specs.Requested.{denial, Requested, requested_of, pages_in, places_in, stored_in}
use Rattle.visibility_claims.specs.Runs.{Last, Outstanding, Gives, Ran, whole}

-- ---- the whole call on what the protector is lent

-- what refuses it before its pages are looked at (01, "Order"): 20 and 19, then its input by number; a state block of another length tells nothing
unfoldable pub input_refusal : Buffers → ℕ → ℕ → List ℕ → ℕ
input_refusal buffers vtl visibility list =
    ready buffers.state (fits buffers)
    (when (is_long list) refusal.long_list
    (when (repeats (pages_of list)) refusal.repeated_page
    (unless (fit_vtl vtl && (fit_bool visibility && not (is_ragged list))) refusal.unfit_number
    0)))

-- none of its pages refused: to shared or to private, of those that it asks for
abbrev pub whole_on : Buffers → GuestVtl → Bool → Requested → List BackendAnswer → Whole
whole_on buffers vtl true requested answers = whole_share (settings_of buffers.state) vtl (pages_in requested.listed) requested.end buffers.maps answers
whole_on buffers vtl false requested answers = whole_return (settings_of buffers.state) (pages_in requested.listed) (places_in requested.listed) buffers.maps answers

-- a page that is refused (7, 10, 11) ends it: nothing is asked for and nothing changes
abbrev pub whole_of : Buffers → GuestVtl → Bool → List ℕ → List BackendAnswer → Whole
whole_of buffers vtl share list answers =
    cond (eqb (denial buffers vtl share (pages_of list)) 0) (whole_on buffers vtl share (requested_of buffers vtl share list) answers)
    (stands buffers.maps (Denied (denial buffers vtl share (pages_of list))))

-- the lent run `pages` as it is from the call on
abbrev pub pages_for : Buffers → GuestVtl → Bool → List ℕ → List ℕ
pages_for buffers vtl share list = cond (eqb (denial buffers vtl share (pages_of list)) 0) (stored_in (requested_of buffers vtl share list).listed buffers.pages) buffers.pages

-- ---- the calls, each answer given in turn

abbrev pub answer_of : BackendAnswer → Buffers → Outcome
answer_of Succeeds buffers = answer_done buffers
answer_of (Fails code processed) buffers = answer_failed buffers code processed

abbrev pub taken_by : BackendAnswer → Buffers → Bool
taken_by Succeeds buffers = eqb (answer_refusal buffers.state (fits buffers) false) 0
taken_by (Fails code processed) buffers = eqb (answer_refusal buffers.state (fits buffers) true) 0

-- in the place of an operation's number: none is asked for
abbrev pub no_operation : ℕ
no_operation = 0

-- a reply that asks for an operation
abbrev pub asks_in : Reply → List Reply
asks_in reply = cond (eqb reply.operation no_operation) [] (reply ∷ [])

-- the replies that asked for one, in order, and what was given last by a call or a taken answer
pub record Told : Type 0 where
  pub asked : List Reply
  pub last : Outcome

unfoldable pub follow : Outcome → List BackendAnswer → Told
follow outcome [] = record { asked = asks_in outcome.reply; last = outcome }
follow outcome (answer ∷ answers) =
    let taken = follow (answer_of answer outcome.buffers) answers in
    let untaken = follow outcome answers in
    cond (taken_by answer outcome.buffers) (record { asked = asks_in outcome.reply ++ taken.asked; last = taken.last }) untaken

-- ---- what they tell

-- an operation as it crosses: of Modify the number of its pages
abbrev pub crossing : Operation → declared.Operation
crossing Wait = crossed.Wait
crossing FlushAll = crossed.FlushAll
crossing (Protect vtl flags run) = crossed.Protect vtl flags run
crossing (Invalidate run) = crossed.Invalidate run
crossing (Release run) = crossed.Release run
crossing (Modify share pages) = crossed.Modify share (length pages)
crossing (Accept run) = crossed.Accept run
crossing (Zero run) = crossed.Zero run
crossing (Flush vtl) = crossed.Flush vtl
crossing (TlbWait vtl) = crossed.TlbWait vtl

unfoldable pub replies : IsolationType → List Operation → List Reply
replies isolation [] = []
replies isolation (operation ∷ operations) = asked_of isolation (crossing operation) ∷ replies isolation operations

-- and the pages themselves: the first words of the lent run `pages`, in order
abbrev pub Names : List ℕ → Operation → Type 0
Names pages Wait = Unit {0}
Names pages FlushAll = Unit {0}
Names pages (Protect vtl flags run) = Unit {0}
Names pages (Invalidate run) = Unit {0}
Names pages (Release run) = Unit {0}
Names pages (Modify share gpns) = take (length gpns) pages ≡ gpns
Names pages (Accept run) = Unit {0}
Names pages (Zero run) = Unit {0}
Names pages (Flush vtl) = Unit {0}
Names pages (TlbWait vtl) = Unit {0}

unfoldable pub NamesAll : List ℕ → List Operation → Type 0
NamesAll pages [] = Unit {0}
NamesAll pages (operation ∷ operations) = Names pages operation × NamesAll pages operations

abbrev pub Says : IsolationType → Last → Reply → Type 0
Says isolation Outstanding reply = eqb reply.operation no_operation ≡ false
Says isolation (Gives answer) reply = reply ≡ flat_of isolation answer

-- the same operations, maps and answer, and the run `pages` names the pages of Modify; this run stays `pages`, overlays and locks as in `tables`, settings and layout
-- as in `rest`
pub record Match (tables rest pages : List ℕ) (isolation : IsolationType) (ran : Ran) (told : Told) : Type 0 where
  pub same_asked : told.asked ≡ replies isolation ran.asked
  pub same_named : NamesAll told.last.buffers.pages ran.asked
  pub same_maps : told.last.buffers.maps ≡ ran.maps
  pub same_reply : Says isolation ran.last told.last.reply
  pub same_pages : told.last.buffers.pages ≡ pages
  pub same_tables : told.last.buffers.tables ≡ tables
  pub same_rest : drop place.after_request told.last.buffers.state ≡ rest

-- ---- THE CLAIMS: a visibility change that isn't refused before its pages are looked at, with its answers in turn, is the whole call; Modify being the last
-- operation asked for, the run `pages` names its pages then

abbrev pub VisibilityIsWhole : Type 0
VisibilityIsWhole =
    (buffers : Buffers) (vtl visibility : ℕ) (list : List ℕ) (answers : List BackendAnswer) → input_refusal buffers vtl visibility list ≡ 0
    → Match buffers.tables (drop place.after_request buffers.state) (pages_for buffers (vtl_of vtl) (bool_of visibility) list) (settings_of buffers.state).isolation
    (whole (whole_of buffers (vtl_of vtl) (bool_of visibility) list answers)) (follow (visibility_of buffers vtl visibility list) answers)

-- one that is refused before gives that number, and changes nothing
abbrev pub VisibilityRefused : Type 0
VisibilityRefused =
    (buffers : Buffers) (vtl visibility : ℕ) (list : List ℕ) → (input_refusal buffers vtl visibility list ≡ 0 → ⊥)
    → visibility_of buffers vtl visibility list ≡ refused_by buffers (input_refusal buffers vtl visibility list)
