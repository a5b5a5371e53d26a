-- How the marks move during a call: document 01, "The request under way". Other processors read them between operations: with a whole call under some answers,
-- they read the maps of that call under any answers that those begin with.
use Rattle.std.specs.Prelude.{◌≡◌, true, false, cond, List, [], ◌∷◌, ◌++◌, ℕ, ltb, length, drop}
use Rattle.bitmap.specs.Pages.{bit_at}
use Rattle.permissions.specs.declared.GuestVtl.{GuestVtl}
use Rattle.mapping.specs.Maps.{Maps}
use Rattle.visibility_steps.specs.declared.Settings.{Settings}
use Rattle.call_refusals.specs.Buffers.{Buffers}
use Rattle.protector.specs.Calls.{visibility_of}
use Rattle.visibility_claims.specs.Whole.{Operation, Wait, BackendAnswer, Succeeds, Fails, Status, flushes, marked, whole_share, whole_return}
use Rattle.visibility_claims.specs.Calls.{input_refusal, follow}

-- every mark of the first maps is one of the second
pub record Grows (less more : Maps) : Type 0 where
  pub private : (gpn : ℕ) → bit_at 8 less.private gpn ≡ true → bit_at 8 more.private gpn ≡ true
  pub shared : (gpn : ℕ) → bit_at 8 less.shared gpn ≡ true → bit_at 8 more.shared gpn ≡ true

-- the answers that are left once operations that cannot fail are done
unfoldable pub past : List Operation → List BackendAnswer → List BackendAnswer
past [] answers = answers
past (operation ∷ operations) [] = []
past (operation ∷ operations) (Succeeds ∷ answers) = past operations answers
past (operation ∷ operations) (Fails code processed ∷ answers) = past (operation ∷ operations) answers

-- the shared marks of a return, by the answer that Modify took: those of the pages not processed are set again
abbrev pub restored : List ℕ → List BackendAnswer → List ℕ → List ℕ
restored pages [] map = map
restored pages (Succeeds ∷ answers) map = map
restored pages (Fails code processed ∷ answers) map = cond (ltb processed (length pages)) (marked (drop processed pages) true map) map

-- ---- THE CLAIMS on the calls: at the call marks are only cleared, and after it they are only set, by any answers and any more

abbrev pub VisibilityClears : Type 0
VisibilityClears =
    (buffers : Buffers) (vtl visibility : ℕ) (list : List ℕ) → input_refusal buffers vtl visibility list ≡ 0 → Grows (visibility_of buffers vtl visibility list).buffers.maps buffers.maps

abbrev pub maps_after : Buffers → ℕ → ℕ → List ℕ → List BackendAnswer → Maps
maps_after buffers vtl visibility list answers = (follow (visibility_of buffers vtl visibility list) answers).last.buffers.maps

abbrev pub VisibilitySets : Type 0
VisibilitySets =
    (buffers : Buffers) (vtl visibility : ℕ) (list : List ℕ) → input_refusal buffers vtl visibility list ≡ 0 → (answers more : List BackendAnswer)
    → Grows (maps_after buffers vtl visibility list answers) (maps_after buffers vtl visibility list (answers ++ more))

-- ---- and on the marks that are set again: of a share none, its private marks stay as the call left them

abbrev pub SharePrivate : Type 0
SharePrivate =
    (settings : Settings) (vtl : GuestVtl) (pages : List ℕ) (end : Status) (maps : Maps) (answers : List BackendAnswer) → (whole_share settings vtl pages end maps answers).maps.private ≡ marked pages false maps.private

-- of a return the shared ones of the pages not processed
abbrev pub ReturnShared : Type 0
ReturnShared =
    (settings : Settings) (pages their : List ℕ) (maps : Maps) (answers : List BackendAnswer)
    → (whole_return settings pages their maps answers).maps.shared ≡ restored pages (past (Wait ∷ flushes settings.isolation) answers) (marked pages false maps.shared)
