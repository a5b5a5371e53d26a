-- lock_gpns and unlock_gpns (01, "Overlays and locks", "From the input" 4, 5 and 8, "From the state" 17 to 20).
use Rattle.std.specs.Prelude.{cond, List, ◌++◌, ℕ, ◌+◌, ◌*◌, eqb, length, take, drop}
use Rattle.abi.specs.Refusals as refusal
use Rattle.abi.specs.Lengths.{locks_len, locks_start}
use Rattle.laws.specs.Refusal.{unless, when}
use Rattle.permissions.specs.declared.GuestVtl.{GuestVtl}
use Rattle.permissions.specs.Flags.{fit_vtl, vtl_of, vtl_number}
use Rattle.permissions.specs.HvError.{code_of}
use Rattle.page_list.specs.Pages.{pages_of, is_long, is_ragged}
use Rattle.lock_table.specs.Locks.{lock_code, lock_words, unlock_code, unlock_words}
use Rattle.protector_state.specs.declared.Reply.{Reply}
use Rattle.protector_state.specs.Reply.{finished}
use Rattle.call_refusals.specs.Buffers.{tables_len, locks_of}
use Rattle.call_refusals.specs.Refusals.{ready}

-- what a call gives: the tables, and the reply
pub record Kept : Type 0 where
  pub tables : List ℕ
  pub reply : Reply

abbrev pub kept : List ℕ → Reply → Kept
kept tables reply = record { tables = tables; reply = reply }

-- the call ends with a number, 0 where it is taken
abbrev pub ended : List ℕ → ℕ → Kept
ended tables number = kept tables (finished number (code_of number) 0 0)

-- ---- both calls: 20, 19, 4, 5, 8

unfoldable pub lock_refusal : List ℕ → ℕ → ℕ → List ℕ → ℕ
lock_refusal state tables vtl list =
    ready state (eqb tables tables_len)
    (when (is_long list) refusal.long_list
    (unless (fit_vtl vtl) refusal.unfit_number
    (when (is_ragged list) refusal.unfit_number
    0)))

-- the tables with other locks of a VTL
abbrev pub with_locks : List ℕ → GuestVtl → List ℕ → List ℕ
with_locks tables vtl locks = take (locks_start + locks_len * vtl_number vtl) tables ++ (locks ++ drop (locks_start + locks_len * vtl_number vtl + locks_len) tables)

-- ---- lock_gpns: then 17

abbrev pub lock_taken : List ℕ → GuestVtl → List ℕ → Kept
lock_taken tables vtl ps = ended (with_locks tables vtl (lock_words (locks_of tables vtl) ps)) (lock_code (locks_of tables vtl) ps)

unfoldable pub lock_of : List ℕ → List ℕ → ℕ → List ℕ → Kept
lock_of state tables vtl list =
    cond (eqb (lock_refusal state (length tables) vtl list) 0) (lock_taken tables (vtl_of vtl) (pages_of list)) (ended tables (lock_refusal state (length tables) vtl list))

-- ---- unlock_gpns: then 18

abbrev pub unlock_taken : List ℕ → GuestVtl → List ℕ → Kept
unlock_taken tables vtl ps = ended (with_locks tables vtl (unlock_words (locks_of tables vtl) ps)) (unlock_code (locks_of tables vtl) ps)

unfoldable pub unlock_of : List ℕ → List ℕ → ℕ → List ℕ → Kept
unlock_of state tables vtl list =
    cond (eqb (lock_refusal state (length tables) vtl list) 0) (unlock_taken tables (vtl_of vtl) (pages_of list)) (ended tables (lock_refusal state (length tables) vtl list))
