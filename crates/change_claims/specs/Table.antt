-- Worked cases of changes, computed by the definitions: RAM pages 0 to 15 and 32 to 39, as in document 01, "Worked".
use Rattle.std.specs.Prelude.{List, [], ◌∷◌, ◌++◌, ◌≡◌, ℕ, ◌+◌, ◌-◌, ◌≤◌, ◌<◌, length, replicate}
use Rattle.abi.specs.Codes as code
use Rattle.abi.specs.Lengths.{tables_len}
use Rattle.abi.specs.Refusals as refusal
use Rattle.permissions.specs.declared.GuestVtl.{GuestVtl}
use Rattle.permissions.specs.declared.GuestVtl.TheVariants.{Vtl0, Vtl1}
use Rattle.permissions.specs.Flags.{vtl_of, flags_of}
use Rattle.permissions.specs.HvError.{code_of}
use Rattle.page_list.specs.Pages.{pages_of}
use Rattle.page_list.specs.Runs.{run}
use Rattle.lock_table.specs.Locks.{held, total, held_in}
use Rattle.lock_entries.specs.Calls.{ended, lock_refusal, lock_of}
use Rattle.lock_entries.specs.Lists.{Lists, lists_at, with_lists, Holds, Makes}
use Rattle.protector_state.specs.Reply.{finished}
use Rattle.call_refusals.specs.Buffers.{Buffers, buffers, overlays_of, locks_of}
use Rattle.overlay_entries.specs.Calls.{register_of}
use Rattle.visibility_claims.specs.Whole.{Wait, Protect, Flush, TlbWait, Succeeds, Fails, Ok, FailedAt, Halts}
use Rattle.visibility_claims.specs.Table.{page, dones, fresh}
use Rattle.change_claims.specs.Whole.{Change}
use Rattle.change_claims.specs.Calls.{protection_whole, default_whole, register_whole, unregister_whole}

-- a fresh protector with these overlays of VTL0: how many, then five words for each
abbrev pub with : List ℕ → Buffers
with o = buffers fresh.maps fresh.state fresh.pages (o ++ replicate (tables_len - length o) 0)

-- two in the run from page 0 to page 15
abbrev pub two : Buffers
two = with (2 ∷ 5 ∷ 15 ∷ 1 ∷ 1 ∷ 0 ∷ 11 ∷ 15 ∷ 1 ∷ 1 ∷ 0 ∷ [])

abbrev pub default_two : Change
default_two = default_whole two Vtl0 3 (dones 7)

abbrev pub repeated : Change
repeated = protection_whole fresh Vtl1 3 (page 3 (page 4 (page 3 []))) (dones 5)

-- its second Protect fails
abbrev pub halted : Change
halted = protection_whole fresh Vtl0 0 (page 3 (page 4 (page 8 []))) (Succeeds ∷ Fails 77 0 ∷ [])

-- a page with a count of n
abbrev pub counts : ℕ → Buffers
counts n = with (1 ∷ 5 ∷ 15 ∷ 15 ∷ n ∷ 0 ∷ [])

pub record Changes : Type 0 where
  pub default_asked : default_two.whole.asked
      ≡ Protect Vtl0 (flags_of 3) (run 0 5) ∷ Protect Vtl0 (flags_of 3) (run 6 5) ∷ Protect Vtl0 (flags_of 3) (run 12 4) ∷ Protect Vtl0 (flags_of 3) (run 32 8) ∷ Wait ∷ Flush Vtl0 ∷ TlbWait Vtl0 ∷ []
  pub default_ok : default_two.whole.status ≡ Ok
  pub default_kernel : default_two.whole.maps.permissions.kernel ≡ 0x20 ∷ 0x08 ∷ 0x00 ∷ 0x00 ∷ 0x00 ∷ []
  pub default_renewed : overlays_of default_two.tables Vtl0 ≡ 2 ∷ 5 ∷ 3 ∷ 1 ∷ 1 ∷ 0 ∷ 11 ∷ 3 ∷ 1 ∷ 1 ∷ 0 ∷ replicate 630 0
  pub repeated_asked : repeated.whole.asked ≡ Protect Vtl1 (flags_of 3) (run 3 2) ∷ Protect Vtl1 (flags_of 3) (run 3 1) ∷ Wait ∷ Flush Vtl0 ∷ TlbWait Vtl1 ∷ []
  pub repeated_ok : repeated.whole.status ≡ Ok
  pub halted_asked : halted.whole.asked ≡ Protect Vtl0 (flags_of 0) (run 3 2) ∷ Protect Vtl0 (flags_of 0) (run 8 1) ∷ []
  pub halted_read : halted.whole.maps.permissions.read ≡ 0xe7 ∷ 0xfe ∷ 0x00 ∷ 0x00 ∷ 0xff ∷ []
  pub halted_stands : halted.whole.status ≡ Halts
  pub new_asked : (register_whole fresh Vtl0 5 0 1 (dones 4)).whole.asked ≡ Protect Vtl0 (flags_of 1) (run 5 1) ∷ Wait ∷ Flush Vtl0 ∷ TlbWait Vtl0 ∷ []
  pub new_entered : overlays_of (register_whole fresh Vtl0 5 0 1 (dones 4)).tables Vtl0 ≡ 1 ∷ 5 ∷ 15 ∷ 1 ∷ 1 ∷ 0 ∷ replicate 635 0
  pub new_failed : (register_whole fresh Vtl0 5 0 1 (Fails 77 0 ∷ [])).whole.status ≡ FailedAt code.operation_denied 0
  pub old_asked : (unregister_whole two Vtl0 5 (dones 4)).whole.asked ≡ Protect Vtl0 (flags_of 15) (run 5 1) ∷ Wait ∷ Flush Vtl0 ∷ TlbWait Vtl0 ∷ []
  pub old_gone : overlays_of (unregister_whole two Vtl0 5 (dones 4)).tables Vtl0 ≡ 1 ∷ 11 ∷ 15 ∷ 1 ∷ 1 ∷ 0 ∷ replicate 635 0

-- tables and counts that are full (17), and the last that are not, by 01's own numbers; of the locked lists of one VTL, where also a page is found locked just where a list has it
pub record Limits : Type 0 where
  pub count_65535 : (register_of (counts 65534) 0 5 0 15 16).reply ≡ finished 0 0 0 0
  pub count_full : (register_of (counts 65535) 0 5 0 15 16).reply ≡ finished refusal.full (code_of refusal.full) 0 0
  pub held_as_listed : (tables : List ℕ) (lists : Lists) → Holds tables lists → (vtl : GuestVtl) (gpn : ℕ) → held_in (locks_of tables vtl) gpn ≡ held (lists_at lists vtl) gpn
  pub list_64 : (state tables : List ℕ) (vtl : ℕ) (list : List ℕ) → lock_refusal state (length tables) vtl list ≡ 0 → (lists : Lists) → Holds tables lists → length (lists_at lists (vtl_of vtl)) ≡ 63
      → total (lists_at lists (vtl_of vtl)) + length (pages_of list) ≤ 1024 → Makes tables (with_lists lists (vtl_of vtl) (lists_at lists (vtl_of vtl) ++ (pages_of list ∷ []))) (lock_of state tables vtl list)
  pub list_65 : (state tables : List ℕ) (vtl : ℕ) (list : List ℕ) → lock_refusal state (length tables) vtl list ≡ 0 → (lists : Lists) → Holds tables lists → length (lists_at lists (vtl_of vtl)) ≡ 64 → lock_of state tables vtl list ≡ ended tables refusal.full
  pub pages_1024 : (state tables : List ℕ) (vtl : ℕ) (list : List ℕ) → lock_refusal state (length tables) vtl list ≡ 0 → (lists : Lists) → Holds tables lists → length (lists_at lists (vtl_of vtl)) < 64
      → total (lists_at lists (vtl_of vtl)) + length (pages_of list) ≡ 1024 → Makes tables (with_lists lists (vtl_of vtl) (lists_at lists (vtl_of vtl) ++ (pages_of list ∷ []))) (lock_of state tables vtl list)
  pub pages_1025 : (state tables : List ℕ) (vtl : ℕ) (list : List ℕ) → lock_refusal state (length tables) vtl list ≡ 0 → (lists : Lists) → Holds tables lists → total (lists_at lists (vtl_of vtl)) + length (pages_of list) ≡ 1025
      → lock_of state tables vtl list ≡ ended tables refusal.full
