-- The lists that each VTL has locked (01, "Overlays and locks"), and what a call does to them.
use Rattle.std.specs.Prelude.{List, ◌≡◌, ℕ, length}
use Rattle.permissions.specs.declared.GuestVtl.{GuestVtl}
use Rattle.permissions.specs.declared.GuestVtl.TheVariants.{Vtl0, Vtl1}
use Rattle.lock_table.specs.Locks.{Fit, table_of}
use Rattle.protector_state.specs.Reply.{finished}
use Rattle.call_refusals.specs.Buffers.{tables_len, overlays_of, locks_of}
use Rattle.lock_entries.specs.Calls.{Kept}

pub record Lists : Type 0 where
  pub vtl0 : List (List ℕ)
  pub vtl1 : List (List ℕ)

abbrev pub lists : List (List ℕ) → List (List ℕ) → Lists
lists a b = record { vtl0 = a; vtl1 = b }

abbrev pub lists_at : Lists → GuestVtl → List (List ℕ)
lists_at x Vtl0 = x.vtl0
lists_at x Vtl1 = x.vtl1

-- the same, with other lists of a VTL
abbrev pub with_lists : Lists → GuestVtl → List (List ℕ) → Lists
with_lists x Vtl0 ls = lists ls x.vtl1
with_lists x Vtl1 ls = lists x.vtl0 ls

-- tables that keep them
pub record Holds (t : List ℕ) (x : Lists) : Type 0 where
  pub long : length t ≡ tables_len
  pub fit : (v : GuestVtl) → Fit (lists_at x v)
  pub words : (v : GuestVtl) → locks_of t v ≡ table_of (lists_at x v)

-- a call on tables t that is taken: the lists are as y has them, the overlays as they were
pub record Makes (t : List ℕ) (y : Lists) (k : Kept) : Type 0 where
  pub lists : Holds k.tables y
  pub overlays : (v : GuestVtl) → overlays_of k.tables v ≡ overlays_of t v
  pub reply : k.reply ≡ finished 0 0 0 0
