-- A call made: the entry's own contract, as the check reads it off the source, holds of its arguments, its result and the buffers as it returns. The call, what
-- it is lent and what it leaves are read off these arguments here, in one place for each entry.
use Rattle.std.specs.Prelude.{Bool, true, false, List, ℕ}
use contract.Lifetimes.{Lfts}
use borrow.Fn.Kinds.{Dens, ended_of}
use denote.Triple.Clauses.{AtExit}
use Rattle.std.specs.Borrow.{Bor, MutBor}
use Rattle.mapping.specs.Maps.{Maps, Permissions, maps}
use Rattle.protector_state.specs.declared.Reply.{Reply}
use Rattle.call_refusals.specs.Buffers.{Buffers, buffers}
use Rattle.protector_state.specs.declared.Value.{Value}
use Rattle.queries.specs.Queries as queries
use Rattle.visibility_claims.specs.Whole.{Succeeds, Fails}
use Rattle.history.specs.Call.{Visibility, Protection, Default, Register, Unregister, Lock, Unlock, Enable, TellEnabled, TellDefault, IsOverlay, Query, Fault, Lower, Access, Call, Write, Read, Answer, Result}
use Rattle.underhill_mem.proofs.protector_change_host_visibility.Reads as r_visibility
use Rattle.underhill_mem.proofs.protector_change_host_visibility.Kinds as k_visibility
use Rattle.underhill_mem.proofs.protector_answer_done.Reads as r_done
use Rattle.underhill_mem.proofs.protector_answer_done.Kinds as k_done
use Rattle.underhill_mem.proofs.protector_answer_failed.Reads as r_failed
use Rattle.underhill_mem.proofs.protector_answer_failed.Kinds as k_failed
use Rattle.protection_entries.proofs.protector_change_vtl_protections.Reads as r_protection
use Rattle.protection_entries.proofs.protector_change_vtl_protections.Kinds as k_protection
use Rattle.protection_entries.proofs.protector_change_default_vtl_protections.Reads as r_default
use Rattle.protection_entries.proofs.protector_change_default_vtl_protections.Kinds as k_default
use Rattle.overlay_entries.proofs.protector_register_overlay_page.Reads as r_register
use Rattle.overlay_entries.proofs.protector_register_overlay_page.Kinds as k_register
use Rattle.overlay_entries.proofs.protector_unregister_overlay_page.Reads as r_unregister
use Rattle.overlay_entries.proofs.protector_unregister_overlay_page.Kinds as k_unregister
use Rattle.lock_entries.proofs.protector_lock_gpns.Reads as r_lock
use Rattle.lock_entries.proofs.protector_lock_gpns.Kinds as k_lock
use Rattle.lock_entries.proofs.protector_unlock_gpns.Reads as r_unlock
use Rattle.lock_entries.proofs.protector_unlock_gpns.Kinds as k_unlock
use Rattle.setting_entries.proofs.protector_set_vtl1_protections_enabled.Reads as r_enable
use Rattle.setting_entries.proofs.protector_set_vtl1_protections_enabled.Kinds as k_enable
use Rattle.setting_entries.proofs.protector_vtl1_protections_enabled.Reads as r_tell_enabled
use Rattle.setting_entries.proofs.protector_vtl1_protections_enabled.Kinds as k_tell_enabled
use Rattle.setting_entries.proofs.protector_default_vtl0_protections.Reads as r_tell_default
use Rattle.setting_entries.proofs.protector_default_vtl0_protections.Kinds as k_tell_default
use Rattle.overlay_entries.proofs.protector_is_overlay_page.Reads as r_is_overlay
use Rattle.overlay_entries.proofs.protector_is_overlay_page.Kinds as k_is_overlay
use Rattle.underhill_mem.proofs.protector_query_host_visibility.Reads as r_query
use Rattle.underhill_mem.proofs.protector_query_host_visibility.Kinds as k_query
use Rattle.underhill_mem.proofs.protector_page_fault.Reads as r_fault
use Rattle.underhill_mem.proofs.protector_page_fault.Kinds as k_fault
use Rattle.underhill_mem.proofs.protector_query_lower_vtl_permissions.Reads as r_lower
use Rattle.underhill_mem.proofs.protector_query_lower_vtl_permissions.Kinds as k_lower
use Rattle.underhill_mem.proofs.protector_query_access_permission.Reads as r_access
use Rattle.underhill_mem.proofs.protector_query_access_permission.Kinds as k_access
use Rattle.underhill_mem.proofs.protector_build.Reads as r_build
use Rattle.underhill_mem.proofs.protector_build.Kinds as k_build

-- ---- a run as it is lent, for writing or for reading alone; and its words

abbrev pub Lent : (writes : Bool) → Type 0
Lent true = MutBor (List ℕ)
Lent false = Bor (List ℕ)

abbrev pub words : (writes : Bool) → Lent writes → List ℕ
words true run = run.now
words false run = run.now

-- what an entry writes of what it is lent: the two marks; the four permission maps and the state block; the pages run; the tables
pub record Lending : Type 0 where
  pub marks : Bool
  pub rest : Bool
  pub pages : Bool
  pub tables : Bool

abbrev pub writes_all : Lending
writes_all = record { marks = true; rest = true; pages = true; tables = true }

abbrev pub reads_tables : Lending
reads_tables = record { marks = true; rest = true; pages = true; tables = false }

abbrev pub reads_marks_tables : Lending
reads_marks_tables = record { marks = false; rest = true; pages = true; tables = false }

abbrev pub reads_marks_pages : Lending
reads_marks_pages = record { marks = false; rest = true; pages = false; tables = true }

abbrev pub reads_all : Lending
reads_all = record { marks = false; rest = false; pages = false; tables = false }

-- ---- the runs at the head of an entry's arguments: the six maps and the state block, then the pages run and the tables; X is what follows

abbrev pub Seven : Lending → Type 0 → Type 0
Seven l X = Lent l.marks × (Lent l.marks × (Lent l.rest × (Lent l.rest × (Lent l.rest × (Lent l.rest × (Lent l.rest × X))))))

abbrev pub Nine : Lending → Type 0 → Type 0
Nine l X = Seven l (Lent l.pages × (Lent l.tables × X))

abbrev pub maps_of : (l : Lending) {X : Type 0} → Seven l X → Maps
maps_of l a = maps (words l.marks a.0) (words l.marks a.1.0) (words l.rest a.1.1.0) (words l.rest a.1.1.1.0) (words l.rest a.1.1.1.1.0) (words l.rest a.1.1.1.1.1.0)

abbrev pub state_of : (l : Lending) {X : Type 0} → Seven l X → List ℕ
state_of l a = words l.rest a.1.1.1.1.1.1.0

abbrev pub past_seven : (l : Lending) {X : Type 0} → Seven l X → X
past_seven l a = a.1.1.1.1.1.1.1

abbrev pub buffers_of : (l : Lending) {X : Type 0} → Nine l X → Buffers
buffers_of l a = buffers (maps_of l a) (state_of l a) (words l.pages (past_seven l a).0) (words l.tables (past_seven l a).1.0)

abbrev pub past : (l : Lending) {X : Type 0} → Nine l X → X
past l a = (past_seven l a).1.1

-- what is not lent may be anything: beside the seven; beside the state block; beside the state block and the tables; beside the state block and the shared map
abbrev pub with_seven : {X : Type 0} (pages tables : List ℕ) → Seven reads_all X → Buffers
with_seven pages tables a = buffers (maps_of reads_all a) (state_of reads_all a) pages tables

abbrev pub with_state : (writes : Bool) {X : Type 0} (maps : Maps) (pages tables : List ℕ) → Lent writes × X → Buffers
with_state writes maps pages tables a = buffers maps (words writes a.0) pages tables

abbrev pub with_tables : (writes : Bool) {X : Type 0} (maps : Maps) (pages : List ℕ) → Lent false × (Lent writes × X) → Buffers
with_tables writes maps pages a = buffers maps a.0.now pages (words writes a.1.0)

abbrev pub with_shared : {X : Type 0} (private : List ℕ) (permissions : Permissions) (pages tables : List ℕ) → Lent false × (Lent false × X) → Buffers
with_shared private permissions pages tables a = buffers (record { private = private; shared = a.1.0.now; permissions = permissions }) a.0.now pages tables

-- what is lent for reading alone stays: the tables; the marks and the tables; the marks and the pages run
abbrev pub but_tables : Buffers → Buffers → Buffers
but_tables before after = buffers after.maps after.state after.pages before.tables

abbrev pub with_marks : Maps → Maps → Maps
with_marks before after = record { private = before.private; shared = before.shared; permissions = after.permissions }

abbrev pub but_marks_tables : Buffers → Buffers → Buffers
but_marks_tables before after = buffers (with_marks before.maps after.maps) after.state after.pages before.tables

abbrev pub but_marks_pages : Buffers → Buffers → Buffers
but_marks_pages before after = buffers (with_marks before.maps after.maps) after.state before.pages after.tables

-- ---- a call that was lent u, left v and answered r

pub data Made : (c : Call) → Buffers → Buffers → Result c → Type 0 where
  visibility : (κs : Lfts 10) (a : Dens κs k_visibility.ps) (r : Reply) (e : AtExit (ended_of 10 k_visibility.ps k_visibility.r) κs) → r_visibility.Learnt κs a r e
      → Made (Write (Visibility (past reads_tables a).0 (past reads_tables a).1.0 (past reads_tables a).1.1.0.now)) (buffers_of reads_tables a) (but_tables (buffers_of reads_tables a) (buffers_of reads_tables e)) r
  done : (κs : Lfts 9) (a : Dens κs k_done.ps) (r : Reply) (e : AtExit (ended_of 9 k_done.ps k_done.r) κs) → r_done.Learnt κs a r e
      → Made (Answer Succeeds) (buffers_of writes_all a) (buffers_of writes_all e) r
  failed : (κs : Lfts 9) (a : Dens κs k_failed.ps) (r : Reply) (e : AtExit (ended_of 9 k_failed.ps k_failed.r) κs) → r_failed.Learnt κs a r e
      → Made (Answer (Fails (past writes_all a).0 (past writes_all a).1.0)) (buffers_of writes_all a) (buffers_of writes_all e) r
  protection : (κs : Lfts 10) (a : Dens κs k_protection.ps) (r : Reply) (e : AtExit (ended_of 10 k_protection.ps k_protection.r) κs) → r_protection.Learnt κs a r e
      → Made (Write (Protection (past reads_marks_tables a).0 (past reads_marks_tables a).1.0 (past reads_marks_tables a).1.1.0.now)) (buffers_of reads_marks_tables a) (but_marks_tables (buffers_of reads_marks_tables a) (buffers_of reads_marks_tables e)) r
  default : (κs : Lfts 9) (a : Dens κs k_default.ps) (r : Reply) (e : AtExit (ended_of 9 k_default.ps k_default.r) κs) → r_default.Learnt κs a r e
      → Made (Write (Default (past reads_marks_pages a).0 (past reads_marks_pages a).1.0)) (buffers_of reads_marks_pages a) (but_marks_pages (buffers_of reads_marks_pages a) (buffers_of reads_marks_pages e)) r
  register : (κs : Lfts 9) (a : Dens κs k_register.ps) (r : Reply) (e : AtExit (ended_of 9 k_register.ps k_register.r) κs) → r_register.Learnt κs a r e
      → Made (Write (Register (past reads_marks_pages a).0 (past reads_marks_pages a).1.0 (past reads_marks_pages a).1.1.0 (past reads_marks_pages a).1.1.1.0 (past reads_marks_pages a).1.1.1.1.0)) (buffers_of reads_marks_pages a) (but_marks_pages (buffers_of reads_marks_pages a) (buffers_of reads_marks_pages e)) r
  unregister : (κs : Lfts 9) (a : Dens κs k_unregister.ps) (r : Reply) (e : AtExit (ended_of 9 k_unregister.ps k_unregister.r) κs) → r_unregister.Learnt κs a r e
      → Made (Write (Unregister (past reads_marks_pages a).0 (past reads_marks_pages a).1.0)) (buffers_of reads_marks_pages a) (but_marks_pages (buffers_of reads_marks_pages a) (buffers_of reads_marks_pages e)) r
  -- the calls on locks are lent the state block and the tables alone, and the setter and the getters the state block
  lock : (maps : Maps) (pages : List ℕ) (κs : Lfts 3) (a : Dens κs k_lock.ps) (r : Reply) (e : AtExit (ended_of 3 k_lock.ps k_lock.r) κs) → r_lock.Learnt κs a r e
      → Made (Write (Lock a.1.1.0 a.1.1.1.0.now)) (with_tables true maps pages a) (buffers maps a.0.now pages e.1.0.now) r
  unlock : (maps : Maps) (pages : List ℕ) (κs : Lfts 3) (a : Dens κs k_unlock.ps) (r : Reply) (e : AtExit (ended_of 3 k_unlock.ps k_unlock.r) κs) → r_unlock.Learnt κs a r e
      → Made (Write (Unlock a.1.1.0 a.1.1.1.0.now)) (with_tables true maps pages a) (buffers maps a.0.now pages e.1.0.now) r
  enable : (maps : Maps) (pages tables : List ℕ) (κs : Lfts 1) (a : Dens κs k_enable.ps) (r : Reply) (e : AtExit (ended_of 1 k_enable.ps k_enable.r) κs) → r_enable.Learnt κs a r e
      → Made (Write Enable) (with_state true maps pages tables a) (with_state true maps pages tables e) r
  tell_enabled : (maps : Maps) (pages tables : List ℕ) (κs : Lfts 1) (a : Dens κs k_tell_enabled.ps) (r : Value) (e : AtExit (ended_of 1 k_tell_enabled.ps k_tell_enabled.r) κs) → r_tell_enabled.Learnt κs a r e
      → Made (Read TellEnabled) (with_state false maps pages tables a) (with_state false maps pages tables a) r
  tell_default : (maps : Maps) (pages tables : List ℕ) (κs : Lfts 1) (a : Dens κs k_tell_default.ps) (r : Value) (e : AtExit (ended_of 1 k_tell_default.ps k_tell_default.r) κs) → r_tell_default.Learnt κs a r e
      → Made (Read TellDefault) (with_state false maps pages tables a) (with_state false maps pages tables a) r
  is_overlay : (maps : Maps) (pages : List ℕ) (κs : Lfts 2) (a : Dens κs k_is_overlay.ps) (r : Value) (e : AtExit (ended_of 2 k_is_overlay.ps k_is_overlay.r) κs) → r_is_overlay.Learnt κs a r e
      → Made (Read (IsOverlay a.1.1.0 a.1.1.1.0)) (with_tables false maps pages a) (with_tables false maps pages a) r
  -- of the maps a query is lent the shared one, and its output as it is filled is of what it answers
  query : (private : List ℕ) (permissions : Permissions) (pages tables : List ℕ) (κs : Lfts 4) (a : Dens κs k_query.ps) (r : Reply) (e : AtExit (ended_of 4 k_query.ps k_query.r) κs) → r_query.Learnt κs a r e
      → Made (Read (Query a.1.1.0.now a.1.1.1.0.now)) (with_shared private permissions pages tables a) (with_shared private permissions pages tables a) (queries.query e.1.1.1.0.now r)
  -- faults and the permission queries are lent neither the pages run nor the tables
  fault : (pages tables : List ℕ) (κs : Lfts 7) (a : Dens κs k_fault.ps) (r : Value) (e : AtExit (ended_of 7 k_fault.ps k_fault.r) κs) → r_fault.Learnt κs a r e
      → Made (Read (Fault (past_seven reads_all a).0 (past_seven reads_all a).1.0 (past_seven reads_all a).1.1.0 (past_seven reads_all a).1.1.1.0 (past_seven reads_all a).1.1.1.1.0)) (with_seven pages tables a) (with_seven pages tables a) r
  lower : (pages tables : List ℕ) (κs : Lfts 7) (a : Dens κs k_lower.ps) (r : Value) (e : AtExit (ended_of 7 k_lower.ps k_lower.r) κs) → r_lower.Learnt κs a r e
      → Made (Read (Lower (past_seven reads_all a).0 (past_seven reads_all a).1.0)) (with_seven pages tables a) (with_seven pages tables a) r
  access : (pages tables : List ℕ) (κs : Lfts 7) (a : Dens κs k_access.ps) (r : Value) (e : AtExit (ended_of 7 k_access.ps k_access.r) κs) → r_access.Learnt κs a r e
      → Made (Read (Access (past_seven reads_all a).0)) (with_seven pages tables a) (with_seven pages tables a) r

-- ---- a build, of a layout and settings, that was lent u, left v and replied r

pub data Built : (ram : List ℕ) (isolation tracked release : ℕ) → Buffers → Buffers → Reply → Type 0 where
  build : (κs : Lfts 10) (a : Dens κs k_build.ps) (r : Reply) (e : AtExit (ended_of 10 k_build.ps k_build.r) κs) → r_build.Learnt κs a r e
      → Built a.0.now a.1.0 a.1.1.0 a.1.1.1.0 (buffers_of writes_all a.1.1.1.1) (buffers_of writes_all e.1.1.1.1) r

-- ---- no entry asks anything of its arguments: each has its contract whatever it is lent

pub record Unasked : Type 0 where
  pub visibility : (κs : Lfts 10) (a : Dens κs k_visibility.ps) → r_visibility.Asked κs a
  pub done : (κs : Lfts 9) (a : Dens κs k_done.ps) → r_done.Asked κs a
  pub failed : (κs : Lfts 9) (a : Dens κs k_failed.ps) → r_failed.Asked κs a
  pub protection : (κs : Lfts 10) (a : Dens κs k_protection.ps) → r_protection.Asked κs a
  pub default : (κs : Lfts 9) (a : Dens κs k_default.ps) → r_default.Asked κs a
  pub register : (κs : Lfts 9) (a : Dens κs k_register.ps) → r_register.Asked κs a
  pub unregister : (κs : Lfts 9) (a : Dens κs k_unregister.ps) → r_unregister.Asked κs a
  pub lock : (κs : Lfts 3) (a : Dens κs k_lock.ps) → r_lock.Asked κs a
  pub unlock : (κs : Lfts 3) (a : Dens κs k_unlock.ps) → r_unlock.Asked κs a
  pub enable : (κs : Lfts 1) (a : Dens κs k_enable.ps) → r_enable.Asked κs a
  pub tell_enabled : (κs : Lfts 1) (a : Dens κs k_tell_enabled.ps) → r_tell_enabled.Asked κs a
  pub tell_default : (κs : Lfts 1) (a : Dens κs k_tell_default.ps) → r_tell_default.Asked κs a
  pub is_overlay : (κs : Lfts 2) (a : Dens κs k_is_overlay.ps) → r_is_overlay.Asked κs a
  pub query : (κs : Lfts 4) (a : Dens κs k_query.ps) → r_query.Asked κs a
  pub fault : (κs : Lfts 7) (a : Dens κs k_fault.ps) → r_fault.Asked κs a
  pub lower : (κs : Lfts 7) (a : Dens κs k_lower.ps) → r_lower.Asked κs a
  pub access : (κs : Lfts 7) (a : Dens κs k_access.ps) → r_access.Asked κs a
  pub build : (κs : Lfts 10) (a : Dens κs k_build.ps) → r_build.Asked κs a
