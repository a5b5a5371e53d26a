-- Faults and permission queries past the maps and in a hole, and which page refuses one by 7. Assumes nothing.
use mathlib.Core.Bool.{Bool, true, false, not, cond, ◌&&◌}
use mathlib.Core.List.{List}
use mathlib.Core.Path.{◌≡◌, refl, sym, ap, ◌∙◌}
use Prim.Native.Nat.{ℕ, ◌/◌}
use native.Mathlib.Omega.{arith}
use borrow.Author.Tests.{eq-eqb}
use lib.Dec.{eqb}
use lib.ListN.{length}
use Rattle.abi.specs.Lengths.{page_size}
use Rattle.abi.specs.Refusals as refusal
use Rattle.laws.specs.Refusal.{unless, when}
use Rattle.layout.specs.declared.MemoryRangeWithNode.{MemoryRangeWithNode}
use Rattle.layout.specs.Layout.{is_ram, map_len}
use Rattle.permissions.specs.Flags.{fit_vtl, vtl_of, fit_bool, bool_of, no_flags, all_flags, bits_of}
use Rattle.permissions.specs.HvError.{code_of}
use Rattle.mapping.specs.Maps.{Maps, maps_fit, lengths_of, in_maps}
use Rattle.mapping.proofs.Past.{past_not_private, past_not_shared, past_no_flags}
use Rattle.std.specs.Prelude.{Result, Ok, Err}
use Rattle.permissions.specs.declared.HvMapGpaFlags.{HvMapGpaFlags}
use Rattle.access.specs.Query.{answer, access_refusal, access_permission, is_tracked, lower_vtl_permissions, permissions_number}
use Rattle.access.proofs.Answers.{access_number, lower_number}
use Rattle.fault.specs.declared.GuestValidMemoryType.{GuestValidMemoryType}
use Rattle.fault.specs.declared.GuestValidMemoryType.TheVariants.{Encrypted, Shared}
use Rattle.fault.specs.declared.PageFaultAction.{PageFaultAction}
use Rattle.fault.specs.declared.PageFaultAction.TheVariants as fault
use Rattle.fault.specs.declared.GuestMemoryViewReadType.{GuestMemoryViewReadType}
use Rattle.fault.specs.Fault.{fit_mapping, mapping_of, fit_view, view_of, unmarked, fault_of, fault_refusal, page_fault, fault_number}
use Rattle.fault.proofs.Answers.{fault_number_lem}
use Rattle.protector_state.specs.State.{state_len, settings_of, entries_in}
use Rattle.protector_state.specs.Reply.{value}
use Rattle.queries.specs.Past.{Lent, Named, Past}
use Rattle.queries.specs.Queries.{fault_value_of, permissions_value_of, fault_in, lower_in, access_in}

-- ---- what they give there

module _ (state : List ℕ) (m : Maps) (lent : Lent state m) where
  abbrev es : List MemoryRangeWithNode
  es = entries_in state

  abbrev tracked : Bool
  tracked = (settings_of state).tracked

  -- no page past the maps is marked
  on_page : (mapping : GuestValidMemoryType) (view : GuestMemoryViewReadType) (p : ℕ) (write failure : Bool) → in_maps es p ≡ false
      → fault_of m tracked mapping view p write failure ≡ cond failure (unmarked mapping) fault.NotMapped
  unfolding fault_of
  on_page mapping view p write false past = refl
  on_page Encrypted view p write true past = rw (past_not_private es m tracked p lent.fits past)
  on_page Shared view p write true past = rw (past_not_shared es m tracked p lent.fits past)

  fault_at : (mapping view address write failure : ℕ) → Named mapping view write failure → in_maps es (address / page_size) ≡ false
      → fault_in state m mapping view address write failure ≡ fault_value_of (Ok (cond (bool_of failure) (unmarked (mapping_of mapping)) fault.NotMapped))
  unfolding fault_in page_fault fault_refusal
  fault_at mapping view address write failure n past =
      rw (eq-eqb (length state) state_len lent.long, lent.fits, n.of_mapping, n.of_view, n.of_write, n.of_failure)
      (ap (λ (a : PageFaultAction). fault_value_of (Ok a)) (on_page (mapping_of mapping) (view_of view) (address / page_size) (bool_of write) (bool_of failure) past))

  access_at : (p : ℕ) → in_maps es p ≡ false → access_in state m p ≡ cond tracked (value 0 0) (value refusal.untracked 0)
  unfolding access_in access_permission
  access_at p past = rw (eq-eqb (length state) state_len lent.long, lent.fits, past_no_flags es m tracked p lent.fits past) (by_tracked tracked)
    where
      by_tracked : (t : Bool) → permissions_value_of (answer (access_refusal true t) no_flags) ≡ cond t (value 0 0) (value refusal.untracked 0)
      by_tracked true = refl
      by_tracked false = refl

  module _ (vtl p : ℕ) (f : fit_vtl vtl ≡ true) where
    lower_at : in_maps es p ≡ false → lower_in state m vtl p ≡ value 0 (bits_of (cond (is_tracked (vtl_of vtl) tracked) no_flags all_flags))
    unfolding lower_in lower_vtl_permissions
    lower_at past = rw (eq-eqb (length state) state_len lent.long, lent.fits, f, past, past_no_flags es m tracked p lent.fits past)

    hole_at : in_maps es p ≡ true → is_ram es p ≡ false → lower_in state m vtl p ≡ value refusal.not_ram (code_of refusal.not_ram)
    unfolding lower_in lower_vtl_permissions
    hole_at inside out = rw (eq-eqb (length state) state_len lent.long, lent.fits, f, inside, out)

-- ---- 7, whatever is lent

not_7 : (fits a b c d : Bool) → unless fits 4 (unless a 8 (unless b 8 (unless c 8 (unless d 8 0)))) ≡ 7 → ⊥
not_7 false a b c d e = absurd (omega arith)
not_7 true false b c d e = absurd (omega arith)
not_7 true true false c d e = absurd (omega arith)
not_7 true true true false d e = absurd (omega arith)
not_7 true true true true false e = absurd (omega arith)
not_7 true true true true true e = absurd (omega arith)

not_7_of_maps : (fits tracked : Bool) → access_refusal fits tracked ≡ 7 → ⊥
not_7_of_maps false tracked e = absurd (omega arith)
not_7_of_maps true false e = absurd (omega arith)
not_7_of_maps true true e = absurd (omega arith)

in_a_hole : (fits fit inside ram : Bool) → unless fits 4 (unless fit 8 (when (inside && not ram) 7 0)) ≡ 7 → (inside ≡ true) × (ram ≡ false)
in_a_hole false fit inside ram e = absurd (omega arith)
in_a_hole true false inside ram e = absurd (omega arith)
in_a_hole true true false ram e = absurd (omega arith)
in_a_hole true true true true e = absurd (omega arith)
in_a_hole true true true false e = (refl, refl)

-- a state block of another length is 4
fault_of_lem : (b : Bool) (x : Result PageFaultAction ℕ) → (fault_number x ≡ 7 → ⊥) → fault_number (cond b x (Err 4)) ≡ 7 → ⊥
fault_of_lem true x h e = h e
fault_of_lem false x h e = absurd (omega arith)

answer_of_lem : {X : Type 0} (b : Bool) (x : Result HvMapGpaFlags ℕ) → (permissions_number x ≡ 7 → X) → permissions_number (cond b x (Err 4)) ≡ 7 → X
answer_of_lem true x h e = h e
answer_of_lem false x h e = absurd (omega arith)

pub past : (state : List ℕ) (m : Maps) → Past state m
unfolding fault_refusal fault_in lower_in access_in
past state m =
    let es = entries_in state in
    let tracked = (settings_of state).tracked in
    let long = eqb (length state) state_len in
    let fits = maps_fit (map_len es) tracked (lengths_of m) in
    record {
      fault_past = fault_at state m;
      access_past = access_at state m;
      lower_past = lower_at state m;
      lower_hole = hole_at state m;
      fault_never_7 = λ mapping view address write failure.
          fault_of_lem long _
          (λ e.
          not_7 fits (fit_mapping mapping) (fit_view view) (fit_bool write) (fit_bool failure)
          (sym (fault_number_lem es m tracked mapping view address write failure) ∙ e));
      access_never_7 = λ p. answer_of_lem long _ (λ e. not_7_of_maps fits tracked (sym (access_number es m tracked p) ∙ e));
      lower_7 = λ vtl p. answer_of_lem long _ (λ e. in_a_hole fits (fit_vtl vtl) (in_maps es p) (is_ram es p) (sym (lower_number es m tracked p vtl) ∙ e));
    }
