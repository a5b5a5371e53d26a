-- The count of a call is the number of its operations. Assumes nothing.
use native.Mathlib.Omega.{arith}
use mathlib.Core.Path.{◌≡◌, refl, subst}
use mathlib.Core.Bool.{Bool, true, false, cond}
use mathlib.Core.List.{List, [], ◌∷◌}
use Prim.Native.Nat.{ℕ, zero, suc, ◌+◌, ◌%◌, ◌^◌, ◌≤◌, ◌<◌}
use lib.Dec.{eqb}
use lib.ListN.{length}
use Rattle.abi.specs.Codes.{operation_denied}
use Rattle.layout.specs.declared.MemoryRangeWithNode.{MemoryRangeWithNode}
use Rattle.permissions.specs.declared.GuestVtl.{GuestVtl}
use Rattle.permissions.specs.declared.IsolationType.{IsolationType}
use Rattle.permissions.specs.declared.HvMapGpaFlags.{HvMapGpaFlags}
use Rattle.mapping.specs.Maps.{Maps}
use Rattle.page_list.specs.declared.PageRun.{PageRun}
use Rattle.page_list.specs.Runs.{run}
use Rattle.default_change.specs.Pieces.{next_of}
use Rattle.default_change.specs.Visit.{pieces_from}
use Rattle.visibility_claims.specs.Whole.{Operation, Protect, BackendAnswer, FailedAt, Whole, stands, in_turn, per_run, protecting}
use Rattle.visibility_claims.specs.Runs.{told, after, whole}
use Rattle.visibility_claims.specs.Calls.{Told}
use Rattle.visibility_claims.proofs.Counts as counts
use Rattle.change_claims.specs.Whole.{closing, ended, run_operations, whole_runs, whole_entry, protecting_page, whole_overlay}
use Rattle.change_claims.specs.Calls.{Agrees}

-- ---- no more operations than a list has

few : (before : Operation → Maps → Maps) (os : List Operation) (m : Maps) (gs : List BackendAnswer) → length (in_turn before os m gs ended).asked ≤ length os
few before os m gs = omega (arith, counts.few before os m gs ended 0 (λ m gs. omega arith))

-- ---- a Protect for each run, and three more

pub run_operations_lem : (v : GuestVtl) (f : HvMapGpaFlags) (rs : List PageRun) → length (run_operations v f rs) ≡ length rs + 3
unfolding per_run
run_operations_lem v f [] = refl
run_operations_lem v f (r ∷ rs) = let e = run_operations_lem v f rs in omega (arith, e)

pub few_pieces : (P : ℕ → Bool) (es : List MemoryRangeWithNode) (n a : ℕ) → length (pieces_from P es n a) ≤ n
unfolding pieces_from
few_pieces P es zero a = omega arith
few_pieces P es (suc n) a = go (eqb (next_of P es a).count 0) (few_pieces P es n ((next_of P es a).first + (next_of P es a).count))
  where
    go : (b : Bool) → length (pieces_from P es n ((next_of P es a).first + (next_of P es a).count)) ≤ n
        → length (cond b [] (next_of P es a ∷ pieces_from P es n ((next_of P es a).first + (next_of P es a).count))) ≤ suc n
    go true h = omega arith
    go false h = omega arith

pub few_asked : (tracked : Bool) (v : GuestVtl) (f : HvMapGpaFlags) (rs : List PageRun) (m : Maps) (gs : List BackendAnswer) → length (whole_runs tracked v f rs m gs).asked ≤ length rs + 3
unfolding whole_runs
few_asked tracked v f rs m gs = omega (arith, run_operations_lem v f rs, few (protecting tracked) (run_operations v f rs) m gs)

pub few_entry : (tracked : Bool) (v : GuestVtl) (m : Maps) (gs : List BackendAnswer) → length (whole_entry tracked v m gs).asked ≤ 3
unfolding whole_entry
few_entry tracked v m gs = few (protecting tracked) (closing v v) m gs

pub few_overlay : (tracked guest : Bool) (v : GuestVtl) (f : HvMapGpaFlags) (p : ℕ) (m : Maps) (gs : List BackendAnswer) → length (whole_overlay tracked guest v f p m gs).asked ≤ 4
unfolding whole_overlay
few_overlay tracked guest v f p m gs =
    let m' : Maps = protecting_page tracked guest v f p m in
    counts.few_one (Protect v f (run p 1)) m' gs (λ gs. whole_entry tracked v m' gs) (λ code k gs. stands m' (FailedAt operation_denied 0)) 3 (λ gs. few_entry tracked v m' gs) (λ code k gs. omega arith)

-- a count of 64 bits is the number itself
pub as_whole : (rest t : List ℕ) (i : IsolationType) (w : Whole) (T : List ℕ) (x : Told) → length w.asked < 2 ^ 64 → Agrees rest t i (after 0 w) T x → Agrees rest t i (whole w) T x
as_whole rest t i w T x h k =
    let d : (0 + length w.asked) % 2 ^ 64 ≡ length w.asked = omega arith in
    subst (λ (n : ℕ). Agrees rest t i (record { asked = w.asked; maps = w.maps; last = told n w.status }) T x) d k
