-- Laws of the entries: what a call that isn't refused knows of what it is lent. Assumes nothing.
use native.Mathlib.Omega.{arith}
use mathlib.Core.Path.{◌≡◌, ap}
use mathlib.Core.Bool.{Bool, true, not}
use mathlib.Core.List.{List}
use Prim.Native.Nat.{ℕ, ◌≤◌}
use lib.Dec.{eqb}
use lib.ListN.{length}
use borrow.Author.Tests.{eqb-true}
use Rattle.laws.specs.Bools.{and_left}
use Rattle.laws.specs.Refusal.{passed, when_passed, first_passed}
use Rattle.layout.specs.Layout.{entries_of, refusal_of, map_len}
use Rattle.layout.proofs.Laws.{fit, entries_count}
use Rattle.permissions.specs.Flags.{fit_isolation}
use Rattle.page_list.specs.Pages.{is_long}
use Rattle.page_list.proofs.Laws.{long_le}
use Rattle.protector_state.specs.State.{state_len}
use Rattle.call_refusals.specs.declared.Lengths.{Lengths}
use Rattle.call_refusals.specs.Buffers.{status_in}
use Rattle.call_refusals.specs.Refusals.{build_fits, build_refusal, visibility_refusal, answer_refusal}
use Rattle.call_refusals.proofs.Laws.{is_ready}

-- what a call that goes on has of its lengths
pub record Passed (s : List ℕ) (fit : Bool) : Type 0 where
  pub long : length s ≡ state_len
  pub fits : fit ≡ true

pub record Listed (s : List ℕ) (fit : Bool) (list : List ℕ) : Type 0 where
  pub long : length s ≡ state_len
  pub fits : fit ≡ true
  pub short : length list ≤ 4096

pub record Built (ram s : List ℕ) : Type 0 where
  pub long : length s ≡ state_len
  pub few : length ram ≤ 96

pub visibility_passed : (s : List ℕ) (fit : Bool) (tables : List ℕ) (vtl visibility : ℕ) (list : List ℕ)
    → visibility_refusal s fit tables vtl visibility list ≡ 0 → Listed s fit list
unfolding visibility_refusal
visibility_passed s fit tables vtl visibility list z =
    let a = is_ready s fit _ z in
    record { long = a.long; fits = a.fits; short = long_le list (ap not (when_passed (is_long list) 4 _ a.goes).0) }

pub answer_passed : (s : List ℕ) (fit failed : Bool) → answer_refusal s fit failed ≡ 0 → Passed s fit
unfolding answer_refusal
answer_passed s fit failed z =
    let a = passed (eqb (length s) state_len) 3 _ z in
    let b = when_passed (eqb (status_in s) 20) 19 _ a.1 in
    record { long = eqb-true _ _ a.0; fits = (passed fit 3 _ b.1).0 }

pub build_passed : (ram : List ℕ) (isolation tracked release : ℕ) (s : List ℕ) (l : Lengths)
    → build_refusal ram isolation tracked release (build_fits (map_len (entries_of ram)) tracked (length s) l) ≡ 0 → Built ram s
unfolding build_refusal
build_passed ram isolation tracked release s l z =
    let f = first_passed (refusal_of ram) _ z in
    let g = passed (fit_isolation isolation) 2 _ f.1 in
    let h = passed (build_fits (map_len (entries_of ram)) tracked (length s) l) 3 _ g.1 in
    let k = fit ram f.0 in
    record { long = eqb-true _ _ (and_left (eqb (length s) state_len) _ h.0); few = omega (arith, k.divided, k.few, entries_count ram) }
