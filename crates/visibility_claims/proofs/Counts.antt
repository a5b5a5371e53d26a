-- The count of a call is the number of its operations: of up to 512 pages it does not pass 64 bits. Assumes nothing.
use Rattle.std.specs.Prelude.{Option, Some, None}
use native.Mathlib.Omega.{arith}
use mathlib.Core.Path.{◌≡◌, ap, ◌∙◌}
use mathlib.Core.Bool.{Bool, true, false, cond}
use mathlib.Core.List.{List, [], ◌∷◌, ◌++◌}
use Prim.Native.Nat.{ℕ, suc, ◌+◌, ◌*◌, ◌%◌, ◌^◌, ◌≤◌, ◌<◌}
use native.Mathlib.Nat.{mul-suc}
use lib.Dec.{eqb, ltb}
use lib.ListN.{length, get_or, take, drop, length-append, length-take}
use Rattle.permissions.specs.declared.GuestVtl.{GuestVtl}
use Rattle.permissions.specs.declared.IsolationType.{IsolationType}
use Rattle.permissions.specs.declared.IsolationType.TheVariants.{Snp, Tdx, Cca}
use Rattle.permissions.specs.declared.HvMapGpaFlags.{HvMapGpaFlags}
use Rattle.mapping.specs.Maps.{Maps}
use Rattle.page_list.specs.declared.PageRun.{PageRun}
use Rattle.page_list.specs.Runs.{run, runs_of}
use Rattle.page_list.specs.Runs as runs
use Rattle.visibility_steps.specs.declared.Settings.{Settings}
use Rattle.visibility_steps.specs.Steps.{start_of}
use Rattle.visibility_claims.specs.Whole.{Operation, Wait, Modify, BackendAnswer, Succeeds, Fails, Status, Ok, StoppedAt, FailedAt, Halts, Whole, stands, fails, one, in_turn, per_run, flushes, unaccepts, accepts, defaults, share_operations, with_private, with_shared, protecting, writing_none, cleared_by, whole_share, returned, modified, whole_return}
use Rattle.visibility_claims.specs.Runs as steps
use Rattle.visibility_claims.specs.Runs.{told, after, whole}
use Rattle.visibility_claims.proofs.Steps.{share_whole, return_whole}

-- ---- no more operations than a list has

pub few_one : (o : Operation) (m : Maps) (gs : List BackendAnswer) (next : List BackendAnswer → Whole) (failed : ℕ → ℕ → List BackendAnswer → Whole) (b : ℕ)
    → ((gs : List BackendAnswer) → length (next gs).asked ≤ b) → ((code k : ℕ) (gs : List BackendAnswer) → length (failed code k gs).asked ≤ b)
    → length (one o m gs next failed).asked ≤ suc b
unfolding one
few_one o m [] next failed b f g = omega arith
few_one o m (Succeeds ∷ gs) next failed b f g = omega (arith, f gs)
few_one o m (Fails code k ∷ gs) next failed b f g = go (fails o) (g code k gs) (few_one o m gs next failed b f g)
  where
    go : (y : Bool) → length (failed code k gs).asked ≤ b → length (one o m gs next failed).asked ≤ suc b
        → length (cond y (record { asked = o ∷ (failed code k gs).asked; maps = (failed code k gs).maps; status = (failed code k gs).status }) (one o m gs next failed)).asked ≤ suc b
    go true h i = omega arith
    go false h i = i

pub few : (before : Operation → Maps → Maps) (os : List Operation) (m : Maps) (gs : List BackendAnswer) (next : Maps → List BackendAnswer → Whole) (b : ℕ)
    → ((m : Maps) (gs : List BackendAnswer) → length (next m gs).asked ≤ b) → length (in_turn before os m gs next).asked ≤ length os + b
unfolding in_turn
few before [] m gs next b f = omega (arith, f m gs)
few before (o ∷ os) m gs next b f =
    omega (
      arith,
      few_one o (before o m) gs (λ gs. in_turn before os (before o m) gs next) (λ code k gs. stands (before o m) Halts) (length os + b)
          (λ gs. few before os (before o m) gs next b f) (λ code k gs. omega arith),
    )

-- ---- no more runs than pages, and so many operations for each

pub few_runs : (ps : List ℕ) → length (runs_of ps) ≤ length ps
unfolding runs_of
few_runs [] = omega arith
few_runs (p ∷ ps) = go (runs_of ps) (few_runs ps)
  where
    go : (rs : List PageRun) → length rs ≤ length ps → length (runs.before p rs) ≤ suc (length ps)
    go [] h = omega arith
    go (r ∷ rs) h = pick (eqb r.first (p + 1))
      where
        pick : (b : Bool) → length (cond b (run p (r.count + 1) ∷ rs) (run p 1 ∷ r ∷ rs)) ≤ suc (length ps)
        pick true = omega arith
        pick false = omega arith

few_each : (f : PageRun → List Operation) (k : ℕ) → ((r : PageRun) → length (f r) ≤ k) → (rs : List PageRun) → length (per_run f rs) ≤ k * length rs
unfolding per_run
few_each f k h [] = omega arith
few_each f k h (r ∷ rs) = omega (arith, length-append (f r) (per_run f rs), h r, few_each f k h rs, mul-suc k (length rs))

few_flushes : (i : IsolationType) → length (flushes i) ≤ 1
few_flushes Snp = omega arith
few_flushes Tdx = omega arith
few_flushes Cca = omega arith

few_unaccepts : (i : IsolationType) (release : Bool) (r : PageRun) → length (unaccepts i release r) ≤ 3
few_unaccepts Snp release r = omega arith
few_unaccepts Tdx true r = omega arith
few_unaccepts Tdx false r = omega arith
few_unaccepts Cca release r = omega arith

few_accepts : (i : IsolationType) (r : PageRun) → length (accepts i r) ≤ 2
few_accepts Snp r = omega arith
few_accepts Tdx r = omega arith
few_accepts Cca r = omega arith

few_defaults : (f : HvMapGpaFlags) (g : Option HvMapGpaFlags) (r : PageRun) → length (defaults f g r) ≤ 2
few_defaults f (Some x) r = omega arith
few_defaults f None r = omega arith

few_shared : (s : Settings) (ps : List ℕ) → length (share_operations s ps) ≤ 3 * length ps + 3
few_shared s ps =
    let each : List Operation = per_run (unaccepts s.isolation s.release) (runs_of ps) in
    omega (
      arith,
      length-append (flushes s.isolation) (each ++ (Modify true ps ∷ [])),
      length-append each (Modify true ps ∷ []),
      few_flushes s.isolation,
      few_each (unaccepts s.isolation s.release) 3 (few_unaccepts s.isolation s.release) (runs_of ps),
      few_runs ps,
    )

few_marked : (s : Settings) (ps : List ℕ) (m : Maps) (gs : List BackendAnswer) (end : Status)
    → length (in_turn (protecting s.tracked) (per_run (defaults s.defaults.vtl0 s.defaults.vtl1) (runs_of ps)) m gs (λ m gs. stands m end)).asked ≤ 2 * length ps
few_marked s ps m gs end =
    let f : PageRun → List Operation = defaults s.defaults.vtl0 s.defaults.vtl1 in
    omega (arith, few (protecting s.tracked) (per_run f (runs_of ps)) m gs (λ m gs. stands m end) 0 (λ m gs. omega arith), few_each f 2 (few_defaults s.defaults.vtl0 s.defaults.vtl1) (runs_of ps), few_runs ps)

few_returned : (s : Settings) (ps : List ℕ) (m : Maps) (gs : List BackendAnswer) (end : Status) → length (returned s ps m gs end).asked ≤ 4 * length ps
unfolding returned
few_returned s ps m gs end =
    let next : Maps → List BackendAnswer → Whole = λ m gs. in_turn (protecting s.tracked) (per_run (defaults s.defaults.vtl0 s.defaults.vtl1) (runs_of ps)) (with_private ps true m) gs (λ m gs. stands m end) in
    omega (
      arith,
      few writing_none (per_run (accepts s.isolation) (runs_of ps)) m gs next (2 * length ps) (λ m gs. few_marked s ps (with_private ps true m) gs end),
      few_each (accepts s.isolation) 2 (few_accepts s.isolation) (runs_of ps),
      few_runs ps,
    )

-- THE BOUNDS
pub share_few : (s : Settings) (v : GuestVtl) (ps : List ℕ) (end : Status) (m : Maps) (gs : List BackendAnswer) → length (whole_share s v ps end m gs).asked ≤ 3 * length ps + 3
unfolding whole_share
share_few s v ps end m gs =
    omega (arith, few writing_none (share_operations s ps) (cleared_by s.tracked v m ps) gs (λ m gs. stands (with_shared ps true m) end) 0 (λ m gs. omega arith), few_shared s ps)

few_cut : (s : Settings) (ps their : List ℕ) (m : Maps) (code k : ℕ) (gs : List BackendAnswer)
    → length (cond (ltb k (length ps)) (returned s (take k ps) (with_shared (drop k ps) true m) gs (FailedAt code (get_or their k 0))) (stands m Halts)).asked ≤ 4 * length ps
few_cut s ps their m code k gs = go (ltb k (length ps)) (few_returned s (take k ps) (with_shared (drop k ps) true m) gs (FailedAt code (get_or their k 0)))
  where
    go : (b : Bool) → length (returned s (take k ps) (with_shared (drop k ps) true m) gs (FailedAt code (get_or their k 0))).asked ≤ 4 * length (take k ps)
        → length (cond b (returned s (take k ps) (with_shared (drop k ps) true m) gs (FailedAt code (get_or their k 0))) (stands m Halts)).asked ≤ 4 * length ps
    go true h = omega (arith, length-take k ps)
    go false h = omega arith

few_modify : (s : Settings) (ps their : List ℕ) (m : Maps) (gs : List BackendAnswer)
    → length (modified s ps their m gs).asked ≤ 4 * length ps + 1
unfolding modified
few_modify s ps their m gs =
    omega (
      arith,
      few_one (Modify false ps) m gs (λ gs. returned s ps m gs Ok) (λ code k gs. cond (ltb k (length ps)) (returned s (take k ps) (with_shared (drop k ps) true m) gs (FailedAt code (get_or their k 0))) (stands m Halts)) (4 * length ps)
          (λ gs. few_returned s ps m gs Ok) (λ code k gs. few_cut s ps their m code k gs),
    )

pub return_few : (s : Settings) (ps their : List ℕ) (m : Maps) (gs : List BackendAnswer) → length (whole_return s ps their m gs).asked ≤ 4 * length ps + 3
unfolding whole_return
return_few s ps their m gs =
    omega (arith, few writing_none (Wait ∷ flushes s.isolation) (with_shared ps false m) gs (λ m gs. modified s ps their m gs) (4 * length ps + 1) (λ m gs. few_modify s ps their m gs), few_flushes s.isolation)

counted : (w : Whole) → length w.asked < 2 ^ 64 → after 0 w ≡ whole w
counted w h =
    let e : (0 + length w.asked) % 2 ^ 64 ≡ length w.asked = omega arith in
    ap (λ (n : ℕ). record { asked = w.asked; maps = w.maps; last = told n w.status }) e

-- THE CLAIMS: after any answers the steps have asked for the operations of the whole call, in its order, have left its maps, and have answered as it does, with
-- the number of its operations. The pages asked for are the first n of the table
pub share_is_whole : (s : Settings) (v : GuestVtl) (n stop : ℕ) (stopped : Bool) (t : List ℕ) (m : Maps) (gs : List BackendAnswer) → n ≤ length t → n ≤ 512
    → steps.run s t (start_of s v true n stop stopped) m gs ≡ whole (whole_share s v (take n t) (cond stopped (StoppedAt stop) Ok) m gs)
share_is_whole s v n stop stopped t m gs l h =
    share_whole t s.tracked s.enabled s.defaults.vtl0 s.defaults.vtl1 v n stopped stop l s.isolation s.release m gs
    ∙ counted (whole_share s v (take n t) (cond stopped (StoppedAt stop) Ok) m gs) (omega (arith, share_few s v (take n t) (cond stopped (StoppedAt stop) Ok) m gs, length-take n t))

pub return_is_whole : (s : Settings) (v : GuestVtl) (n stop : ℕ) (t their : List ℕ) (m : Maps) (gs : List BackendAnswer) → n ≤ length t → n ≤ 512
    → ((k : ℕ) → k < n → get_or t (512 + k) 0 ≡ get_or their k 0)
    → steps.run s t (start_of s v false n stop false) m gs ≡ whole (whole_return s (take n t) their m gs)
return_is_whole s v n stop t their m gs l h place =
    return_whole t s.tracked s.release s.enabled s.defaults.vtl0 s.defaults.vtl1 v n stop their l place s.isolation m gs
    ∙ counted (whole_return s (take n t) their m gs) (omega (arith, return_few s (take n t) their m gs, length-take n t))
