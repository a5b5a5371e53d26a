-- What whole calls leave in the permission maps, page by page. Assumes nothing.
use mathlib.Core.Path.{◌≡◌, refl, sym, ap, fun_ext, ◌∙◌, subst}
use mathlib.Core.Bool.{Bool, true, false, cond, ◌&&◌}
use mathlib.Core.List.{List, [], ◌∷◌}
use Prim.Native.Nat.{ℕ}
use lib.Dec.{eqb, ltb, lit<}
use lib.ListN.{length, get_or, take, drop}
use borrow.Author.Tests.{ltb-true}
use Rattle.laws.specs.Bools.{false≢true, or_swap}
use Rattle.bitmap.specs.Pages as bits
use Rattle.bitmap.proofs.Map.{page_law}
use Rattle.permissions.specs.declared.GuestVtl.{GuestVtl}
use Rattle.permissions.specs.declared.GuestVtl.TheVariants.{Vtl0, Vtl1}
use Rattle.permissions.specs.declared.HvMapGpaFlags.{HvMapGpaFlags}
use Rattle.permissions.specs.Flags.{no_flags}
use Rattle.mapping.specs.Maps.{Permissions, Maps}
use Rattle.page_list.specs.declared.PageRun.{PageRun}
use Rattle.page_list.specs.Pages.{among}
use Rattle.page_list.specs.Runs.{run, runs_of}
use Rattle.default_change.specs.Visit.{up_to, pages_in}
use Rattle.visibility_steps.specs.declared.Settings.{Settings}
use Rattle.visibility_claims.specs.Whole.{Operation, Wait, BackendAnswer, Succeeds, Fails, Status, Denied, Waits, Ok, StoppedAt, FailedAt, Halts, Whole, stands, asking, fails, one, in_turn, per_run, flushes, accepts, defaults, share_operations, with_private, with_shared, forbidden, protecting, writing_none, cleared_by, whole_share, returned, modified, whole_return}
use Rattle.change_claims.specs.Whole.{ended, run_operations, whole_runs, whole_pages, whole_ram, protecting_page}
use Rattle.change_claims.specs.Pages.{within, Permits, PermitsFor, Leaves}
use Rattle.change_claims.specs.Claims.{DoneBefore, PermissionMaps}
use Rattle.change_claims.proofs.Through.{is_ok, is_end, begun, Through, through}
use Rattle.change_claims.proofs.Permits.{run_pages, ram_visits, runs_in, protected_runs, for_runs, runs_private, change_begun, return_begun}

-- ---- maps once runs were Protected

left_by : (tracked : Bool) (v : GuestVtl) (f : HvMapGpaFlags) (rs : List PageRun) (m m' : Maps) → m' ≡ protected_runs tracked v f rs m → Leaves tracked v (within (among (pages_in rs))) f m m'
left_by tracked v f rs m m' e =
    let k = runs_private tracked v f rs m in
    record {
      private = ap (λ (x : Maps). x.private) e ∙ k.0;
      shared = ap (λ (x : Maps). x.shared) e ∙ k.1;
      permissions = subst (λ (x : Maps). PermitsFor tracked v (within (among (pages_in rs))) f m.permissions x.permissions) (sym e) (for_runs tracked v f rs m);
    }

-- ---- protection and default changes

runs_leave : (tracked : Bool) (v : GuestVtl) (f : HvMapGpaFlags) (rs : List PageRun) (m : Maps) (gs : List BackendAnswer) → (whole_runs tracked v f rs m gs).status ≡ Ok
    → Leaves tracked v (within (among (pages_in rs))) f m (whole_runs tracked v f rs m gs).maps
unfolding whole_runs
runs_leave tracked v f rs m gs e =
    left_by tracked v f rs m _ ((through is_ok refl refl (protecting tracked) (run_operations v f rs) m gs ended (ap is_ok e)).maps ∙ change_begun tracked v f rs m)

-- ---- the Protect of an overlay call

pub page_leaves : (tracked guest : Bool) (v : GuestVtl) (f : HvMapGpaFlags) (p : ℕ) (m : Maps) → Leaves (tracked && guest) v (within (bits.one p)) f m (protecting_page tracked guest v f p m)
unfolding runs_in pages_in up_to among
page_leaves tracked guest v f p m =
    subst (λ (P : ℕ → Bool). Leaves (tracked && guest) v (within P) f m (protecting_page tracked guest v f p m)) (fun_ext (λ q. or_swap (eqb q p) false))
    (left_by (tracked && guest) v f (run p 1 ∷ []) m _ (go tracked guest v))
  where
    go : (tracked guest : Bool) (v : GuestVtl) → protecting_page tracked guest v f p m ≡ protected_runs (tracked && guest) v f (run p 1 ∷ []) m
    go true true Vtl0 = refl
    go true false Vtl0 = refl
    go false true Vtl0 = refl
    go false false Vtl0 = refl
    go true true Vtl1 = refl
    go true false Vtl1 = refl
    go false true Vtl1 = refl
    go false false Vtl1 = refl

-- ---- a share

module _ (x : Permissions) where
  -- operations that write none, and what follows keeps the permissions too
  still_one : (o : Operation) (m : Maps) (gs : List BackendAnswer) (next : List BackendAnswer → Whole) → m.permissions ≡ x → ((gs : List BackendAnswer) → (next gs).maps.permissions ≡ x)
      → (one o m gs next (λ code k gs. stands m Halts)).maps.permissions ≡ x
  unfolding one
  still_one o m [] next e a = e
  still_one o m (Succeeds ∷ gs) next e a = a gs
  still_one o m (Fails code k ∷ gs) next e a = go (fails o) (still_one o m gs next e a)
    where
      go : (y : Bool) → (one o m gs next (λ code k gs. stands m Halts)).maps.permissions ≡ x
          → (cond y (asking o (stands m Halts)) (one o m gs next (λ code k gs. stands m Halts))).maps.permissions ≡ x
      go true h = e
      go false h = h

  still : (os : List Operation) (m : Maps) (gs : List BackendAnswer) (next : Maps → List BackendAnswer → Whole) → m.permissions ≡ x
      → ((m : Maps) (gs : List BackendAnswer) → m.permissions ≡ x → (next m gs).maps.permissions ≡ x) → (in_turn writing_none os m gs next).maps.permissions ≡ x
  unfolding in_turn
  still [] m gs next e a = a m gs e
  still (o ∷ os) m gs next e a = still_one o m gs (λ gs. in_turn writing_none os m gs next) e (λ gs. still os m gs next e a)

forbids : (ps : List ℕ) (m : Permissions) → Permits (within (among ps)) no_flags m (forbidden ps m)
forbids ps m =
    record {
      read = λ p. page_law 8 (among ps) false m.read p (lit< tt);
      write = λ p. page_law 8 (among ps) false m.write p (lit< tt);
      kernel = λ p. page_law 8 (among ps) false m.kernel p (lit< tt);
      user = λ p. page_law 8 (among ps) false m.user p (lit< tt);
    }

share_leaves : (s : Settings) (v : GuestVtl) (ps : List ℕ) (end : Status) (m : Maps) (gs : List BackendAnswer)
    → PermitsFor s.tracked v (within (among ps)) no_flags m.permissions (whole_share s v ps end m gs).maps.permissions
unfolding whole_share
share_leaves s v ps end m gs =
    subst (λ (x : Permissions). PermitsFor s.tracked v (within (among ps)) no_flags m.permissions x)
    (sym (still (cleared_by s.tracked v m ps).permissions (share_operations s ps) (cleared_by s.tracked v m ps) gs (λ m gs. stands (with_shared ps true m) end) refl (λ m gs e. e)))
    (go s.tracked v)
  where
    go : (tracked : Bool) (v : GuestVtl) → PermitsFor tracked v (within (among ps)) no_flags m.permissions (cleared_by tracked v m ps).permissions
    go true Vtl0 = forbids ps m.permissions
    go false Vtl0 = refl
    go true Vtl1 = refl
    go false Vtl1 = refl

-- ---- a return

none_begun : (os : List Operation) (m : Maps) → begun writing_none os m ≡ m
unfolding begun
none_begun [] m = refl
none_begun (o ∷ os) m = none_begun os m

abbrev Permitted : Settings → List ℕ → Permissions → Permissions → Type 0
Permitted s ps old new = PermitsFor s.tracked Vtl0 (within (among ps)) s.defaults.vtl0 old new

-- once Modify took ps: what it leaves, and how it stands
record Returned (s : Settings) (ps : List ℕ) (m : Maps) (end : Status) (w : Whole) : Type 0 where
  permits : Permitted s ps m.permissions w.maps.permissions
  status : w.status ≡ end

module _ (E : Status → Bool) (waits : E Waits ≡ false) (halts : E Halts ≡ false) where
  returned_leaves : (s : Settings) (ps : List ℕ) (m : Maps) (gs : List BackendAnswer) (end : Status) → E (returned s ps m gs end).status ≡ true → Returned s ps m end (returned s ps m gs end)
  unfolding returned
  returned_leaves s ps m gs end e =
      let rs : List PageRun = runs_of ps in
      let f : HvMapGpaFlags = s.defaults.vtl0 in
      let os : List Operation = per_run (defaults f s.defaults.vtl1) rs in
      let next : Maps → List BackendAnswer → Whole = λ m gs. in_turn (protecting s.tracked) os (with_private ps true m) gs (λ m gs. stands m end) in
      let a : Through (per_run (accepts s.isolation) rs) (begun writing_none (per_run (accepts s.isolation) rs) m) next (in_turn writing_none (per_run (accepts s.isolation) rs) m gs next)
      = through E waits halts writing_none (per_run (accepts s.isolation) rs) m gs next e in
      let m₁ : Maps = begun writing_none (per_run (accepts s.isolation) rs) m in
      let b : Through os (begun (protecting s.tracked) os (with_private ps true m₁)) (λ m gs. stands m end) (next m₁ a.rest)
      = through E waits halts (protecting s.tracked) os (with_private ps true m₁) a.rest (λ m gs. stands m end) (ap E (sym a.status) ∙ e) in
      let all : (in_turn writing_none (per_run (accepts s.isolation) rs) m gs next).maps ≡ protected_runs s.tracked Vtl0 f rs (with_private ps true m)
      = a.maps ∙ b.maps ∙ return_begun s.tracked f s.defaults.vtl1 rs (with_private ps true m₁) ∙ ap (λ (n : Maps). protected_runs s.tracked Vtl0 f rs (with_private ps true n)) (none_begun (per_run (accepts s.isolation) rs) m) in
      record {
        permits = subst (λ (l : List ℕ). Permitted s l m.permissions (in_turn writing_none (per_run (accepts s.isolation) rs) m gs next).maps.permissions) (run_pages ps)
            (left_by s.tracked Vtl0 f rs (with_private ps true m) _ all).permissions;
        status = a.status ∙ b.status;
      }

-- Modify done, and failed
modified_ok : (s : Settings) (ps places : List ℕ) (m : Maps) (gs : List BackendAnswer) → is_ok (modified s ps places m gs).status ≡ true → Permitted s ps m.permissions (modified s ps places m gs).maps.permissions
unfolding modified one
modified_ok s ps places m [] e = false≢true e
modified_ok s ps places m (Succeeds ∷ gs) e = (returned_leaves is_ok refl refl s ps m gs Ok e).permits
modified_ok s ps places m (Fails code k ∷ gs) e = go (ltb k (length ps)) e
  where
    failed : Whole
    failed = returned s (take k ps) (with_shared (drop k ps) true m) gs (FailedAt code (get_or places k 0))

    go : (b : Bool) → is_ok (cond b failed (stands m Halts)).status ≡ true → Permitted s ps m.permissions (cond b failed (stands m Halts)).maps.permissions
    go true e = false≢true (sym (ap is_ok (returned_leaves is_ok refl refl s (take k ps) (with_shared (drop k ps) true m) gs (FailedAt code (get_or places k 0)) e).status) ∙ e)
    go false e = false≢true e

abbrev place_in : Status → ℕ
place_in (Denied n) = 0
place_in Waits = 0
place_in Ok = 0
place_in (StoppedAt i) = i
place_in (FailedAt code i) = i
place_in Halts = 0

modified_16 : (s : Settings) (ps places : List ℕ) (m : Maps) (gs : List BackendAnswer) (code i : ℕ) → (modified s ps places m gs).status ≡ FailedAt code i
    → DoneBefore ps places i (λ qs. Permitted s qs m.permissions (modified s ps places m gs).maps.permissions)
unfolding modified one
modified_16 s ps places m [] code i e = false≢true (ap is_end e)
modified_16 s ps places m (Succeeds ∷ gs) code i e = false≢true (sym (ap is_ok e) ∙ ap is_ok (returned_leaves is_end refl refl s ps m gs Ok (ap is_end e)).status)
modified_16 s ps places m (Fails c k ∷ gs) code i e = go (ltb k (length ps)) refl e
  where
    failed : Whole
    failed = returned s (take k ps) (with_shared (drop k ps) true m) gs (FailedAt c (get_or places k 0))

    go : (b : Bool) → ltb k (length ps) ≡ b → (cond b failed (stands m Halts)).status ≡ FailedAt code i
        → DoneBefore ps places i (λ qs. Permitted s qs m.permissions (cond b failed (stands m Halts)).maps.permissions)
    go true d e =
        let x = returned_leaves is_end refl refl s (take k ps) (with_shared (drop k ps) true m) gs (FailedAt c (get_or places k 0)) (ap is_end e) in
        record { count = k; below = ltb-true k (length ps) d; place = ap place_in (sym x.status ∙ e); done = x.permits }
    go false d e = false≢true (ap is_end e)

-- Wait and a flush come first
modifies : (s : Settings) (ps places : List ℕ) (m : Maps) (gs : List BackendAnswer) → is_end (whole_return s ps places m gs).status ≡ true
    → Through (Wait ∷ flushes s.isolation) (with_shared ps false m) (λ m gs. modified s ps places m gs) (whole_return s ps places m gs)
unfolding whole_return
modifies s ps places m gs e =
    let os : List Operation = Wait ∷ flushes s.isolation in
    let next : Maps → List BackendAnswer → Whole = λ m gs. modified s ps places m gs in
    subst (λ (n : Maps). Through os n next (in_turn writing_none os (with_shared ps false m) gs next)) (none_begun os (with_shared ps false m)) (through is_end refl refl writing_none os (with_shared ps false m) gs next e)

-- THE CLAIMS
pub permission_maps : PermissionMaps
permission_maps =
    record {
      protection = λ tracked v f ps m gs e.
          subst (λ (l : List ℕ). Leaves tracked v (within (among l)) f m (whole_pages tracked v f ps m gs).maps) (run_pages ps) (runs_leave tracked v f (runs_of ps) m gs e);
      default = λ tracked v f es overlay m gs e.
          subst (λ (P : ℕ → Bool). Leaves tracked v (within P) f m (whole_ram tracked v f es overlay m gs).maps) (fun_ext (ram_visits es overlay m)) (runs_leave tracked v f _ m gs e);
      return_ok = λ s ps places m gs e.
          let t = modifies s ps places m gs (ap is_end e) in
          subst (λ (x : Maps). Permitted s ps m.permissions x.permissions) (sym t.maps) (modified_ok s ps places (with_shared ps false m) t.rest (ap is_ok (sym t.status ∙ e)));
      return_16 = λ s ps places m gs code i e.
          let t = modifies s ps places m gs (ap is_end e) in
          subst (λ (x : Maps). DoneBefore ps places i (λ qs. Permitted s qs m.permissions x.permissions)) (sym t.maps) (modified_16 s ps places (with_shared ps false m) t.rest code i (sym t.status ∙ e));
      share = share_leaves;
    }
