-- What a step writes, as the whole call says it. Assumes nothing.
use native.Mathlib.Omega.{arith}
use mathlib.Core.Path.{◌≡◌, sym, ap, ap₂, ◌∙◌}
use mathlib.Core.Bool.{Bool, true, false, cond}
use mathlib.Core.List.{List}
use Prim.Native.Nat.{ℕ, ◌+◌, ◌*◌, ◌≤◌, ◌<◌}
use lib.ListN.{length, take}
use Rattle.laws.specs.Ranges.{between}
use Rattle.bitmap.specs.Pages.{written}
use Rattle.bitmap.proofs.Map.{alike}
use Rattle.permissions.specs.declared.GuestVtl.{GuestVtl}
use Rattle.permissions.specs.declared.GuestVtl.TheVariants.{Vtl0, Vtl1}
use Rattle.permissions.specs.declared.HvMapGpaFlags.{HvMapGpaFlags}
use Rattle.permissions.specs.Flags.{no_flags}
use Rattle.mapping.specs.Maps.{Maps, Permissions}
use Rattle.page_list.specs.Pages.{among}
use Rattle.page_list.specs.Runs.{part, run_at}
use Rattle.request_pages.specs.Request.{run_end, put}
use Rattle.request_pages.proofs.Runs.{put_none, run_places}
use Rattle.visibility_steps.specs.declared.Places.{Places}
use Rattle.visibility_steps.specs.declared.Writes.{Writes}
use Rattle.visibility_steps.specs.Steps.{places, writes, set_permissions, cleared}
use Rattle.protector.specs.Writes.{put_places, put_permissions, applied}
use Rattle.visibility_claims.specs.Whole.{Protect, marked, with_private, with_shared, with_permissions, forbidden, protecting, cleared_by}

-- ---- the pages of a run

module _ (t : List ℕ) (n a : ℕ) (h : a < n) (g : n ≤ length t) where
  put_run : (s : Bool) (m : List ℕ) → put t a (run_end t n a) s m ≡ written 8 (between (run_at t n a).first ((run_at t n a).first + (run_at t n a).count)) s m
  unfolding put
  put_run s m =
      alike 8 (among (part t (run_end t n a) a)) (between (run_at t n a).first ((run_at t n a).first + (run_at t n a).count)) s m
      (λ j k l d. run_places t n a h g (j * 8 + k))

-- ---- writes that leave the permissions alone

-- marks set at some places
abbrev pub sets : Places → Places → Writes
sets p h = writes true p h (places 0 0) no_flags

abbrev pub set_by : List ℕ → Places → Places → Maps → Maps
set_by t p h m = record { private = put_places t p true m.private; shared = put_places t h true m.shared; permissions = m.permissions }

same_permissions : (t : List ℕ) (a : ℕ) (f : HvMapGpaFlags) (m : Permissions) → put_permissions t (places a a) f m ≡ m
same_permissions t a f m =
    rw (
      put_none t a a f.readable m.read (omega arith),
      put_none t a a f.writable m.write (omega arith),
      put_none t a a f.kernel_executable m.kernel (omega arith),
      put_none t a a f.user_executable m.user (omega arith),
    )

pub applied_sets : (t : List ℕ) (p h : Places) (m : Maps) → applied t (sets p h) m ≡ set_by t p h m
unfolding applied
applied_sets t p h m = ap (λ (x : Permissions). with_permissions x (set_by t p h m)) (same_permissions t 0 no_flags m.permissions)

pub set_none : (t : List ℕ) (m : Maps) → set_by t (places 0 0) (places 0 0) m ≡ m
set_none t m = rw (put_none t 0 0 true m.private (omega arith), put_none t 0 0 true m.shared (omega arith))

pub applied_none : (t : List ℕ) (m : Maps) → applied t (sets (places 0 0) (places 0 0)) m ≡ m
applied_none t m = applied_sets t (places 0 0) (places 0 0) m ∙ set_none t m

-- ---- the default permissions of a run

pub applied_default : (t : List ℕ) (n a : ℕ) → a < n → n ≤ length t → (tracked : Bool) (p h : Places) (f : HvMapGpaFlags) (m : Maps)
    → applied t (set_permissions (sets p h) a (cond tracked (run_end t n a) a) f) m ≡ protecting tracked (Protect Vtl0 f (run_at t n a)) (set_by t p h m)
unfolding applied
applied_default t n a l g true p h f m =
    let e : (s : Bool) (x : List ℕ) → put t a (run_end t n a) s x ≡ written 8 (between (run_at t n a).first ((run_at t n a).first + (run_at t n a).count)) s x = put_run t n a l g in
    rw (e f.readable m.permissions.read, e f.writable m.permissions.write, e f.kernel_executable m.permissions.kernel, e f.user_executable m.permissions.user)
applied_default t n a l g false p h f m = ap (λ (x : Permissions). with_permissions x (set_by t p h m)) (same_permissions t a f m.permissions)

-- ---- what a call clears at once

pub applied_share : (t : List ℕ) (n : ℕ) (tracked : Bool) (v : GuestVtl) (m : Maps) → applied t (cleared tracked v true n) m ≡ cleared_by tracked v m (take n t)
unfolding applied cleared put
applied_share t n tracked Vtl0 m = go tracked
  where
    go : (tracked : Bool) → applied t (writes false (places 0 n) (places 0 0) (places 0 (cond tracked n 0)) no_flags) m ≡ cleared_by tracked Vtl0 m (take n t)
    go true = ap (λ (x : List ℕ). record { private = marked (take n t) false m.private; shared = x; permissions = forbidden (take n t) m.permissions }) (put_none t 0 0 false m.shared (omega arith))
    go false =
        ap₂ (λ (x : List ℕ) (y : Permissions). record { private = marked (take n t) false m.private; shared = x; permissions = y })
        (put_none t 0 0 false m.shared (omega arith)) (same_permissions t 0 no_flags m.permissions)
applied_share t n tracked Vtl1 m =
    ap₂ (λ (x : List ℕ) (y : Permissions). record { private = marked (take n t) false m.private; shared = x; permissions = y })
    (put_none t 0 0 false m.shared (omega arith)) (same_permissions t 0 no_flags m.permissions)

pub applied_return : (t : List ℕ) (n : ℕ) (tracked : Bool) (v : GuestVtl) (m : Maps) → applied t (cleared tracked v false n) m ≡ with_shared (take n t) false m
unfolding applied cleared put
applied_return t n tracked v m =
    ap₂ (λ (x : List ℕ) (y : Permissions). record { private = x; shared = marked (take n t) false m.shared; permissions = y })
    (put_none t 0 0 false m.private (omega arith)) (same_permissions t 0 no_flags m.permissions)

-- ---- marks set at places of the table

pub set_shared_lem : (t : List ℕ) (a n : ℕ) (m : Maps) → set_by t (places 0 0) (places a n) m ≡ with_shared (part t n a) true m
unfolding put
set_shared_lem t a n m = ap (λ (x : List ℕ). record { private = x; shared = marked (part t n a) true m.shared; permissions = m.permissions }) (put_none t 0 0 true m.private (omega arith))

pub set_private_lem : (t : List ℕ) (n : ℕ) (h : Places) (m : Maps) → set_by t (places 0 n) h m ≡ with_private (take n t) true (set_by t (places 0 0) h m)
unfolding put
set_private_lem t n h m = ap (λ (x : List ℕ). record { private = marked (take n t) true x; shared = put_places t h true m.shared; permissions = m.permissions }) (sym (put_none t 0 0 true m.private (omega arith)))
