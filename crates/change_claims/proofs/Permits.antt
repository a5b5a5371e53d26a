-- The permission maps page by page, once whole calls ended. Assumes nothing.
use Rattle.std.specs.Prelude.{Option, Some, None}
use native.Mathlib.Omega.{arith}
use mathlib.Core.Path.{◌≡◌, refl, sym, ap, ap₂, ◌∙◌}
use mathlib.Core.Bool.{Bool, true, false, cond, ◌&&◌, ◌||◌}
use mathlib.Core.List.{List, [], ◌∷◌, ◌++◌, append_assoc}
use Prim.Native.Nat.{ℕ, zero, suc, ◌+◌, ◌-◌, ◌/◌}
use lib.Dec.{eqb, ltb}
use lib.ListN.{length}
use borrow.Author.Tests.{eqb-true}
use Rattle.laws.specs.Bools.{or_swap}
use Rattle.laws.specs.Ranges.{between, between_false, between_same, between_join}
use Rattle.bitmap.specs.Pages.{bit_at, written}
use Rattle.bitmap.proofs.Map.{length_written}
use Rattle.bitmap.proofs.Runs.{one_between}
use Rattle.layout.specs.declared.MemoryRangeWithNode.{MemoryRangeWithNode}
use Rattle.layout.specs.Layout.{holds_page, ram_byte, is_ram}
use Rattle.permissions.specs.declared.GuestVtl.{GuestVtl}
use Rattle.permissions.specs.declared.GuestVtl.TheVariants.{Vtl0, Vtl1}
use Rattle.permissions.specs.declared.HvMapGpaFlags.{HvMapGpaFlags}
use Rattle.mapping.specs.Maps.{Permissions, Maps, perms, permitted}
use Rattle.mapping.proofs.Marks.{permitted_page, entry_pages_lem}
use Rattle.page_list.specs.declared.PageRun.{PageRun}
use Rattle.page_list.specs.Pages.{among}
use Rattle.page_list.specs.Runs.{run, before, runs_of}
use Rattle.page_list.proofs.Laws.{among_append}
use Rattle.default_change.specs.Pieces.{page_up}
use Rattle.default_change.specs.Visit.{up_to, pick, pages_in}
use Rattle.visibility_claims.specs.Whole.{per_run, defaults, with_permissions, protecting}
use Rattle.change_claims.specs.Whole.{run_operations, entry_pages, is_protected, ram_runs}
use Rattle.change_claims.specs.Claims.{taken_ram}
use Rattle.change_claims.specs.Pages.{Sets, within, Permits, PermitsFor}
use Rattle.change_claims.proofs.Through.{begun}

-- ---- the pages of runs

among_up : (k a q : ℕ) → among (up_to a k) q ≡ between a (a + k) q
unfolding up_to among
among_up zero a q = sym (between_false a (a + 0) q (λ x y. omega arith))
among_up (suc k) a q =
    let d : suc a ≡ a + 1 = omega arith in
    let e : suc a + k ≡ a + suc k = omega arith in
    ap₂ (λ (x y : Bool). x || y) (one_between a q) (among_up k (suc a) q ∙ ap₂ (λ (x y : ℕ). between x y q) d e)
    ∙ or_swap (between a (a + 1) q) (between (a + 1) (a + suc k) q) ∙ sym (between_join a (a + 1) (a + suc k) q (omega arith) (omega arith))

among_pick : (P : ℕ → Bool) (ps : List ℕ) (q : ℕ) → among (pick P ps) q ≡ (among ps q && P q)
unfolding pick among
among_pick P [] q = refl
among_pick P (p ∷ ps) q = go (P p) refl (eqb q p) refl (among_pick P ps q)
  where
    go : (b : Bool) → P p ≡ b → (c : Bool) → eqb q p ≡ c → among (pick P ps) q ≡ (among ps q && P q)
        → among (cond b (p ∷ pick P ps) (pick P ps)) q ≡ ((c || among ps q) && P q)
    go true e true f h = rw f (sym (ap P (eqb-true q p f) ∙ e))
    go true e false f h = rw f h
    go false e true f h = let z : P q ≡ false = ap P (eqb-true q p f) ∙ e in h ∙ rw z (and_no (among ps q))
      where
        and_no : (b : Bool) → (b && false) ≡ false
        and_no true = refl
        and_no false = refl
    go false e false f h = h

-- the runs of a list have its pages, in its order
pub run_pages : (ps : List ℕ) → pages_in (runs_of ps) ≡ ps
unfolding runs_of pages_in up_to
run_pages [] = refl
run_pages (p ∷ ps) = go (runs_of ps) ∙ ap (λ (l : List ℕ). p ∷ l) (run_pages ps)
  where
    go : (rs : List PageRun) → pages_in (before p rs) ≡ p ∷ pages_in rs
    go [] = refl
    go (r ∷ rs) = pick (eqb r.first (p + 1)) refl
      where
        pick : (b : Bool) → eqb r.first (p + 1) ≡ b → pages_in (cond b (run p (r.count + 1) ∷ rs) (run p 1 ∷ r ∷ rs)) ≡ p ∷ (up_to r.first r.count ++ pages_in rs)
        pick true e =
            let c : r.count + 1 ≡ suc r.count = omega arith in
            let f : suc p ≡ r.first = omega (arith, eqb-true r.first (p + 1) e) in
            ap (λ (n : ℕ). up_to p n ++ pages_in rs) c ∙ ap (λ (n : ℕ). p ∷ (up_to n r.count ++ pages_in rs)) f
        pick false e = refl

pages_join : (rs ss : List PageRun) → pages_in (rs ++ ss) ≡ pages_in rs ++ pages_in ss
unfolding pages_in
pages_join [] ss = refl
pages_join (r ∷ rs) ss = ap (λ (l : List ℕ). up_to r.first r.count ++ l) (pages_join rs ss) ∙ sym (append_assoc (up_to r.first r.count) (pages_in rs) (pages_in ss))

-- those of a default change, of any layout and overlays
pub ram_visits : (es : List MemoryRangeWithNode) (overlay : ℕ → Bool) (m : Maps) (p : ℕ) → among (pages_in (ram_runs es overlay m)) p ≡ taken_ram es m.private overlay p
unfolding ram_runs pages_in among ram_byte
ram_visits [] overlay m p = refl
ram_visits (e ∷ es) overlay m p =
    let P : ℕ → Bool = is_protected m.private overlay in
    let rs : List PageRun = runs_of (pick P (entry_pages e)) in
    ap (λ (l : List ℕ). among l p) (pages_join rs (ram_runs es overlay m)) ∙ among_append (pages_in rs) (pages_in (ram_runs es overlay m)) p
    ∙ ap₂ (λ (x y : Bool). x || y) (ap (λ (l : List ℕ). among l p) (run_pages (pick P (entry_pages e))) ∙ among_pick P (entry_pages e) p ∙ ap (λ (b : Bool). b && P p) (held_pages e p)) (ram_visits es overlay m p)
    ∙ spread (holds_page e p) (is_ram es p) (P p)
  where
    held_pages : (e : MemoryRangeWithNode) (p : ℕ) → among (entry_pages e) p ≡ holds_page e p
    held_pages e p = among_up (page_up e.end - page_up e.start) (page_up e.start) p ∙ upper (page_up e.start) (page_up e.end) p ∙ entry_pages_lem e p
      where
        upper : (a b p : ℕ) → between a (a + (b - a)) p ≡ between a b p
        upper a b p = between_same a (a + (b - a)) p a b p (λ x y. (x, omega arith)) (λ x y. (x, omega arith))

    spread : (a b c : Bool) → ((a && c) || (b && c)) ≡ ((a || b) && c)
    spread true b true = refl
    spread true true false = refl
    spread true false false = refl
    spread false b c = refl

-- ---- a map once runs were written, page by page

unfoldable pub runs_in : Bool → List PageRun → List ℕ → List ℕ
runs_in s [] m = m
runs_in s (r ∷ rs) m = runs_in s rs (written 8 (between r.first (r.first + r.count)) s m)

runs_page : (s : Bool) (rs : List PageRun) (m : List ℕ) → Sets (within (among (pages_in rs)) m) s m (runs_in s rs m)
unfolding runs_in pages_in among
runs_page s [] m p = refl
runs_page s (r ∷ rs) m p =
    let P : ℕ → Bool = between r.first (r.first + r.count) in
    runs_page s rs (written 8 P s m) p
    ∙ ap₂ (λ (n : ℕ) (b : Bool). cond (among (pages_in rs) p && ltb (p / 8) n) s b) (length_written 8 P s m) (permitted_page r.first (r.first + r.count) s m p)
    ∙ twice (among (pages_in rs) p) (P p) (ltb (p / 8) (length m)) (bit_at 8 m p)
    ∙ ap (λ (b : Bool). cond (b && ltb (p / 8) (length m)) s (bit_at 8 m p))
    (ap (λ (b : Bool). b || among (pages_in rs) p) (sym (among_up r.count r.first p)) ∙ sym (among_append (up_to r.first r.count) (pages_in rs) p))
  where
    twice : (a b c x : Bool) → cond (a && c) s (cond (b && c) s x) ≡ cond ((b || a) && c) s x
    twice true true true x = refl
    twice true true false x = refl
    twice true false c x = only c
      where
        only : (c : Bool) → cond c s (cond false s x) ≡ cond c s x
        only c = refl
    twice false true c x = refl
    twice false false c x = refl

-- the four
abbrev pub permitted_in : HvMapGpaFlags → List PageRun → Permissions → Permissions
permitted_in f rs m =
    perms (runs_in f.readable rs m.read) (runs_in f.writable rs m.write) (runs_in f.kernel_executable rs m.kernel) (runs_in f.user_executable rs m.user)

permits : (f : HvMapGpaFlags) (rs : List PageRun) (m : Permissions) → Permits (within (among (pages_in rs))) f m (permitted_in f rs m)
permits f rs m =
    record {
      read = runs_page f.readable rs m.read;
      write = runs_page f.writable rs m.write;
      kernel = runs_page f.kernel_executable rs m.kernel;
      user = runs_page f.user_executable rs m.user;
    }

-- ---- the writes that go before the Protects of runs

-- the maps once runs of the VTL v were Protected
abbrev pub protected_runs : Bool → GuestVtl → HvMapGpaFlags → List PageRun → Maps → Maps
protected_runs true Vtl0 f rs m = with_permissions (permitted_in f rs m.permissions) m
protected_runs false Vtl0 f rs m = m
protected_runs tracked Vtl1 f rs m = m

pub for_runs : (tracked : Bool) (v : GuestVtl) (f : HvMapGpaFlags) (rs : List PageRun) (m : Maps) → PermitsFor tracked v (within (among (pages_in rs))) f m.permissions (protected_runs tracked v f rs m).permissions
for_runs true Vtl0 f rs m = permits f rs m.permissions
for_runs false Vtl0 f rs m = refl
for_runs tracked Vtl1 f rs m = refl

pub runs_private : (tracked : Bool) (v : GuestVtl) (f : HvMapGpaFlags) (rs : List PageRun) (m : Maps) → ((protected_runs tracked v f rs m).private ≡ m.private) × ((protected_runs tracked v f rs m).shared ≡ m.shared)
runs_private true Vtl0 f rs m = (refl, refl)
runs_private false Vtl0 f rs m = (refl, refl)
runs_private tracked Vtl1 f rs m = (refl, refl)

-- of a protection or default change
pub change_begun : (tracked : Bool) (v : GuestVtl) (f : HvMapGpaFlags) (rs : List PageRun) (m : Maps) → begun (protecting tracked) (run_operations v f rs) m ≡ protected_runs tracked v f rs m
unfolding begun per_run runs_in
change_begun true Vtl0 f [] m = refl
change_begun true Vtl0 f (r ∷ rs) m = change_begun true Vtl0 f rs (with_permissions (permitted r.first (r.first + r.count) f m.permissions) m)
change_begun false Vtl0 f [] m = refl
change_begun false Vtl0 f (r ∷ rs) m = change_begun false Vtl0 f rs m
change_begun tracked Vtl1 f [] m = refl
change_begun tracked Vtl1 f (r ∷ rs) m = change_begun tracked Vtl1 f rs m

-- of a return
pub return_begun : (tracked : Bool) (f : HvMapGpaFlags) (g : Option HvMapGpaFlags) (rs : List PageRun) (m : Maps) → begun (protecting tracked) (per_run (defaults f g) rs) m ≡ protected_runs tracked Vtl0 f rs m
unfolding begun per_run runs_in
return_begun true f (Some g) [] m = refl
return_begun true f (Some g) (r ∷ rs) m = return_begun true f (Some g) rs (with_permissions (permitted r.first (r.first + r.count) f m.permissions) m)
return_begun true f None [] m = refl
return_begun true f None (r ∷ rs) m = return_begun true f None rs (with_permissions (permitted r.first (r.first + r.count) f m.permissions) m)
return_begun false f (Some g) [] m = refl
return_begun false f (Some g) (r ∷ rs) m = return_begun false f (Some g) rs m
return_begun false f None [] m = refl
return_begun false f None (r ∷ rs) m = return_begun false f None rs m
