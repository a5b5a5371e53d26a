-- Laws of runs in the table: where they end, which pages they have, and a map written run by run. Assumes nothing.
use mathlib.Core.Bool.{Bool, true, false, cond, ◌||◌}
use mathlib.Core.List.{List, [], ◌∷◌}
use mathlib.Core.Logic.{⊎_elim}
use mathlib.Core.Path.{◌≡◌, refl, sym, ap, ap₂, ◌∙◌}
use Prim.Native.Nat.{ℕ, suc, ◌+◌, ◌-◌, ◌*◌, ◌≤◌, ◌<◌, min, max}
use native.Mathlib.Omega.{arith}
use lib.Dec.{eqb}
use lib.ListN.{length, get_or, take, drop, length-take, length-drop}
use lib.Seq.{drop-drop, get_or-drop, get_or-take, take-take, take-add, drop_at, length-take-le}
use borrow.Author.Tests.{eqb-true}
use Rattle.laws.specs.Bools.{or_swap, or_assoc, lt_or_le}
use Rattle.laws.specs.Ranges.{between, between_join}
use Rattle.bitmap.specs.Pages.{written}
use Rattle.bitmap.proofs.Map.{both, none, alike}
use Rattle.bitmap.proofs.Runs.{one_between}
use Rattle.page_list.specs.Pages.{among}
use Rattle.page_list.specs.Runs.{part, neighbours, run_at}
use Rattle.page_list.specs.declared.PageRun.{PageRun}
use Rattle.page_list.proofs.RunLaws.{run_none, run_here, part_next, part_end}
use Rattle.permissions.specs.declared.HvMapGpaFlags.{HvMapGpaFlags}
use Rattle.mapping.specs.Maps.{Permissions, permitted}
use Rattle.request_pages.specs.Request.{run_end, put, put_flags}

few : (p : ℕ) (ps : List ℕ) → neighbours p ps ≤ length ps
unfolding neighbours
few p [] = omega arith
few p (q ∷ qs) = go (eqb q (p + 1)) (few q qs)
  where
    go : (b : Bool) → neighbours q qs ≤ length qs → cond b (suc (neighbours q qs)) 0 ≤ suc (length qs)
    go true h = omega arith
    go false h = omega arith

-- ---- where a run ends
module _ (t : List ℕ) (n a : ℕ) where
  pub end_none : n ≤ a → run_end t n a ≡ a
  unfolding run_end
  end_none h = ap (λ (r : PageRun). a + r.count) (sym (run_none t n a h)) ∙ omega arith

  module _ (h : a < n) where
    -- how many pages follow the first as its neighbours
    abbrev more : ℕ
    more = neighbours (get_or t a 0) (part t n (a + 1))

    end_is : run_end t n a ≡ a + suc more
    unfolding run_end
    end_is = ap (λ (r : PageRun). a + r.count) (sym (run_here t n a (get_or t a 0) (suc more) h refl refl))

    pub end_after : a < run_end t n a
    end_after = omega (arith, end_is)

    few_more : more ≤ min n (length t) - (a + 1)
    few_more = omega (arith, few (get_or t a 0) (part t n (a + 1)), length-drop (a + 1) (take n t), length-take n t)

    pub end_le : run_end t n a ≤ n
    end_le = omega (arith, end_is, few_more)

pub end_max : (t : List ℕ) (n a : ℕ) → run_end t n a ≤ max a n
end_max t n a =
    ⊎_elim (λ (h : a < n). omega (arith, end_le t n a h)) (λ (h : n ≤ a). omega (arith, end_none t n a h)) (lt_or_le a n)

pub end_of_lem : (t : List ℕ) (n a : ℕ) (r : PageRun) → r ≡ run_at t n a → a + r.count ≡ run_end t n a
unfolding run_end
end_of_lem t n a r e = ap (λ (r : PageRun). a + r.count) e

-- ---- which pages a run has: from its first to its last, each one above the one before
run_pages : (p : ℕ) (ps : List ℕ) (q : ℕ) → among (p ∷ ps) q ≡ (among (drop (neighbours p ps) ps) q || between p (p + neighbours p ps + 1) q)
unfolding among neighbours
run_pages p [] q = let e : p + 1 ≡ p + 0 + 1 = omega arith in or_swap (eqb q p) false ∙ one_between p q ∙ ap (λ (b : ℕ). between p b q) e
run_pages p (r ∷ rs) q = go (eqb r (p + 1)) (eqb-true r (p + 1)) (run_pages r rs q)
  where
    go : (b : Bool) → (b ≡ true → r ≡ p + 1) → among (r ∷ rs) q ≡ (among (drop (neighbours r rs) rs) q || between r (r + neighbours r rs + 1) q)
        → (eqb q p || among (r ∷ rs) q)
        ≡ (among (drop (cond b (suc (neighbours r rs)) 0) (r ∷ rs)) q || between p (p + cond b (suc (neighbours r rs)) 0 + 1) q)
    go true h e =
        let k : ℕ = neighbours r rs in
        let d : r ≡ p + 1 = h refl in
        let f : r + k + 1 ≡ p + suc k + 1 = omega arith in
        let rest : Bool = among (drop k rs) q in
        ap (λ (b : Bool). eqb q p || b) (e ∙ ap (λ (b : Bool). rest || b) (ap₂ (λ (x y : ℕ). between x y q) d f))
        ∙ or_swap (eqb q p) (rest || between (p + 1) (p + suc k + 1) q)
        ∙ or_assoc rest (between (p + 1) (p + suc k + 1) q) (eqb q p)
        ∙ ap (λ (b : Bool). rest || b)
        (ap (λ (b : Bool). between (p + 1) (p + suc k + 1) q || b) (one_between p q)
        ∙ sym (between_join p (p + 1) (p + suc k + 1) q (omega arith) (omega arith)))
    go false h e =
        let d : p + 1 ≡ p + 0 + 1 = omega arith in
        or_swap (eqb q p) (among (r ∷ rs) q) ∙ ap (λ (b : Bool). among (r ∷ rs) q || b) (one_between p q ∙ ap (λ (x : ℕ). between p x q) d)

last_page : (p : ℕ) (ps : List ℕ) → get_or (p ∷ ps) (neighbours p ps) 0 ≡ p + neighbours p ps
unfolding neighbours
last_page p [] = omega arith
last_page p (r ∷ rs) = go (eqb r (p + 1)) (eqb-true r (p + 1)) (last_page r rs)
  where
    go : (b : Bool) → (b ≡ true → r ≡ p + 1) → get_or (r ∷ rs) (neighbours r rs) 0 ≡ r + neighbours r rs
        → get_or (p ∷ r ∷ rs) (cond b (suc (neighbours r rs)) 0) 0 ≡ p + cond b (suc (neighbours r rs)) 0
    go true h e = let d : r ≡ p + 1 = h refl in e ∙ omega arith
    go false h e = omega arith

-- ---- the run at a place of the table, as the code names what it reads: its end, its first page and its last
module _ (t : List ℕ) (to a end first last : ℕ) (h : a < to) (g : a < length t) (u : end ≡ run_end t to a) (e : first ≡ get_or t a 0)
    (d : last ≡ get_or t (end - 1) 0) where
  last_of : last ≡ first + more t to a h
  last_of =
      let p : ℕ = get_or t a 0 in
      let k : ℕ = more t to a h in
      let v : end - 1 ≡ a + k = omega (arith, end_is t to a h) in
      d ∙ ap (λ (i : ℕ). get_or t i 0) v
      ∙ sym (get_or-take to t (a + k) 0 (omega (arith, end_is t to a h, end_le t to a h)))
      ∙ sym (get_or-drop a (take to t) k 0)
      ∙ ap (λ (l : List ℕ). get_or l k 0) (part_next t to a h g)
      ∙ last_page p (part t to (a + 1))
      ∙ ap (λ (p : ℕ). p + k) (sym e)

  pub last_above : first ≤ last
  last_above = omega (arith, last_of)

  pub put_run : (s : Bool) (m m' : List ℕ) → m' ≡ written 8 (between first (last + 1)) s m → put t end to s m' ≡ put t a to s m
  unfolding put
  put_run s m m' f =
      let p : ℕ = get_or t a 0 in
      let k : ℕ = more t to a h in
      let i : a + 1 + k ≡ end = omega (arith, end_is t to a h) in
      let rest : drop k (part t to (a + 1)) ≡ part t to end = drop-drop k (a + 1) (take to t) ∙ ap (λ (n : ℕ). drop n (take to t)) i in
      let v : last + 1 ≡ p + k + 1 = omega (arith, last_of) in
      ap (written 8 (among (part t to end)) s) f
      ∙ both 8 (among (part t to end)) (between first (last + 1)) (among (part t to a)) s m
      (λ q. ap (λ (l : List ℕ). among l q) (part_next t to a h g) ∙ run_pages p (part t to (a + 1)) q
      ∙ ap₂ (λ (l : List ℕ) (b : Bool). among l q || b) rest (ap₂ (λ (x y : ℕ). between x y q) (sym e) (sym v)))

  pub flags_run : (f : HvMapGpaFlags) (m m' : Permissions) → m' ≡ permitted first (last + 1) f m → put_flags t end to f m' ≡ put_flags t a to f m
  flags_run f m m' e =
      rw (
        put_run f.readable m.read m'.read (ap (λ (p : Permissions). p.read) e),
        put_run f.writable m.write m'.write (ap (λ (p : Permissions). p.write) e),
        put_run f.kernel_executable m.kernel m'.kernel (ap (λ (p : Permissions). p.kernel) e),
        put_run f.user_executable m.user m'.user (ap (λ (p : Permissions). p.user) e),
      )

-- ---- the pages at the places of a run
abbrev pub first : ℕ → List ℕ → List ℕ
first p ps = take (suc (neighbours p ps)) (p ∷ ps)

pub own_pages : (p : ℕ) (ps : List ℕ) (q : ℕ) → among (first p ps) q ≡ between p (p + suc (neighbours p ps)) q
unfolding among neighbours
own_pages p [] q = or_swap (eqb q p) false ∙ one_between p q
own_pages p (r ∷ rs) q = go (eqb r (p + 1)) (eqb-true r (p + 1)) (own_pages r rs q)
  where
    go : (b : Bool) → (b ≡ true → r ≡ p + 1) → among (first r rs) q ≡ between r (r + suc (neighbours r rs)) q
        → (eqb q p || among (take (cond b (suc (neighbours r rs)) 0) (r ∷ rs)) q) ≡ between p (p + suc (cond b (suc (neighbours r rs)) 0)) q
    go true h e =
        let k : ℕ = neighbours r rs in
        let d : r ≡ p + 1 = h refl in
        let f : r + suc k ≡ p + suc (suc k) = omega arith in
        ap₂ (λ (x y : Bool). x || y) (one_between p q) (e ∙ ap₂ (λ (x y : ℕ). between x y q) d f)
        ∙ or_swap (between p (p + 1) q) (between (p + 1) (p + suc (suc k)) q)
        ∙ sym (between_join p (p + 1) (p + suc (suc k)) q (omega arith) (omega arith))
    go false h e = or_swap (eqb q p) false ∙ one_between p q

module _ (t : List ℕ) (n a : ℕ) (h : a < n) (g : n ≤ length t) where
  pub run_is : run_at t n a ≡ record { first = get_or t a 0; count = suc (more t n a h) }
  run_is = sym (run_here t n a (get_or t a 0) (suc (more t n a h)) h refl refl)

  pub part_run : part t (run_end t n a) a ≡ first (get_or t a 0) (part t n (a + 1))
  unfolding run_end
  part_run =
      let m : ℕ = suc (more t n a h) in
      let e : a + (run_at t n a).count ≡ a + m = ap (λ (r : PageRun). a + r.count) run_is in
      let l : a + m ≤ n = omega (arith, e, end_le t n a h) in
      ap (λ (k : ℕ). part t k a) e
      ∙ ap (drop a) (sym (take-take (a + m) n t l) ∙ take-add a m (take n t))
      ∙ drop_at (take a (take n t)) (take m (drop a (take n t))) a (ap length (take-take a n t (omega arith)) ∙ length-take-le a t (omega arith))
      ∙ ap (take m) (part_next t n a h (omega arith))

  pub run_places : (z : ℕ) → among (part t (run_end t n a) a) z ≡ between (run_at t n a).first ((run_at t n a).first + (run_at t n a).count) z
  run_places z = ap (λ (ps : List ℕ). among ps z) part_run ∙ own_pages (get_or t a 0) (part t n (a + 1)) z ∙ ap (λ (r : PageRun). between r.first (r.first + r.count) z) (sym run_is)

  -- a map written at these places
  module _ (r : PageRun) (e : r ≡ run_at t n a) where
    more_of : r.count ≡ suc (more t n a h)
    more_of = ap (λ (r : PageRun). r.count) (e ∙ run_is)

    pub run_some : 1 ≤ r.count
    run_some = omega (arith, more_of)

    pub run_inside : a + (r.count - 1) < n
    run_inside = omega (arith, more_of, end_is t n a h, end_le t n a h)

  module _ (r : PageRun) (last : ℕ) (e : r ≡ run_at t n a) (d : last ≡ get_or t (a + (r.count - 1)) 0) where
    run_last : last ≡ r.first + more t n a h
    run_last =
        let k : a + (r.count - 1) ≡ run_end t n a - 1 = omega (arith, more_of r e, end_is t n a h) in
        last_of t n a (run_end t n a) r.first last h (omega arith) refl (ap (λ (r : PageRun). r.first) (e ∙ run_is)) (d ∙ ap (λ (i : ℕ). get_or t i 0) k)

    pub run_above : r.first ≤ last
    run_above = omega (arith, run_last)

    pub put_at : (s : Bool) (m m' : List ℕ) → m' ≡ written 8 (between r.first (last + 1)) s m → m' ≡ put t a (run_end t n a) s m
    unfolding put
    put_at s m m' f =
        let u : last + 1 ≡ r.first + r.count = omega (arith, run_last, more_of r e) in
        f ∙ ap (λ (x : ℕ). written 8 (between r.first x) s m) u
        ∙ ap (λ (r : PageRun). written 8 (between r.first (r.first + r.count)) s m) e
        ∙ alike 8 _ _ s m (λ j k l v. sym (run_places (j * 8 + k)))

    pub flags_at_lem : (f : HvMapGpaFlags) (m m' : Permissions) → m' ≡ permitted r.first (last + 1) f m → m' ≡ put_flags t a (run_end t n a) f m
    flags_at_lem f m m' e =
        e ∙ rw (
          put_at f.readable m.read _ refl,
          put_at f.writable m.write _ refl,
          put_at f.kernel_executable m.kernel _ refl,
          put_at f.user_executable m.user _ refl,
        )

-- ---- an empty range
module _ (t : List ℕ) (to a : ℕ) (s : Bool) (m : List ℕ) where
  pub put_past : min to (length t) ≤ a → put t a to s m ≡ m
  unfolding put among
  put_past h = rw (part_end t to a h) (sym (none 8 (among []) s m (λ j k l d. refl)))

  pub put_none : to ≤ a → put t a to s m ≡ m
  put_none h = put_past (omega arith)

pub flags_past : (t : List ℕ) (to a : ℕ) (f : HvMapGpaFlags) (m : Permissions) → min to (length t) ≤ a → put_flags t a to f m ≡ m
flags_past t to a f m h =
    rw (
      put_past t to a f.readable m.read h,
      put_past t to a f.writable m.write h,
      put_past t to a f.kernel_executable m.kernel h,
      put_past t to a f.user_executable m.user h,
    )
