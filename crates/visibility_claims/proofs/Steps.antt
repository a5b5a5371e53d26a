-- The steps of a visibility change are the whole call: the same operations, the same maps, the same answer. Assumes nothing.
use Rattle.std.specs.Prelude.{Option, Some, None}
use native.Mathlib.Omega.{arith}
use mathlib.Core.Path.{◌≡◌, refl, sym, ap, ap₂, ◌∙◌}
use mathlib.Core.Logic.{⊎_elim}
use mathlib.Core.Bool.{Bool, true, false, cond}
use mathlib.Core.List.{List, [], ◌∷◌, ◌++◌}
use Prim.Native.Nat.{ℕ, zero, suc, ◌+◌, ◌%◌, ◌^◌, ◌≤◌, ◌<◌}
use lib.Dec.{ltb}
use lib.ListN.{length, get_or, take, drop}
use lib.Seq.{take-take, length-take-le}
use borrow.Author.Tests.{lt-ltb, le-ltb}
use Rattle.laws.specs.Bools.{false≢true, lt_or_le}
use Rattle.permissions.specs.declared.GuestVtl.{GuestVtl}
use Rattle.permissions.specs.declared.GuestVtl.TheVariants.{Vtl0, Vtl1}
use Rattle.permissions.specs.declared.IsolationType.{IsolationType}
use Rattle.permissions.specs.declared.IsolationType.TheVariants.{Snp, Tdx, Cca}
use Rattle.permissions.specs.declared.HvMapGpaFlags.{HvMapGpaFlags}
use Rattle.permissions.specs.Flags.{no_flags}
use Rattle.mapping.specs.Maps.{Maps}
use Rattle.page_list.specs.declared.PageRun.{PageRun}
use Rattle.page_list.specs.Runs.{part, runs_of, run_at}
use Rattle.page_list.proofs.RunLaws.{runs_at_lem, runs_end}
use Rattle.request_pages.specs.Request.{run_end}
use Rattle.request_pages.proofs.Runs.{end_after}
use Rattle.visibility_steps.specs.declared.Phase.{Phase}
use Rattle.visibility_steps.specs.declared.Phase.TheVariants as at
use Rattle.visibility_steps.specs.declared.Operation as declared
use Rattle.visibility_steps.specs.declared.Operation.TheVariants as crossed
use Rattle.visibility_steps.specs.declared.Answer.TheVariants.{Ask}
use Rattle.visibility_steps.specs.declared.Settings.{Settings}
use Rattle.visibility_steps.specs.declared.Request.{Request}
use Rattle.visibility_steps.specs.declared.Places.{Places}
use Rattle.visibility_steps.specs.declared.Writes.{Writes}
use Rattle.visibility_steps.specs.declared.Step.{Step}
use Rattle.visibility_steps.specs.Steps.{is_snp, is_cca, releases, places, no_writes, set_shared, set_permissions, step, operation_of, ask, end, halt, share_run, default_run, return_run, after_flush, after_wait, after_modify, after_accept, after_default0, failed_modify, done_of, failed_of, cleared, start_of}
use Rattle.visibility_steps.proofs.Laws as laws
use Rattle.call_refusals.specs.Buffers.{takes}
use Rattle.protector.specs.Writes.{applied}
use Rattle.visibility_claims.specs.Whole.{Operation, Wait, Protect, Invalidate, Modify, Accept, Zero, BackendAnswer, Succeeds, Fails, Status, Ok, StoppedAt, FailedAt, Halts, Whole, stands, fails, one, in_turn, per_run, flushes, unaccepts, accepts, defaults, with_private, with_shared, protecting, writing_none, cleared_by, whole_share, returned, modified, whole_return}
use Rattle.visibility_claims.specs.Runs.{Last, named, before, run, told, after}
use Rattle.visibility_claims.proofs.Maps.{sets, set_by, applied_sets, set_none, applied_none, applied_default, applied_share, applied_return, set_shared_lem, set_private_lem}

-- a count of 64 bits, once more
pub once : (c x : ℕ) → x ≡ c % 2 ^ 64 → (x + 1) % 2 ^ 64 ≡ (c + 1) % 2 ^ 64
once c x e = omega arith

-- ---- an operation asked for, and the end

module _ (s : Settings) (t : List ℕ) where
  asks : (c : ℕ) (p : Phase) (q : Request) (o : declared.Operation) (w : Writes) (m m' : Maps) (next : List BackendAnswer → Whole) (failed : ℕ → ℕ → List BackendAnswer → Whole)
      → applied t w m ≡ m' → takes p false ≡ true → takes p true ≡ fails (named t o)
      → ((gs : List BackendAnswer) → run s t (done_of s p q t) m' gs ≡ after (c + 1) (next gs))
      → ((code k : ℕ) (gs : List BackendAnswer) → fails (named t o) ≡ true → run s t (failed_of s p q t code k) m' gs ≡ after (c + 1) (failed code k gs))
      → (gs : List BackendAnswer) → run s t (step p q (Ask o) w) m gs ≡ after c (one (named t o) m' gs next failed)
  unfolding run one
  asks c p q o w m m' next failed e a b f g [] = ap (λ (x : Maps). record { asked = named t o ∷ []; maps = x; last = Last.Outstanding }) e
  asks c p q o w m m' next failed e a b f g (Succeeds ∷ gs) = rw (a, e) (ap (before (named t o ∷ [])) (f gs) ∙ counted (next gs))
    where
      counted : (x : Whole) → before (named t o ∷ []) (after (c + 1) x) ≡ after c (record { asked = named t o ∷ x.asked; maps = x.maps; status = x.status })
      counted x = let d : c + 1 + length x.asked ≡ c + suc (length x.asked) = omega arith in ap (λ (n : ℕ). record { asked = named t o ∷ x.asked; maps = x.maps; last = told (n % 2 ^ 64) x.status }) d
  asks c p q o w m m' next failed e a b f g (Fails code k ∷ gs) = go (fails (named t o)) b (asks c p q o w m m' next failed e a b f g gs) (g code k gs)
    where
      go : (y : Bool) → takes p true ≡ y → run s t (step p q (Ask o) w) m gs ≡ after c (one (named t o) m' gs next failed)
          → (y ≡ true → run s t (failed_of s p q t code k) m' gs ≡ after (c + 1) (failed code k gs))
          → cond (takes p true) (before (named t o ∷ []) (run s t (failed_of s p q t code k) (applied t w m) gs)) (run s t (step p q (Ask o) w) m gs)
          ≡ after c (cond y (record { asked = named t o ∷ (failed code k gs).asked; maps = (failed code k gs).maps; status = (failed code k gs).status }) (one (named t o) m' gs next failed))
      go true d r h =
          let x : Whole = failed code k gs in
          let i : c + 1 + length x.asked ≡ c + suc (length x.asked) = omega arith in
          rw (d, e) (ap (before (named t o ∷ [])) (h refl) ∙ ap (λ (n : ℕ). record { asked = named t o ∷ x.asked; maps = x.maps; last = told (n % 2 ^ 64) x.status }) i)
      go false d r h = rw d r

  halts : (c : ℕ) (q : Request) (m : Maps) → q.count ≡ c % 2 ^ 64 → (gs : List BackendAnswer) → run s t (halt q) m gs ≡ after c (stands m Halts)
  unfolding run halt
  halts c q m e [] =
      let d : q.count ≡ (c + 0) % 2 ^ 64 = omega arith in
      ap₂ (λ (x : Maps) (n : ℕ). record { asked = []; maps = x; last = told n Halts }) (applied_none t m) d
  halts c q m e (Succeeds ∷ gs) = halts c q m e gs
  halts c q m e (Fails code k ∷ gs) = halts c q m e gs

-- settings and a request, field by field
abbrev set : IsolationType → Bool → Bool → Bool → HvMapGpaFlags → Option HvMapGpaFlags → Settings
set i tr rel en f g = record { isolation = i; tracked = tr; release = rel; enabled = en; defaults = record { vtl0 = f; vtl1 = g } }

abbrev req : Bool → GuestVtl → ℕ → ℕ → Bool → Bool → ℕ → ℕ → ℕ → Request
req sh v n a st fl ix cd x = record { share = sh; vtl = v; n = n; at = a; stopped = st; failed = fl; index = ix; code = cd; count = x }

abbrev ending : Bool → Bool → ℕ → ℕ → Status
ending st fl ix cd = cond st (StoppedAt ix) (cond fl (FailedAt cd ix) Ok)

ends : (s : Settings) (t : List ℕ) (c x : ℕ) (sh : Bool) (v : GuestVtl) (n a : ℕ) (st fl : Bool) (ix cd : ℕ) (p h : Places) (m : Maps) → x ≡ c % 2 ^ 64
    → (gs : List BackendAnswer) → run s t (end (req sh v n a st fl ix cd x) (sets p h)) m gs ≡ after c (stands (set_by t p h m) (ending st fl ix cd))
unfolding run end
ends s t c x sh v n a st fl ix cd p h m e (Succeeds ∷ gs) = ends s t c x sh v n a st fl ix cd p h m e gs
ends s t c x sh v n a st fl ix cd p h m e (Fails code k ∷ gs) = ends s t c x sh v n a st fl ix cd p h m e gs
ends s t c x sh v n a st fl ix cd p h m e [] = go st fl
  where
    d : x ≡ (c + 0) % 2 ^ 64
    d = omega arith

    go : (st fl : Bool) → run s t (end (req sh v n a st fl ix cd x) (sets p h)) m [] ≡ after c (stands (set_by t p h m) (ending st fl ix cd))
    go true fl = ap₂ (λ (y : Maps) (n : ℕ). record { asked = []; maps = y; last = told n (StoppedAt ix) }) (applied_sets t p h m) d
    go false true = ap₂ (λ (y : Maps) (n : ℕ). record { asked = []; maps = y; last = told n (FailedAt cd ix) }) (applied_sets t p h m) d
    go false false = ap₂ (λ (y : Maps) (n : ℕ). record { asked = []; maps = y; last = told n Ok }) (applied_sets t p h m) d

-- the Protect of VTL1, if a default is given, and what follows
unfoldable second : Option HvMapGpaFlags → PageRun → (Maps → List BackendAnswer → Whole) → Maps → List BackendAnswer → Whole
second (Some f) r next m gs = one (Protect Vtl1 f r) m gs (λ gs. next m gs) (λ code k gs. stands m Halts)
second None r next m gs = next m gs

-- ---- To private, from the defaults of the run at a place on

module _ (t : List ℕ) (i : IsolationType) (tr rel en : Bool) (d : HvMapGpaFlags) (sh : Bool) (v : GuestVtl) (n : ℕ) (st fl : Bool) (ix cd : ℕ) (l : n ≤ length t) where
  abbrev ended : Maps → List BackendAnswer → Whole
  ended m gs = stands m (ending st fl ix cd)

  abbrev defaulting : Option HvMapGpaFlags → List PageRun → Maps → List BackendAnswer → Whole
  defaulting g rs m gs = in_turn (protecting tr) (per_run (defaults d g) rs) m gs ended

  abbrev Defaults : Option HvMapGpaFlags → ℕ → ℕ → ℕ → ℕ → Places → Places → Maps → List BackendAnswer → Type 0
  Defaults g c x a₀ a p h m gs =
      run (set i tr rel en d g) t (default_run (set i tr rel en d g) (req sh v n a₀ st fl ix cd x) t a (sets p h)) m gs ≡ after c (defaulting g (runs_of (part t n a)) (set_by t p h m) gs)

  default_over : (g : Option HvMapGpaFlags) (c x a₀ a : ℕ) (p h : Places) (m : Maps) → x ≡ c % 2 ^ 64 → n ≤ a → (gs : List BackendAnswer) → Defaults g c x a₀ a p h m gs
  unfolding in_turn per_run
  default_over g c x a₀ a p h m e o gs =
      let s : Settings = set i tr rel en d g in
      let q : Request = req sh v n a₀ st fl ix cd x in
      ap (λ (y : Step). run s t y m gs) (sym (laws.default_end s q t (end q (sets p h)) (sets p h) a o refl))
      ∙ ends s t c x sh v n a₀ st fl ix cd p h m e gs
      ∙ ap (λ (rs : List PageRun). after c (defaulting g rs (set_by t p h m) gs)) (sym (runs_end t n a (omega arith)))

  module _ (g : Option HvMapGpaFlags) (c x a₀ a : ℕ) (p h : Places) (m : Maps) (e : x ≡ c % 2 ^ 64) (o : a < n) where
    abbrev s : Settings
    s = set i tr rel en d g

    abbrev r : PageRun
    r = run_at t n a

    abbrev rest : List PageRun
    rest = runs_of (part t n (a + (run_at t n a).count))

    default_here : (next : List BackendAnswer → Whole)
        → ((gs : List BackendAnswer) → run s t (after_default0 g s (req sh v n a st fl ix cd ((x + 1) % 2 ^ 64)) t) (protecting tr (Protect Vtl0 d r) (set_by t p h m)) gs ≡ after (c + 1) (next gs))
        → (gs : List BackendAnswer)
        → run s t (default_run s (req sh v n a₀ st fl ix cd x) t a (sets p h)) m gs
        ≡ after c (one (Protect Vtl0 d r) (protecting tr (Protect Vtl0 d r) (set_by t p h m)) gs next (λ code k gs. stands (protecting tr (Protect Vtl0 d r) (set_by t p h m)) Halts))
    unfolding ask operation_of done_of failed_of
    default_here next f gs =
        let q : Request = req sh v n a₀ st fl ix cd x in
        let w : Writes = set_permissions (sets p h) a (cond tr (run_end t n a) a) d in
        ap (λ (y : Step). run s t y m gs) (sym (laws.default_asks s q t (ask s at.ProtectDefault0 q t a w) (sets p h) a (cond tr (run_end t n a) a) w o refl refl refl))
        ∙ asks s t c at.ProtectDefault0 (req sh v n a st fl ix cd ((x + 1) % 2 ^ 64)) (crossed.Protect Vtl0 d r) w m (protecting tr (Protect Vtl0 d r) (set_by t p h m)) next _
        (applied_default t n a o l tr p h d m) refl refl f (λ code k gs _. halts s t (c + 1) (req sh v n a st fl ix cd ((x + 1) % 2 ^ 64)) _ (once c x e) gs) gs

  -- the run at a place, where the law holds from the place after it on
  module _ (g : Option HvMapGpaFlags) (a : ℕ) (o : a < n)
      (on : (c x : ℕ) (m : Maps) (gs : List BackendAnswer) → x ≡ c % 2 ^ 64 → Defaults g c x a (run_end t n a) (places 0 0) (places 0 0) m gs) where
    onward : (c x : ℕ) (m : Maps) (gs : List BackendAnswer) → x ≡ c % 2 ^ 64
        → run (set i tr rel en d g) t (default_run (set i tr rel en d g) (req sh v n a st fl ix cd x) t (run_end t n a) no_writes) m gs
        ≡ after c (defaulting g (runs_of (part t n (a + (run_at t n a).count))) m gs)
    unfolding run_end
    onward c x m gs e = on c x m gs e ∙ ap (λ (y : Maps). after c (defaulting g (runs_of (part t n (a + (run_at t n a).count))) y gs)) (set_none t m)

    default_turn : (c x a₀ : ℕ) (p h : Places) (m : Maps) (gs : List BackendAnswer) → x ≡ c % 2 ^ 64
        → ((c x : ℕ) (m : Maps) (gs : List BackendAnswer) → x ≡ c % 2 ^ 64 → run (set i tr rel en d g) t (after_default0 g (set i tr rel en d g) (req sh v n a st fl ix cd x) t) m gs
        ≡ after c (second g (run_at t n a) (λ m gs. defaulting g (runs_of (part t n (a + (run_at t n a).count))) m gs) m gs))
        → Defaults g c x a₀ a p h m gs
    unfolding second in_turn per_run
    default_turn c x a₀ p h m gs e f =
        default_here g c x a₀ a p h m e o (λ gs. second g (run_at t n a) (λ m gs. defaulting g (runs_of (part t n (a + (run_at t n a).count))) m gs) (protecting tr (Protect Vtl0 d (run_at t n a)) (set_by t p h m)) gs)
        (λ gs. f (c + 1) ((x + 1) % 2 ^ 64) _ gs (once c x e)) gs
        ∙ same g
        ∙ ap (λ (rs : List PageRun). after c (defaulting g rs (set_by t p h m) gs)) (sym (runs_at_lem t n a o (omega arith)))
      where
        same : (g : Option HvMapGpaFlags) → after c
            (one (Protect Vtl0 d (run_at t n a)) (protecting tr (Protect Vtl0 d (run_at t n a)) (set_by t p h m)) gs
            (λ gs. second g (run_at t n a) (λ m gs. defaulting g (runs_of (part t n (a + (run_at t n a).count))) m gs) (protecting tr (Protect Vtl0 d (run_at t n a)) (set_by t p h m)) gs)
            (λ code k gs. stands (protecting tr (Protect Vtl0 d (run_at t n a)) (set_by t p h m)) Halts))
            ≡ after c (defaulting g (run_at t n a ∷ runs_of (part t n (a + (run_at t n a).count))) (set_by t p h m) gs)
        same (Some f) = refl
        same None = refl

  second_law : (g : Option HvMapGpaFlags) (a : ℕ)
      → ((c x : ℕ) (m : Maps) (gs : List BackendAnswer) → x ≡ c % 2 ^ 64
      → run (set i tr rel en d g) t (default_run (set i tr rel en d g) (req sh v n a st fl ix cd x) t (run_end t n a) no_writes) m gs
      ≡ after c (defaulting g (runs_of (part t n (a + (run_at t n a).count))) m gs))
      → (c x : ℕ) (m : Maps) (gs : List BackendAnswer) → x ≡ c % 2 ^ 64
      → run (set i tr rel en d g) t (after_default0 g (set i tr rel en d g) (req sh v n a st fl ix cd x) t) m gs
      ≡ after c (second g (run_at t n a) (λ m gs. defaulting g (runs_of (part t n (a + (run_at t n a).count))) m gs) m gs)
  unfolding second ask operation_of done_of failed_of
  second_law None a on c x m gs e = on c x m gs e
  second_law (Some f) a on c x m gs e =
      let s : Settings = set i tr rel en d (Some f) in
      let q : Request = req sh v n a st fl ix cd ((x + 1) % 2 ^ 64) in
      asks s t c at.ProtectDefault1 q (crossed.Protect Vtl1 f (run_at t n a)) no_writes m m (λ gs. defaulting (Some f) (runs_of (part t n (a + (run_at t n a).count))) m gs) (λ code k gs. stands m Halts) (applied_none t m) refl refl
      (λ gs. on (c + 1) ((x + 1) % 2 ^ 64) m gs (once c x e))
      (λ code k gs _. halts s t (c + 1) q m (once c x e) gs) gs

  default_step_lem : (g : Option HvMapGpaFlags) (a : ℕ) (o : a < n)
      (on : (c x : ℕ) (m : Maps) (gs : List BackendAnswer) → x ≡ c % 2 ^ 64 → Defaults g c x a (run_end t n a) (places 0 0) (places 0 0) m gs)
      (c x a₀ : ℕ) (p h : Places) (m : Maps) (gs : List BackendAnswer) → x ≡ c % 2 ^ 64 → Defaults g c x a₀ a p h m gs
  default_step_lem g a o on c x a₀ p h m gs e = default_turn g a o on c x a₀ p h m gs e (second_law g a (onward g a o on))

  default_law : (g : Option HvMapGpaFlags) (k c x a₀ a : ℕ) (p h : Places) (m : Maps) → x ≡ c % 2 ^ 64 → n ≤ a + k → (gs : List BackendAnswer) → Defaults g c x a₀ a p h m gs
  default_law g zero c x a₀ a p h m e b gs = default_over g c x a₀ a p h m e (omega arith) gs
  default_law g (suc k) c x a₀ a p h m e b gs =
      ⊎_elim
      (λ (o : a < n). default_step_lem g a o (λ c x m gs e. default_law g k c x a (run_end t n a) (places 0 0) (places 0 0) m e (omega (arith, end_after t n a o)) gs) c x a₀ p h m gs e)
      (λ (o : n ≤ a). default_over g c x a₀ a p h m e o gs) (lt_or_le a n)

-- ---- To private, from the acceptance of the run at a place on

no_accepts : (rs : List PageRun) → [] ≡ per_run (accepts Cca) rs
unfolding per_run
no_accepts [] = refl
no_accepts (r ∷ rs) = no_accepts rs

module _ (t : List ℕ) (tr rel en : Bool) (d : HvMapGpaFlags) (g : Option HvMapGpaFlags) (sh : Bool) (v : GuestVtl) (n : ℕ) (st fl : Bool) (ix cd : ℕ) (l : n ≤ length t) where
  abbrev S : IsolationType → Settings
  S i = set i tr rel en d g

  abbrev Q : ℕ → ℕ → Request
  Q a x = req sh v n a st fl ix cd x

  abbrev marking : Maps → List BackendAnswer → Whole
  marking m gs = in_turn (protecting tr) (per_run (defaults d g) (runs_of (take n t))) (with_private (take n t) true m) gs (λ m gs. stands m (ending st fl ix cd))

  abbrev accepting : IsolationType → List PageRun → Maps → List BackendAnswer → Whole
  accepting i rs m gs = in_turn writing_none (per_run (accepts i) rs) m gs marking

  abbrev Returns : IsolationType → ℕ → ℕ → ℕ → ℕ → Places → Maps → List BackendAnswer → Type 0
  Returns i c x a₀ a h m gs = run (S i) t (return_run (S i) (Q a₀ x) t a (sets (places 0 0) h)) m gs ≡ after c (accepting i (runs_of (part t n a)) (set_by t (places 0 0) h m) gs)

  marks : (i : IsolationType) (c x a₀ : ℕ) (h : Places) (m : Maps) → x ≡ c % 2 ^ 64 → (gs : List BackendAnswer)
      → run (S i) t (default_run (S i) (Q a₀ x) t 0 (sets (places 0 n) h)) m gs ≡ after c (marking (set_by t (places 0 0) h m) gs)
  marks i c x a₀ h m e gs =
      default_law t i tr rel en d sh v n st fl ix cd l g n c x a₀ 0 (places 0 n) h m e (omega arith) gs
      ∙ ap (λ (y : Maps). after c (in_turn (protecting tr) (per_run (defaults d g) (runs_of (take n t))) y gs (λ m gs. stands m (ending st fl ix cd)))) (set_private_lem t n h m)

  return_over : (i : IsolationType) (c x a₀ a : ℕ) (h : Places) (m : Maps) → x ≡ c % 2 ^ 64 → n ≤ a → (gs : List BackendAnswer) → Returns i c x a₀ a h m gs
  unfolding in_turn per_run
  return_over i c x a₀ a h m e o gs =
      ap (λ (y : Step). run (S i) t y m gs) (sym (laws.return_none (S i) (Q a₀ x) t (default_run (S i) (Q a₀ x) t 0 (sets (places 0 n) h)) (sets (places 0 0) h) a (sets (places 0 n) h) o refl refl))
      ∙ marks i c x a₀ h m e gs
      ∙ ap (λ (rs : List PageRun). after c (accepting i rs (set_by t (places 0 0) h m) gs)) (sym (runs_end t n a (omega arith)))

  return_cca : (c x a₀ a : ℕ) (h : Places) (m : Maps) → x ≡ c % 2 ^ 64 → a < n → (gs : List BackendAnswer) → Returns Cca c x a₀ a h m gs
  unfolding in_turn
  return_cca c x a₀ a h m e o gs =
      ap (λ (y : Step). run (S Cca) t y m gs) (sym (laws.return_cca (S Cca) (Q a₀ x) t (default_run (S Cca) (Q a₀ x) t 0 (sets (places 0 n) h)) (sets (places 0 0) h) a (sets (places 0 n) h) o refl refl refl))
      ∙ marks Cca c x a₀ h m e gs
      ∙ ap (λ (os : List Operation). after c (in_turn writing_none os (set_by t (places 0 0) h m) gs marking)) (no_accepts (runs_of (part t n a)))

  -- the run at a place, where the law holds from the place after it on
  abbrev On : IsolationType → ℕ → Type 0
  On i a = (c x : ℕ) (m : Maps) (gs : List BackendAnswer) → x ≡ c % 2 ^ 64 → Returns i c x a (run_end t n a) (places 0 0) m gs

  next_runs : ℕ → List PageRun
  next_runs a = runs_of (part t n (a + (run_at t n a).count))

  return_on : (i : IsolationType) (a : ℕ) → On i a → (c x : ℕ) (m : Maps) (gs : List BackendAnswer) → x ≡ c % 2 ^ 64
      → run (S i) t (return_run (S i) (Q a x) t (run_end t n a) no_writes) m gs ≡ after c (accepting i (next_runs a) m gs)
  unfolding run_end next_runs
  return_on i a on c x m gs e = on c x m gs e ∙ ap (λ (y : Maps). after c (accepting i (next_runs a) y gs)) (set_none t m)

  accept_here : (i : IsolationType) → is_cca i ≡ false → (c x a₀ a : ℕ) (h : Places) (m : Maps) → x ≡ c % 2 ^ 64 → a < n → (next : List BackendAnswer → Whole)
      → ((gs : List BackendAnswer) → run (S i) t (after_accept (S i) (Q a ((x + 1) % 2 ^ 64)) t) (set_by t (places 0 0) h m) gs ≡ after (c + 1) (next gs))
      → (gs : List BackendAnswer) → run (S i) t (return_run (S i) (Q a₀ x) t a (sets (places 0 0) h)) m gs
      ≡ after c (one (Accept (run_at t n a)) (set_by t (places 0 0) h m) gs next (λ code k gs. stands (set_by t (places 0 0) h m) Halts))
  unfolding ask operation_of done_of failed_of
  accept_here i y c x a₀ a h m e o next f gs =
      ap (λ (y : Step). run (S i) t y m gs) (sym (laws.return_asks (S i) (Q a₀ x) t (ask (S i) at.Accept (Q a₀ x) t a (sets (places 0 0) h)) (sets (places 0 0) h) a o y refl))
      ∙ asks (S i) t c at.Accept (Q a ((x + 1) % 2 ^ 64)) (crossed.Accept (run_at t n a)) (sets (places 0 0) h) m (set_by t (places 0 0) h m) next _ (applied_sets t (places 0 0) h m) refl refl f
      (λ code k gs _. halts (S i) t (c + 1) (Q a ((x + 1) % 2 ^ 64)) _ (once c x e) gs) gs

  return_tdx : (a : ℕ) → a < n → On Tdx a → (c x a₀ : ℕ) (h : Places) (m : Maps) (gs : List BackendAnswer) → x ≡ c % 2 ^ 64 → Returns Tdx c x a₀ a h m gs
  unfolding in_turn per_run after_accept next_runs
  return_tdx a o on c x a₀ h m gs e =
      accept_here Tdx refl c x a₀ a h m e o (λ gs. accepting Tdx (next_runs a) (set_by t (places 0 0) h m) gs)
      (λ gs. return_on Tdx a on (c + 1) ((x + 1) % 2 ^ 64) _ gs (once c x e)) gs
      ∙ ap (λ (rs : List PageRun). after c (accepting Tdx rs (set_by t (places 0 0) h m) gs)) (sym (runs_at_lem t n a o (omega arith)))

  return_snp : (a : ℕ) → a < n → On Snp a → (c x a₀ : ℕ) (h : Places) (m : Maps) (gs : List BackendAnswer) → x ≡ c % 2 ^ 64 → Returns Snp c x a₀ a h m gs
  unfolding in_turn per_run after_accept next_runs ask operation_of done_of failed_of
  return_snp a o on c x a₀ h m gs e =
      let m' : Maps = set_by t (places 0 0) h m in
      let z : ℕ = (x + 1) % 2 ^ 64 in
      let y : ℕ = (z + 1) % 2 ^ 64 in
      accept_here Snp refl c x a₀ a h m e o (λ gs. one (Zero (run_at t n a)) m' gs (λ gs. accepting Snp (next_runs a) m' gs) (λ code k gs. stands m' Halts))
      (asks (S Snp) t (c + 1) at.Zero (Q a y) (crossed.Zero (run_at t n a)) no_writes m' m' _ _ (applied_none t m') refl refl
      (λ gs. return_on Snp a on (c + 1 + 1) y m' gs (once (c + 1) z (once c x e)))
      (λ code k gs _. halts (S Snp) t (c + 1 + 1) (Q a y) m' (once (c + 1) z (once c x e)) gs)) gs
      ∙ ap (λ (rs : List PageRun). after c (accepting Snp rs m' gs)) (sym (runs_at_lem t n a o (omega arith)))

  return_step : (i : IsolationType) (a : ℕ) → a < n → On i a → (c x a₀ : ℕ) (h : Places) (m : Maps) (gs : List BackendAnswer) → x ≡ c % 2 ^ 64 → Returns i c x a₀ a h m gs
  return_step Snp a o on c x a₀ h m gs e = return_snp a o on c x a₀ h m gs e
  return_step Tdx a o on c x a₀ h m gs e = return_tdx a o on c x a₀ h m gs e
  return_step Cca a o on c x a₀ h m gs e = return_cca c x a₀ a h m e o gs

  return_law : (i : IsolationType) (k c x a₀ a : ℕ) (h : Places) (m : Maps) → x ≡ c % 2 ^ 64 → n ≤ a + k → (gs : List BackendAnswer) → Returns i c x a₀ a h m gs
  return_law i zero c x a₀ a h m e b gs = return_over i c x a₀ a h m e (omega arith) gs
  return_law i (suc k) c x a₀ a h m e b gs =
      ⊎_elim
      (λ (o : a < n). return_step i a o (λ c x m gs e. return_law i k c x a (run_end t n a) (places 0 0) m e (omega (arith, end_after t n a o)) gs) c x a₀ h m gs e)
      (λ (o : n ≤ a). return_over i c x a₀ a h m e o gs) (lt_or_le a n)

-- ---- To private, from the call on

module _ (t : List ℕ) (tr rel en : Bool) (d : HvMapGpaFlags) (g : Option HvMapGpaFlags) (v : GuestVtl) (n ix : ℕ) (their : List ℕ) (l : n ≤ length t)
    (place : (k : ℕ) → k < n → get_or t (512 + k) 0 ≡ get_or their k 0) where
  abbrev T : IsolationType → Settings
  T i = set i tr rel en d g

  abbrev P : ℕ → ℕ → Request
  P a x = req false v n a false false ix 0 x

  abbrev cut : IsolationType → Maps → ℕ → ℕ → List BackendAnswer → Whole
  cut i m code k gs = cond (ltb k n) (returned (T i) (take k (take n t)) (with_shared (drop k (take n t)) true m) gs (FailedAt code (get_or their k 0))) (stands m Halts)

  abbrev modifying : IsolationType → Maps → List BackendAnswer → Whole
  modifying i m gs = one (Modify false (take n t)) m gs (λ gs. returned (T i) (take n t) m gs Ok) (cut i m)

  taken_all : (i : IsolationType) (c x a : ℕ) (m : Maps) → x ≡ c % 2 ^ 64 → (gs : List BackendAnswer)
      → run (T i) t (return_run (T i) (P a x) t 0 no_writes) m gs ≡ after c (returned (T i) (take n t) m gs Ok)
  unfolding returned
  taken_all i c x a m e gs =
      return_law t tr rel en d g false v n false false ix 0 l i n c x a 0 (places 0 0) m e (omega arith) gs
      ∙ ap (λ (y : Maps). after c (accepting t tr rel en d g false v n false false ix 0 l i (runs_of (take n t)) y gs)) (set_none t m)

  taken_some : (i : IsolationType) (c x a code k : ℕ) (m : Maps) → x ≡ c % 2 ^ 64 → k < n → (gs : List BackendAnswer)
      → run (T i) t (return_run (T i) (req false v k a false true (get_or t (512 + k) 0) code x) t 0 (sets (places 0 0) (places k n))) m gs
      ≡ after c (returned (T i) (take k (take n t)) (with_shared (drop k (take n t)) true m) gs (FailedAt code (get_or their k 0)))
  unfolding returned
  taken_some i c x a code k m e o gs =
      return_law t tr rel en d g false v k false true (get_or t (512 + k) 0) code (omega arith) i k c x a 0 (places k n) m e (omega arith) gs
      ∙ ap (λ (y : Maps). after c (returned (T i) (take k t) y gs (FailedAt code (get_or t (512 + k) 0)))) (set_shared_lem t k n m)
      ∙ ap₂ (λ (ps : List ℕ) (j : ℕ). after c (returned (T i) ps (with_shared (drop k (take n t)) true m) gs (FailedAt code j))) (sym (take-take k n t (omega arith))) (place k o)

  modify_failed : (i : IsolationType) (c x a code k : ℕ) (m : Maps) → x ≡ c % 2 ^ 64 → (gs : List BackendAnswer)
      → run (T i) t (failed_modify (T i) (P a x) t code k) m gs ≡ after c (cut i m code k gs)
  modify_failed i c x a code k m e gs =
      ⊎_elim
      (λ (o : k < n). ap (λ (y : Step). run (T i) t y m gs) (sym (laws.failed_cut (T i) (P a x) t _ no_writes code k (get_or t (512 + k) 0) (set_shared no_writes k n) refl o refl refl refl refl))
      ∙ taken_some i c x a code k m e o gs ∙ ap (λ (b : Bool). after c (cond b (returned (T i) (take k (take n t)) (with_shared (drop k (take n t)) true m) gs (FailedAt code (get_or their k 0))) (stands m Halts))) (sym (lt-ltb k n o)))
      (λ (o : n ≤ k). ap (λ (y : Step). run (T i) t y m gs) (sym (laws.failed_much (T i) (P a x) t (halt (P a x)) no_writes code k refl o refl))
      ∙ halts (T i) t c (P a x) m e gs ∙ ap (λ (b : Bool). after c (cond b (returned (T i) (take k (take n t)) (with_shared (drop k (take n t)) true m) gs (FailedAt code (get_or their k 0))) (stands m Halts))) (sym (le-ltb k n o)))
      (lt_or_le k n)

  modify_law : (i : IsolationType) (c x a : ℕ) (m : Maps) → x ≡ c % 2 ^ 64 → (gs : List BackendAnswer) → run (T i) t (after_flush (T i) (P a x) t) m gs ≡ after c (modifying i m gs)
  unfolding after_flush ask operation_of done_of failed_of after_modify
  modify_law i c x a m e gs =
      asks (T i) t c at.Modify (P 0 ((x + 1) % 2 ^ 64)) (crossed.Modify false n) no_writes m m (λ gs. returned (T i) (take n t) m gs Ok) (cut i m) (applied_none t m) refl refl
      (λ gs. taken_all i (c + 1) ((x + 1) % 2 ^ 64) 0 m (once c x e) gs)
      (λ code k gs _. modify_failed i (c + 1) ((x + 1) % 2 ^ 64) 0 code k m (once c x e) gs) gs

  wait_law : (i : IsolationType) (c x a : ℕ) (m : Maps) → x ≡ c % 2 ^ 64 → (gs : List BackendAnswer)
      → run (T i) t (after_wait (T i) (P a x) t) m gs ≡ after c (in_turn writing_none (flushes i) m gs (modifying i))
  unfolding after_wait in_turn ask operation_of done_of
  wait_law Snp c x a m e gs =
      asks (T Snp) t c at.FlushAll (P 0 ((x + 1) % 2 ^ 64)) crossed.FlushAll no_writes m m (λ gs. modifying Snp m gs) (λ code k gs. stands m Halts) (applied_none t m) refl refl
      (λ gs. modify_law Snp (c + 1) ((x + 1) % 2 ^ 64) 0 m (once c x e) gs) (λ code k gs z. false≢true z) gs
  wait_law Tdx c x a m e gs = modify_law Tdx c x a m e gs
  wait_law Cca c x a m e gs = modify_law Cca c x a m e gs

  pub return_whole : (i : IsolationType) (m : Maps) (gs : List BackendAnswer)
      → run (T i) t (start_of (T i) v false n ix false) m gs ≡ after 0 (whole_return (T i) (take n t) their m gs)
  unfolding start_of whole_return modified in_turn done_of
  return_whole i m gs =
      asks (T i) t 0 at.Wait (P 0 1) crossed.Wait (cleared tr v false n) m (with_shared (take n t) false m)
      (λ gs. in_turn writing_none (flushes i) (with_shared (take n t) false m) gs (modifying i)) (λ code k gs. stands (with_shared (take n t) false m) Halts) (applied_return t n tr v m) refl refl
      (λ gs. wait_law i 1 1 0 _ refl gs) (λ code k gs z. false≢true z) gs
      ∙ ap (λ (k : ℕ). after 0 (in_turn writing_none (Wait ∷ flushes i) (with_shared (take n t) false m) gs (counting k))) (sym (length-take-le n t l))
    where
      counting : ℕ → Maps → List BackendAnswer → Whole
      counting n' m gs =
          one (Modify false (take n t)) m gs (λ gs. returned (T i) (take n t) m gs Ok)
          (λ code k gs. cond (ltb k n') (returned (T i) (take k (take n t)) (with_shared (drop k (take n t)) true m) gs (FailedAt code (get_or their k 0))) (stands m Halts))

-- ---- To shared, from the run at a place on

no_unaccepts : (i : IsolationType) (rel : Bool) → is_snp i ≡ false → releases i rel ≡ false → (rs : List PageRun) → [] ≡ per_run (unaccepts i rel) rs
unfolding per_run
no_unaccepts i rel a b [] = refl
no_unaccepts Snp rel a b (r ∷ rs) = false≢true (sym a)
no_unaccepts Tdx true a b (r ∷ rs) = false≢true (sym b)
no_unaccepts Tdx false a b (r ∷ rs) = no_unaccepts Tdx false a b rs
no_unaccepts Cca rel a b (r ∷ rs) = no_unaccepts Cca rel a b rs

module _ (t : List ℕ) (tr en : Bool) (d : HvMapGpaFlags) (g : Option HvMapGpaFlags) (v : GuestVtl) (n : ℕ) (st : Bool) (ix : ℕ) (l : n ≤ length t) where
  abbrev U : IsolationType → Bool → Settings
  U i rel = set i tr rel en d g

  abbrev R : ℕ → ℕ → Request
  R a x = req true v n a st false ix 0 x

  abbrev shared : Maps → List BackendAnswer → Whole
  shared m gs = stands (with_shared (take n t) true m) (cond st (StoppedAt ix) Ok)

  abbrev giving : IsolationType → Bool → List PageRun → Maps → List BackendAnswer → Whole
  giving i rel rs m gs = in_turn writing_none (per_run (unaccepts i rel) rs ++ (Modify true (take n t) ∷ [])) m gs shared

  abbrev Shares : IsolationType → Bool → ℕ → ℕ → ℕ → ℕ → Maps → List BackendAnswer → Type 0
  Shares i rel c x a₀ a m gs = run (U i rel) t (share_run (U i rel) (R a₀ x) t a) m gs ≡ after c (giving i rel (runs_of (part t n a)) m gs)

  share_modify : (i : IsolationType) (rel : Bool) (c x a : ℕ) (m : Maps) → x ≡ c % 2 ^ 64 → (gs : List BackendAnswer)
      → run (U i rel) t (ask (U i rel) at.Modify (R a x) t 0 no_writes) m gs ≡ after c (in_turn writing_none (Modify true (take n t) ∷ []) m gs shared)
  unfolding in_turn ask operation_of done_of failed_of after_modify failed_modify
  share_modify i rel c x a m e gs =
      let z : ℕ = (x + 1) % 2 ^ 64 in
      asks (U i rel) t c at.Modify (R 0 z) (crossed.Modify true n) no_writes m m (λ gs. shared m gs) (λ code k gs. stands m Halts) (applied_none t m) refl refl
      (λ gs. ends (U i rel) t (c + 1) z true v n 0 st false ix 0 (places 0 0) (places 0 n) m (once c x e) gs
      ∙ ap (λ (y : Maps). after (c + 1) (stands y (cond st (StoppedAt ix) Ok))) (set_shared_lem t 0 n m))
      (λ code k gs _. halts (U i rel) t (c + 1) (R 0 z) m (once c x e) gs) gs

  share_over : (i : IsolationType) (rel : Bool) (c x a₀ a : ℕ) (m : Maps) → x ≡ c % 2 ^ 64 → n ≤ a → (gs : List BackendAnswer) → Shares i rel c x a₀ a m gs
  unfolding per_run
  share_over i rel c x a₀ a m e o gs =
      ap (λ (y : Step). run (U i rel) t y m gs) (sym (laws.share_none (U i rel) (R a₀ x) t (ask (U i rel) at.Modify (R a₀ x) t 0 no_writes) no_writes a o refl refl))
      ∙ share_modify i rel c x a₀ m e gs
      ∙ ap (λ (rs : List PageRun). after c (giving i rel rs m gs)) (sym (runs_end t n a (omega arith)))

  share_bare : (i : IsolationType) (rel : Bool) → is_snp i ≡ false → releases i rel ≡ false → (c x a₀ a : ℕ) (m : Maps) → x ≡ c % 2 ^ 64 → a < n → (gs : List BackendAnswer)
      → Shares i rel c x a₀ a m gs
  share_bare i rel y z c x a₀ a m e o gs =
      ap (λ (y : Step). run (U i rel) t y m gs) (sym (laws.share_bare (U i rel) (R a₀ x) t (ask (U i rel) at.Modify (R a₀ x) t 0 no_writes) no_writes a o y z refl refl))
      ∙ share_modify i rel c x a₀ m e gs
      ∙ ap (λ (os : List Operation). after c (in_turn writing_none (os ++ (Modify true (take n t) ∷ [])) m gs shared)) (no_unaccepts i rel y z (runs_of (part t n a)))

  abbrev Onward : IsolationType → Bool → ℕ → Type 0
  Onward i rel a = (c x : ℕ) (m : Maps) (gs : List BackendAnswer) → x ≡ c % 2 ^ 64 → Shares i rel c x a (run_end t n a) m gs

  share_tdx : (a : ℕ) → a < n → Onward Tdx true a → (c x a₀ : ℕ) (m : Maps) (gs : List BackendAnswer) → x ≡ c % 2 ^ 64 → Shares Tdx true c x a₀ a m gs
  unfolding in_turn per_run run_end ask operation_of done_of failed_of
  share_tdx a o on c x a₀ m gs e =
      let z : ℕ = (x + 1) % 2 ^ 64 in
      ap (λ (y : Step). run (U Tdx true) t y m gs) (sym (laws.share_release (U Tdx true) (R a₀ x) t (ask (U Tdx true) at.Release (R a₀ x) t a no_writes) no_writes a o refl refl refl refl))
      ∙ asks (U Tdx true) t c at.Release (R a z) (crossed.Release (run_at t n a)) no_writes m m (λ gs. giving Tdx true (runs_of (part t n (a + (run_at t n a).count))) m gs) (λ code k gs. stands m Halts) (applied_none t m) refl refl
      (λ gs. on (c + 1) z m gs (once c x e)) (λ code k gs _. halts (U Tdx true) t (c + 1) (R a z) m (once c x e) gs) gs
      ∙ ap (λ (rs : List PageRun). after c (giving Tdx true rs m gs)) (sym (runs_at_lem t n a o (omega arith)))

  share_snp : (rel : Bool) (a : ℕ) → a < n → Onward Snp rel a → (c x a₀ : ℕ) (m : Maps) (gs : List BackendAnswer) → x ≡ c % 2 ^ 64 → Shares Snp rel c x a₀ a m gs
  unfolding in_turn per_run run_end ask operation_of done_of failed_of
  share_snp rel a o on c x a₀ m gs e =
      let s : Settings = U Snp rel in
      let x1 : ℕ = (x + 1) % 2 ^ 64 in
      let x2 : ℕ = (x1 + 1) % 2 ^ 64 in
      let x3 : ℕ = (x2 + 1) % 2 ^ 64 in
      let e1 : x1 ≡ (c + 1) % 2 ^ 64 = once c x e in
      let e2 : x2 ≡ (c + 1 + 1) % 2 ^ 64 = once (c + 1) x1 e1 in
      let e3 : x3 ≡ (c + 1 + 1 + 1) % 2 ^ 64 = once (c + 1 + 1) x2 e2 in
      let rest : Maps → List BackendAnswer → Whole = λ m gs. giving Snp rel (runs_of (part t n (a + (run_at t n a).count))) m gs in
      ap (λ (y : Step). run s t y m gs) (sym (laws.share_snp s (R a₀ x) t (ask s at.ProtectNone0 (R a₀ x) t a no_writes) no_writes a o refl refl refl))
      ∙ asks s t c at.ProtectNone0 (R a x1) (crossed.Protect Vtl0 no_flags (run_at t n a)) no_writes m m
      (λ gs. one (Protect Vtl1 no_flags (run_at t n a)) m gs (λ gs. one (Invalidate (run_at t n a)) m gs (λ gs. rest m gs) (λ code k gs. stands m Halts)) (λ code k gs. stands m Halts))
      (λ code k gs. stands m Halts) (applied_none t m) refl refl
      (asks s t (c + 1) at.ProtectNone1 (R a x2) (crossed.Protect Vtl1 no_flags (run_at t n a)) no_writes m m (λ gs. one (Invalidate (run_at t n a)) m gs (λ gs. rest m gs) (λ code k gs. stands m Halts)) (λ code k gs. stands m Halts) (applied_none t m) refl refl
      (asks s t (c + 1 + 1) at.Invalidate (R a x3) (crossed.Invalidate (run_at t n a)) no_writes m m (λ gs. rest m gs) (λ code k gs. stands m Halts) (applied_none t m) refl refl
      (λ gs. on (c + 1 + 1 + 1) x3 m gs e3)
      (λ code k gs _. halts s t (c + 1 + 1 + 1) (R a x3) m e3 gs))
      (λ code k gs _. halts s t (c + 1 + 1) (R a x2) m e2 gs))
      (λ code k gs _. halts s t (c + 1) (R a x1) m e1 gs) gs
      ∙ ap (λ (rs : List PageRun). after c (giving Snp rel rs m gs)) (sym (runs_at_lem t n a o (omega arith)))

  share_step : (i : IsolationType) (rel : Bool) (a : ℕ) → a < n → Onward i rel a → (c x a₀ : ℕ) (m : Maps) (gs : List BackendAnswer) → x ≡ c % 2 ^ 64 → Shares i rel c x a₀ a m gs
  share_step Snp rel a o on c x a₀ m gs e = share_snp rel a o on c x a₀ m gs e
  share_step Tdx true a o on c x a₀ m gs e = share_tdx a o on c x a₀ m gs e
  share_step Tdx false a o on c x a₀ m gs e = share_bare Tdx false refl refl c x a₀ a m e o gs
  share_step Cca rel a o on c x a₀ m gs e = share_bare Cca rel refl refl c x a₀ a m e o gs

  share_law : (i : IsolationType) (rel : Bool) (k c x a₀ a : ℕ) (m : Maps) → x ≡ c % 2 ^ 64 → n ≤ a + k → (gs : List BackendAnswer) → Shares i rel c x a₀ a m gs
  share_law i rel zero c x a₀ a m e b gs = share_over i rel c x a₀ a m e (omega arith) gs
  share_law i rel (suc k) c x a₀ a m e b gs =
      ⊎_elim
      (λ (o : a < n). share_step i rel a o (λ c x m gs e. share_law i rel k c x a (run_end t n a) m e (omega (arith, end_after t n a o)) gs) c x a₀ m gs e)
      (λ (o : n ≤ a). share_over i rel c x a₀ a m e o gs) (lt_or_le a n)

  flushed : (i : IsolationType) (rel : Bool) (c x a : ℕ) (m : Maps) → x ≡ c % 2 ^ 64 → (gs : List BackendAnswer)
      → run (U i rel) t (after_flush (U i rel) (R a x) t) m gs ≡ after c (giving i rel (runs_of (take n t)) m gs)
  unfolding after_flush
  flushed i rel c x a m e gs = share_law i rel n c x a 0 m e (omega arith) gs

  waited : (i : IsolationType) (rel : Bool) (c x a : ℕ) (m : Maps) → x ≡ c % 2 ^ 64 → (gs : List BackendAnswer)
      → run (U i rel) t (after_wait (U i rel) (R a x) t) m gs ≡ after c (in_turn writing_none (flushes i ++ (per_run (unaccepts i rel) (runs_of (take n t)) ++ (Modify true (take n t) ∷ []))) m gs shared)
  unfolding after_wait in_turn ask operation_of done_of
  waited Snp rel c x a m e gs =
      let z : ℕ = (x + 1) % 2 ^ 64 in
      asks (U Snp rel) t c at.FlushAll (R 0 z) crossed.FlushAll no_writes m m (λ gs. giving Snp rel (runs_of (take n t)) m gs) (λ code k gs. stands m Halts) (applied_none t m) refl refl
      (λ gs. flushed Snp rel (c + 1) z 0 m (once c x e) gs) (λ code k gs z. false≢true z) gs
  waited Tdx rel c x a m e gs = flushed Tdx rel c x a m e gs
  waited Cca rel c x a m e gs = flushed Cca rel c x a m e gs

  pub share_whole : (i : IsolationType) (rel : Bool) (m : Maps) (gs : List BackendAnswer)
      → run (U i rel) t (start_of (U i rel) v true n ix st) m gs ≡ after 0 (whole_share (U i rel) v (take n t) (cond st (StoppedAt ix) Ok) m gs)
  unfolding start_of whole_share in_turn done_of
  share_whole i rel m gs =
      asks (U i rel) t 0 at.Wait (R 0 1) crossed.Wait (cleared tr v true n) m (cleared_by tr v m (take n t))
      (λ gs. in_turn writing_none (flushes i ++ (per_run (unaccepts i rel) (runs_of (take n t)) ++ (Modify true (take n t) ∷ []))) (cleared_by tr v m (take n t)) gs shared)
      (λ code k gs. stands (cleared_by tr v m (take n t)) Halts) (applied_share t n tr v m) refl refl
      (λ gs. waited i rel 1 1 0 _ refl gs) (λ code k gs z. false≢true z) gs
