-- No call sets a mark and clears it later; one that it cleared is set again only where a page that it was to return wasn't processed. Assumes nothing.
use native.Mathlib.Omega.{arith}
use mathlib.Core.Path.{◌≡◌, refl, sym, ◌∙◌, subst}
use mathlib.Core.Bool.{Bool, true, false, cond, ◌&&◌}
use mathlib.Core.List.{List, [], ◌∷◌, ◌++◌}
use Prim.Native.Nat.{ℕ, ◌/◌}
use lib.Dec.{eqb, ltb}
use lib.ListN.{length, get_or, take, drop}
use Rattle.laws.specs.Bools.{false≢true}
use Rattle.bitmap.specs.Pages.{bit_at}
use Rattle.bitmap.proofs.Map.{page_law}
use Rattle.permissions.specs.declared.GuestVtl.{GuestVtl}
use Rattle.permissions.specs.declared.GuestVtl.TheVariants.{Vtl0, Vtl1}
use Rattle.permissions.specs.declared.IsolationType.{IsolationType}
use Rattle.permissions.specs.declared.IsolationType.TheVariants.{Snp, Tdx, Cca}
use Rattle.permissions.specs.Flags.{vtl_of, bool_of}
use Rattle.mapping.specs.Maps.{Maps}
use Rattle.page_list.specs.Pages.{among, pages_of}
use Rattle.page_list.specs.Runs.{runs_of}
use Rattle.visibility_steps.specs.declared.Settings.{Settings}
use Rattle.protector_state.specs.State.{settings_of}
use Rattle.call_refusals.specs.Buffers.{Buffers}
use Rattle.visibility_claims.specs.Whole.{Operation, Wait, FlushAll, Protect, Invalidate, Release, Modify, Accept, Zero, Flush, TlbWait, BackendAnswer, Succeeds, Fails, Status, Denied, Ok, FailedAt, Halts, Whole, stands, asking, fails}
use Rattle.visibility_claims.specs.Whole.{one, in_turn, per_run, flushes, accepts, defaults, share_operations, marked, with_private, with_shared, protecting, writing_none, cleared_by, whole_share, returned, modified, whole_return}
use Rattle.visibility_claims.specs.Calls.{whole_on, whole_of, follow}
use Rattle.visibility_claims.specs.Requested.{denial, Requested, requested_of, pages_in, places_in}
use Rattle.visibility_claims.specs.Marks.{Grows, past, restored, VisibilityClears, maps_after, VisibilitySets, SharePrivate, ReturnShared}
use Rattle.visibility_claims.proofs.Calls.{visibility_is_whole}

-- ---- marks set and cleared

set_more : (ps m : List ℕ) (p : ℕ) → bit_at 8 m p ≡ true → bit_at 8 (marked ps true m) p ≡ true
set_more ps m p e = page_law 8 (among ps) true m p (omega arith) ∙ go (among ps p && ltb (p / 8) (length m))
  where
    go : (b : Bool) → cond b true (bit_at 8 m p) ≡ true
    go true = refl
    go false = e

clear_less : (ps m : List ℕ) (p : ℕ) → bit_at 8 (marked ps false m) p ≡ true → bit_at 8 m p ≡ true
clear_less ps m p e = go (among ps p && ltb (p / 8) (length m)) (sym (page_law 8 (among ps) false m p (omega arith)) ∙ e)
  where
    go : (b : Bool) → cond b false (bit_at 8 m p) ≡ true → bit_at 8 m p ≡ true
    go true h = false≢true h
    go false h = h

same : (m : Maps) → Grows m m
same m = record { private = λ p e. e; shared = λ p e. e }

join : {k m n : Maps} → Grows k m → Grows m n → Grows k n
join a b = record { private = λ p e. b.private p (a.private p e); shared = λ p e. b.shared p (a.shared p e) }

set_private_lem : (ps : List ℕ) (m : Maps) → Grows m (with_private ps true m)
set_private_lem ps m = record { private = set_more ps m.private; shared = λ p e. e }

set_shared_lem : (ps : List ℕ) (m : Maps) → Grows m (with_shared ps true m)
set_shared_lem ps m = record { private = λ p e. e; shared = set_more ps m.shared }

protect_same : (tracked : Bool) (o : Operation) (m : Maps) → Grows m (protecting tracked o m)
protect_same tracked Wait m = same m
protect_same tracked FlushAll m = same m
protect_same true (Protect Vtl0 f r) m = record { private = λ p e. e; shared = λ p e. e }
protect_same false (Protect Vtl0 f r) m = same m
protect_same tracked (Protect Vtl1 f r) m = same m
protect_same tracked (Invalidate r) m = same m
protect_same tracked (Release r) m = same m
protect_same tracked (Modify share ps) m = same m
protect_same tracked (Accept r) m = same m
protect_same tracked (Zero r) m = same m
protect_same tracked (Flush v) m = same m
protect_same tracked (TlbWait v) m = same m

-- ---- a part of a call that starts at m: its marks are only set, whatever answers come, and more answers only set more

record Sets (m : Maps) (f : List BackendAnswer → Whole) : Type 0 where
  starts : (gs : List BackendAnswer) → Grows m (f gs).maps
  goes : (gs hs : List BackendAnswer) → Grows (f gs).maps (f (gs ++ hs)).maps

from : (m n : Maps) (f : List BackendAnswer → Whole) → Grows m n → Sets n f → Sets m f
from m n f a b = record { starts = λ gs. join a (b.starts gs); goes = b.goes }

sets_stand : (m : Maps) (x : Status) → Sets m (λ gs. stands m x)
sets_stand m x = record { starts = λ gs. same m; goes = λ gs hs. same m }

sets_one : (o : Operation) (m : Maps) (next : List BackendAnswer → Whole) (failed : ℕ → ℕ → List BackendAnswer → Whole) → Sets m next → ((code k : ℕ) → Sets m (failed code k))
    → Sets m (λ gs. one o m gs next failed)
unfolding one
sets_one o m next failed a b = record { starts = first; goes = on }
  where
    first : (gs : List BackendAnswer) → Grows m (one o m gs next failed).maps
    first [] = same m
    first (Succeeds ∷ gs) = a.starts gs
    first (Fails code k ∷ gs) = go (fails o) ((b code k).starts gs) (first gs)
      where
        go : (y : Bool) → Grows m (failed code k gs).maps → Grows m (one o m gs next failed).maps → Grows m (cond y (asking o (failed code k gs)) (one o m gs next failed)).maps
        go true h i = h
        go false h i = i

    on : (gs hs : List BackendAnswer) → Grows (one o m gs next failed).maps (one o m (gs ++ hs) next failed).maps
    on [] hs = first hs
    on (Succeeds ∷ gs) hs = a.goes gs hs
    on (Fails code k ∷ gs) hs = go (fails o) ((b code k).goes gs hs) (on gs hs)
      where
        go : (y : Bool) → Grows (failed code k gs).maps (failed code k (gs ++ hs)).maps → Grows (one o m gs next failed).maps (one o m (gs ++ hs) next failed).maps
            → Grows (cond y (asking o (failed code k gs)) (one o m gs next failed)).maps (cond y (asking o (failed code k (gs ++ hs))) (one o m (gs ++ hs) next failed)).maps
        go true h i = h
        go false h i = i

sets_turn : (before : Operation → Maps → Maps) → ((o : Operation) (m : Maps) → Grows m (before o m)) → (os : List Operation) (m : Maps) (next : Maps → List BackendAnswer → Whole)
    → ((m : Maps) → Sets m (next m)) → Sets m (λ gs. in_turn before os m gs next)
unfolding in_turn
sets_turn before b [] m next f = f m
sets_turn before b (o ∷ os) m next f =
    from m (before o m) _ (b o m)
    (sets_one o (before o m) (λ gs. in_turn before os (before o m) gs next) (λ code k gs. stands (before o m) Halts) (sets_turn before b os (before o m) next f) (λ code k. sets_stand (before o m) Halts))

sets_returned : (s : Settings) (ps : List ℕ) (m : Maps) (end : Status) → Sets m (λ gs. returned s ps m gs end)
unfolding returned
sets_returned s ps m end =
    sets_turn writing_none (λ o m. same m) (per_run (accepts s.isolation) (runs_of ps)) m _
    (λ m. from m (with_private ps true m) _ (set_private_lem ps m)
    (sets_turn (protecting s.tracked) (protect_same s.tracked) (per_run (defaults s.defaults.vtl0 s.defaults.vtl1) (runs_of ps)) (with_private ps true m) (λ m gs. stands m end) (λ m. sets_stand m end)))

sets_modified : (s : Settings) (ps their : List ℕ) (m : Maps) → Sets m (λ gs. modified s ps their m gs)
unfolding modified
sets_modified s ps their m = sets_one (Modify false ps) m (λ gs. returned s ps m gs Ok) _ (sets_returned s ps m Ok) (λ code k. go code k (ltb k (length ps)))
  where
    go : (code k : ℕ) (b : Bool) → Sets m (λ gs. cond b (returned s (take k ps) (with_shared (drop k ps) true m) gs (FailedAt code (get_or their k 0))) (stands m Halts))
    go code k true = from m (with_shared (drop k ps) true m) _ (set_shared_lem (drop k ps) m) (sets_returned s (take k ps) (with_shared (drop k ps) true m) (FailedAt code (get_or their k 0)))
    go code k false = sets_stand m Halts

sets_share : (s : Settings) (v : GuestVtl) (ps : List ℕ) (end : Status) (m : Maps) → Sets (cleared_by s.tracked v m ps) (λ gs. whole_share s v ps end m gs)
unfolding whole_share
sets_share s v ps end m =
    sets_turn writing_none (λ o m. same m) (share_operations s ps) (cleared_by s.tracked v m ps) (λ m gs. stands (with_shared ps true m) end)
    (λ m. from m (with_shared ps true m) _ (set_shared_lem ps m) (sets_stand (with_shared ps true m) end))

sets_return : (s : Settings) (ps their : List ℕ) (m : Maps) → Sets (with_shared ps false m) (λ gs. whole_return s ps their m gs)
unfolding whole_return
sets_return s ps their m = sets_turn writing_none (λ o m. same m) (Wait ∷ flushes s.isolation) (with_shared ps false m) (λ m gs. modified s ps their m gs) (λ m. sets_modified s ps their m)

share_clears : (s : Settings) (v : GuestVtl) (ps : List ℕ) (end : Status) (m : Maps) → Grows (whole_share s v ps end m []).maps m
unfolding whole_share in_turn one
share_clears s Vtl0 ps end m = record { private = clear_less ps m.private; shared = λ p e. e }
share_clears s Vtl1 ps end m = record { private = clear_less ps m.private; shared = λ p e. e }

return_clears : (s : Settings) (ps their : List ℕ) (m : Maps) → Grows (whole_return s ps their m []).maps m
unfolding whole_return in_turn one
return_clears s ps their m = record { private = λ p e. e; shared = clear_less ps m.shared }

-- at the call marks are only cleared
call_clears : (w : Buffers) (v : GuestVtl) (share : Bool) (l : List ℕ) → Grows (whole_of w v share l []).maps w.maps
call_clears w v share l = go share (eqb (denial w v share (pages_of l)) 0) (denial w v share (pages_of l)) (requested_of w v share l)
  where
    go : (share b : Bool) (n : ℕ) (x : Requested) → Grows (cond b (whole_on w v share x []) (stands w.maps (Denied n))).maps w.maps
    go true true n x = share_clears (settings_of w.state) v (pages_in x.listed) x.end w.maps
    go false true n x = return_clears (settings_of w.state) (pages_in x.listed) (places_in x.listed) w.maps
    go share false n x = same w.maps

-- and after it they are only set, by any answers gs and any more hs
answers_set : (w : Buffers) (v : GuestVtl) (share : Bool) (l : List ℕ) (gs hs : List BackendAnswer) → Grows (whole_of w v share l gs).maps (whole_of w v share l (gs ++ hs)).maps
answers_set w v share l gs hs = go share (eqb (denial w v share (pages_of l)) 0) (denial w v share (pages_of l)) (requested_of w v share l)
  where
    go : (share b : Bool) (n : ℕ) (x : Requested)
        → Grows (cond b (whole_on w v share x gs) (stands w.maps (Denied n))).maps (cond b (whole_on w v share x (gs ++ hs)) (stands w.maps (Denied n))).maps
    go true true n x = (sets_share (settings_of w.state) v (pages_in x.listed) x.end w.maps).goes gs hs
    go false true n x = (sets_return (settings_of w.state) (pages_in x.listed) (places_in x.listed) w.maps).goes gs hs
    go share false n x = same w.maps

-- THE CLAIMS: the same of the calls
pub visibility_clears : VisibilityClears
unfolding follow
visibility_clears w vtl visibility l z =
    subst (λ (m : Maps). Grows m w.maps) (sym (visibility_is_whole w vtl visibility l [] z).same_maps) (call_clears w (vtl_of vtl) (bool_of visibility) l)

pub visibility_sets : VisibilitySets
visibility_sets w vtl visibility l z gs hs =
    let v : GuestVtl = vtl_of vtl in
    let b : Bool = bool_of visibility in
    subst (λ (m : Maps). Grows m (maps_after w vtl visibility l (gs ++ hs))) (sym (visibility_is_whole w vtl visibility l gs z).same_maps)
    (subst (λ (m : Maps). Grows (whole_of w v b l gs).maps m) (sym (visibility_is_whole w vtl visibility l (gs ++ hs) z).same_maps) (answers_set w v b l gs hs))

-- ---- which marks are set again: f reads the private or the shared marks

module _ (f : Maps → List ℕ) (x : List ℕ) where
  kept_one : (o : Operation) (m : Maps) (gs : List BackendAnswer) (next : List BackendAnswer → Whole) (failed : ℕ → ℕ → List BackendAnswer → Whole) → f m ≡ x
      → ((gs : List BackendAnswer) → f (next gs).maps ≡ x) → ((code k : ℕ) (gs : List BackendAnswer) → f (failed code k gs).maps ≡ x) → f (one o m gs next failed).maps ≡ x
  unfolding one
  kept_one o m [] next failed e a b = e
  kept_one o m (Succeeds ∷ gs) next failed e a b = a gs
  kept_one o m (Fails code k ∷ gs) next failed e a b = go (fails o) (b code k gs) (kept_one o m gs next failed e a b)
    where
      go : (y : Bool) → f (failed code k gs).maps ≡ x → f (one o m gs next failed).maps ≡ x → f (cond y (asking o (failed code k gs)) (one o m gs next failed)).maps ≡ x
      go true h i = h
      go false h i = i

  kept_turn : (before : Operation → Maps → Maps) → ((o : Operation) (m : Maps) → f (before o m) ≡ f m) → (os : List Operation) (m : Maps) (gs : List BackendAnswer) (next : Maps → List BackendAnswer → Whole)
      → f m ≡ x → ((m : Maps) (gs : List BackendAnswer) → f m ≡ x → f (next m gs).maps ≡ x) → f (in_turn before os m gs next).maps ≡ x
  unfolding in_turn
  kept_turn before b [] m gs next e a = a m gs e
  kept_turn before b (o ∷ os) m gs next e a =
      kept_one o (before o m) gs (λ gs. in_turn before os (before o m) gs next) (λ code k gs. stands (before o m) Halts) (b o m ∙ e)
      (λ gs. kept_turn before b os (before o m) gs next (b o m ∙ e) a) (λ code k gs. b o m ∙ e)

-- THE CLAIM of a share
pub share_private : SharePrivate
unfolding whole_share
share_private s v ps end m gs =
    kept_turn (λ m. m.private) (marked ps false m.private) writing_none (λ o m. refl) (share_operations s ps) (cleared_by s.tracked v m ps) gs
    (λ m gs. stands (with_shared ps true m) end) (go v) (λ m gs e. e)
  where
    go : (v : GuestVtl) → (cleared_by s.tracked v m ps).private ≡ marked ps false m.private
    go Vtl0 = refl
    go Vtl1 = refl

protect_shared : (tracked : Bool) (o : Operation) (m : Maps) → (protecting tracked o m).shared ≡ m.shared
protect_shared tracked Wait m = refl
protect_shared tracked FlushAll m = refl
protect_shared true (Protect Vtl0 f r) m = refl
protect_shared false (Protect Vtl0 f r) m = refl
protect_shared tracked (Protect Vtl1 f r) m = refl
protect_shared tracked (Invalidate r) m = refl
protect_shared tracked (Release r) m = refl
protect_shared tracked (Modify share ps) m = refl
protect_shared tracked (Accept r) m = refl
protect_shared tracked (Zero r) m = refl
protect_shared tracked (Flush v) m = refl
protect_shared tracked (TlbWait v) m = refl

shared_returned : (s : Settings) (ps : List ℕ) (m : Maps) (gs : List BackendAnswer) (end : Status) → (returned s ps m gs end).maps.shared ≡ m.shared
unfolding returned
shared_returned s ps m gs end =
    kept_turn (λ m. m.shared) m.shared writing_none (λ o m. refl) (per_run (accepts s.isolation) (runs_of ps)) m gs _ refl
    (λ n gs e. kept_turn (λ m. m.shared) m.shared (protecting s.tracked) (protect_shared s.tracked) (per_run (defaults s.defaults.vtl0 s.defaults.vtl1) (runs_of ps)) (with_private ps true n) gs
    (λ m gs. stands m end) e (λ n gs e. e))

shared_modified : (s : Settings) (ps their : List ℕ) (m : Maps) (gs : List BackendAnswer) → (modified s ps their m gs).maps.shared ≡ restored ps gs m.shared
unfolding modified one
shared_modified s ps their m [] = refl
shared_modified s ps their m (Succeeds ∷ gs) = shared_returned s ps m gs Ok
shared_modified s ps their m (Fails code k ∷ gs) = go (ltb k (length ps))
  where
    go : (b : Bool) → (cond b (returned s (take k ps) (with_shared (drop k ps) true m) gs (FailedAt code (get_or their k 0))) (stands m Halts)).maps.shared ≡ cond b (marked (drop k ps) true m.shared) m.shared
    go true = shared_returned s (take k ps) (with_shared (drop k ps) true m) gs (FailedAt code (get_or their k 0))
    go false = refl

-- Wait and the flush leave the answers after theirs
wait_one : (o : Operation) → fails o ≡ false → (os : List Operation) (m : Maps) (gs : List BackendAnswer) (next : Maps → List BackendAnswer → Whole) (F : List BackendAnswer → List ℕ) → F [] ≡ m.shared
    → ((gs : List BackendAnswer) → (in_turn writing_none os m gs next).maps.shared ≡ F (past os gs)) → (in_turn writing_none (o ∷ os) m gs next).maps.shared ≡ F (past (o ∷ os) gs)
unfolding in_turn one past
wait_one o z os m [] next F e a = sym e
wait_one o z os m (Succeeds ∷ gs) next F e a = a gs
wait_one o z os m (Fails code k ∷ gs) next F e a = rw z (wait_one o z os m gs next F e a)

-- THE CLAIM of a return
pub return_shared : ReturnShared
unfolding whole_return in_turn past
return_shared s ps their m gs = go s.isolation
  where
    F : List BackendAnswer → List ℕ
    F gs = restored ps gs (marked ps false m.shared)

    n : Maps
    n = with_shared ps false m

    next : Maps → List BackendAnswer → Whole
    next m gs = modified s ps their m gs

    go : (i : IsolationType) → (in_turn writing_none (Wait ∷ flushes i) n gs next).maps.shared ≡ F (past (Wait ∷ flushes i) gs)
    go Snp = wait_one Wait refl (FlushAll ∷ []) n gs next F refl (λ gs. wait_one FlushAll refl [] n gs next F refl (λ gs. shared_modified s ps their n gs))
    go Tdx = wait_one Wait refl [] n gs next F refl (λ gs. shared_modified s ps their n gs)
    go Cca = wait_one Wait refl [] n gs next F refl (λ gs. shared_modified s ps their n gs)
