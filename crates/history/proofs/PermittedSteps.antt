-- What the steps of requests write to the permission maps lies in RAM. Assumes nothing.
use Rattle.permissions.specs.declared.HvMapGpaFlags.{HvMapGpaFlags}
use Rattle.std.specs.Prelude.{Option, Some, None}
use native.Mathlib.Omega.{arith}
use mathlib.Core.Path.{◌≡◌, refl, sym, ap, ◌∙◌, subst}
use mathlib.Core.Bool.{Bool, true, false, cond, ◌&&◌}
use mathlib.Core.List.{List, [], ◌∷◌}
use mathlib.Core.Logic.{⊎_elim}
use Prim.Native.Nat.{ℕ, ◌+◌, ◌-◌, ◌≤◌, ◌<◌, max}
use lib.Dec.{eqb, leb, ltb}
use lib.ListN.{length, get_or}
use borrow.Author.Tests.{leb-false, ltb-true}
use Rattle.laws.specs.Bools.{lt_or_le, and_right}
use Rattle.laws.specs.Ranges.{between, between_from, between_to}
use Rattle.bitmap.specs.Pages.{written}
use Rattle.layout.specs.declared.MemoryRangeWithNode.{MemoryRangeWithNode}
use Rattle.layout.specs.Layout.{is_ram}
use Rattle.permissions.specs.declared.GuestVtl.{GuestVtl}
use Rattle.page_list.specs.declared.PageRun.{PageRun}
use Rattle.page_list.specs.Pages.{among}
use Rattle.page_list.specs.Runs.{part, run, run_at}
use Rattle.page_list.proofs.RunLaws.{run_none}
use Rattle.request_pages.specs.Request.{run_end}
use Rattle.request_pages.proofs.Runs.{end_le, run_places}
use Rattle.default_change.specs.Pieces.{page_up, piece_in, next_of}
use Rattle.default_change.proofs.Pieces as pieces
use Rattle.visibility_steps.specs.declared.Phase.{Phase}
use Rattle.visibility_steps.specs.declared.Phase.TheVariants as at
use Rattle.visibility_steps.specs.declared.Settings.{Settings}
use Rattle.visibility_steps.specs.declared.Request.{Request}
use Rattle.visibility_steps.specs.declared.Writes.{Writes}
use Rattle.visibility_steps.specs.declared.Step.{Step}
use Rattle.visibility_steps.specs.Steps.{is_snp, is_cca, releases, no_writes, set_shared, set_private, set_permissions, ask, end, halt, keep, share_run, default_run, return_run, after_flush, after_wait, after_modify, after_accept, after_default0, cut_at, failed_modify, done_of, failed_of, is_vtl0, cleared, start_of}
use Rattle.change_steps.specs.declared.Stage.{Stage}
use Rattle.change_steps.specs.declared.Stage.TheVariants as stage
use Rattle.change_steps.specs.declared.Entry.TheVariants.{Keep}
use Rattle.change_steps.specs.declared.Change.{Change}
use Rattle.change_steps.specs.declared.ChangeStep.{ChangeStep}
use Rattle.change_steps.specs.Changes as changes
use Rattle.call_refusals.specs.Buffers.{takes_at}
use Rattle.history.specs.Marks.{Has}
use Rattle.history.specs.Permitted.{OnRam, is_pages}
use Rattle.history.proofs.Bits.{clash, of_part, set_cases, clear_kept}

-- ---- a map written at pages of RAM, or cleared

module _ (ram : ℕ → Bool) where
  settle : (z : ℕ) → ((ram z ≡ false) → ⊥) → ram z ≡ true
  settle z f = go (ram z) refl
    where
      go : (b : Bool) → ram z ≡ b → ram z ≡ true
      go true e = e
      go false e = absurd (f e)

  pub written_ram : (P : ℕ → Bool) (s : Bool) (m : List ℕ) → (s ≡ true → (z : ℕ) → P z ≡ true → ram z ≡ true) → ((z : ℕ) → Has m z → ram z ≡ true) → (z : ℕ) → Has (written 8 P s m) z → ram z ≡ true
  written_ram P false m f k z h = k z (clear_kept P m z h)
  written_ram P true m f k z h = settle z (λ e. set_cases P m z h (λ p. clash (ram z) (f refl z p) e) (λ p. clash (ram z) (k z p) e))

module _ (es : List MemoryRangeWithNode) where
  -- places of the table
  pub places_ram : (t : List ℕ) (n a b : ℕ) → OnRam es n t → ((j : ℕ) → a ≤ j → j < b → j < n) → (z : ℕ) → among (part t b a) z ≡ true → is_ram es z ≡ true
  places_ram t n a b k h z e = settle (is_ram es) z (λ d. of_part a b t z e (λ j l u i y. clash (is_ram es z) (ap (is_ram es) (sym y) ∙ k j (h j l u) i) d))

  -- the run at a place of it
  pub run_ram : (t : List ℕ) (n a : ℕ) → n ≤ length t → OnRam es n t → (z : ℕ) → between (run_at t n a).first ((run_at t n a).first + (run_at t n a).count) z ≡ true → is_ram es z ≡ true
  run_ram t n a g k z e =
      ⊎_elim (λ (h : a < n). places_ram t n a (run_end t n a) k (λ j l u. omega (arith, u, end_le t n a h)) z (run_places t n a h g z ∙ e))
      (λ (h : n ≤ a). empty z (ap (λ (r : PageRun). between r.first (r.first + r.count) z) (run_none t n a h) ∙ e)) (lt_or_le a n)
    where
      empty : (z : ℕ) → between 0 0 z ≡ true → is_ram es z ≡ true
      empty z h = absurd (omega (arith, between_to 0 0 z h))

-- the next piece has only pages that P holds of
pub piece_all : (P : ℕ → Bool) (es : List MemoryRangeWithNode) (at : ℕ) (q : ℕ) → (next_of P es at).first ≤ q → q < (next_of P es at).first + (next_of P es at).count → P q ≡ true
unfolding next_of
piece_all P [] at q h g = absurd (omega (arith, g))
piece_all P (e ∷ es) at q h g = go (eqb (piece_in P e at).count 0) h g (piece_all P es at q)
  where
    go : (b : Bool) → (cond b (next_of P es at) (piece_in P e at)).first ≤ q → q < (cond b (next_of P es at) (piece_in P e at)).first + (cond b (next_of P es at) (piece_in P e at)).count
        → ((next_of P es at).first ≤ q → q < (next_of P es at).first + (next_of P es at).count → P q ≡ true) → P q ≡ true
    go true h g m = m h g
    go false h g m = pieces.piece_holds P (max (page_up e.start) at) (page_up e.end - max (page_up e.start) at) q h g

-- ---- a step of a visibility change of n pages: no page more, and permissions of these alone

pub record Narrow (n : ℕ) (x : Step) : Type 0 where
  pub few : x.request.n ≤ n
  pub places : (j : ℕ) → x.writes.permissions.from ≤ j → j < x.writes.permissions.to → j < n

abbrev Within : ℕ → Writes → Type 0
Within n w = (j : ℕ) → w.permissions.from ≤ j → j < w.permissions.to → j < n

pick : (n : ℕ) (b : Bool) (x y : Step) → Narrow n x → Narrow n y → Narrow n (cond b x y)
pick n true x y f g = f
pick n false x y f g = g

module _ (s : Settings) (t : List ℕ) where
  none : (n : ℕ) → Within n no_writes
  none n j h g = absurd (omega (arith, g))

  asks : (p : Phase) (q : Request) (a : ℕ) (w : Writes) → Within q.n w → Narrow q.n (ask s p q t a w)
  unfolding ask
  asks p q a w h = record { few = omega arith; places = h }

  ends : (q : Request) (w : Writes) → Within q.n w → Narrow q.n (end q w)
  unfolding end
  ends q w h = record { few = omega arith; places = h }

  halts : (q : Request) → Narrow q.n (halt q)
  unfolding halt
  halts q = record { few = omega arith; places = none q.n }

  keeps : (p : Phase) (q : Request) → Narrow q.n (keep p q)
  unfolding keep
  keeps p q = record { few = omega arith; places = none q.n }

  shares : (q : Request) (a : ℕ) → Narrow q.n (share_run s q t a)
  unfolding share_run
  shares q a =
      pick q.n (ltb a q.n && is_snp s.isolation) _ _ (asks at.ProtectNone0 q a no_writes (none q.n))
      (pick q.n (ltb a q.n && releases s.isolation s.release) _ _ (asks at.Release q a no_writes (none q.n)) (asks at.Modify q 0 no_writes (none q.n)))

  defaults : (q : Request) (a : ℕ) (w : Writes) → Within q.n w → Narrow q.n (default_run s q t a w)
  unfolding default_run
  defaults q a w h = go (ltb a q.n) refl
    where
      inside : ltb a q.n ≡ true → (b : Bool) (j : ℕ) → a ≤ j → j < cond b (run_end t q.n a) a → j < q.n
      inside e true j l u = omega (arith, u, end_le t q.n a (ltb-true a q.n e))
      inside e false j l u = absurd (omega (arith, l, u))

      go : (b : Bool) → ltb a q.n ≡ b → Narrow q.n (cond b (ask s at.ProtectDefault0 q t a (set_permissions w a (cond s.tracked (run_end t q.n a) a) s.defaults.vtl0)) (end q w))
      go true e = asks at.ProtectDefault0 q a _ (inside e s.tracked)
      go false e = ends q w h

  returns : (q : Request) (a : ℕ) (w : Writes) → Within q.n w → Narrow q.n (return_run s q t a w)
  unfolding return_run
  returns q a w h =
      pick q.n (ltb a q.n) _ _ (pick q.n (is_cca s.isolation) _ _ (defaults q 0 (set_private w q.n) h) (asks at.Accept q a w h)) (defaults q 0 (set_private w q.n) h)

  flushed : (q : Request) → Narrow q.n (after_flush s q t)
  unfolding after_flush
  flushed q = pick q.n q.share _ _ (shares q 0) (asks at.Modify q 0 no_writes (none q.n))

  pub done_narrow : (p : Phase) (q : Request) → Narrow q.n (done_of s p q t)
  unfolding done_of after_wait after_modify after_accept
  done_narrow at.Idle q = keeps at.Idle q
  done_narrow at.Halted q = keeps at.Halted q
  done_narrow at.Wait q = pick q.n (is_snp s.isolation) _ _ (asks at.FlushAll q 0 no_writes (none q.n)) (flushed q)
  done_narrow at.FlushAll q = flushed q
  done_narrow at.ProtectNone0 q = asks at.ProtectNone1 q q.at no_writes (none q.n)
  done_narrow at.ProtectNone1 q = asks at.Invalidate q q.at no_writes (none q.n)
  done_narrow at.Invalidate q = shares q (run_end t q.n q.at)
  done_narrow at.Release q = shares q (run_end t q.n q.at)
  done_narrow at.Modify q = pick q.n q.share _ _ (ends q (set_shared no_writes 0 q.n) (none q.n)) (returns q 0 no_writes (none q.n))
  done_narrow at.Accept q = pick q.n (is_snp s.isolation) _ _ (asks at.Zero q q.at no_writes (none q.n)) (returns q (run_end t q.n q.at) no_writes (none q.n))
  done_narrow at.Zero q = returns q (run_end t q.n q.at) no_writes (none q.n)
  done_narrow at.ProtectDefault0 q = go s.defaults.vtl1
    where
      go : (f : Option HvMapGpaFlags) → Narrow q.n (after_default0 f s q t)
      go (Some f) = asks at.ProtectDefault1 q q.at no_writes (none q.n)
      go None = defaults q (run_end t q.n q.at) no_writes (none q.n)
  done_narrow at.ProtectDefault1 q = defaults q (run_end t q.n q.at) no_writes (none q.n)

  cut : (q : Request) (code k : ℕ) → k < q.n → Narrow q.n (return_run s (cut_at q k code (get_or t (512 + k) 0)) t 0 (set_shared no_writes k q.n))
  cut q code k h =
      let x = returns (cut_at q k code (get_or t (512 + k) 0)) 0 (set_shared no_writes k q.n) (none k) in
      record { few = omega (arith, x.few, h); places = λ j l u. omega (arith, x.places j l u, h) }

  pub failed_narrow : (p : Phase) (q : Request) (code k : ℕ) → Narrow q.n (failed_of s p q t code k)
  unfolding failed_of failed_modify
  failed_narrow at.Idle q code k = keeps at.Idle q
  failed_narrow at.Halted q code k = keeps at.Halted q
  failed_narrow at.Wait q code k = keeps at.Wait q
  failed_narrow at.FlushAll q code k = keeps at.FlushAll q
  failed_narrow at.ProtectNone0 q code k = halts q
  failed_narrow at.ProtectNone1 q code k = halts q
  failed_narrow at.Invalidate q code k = halts q
  failed_narrow at.Release q code k = halts q
  failed_narrow at.Modify q code k = pick q.n q.share _ _ (halts q) (go (leb q.n k) refl)
    where
      go : (b : Bool) → leb q.n k ≡ b → Narrow q.n (cond b (halt q) (return_run s (cut_at q k code (get_or t (512 + k) 0)) t 0 (set_shared no_writes k q.n)))
      go true e = halts q
      go false e = cut q code k (leb-false q.n k e)
  failed_narrow at.Accept q code k = halts q
  failed_narrow at.Zero q code k = halts q
  failed_narrow at.ProtectDefault0 q code k = halts q
  failed_narrow at.ProtectDefault1 q code k = halts q

  -- the start of one clears permissions of these alone
  pub start_narrow : (v : GuestVtl) (share : Bool) (n stop : ℕ) (stopped : Bool) → Narrow n (start_of s v share n stop stopped)
  unfolding start_of cleared
  start_narrow v share n stop stopped = record { few = omega arith; places = go share (is_vtl0 v && s.tracked) refl }
    where
      go : (b c : Bool) → (is_vtl0 v && s.tracked) ≡ c → Within n (cleared s.tracked v b n)
      go false c e j l u = absurd (omega (arith, u))
      go true true e j l u = subst (λ (c : Bool). j < cond c n 0) e u
      go true false e j l u = absurd (omega (arith, subst (λ (c : Bool). j < cond c n 0) e u))

-- ---- a step of another change: what it writes is RAM, and so are the pages it still lists

module _ (es : List MemoryRangeWithNode) (t : List ℕ) where
  abbrev Covers : PageRun → Type 0
  Covers r = (z : ℕ) → between r.first (r.first + r.count) z ≡ true → is_ram es z ≡ true

  pub record Safe (x : ChangeStep) : Type 0 where
    pub written : (z : ℕ) → between x.written.first (x.written.first + x.written.count) z ≡ true → is_ram es z ≡ true
    pub listed : is_pages x.stage ≡ true → OnRam es x.change.n t

  no_run_lem : Covers changes.no_run
  no_run_lem z e = absurd (omega (arith, between_to 0 0 z e))

  safe_either : (b : Bool) (x y : ChangeStep) → Safe x → Safe y → Safe (cond b x y)
  safe_either true x y f g = f
  safe_either false x y f g = g

  protects : (tracked : Bool) (g : Stage) (q : Change) (a : ℕ) (r : PageRun) → (eqb q.source 0 ≡ true → Covers r) → (is_pages g ≡ true → OnRam es q.n t) → Safe (changes.protect tracked g q a r)
  unfolding changes.protect
  protects tracked g q a r f h = record { written = go (is_vtl0 q.vtl && (tracked && eqb q.source 0)) refl; listed = h }
    where
      go : (b : Bool) → (is_vtl0 q.vtl && (tracked && eqb q.source 0)) ≡ b → (z : ℕ)
          → between (cond b r changes.no_run).first ((cond b r changes.no_run).first + (cond b r changes.no_run).count) z ≡ true → is_ram es z ≡ true
      go true e = f (and_right tracked _ (and_right (is_vtl0 q.vtl) _ e))
      go false e = no_run_lem

  waits : (q : Change) → Safe (changes.wait q Keep)
  unfolding changes.wait changes.ask
  waits q = record { written = no_run_lem; listed = λ e. clash false e refl }

  pub safe_pages : (tracked : Bool) (q : Change) (a : ℕ) → q.n ≤ length t → OnRam es q.n t → Safe (changes.protect_pages tracked q t a)
  unfolding changes.protect_pages
  safe_pages tracked q a h k = safe_either (ltb a q.n) _ _ (protects tracked stage.ProtectPages q a (run_at t q.n a) (λ _. run_ram es t q.n a h k) (λ _. k)) (waits q)

  pub safe_ram : (tracked : Bool) (q : Change) (r : PageRun) → ((z : ℕ) → between r.first (r.first + r.count) z ≡ true → is_ram es z ≡ true) → Safe (changes.protect_ram tracked q r)
  unfolding changes.protect_ram
  safe_ram tracked q r h = safe_either (eqb r.count 0) _ _ (waits q) (protects tracked stage.ProtectRam q (r.first + r.count) r (λ _. h) (λ e. clash false e refl))

  pub safe_done : (tracked : Bool) (g : Stage) (q : Change) (r : PageRun) → q.n ≤ length t → (is_pages g ≡ true → OnRam es q.n t)
      → ((z : ℕ) → between r.first (r.first + r.count) z ≡ true → is_ram es z ≡ true) → takes_at g false ≡ true → Safe (changes.done_of tracked g q t r)
  unfolding changes.done_of changes.wait changes.ask changes.finish
  safe_done tracked stage.Idle q r h k f e = clash false e refl
  safe_done tracked stage.Halted q r h k f e = clash false e refl
  safe_done tracked stage.ProtectPages q r h k f e = safe_pages tracked q (run_end t q.n q.at) h (k refl)
  safe_done tracked stage.ProtectRam q r h k f e = safe_ram tracked q r f
  safe_done tracked stage.ProtectNew q r h k f e = record { written = no_run_lem; listed = λ e. clash false e refl }
  safe_done tracked stage.ProtectOld q r h k f e = record { written = no_run_lem; listed = λ e. clash false e refl }
  safe_done tracked stage.Wait q r h k f e = record { written = no_run_lem; listed = λ e. clash false e refl }
  safe_done tracked stage.Flush q r h k f e = record { written = no_run_lem; listed = λ e. clash false e refl }
  safe_done tracked stage.TlbWait q r h k f e = record { written = no_run_lem; listed = λ e. clash false e refl }

  pub safe_failed : (g : Stage) (q : Change) → takes_at g true ≡ true → Safe (changes.failed_of g q)
  unfolding changes.failed_of changes.halt changes.finish
  safe_failed stage.Idle q e = clash false e refl
  safe_failed stage.Halted q e = clash false e refl
  safe_failed stage.ProtectPages q e = record { written = no_run_lem; listed = λ e. clash false e refl }
  safe_failed stage.ProtectRam q e = record { written = no_run_lem; listed = λ e. clash false e refl }
  safe_failed stage.ProtectNew q e = record { written = no_run_lem; listed = λ e. clash false e refl }
  safe_failed stage.ProtectOld q e = record { written = no_run_lem; listed = λ e. clash false e refl }
  safe_failed stage.Wait q e = clash false e refl
  safe_failed stage.Flush q e = clash false e refl
  safe_failed stage.TlbWait q e = clash false e refl

  one_page : (p : ℕ) → is_ram es p ≡ true → Covers (run p 1)
  one_page p h z e = let d : z ≡ p = omega (arith, between_from p (p + 1) z e, between_to p (p + 1) z e) in ap (is_ram es) d ∙ h

  pub safe_new : (tracked : Bool) (v : GuestVtl) (p source current new : ℕ) → is_ram es p ≡ eqb source 0 → Safe (changes.start_new tracked v p source current new)
  unfolding changes.start_new changes.wait changes.ask
  safe_new tracked v p source current new h =
      safe_either (ltb new 16) _ _ (protects tracked stage.ProtectNew (changes.overlay_of v p new current source) p (run p 1) (λ e. one_page p (h ∙ e)) (λ e. clash false e refl))
      (record { written = no_run_lem; listed = λ e. clash false e refl })

  pub safe_old : (tracked : Bool) (v : GuestVtl) (p previous source : ℕ) → is_ram es p ≡ eqb source 0 → Safe (changes.start_old tracked v p previous source)
  unfolding changes.start_old
  safe_old tracked v p previous source h = protects tracked stage.ProtectOld (changes.overlay_of v p previous previous source) p (run p 1) (λ e. one_page p (h ∙ e)) (λ e. clash false e refl)
