-- Laws of the calls on overlay pages: what a call that isn't refused knows, and one law for each way out. Assumes nothing.
use native.Mathlib.Omega.{arith}
use mathlib.Core.Path.{◌≡◌, sym, ap, ap₂, subst, ◌∙◌}
use mathlib.Core.Bool.{Bool, true, false, not, cond, ◌&&◌}
use mathlib.Core.List.{List}
use Prim.Native.Nat.{ℕ, ◌+◌, ◌-◌, ◌≤◌, ◌<◌, ◌^◌}
use lib.Dec.{eqb, ltb}
use lib.ListN.{length}
use borrow.Author.Tests.{eq-eqb, ne_eqb, eqb-true, ltb-true, lt-ltb, le-ltb}
use Rattle.laws.specs.Bools.{chose, chose_not}
use Rattle.laws.specs.Refusal.{passed}
use Rattle.permissions.specs.declared.GuestVtl.{GuestVtl}
use Rattle.permissions.specs.declared.HvMapGpaFlags.{HvMapGpaFlags}
use Rattle.permissions.specs.Flags.{vtl_of, flags_of, bits_of, bool_of}
use Rattle.mapping.specs.Maps.{Permissions, Maps}
use Rattle.page_list.specs.Runs.{run}
use Rattle.overlay_table.specs.declared.OverlayPage.{OverlayPage}
use Rattle.overlay_table.specs.Overlays.{is_overlay, place_of, entry_at, count_words}
use Rattle.visibility_steps.specs.declared.Settings.{Settings}
use Rattle.visibility_steps.specs.Steps.{is_vtl0}
use Rattle.change_steps.specs.declared.ChangeStep.{ChangeStep}
use Rattle.change_steps.specs.declared.Stage.TheVariants as at
use Rattle.change_steps.specs.declared.Entry.TheVariants.{Add}
use Rattle.change_steps.specs.Changes.{no_run, ask, wait, protect, overlay_of, start_new, start_old}
use Rattle.protector_state.specs.declared.Reply.{Reply}
use Rattle.protector_state.specs.State.{state_len, settings_of, entries_in}
use Rattle.protector_state.specs.Reply.{finished, flat_of}
use Rattle.protector_state.specs.Changing.{with_change}
use Rattle.call_refusals.specs.Buffers.{Buffers, outcome, tables_len, overlays_of, locks_of}
use Rattle.protector.specs.Writes.{with_overlays, permitted_run, entered}
use Rattle.protector.specs.Calls.{carried_change}
use Rattle.overlay_refusals.specs.Refusals.{call_refusal, unregister_refusal, within, needed_of, known_refusal, guest_refusal, dma_refusal, page_refusal, register_refusal}
use Rattle.overlay_refusals.proofs.Laws.{call_passed, call_fits, flags_passed}
use Rattle.overlay_entries.specs.Calls.{entry_in, recounted, counting, unregister_taken, current_in, register_taken}

-- ---- is_overlay_page

module _ (s t : List ℕ) (vtl p n : ℕ) (e : n ≡ call_refusal s (eqb (length t) tables_len) vtl 0) where
  pub query_tables : n ≡ 0 → length t ≡ tables_len
  query_tables z = eqb-true (length t) tables_len (call_fits s (eqb (length t) tables_len) vtl n e z)

-- ---- a step carried out

abbrev pub with_perms : Maps → Permissions → Maps
with_perms m p = record { private = m.private; shared = m.shared; permissions = p }

pub carried : (w : Buffers) (set : Settings) (x y : ChangeStep) (m : Permissions) (s t : List ℕ) (r : Reply) → set ≡ settings_of w.state → x ≡ y
    → m ≡ permitted_run x.written (flags_of x.change.flags) w.maps.permissions → s ≡ with_change x.stage x.change w.state
    → t ≡ entered x.entry x.change w.tables → r ≡ flat_of set.isolation x.answer
    → outcome (with_perms w.maps m) s w.pages t r ≡ carried_change w w.pages y
unfolding carried_change
carried w set x y m s t r e d a b c f =
    rw (a, b, c, f ∙ ap (λ (k : Settings). flat_of k.isolation x.answer) e) (ap (λ (k : ChangeStep). carried_change w w.pages k) d)

one_fits : (b : Bool) (p : ℕ) → p < 2 ^ 64 → (cond b (run p 1) no_run).first + (cond b (run p 1) no_run).count ≤ 2 ^ 64
one_fits true p h = omega (arith, h)
one_fits false p h = omega arith

pub old_fits : (tracked : Bool) (v : GuestVtl) (p previous source : ℕ) (x : ChangeStep) → x ≡ start_old tracked v p previous source → p < 2 ^ 64 → x.written.first + x.written.count ≤ 2 ^ 64
unfolding start_old protect
old_fits tracked v p previous source x e h =
    subst (λ (k : ChangeStep). k.written.first + k.written.count ≤ 2 ^ 64) (sym e) (one_fits (is_vtl0 v && (tracked && eqb source 0)) p h)

-- ---- unregister_overlay_page

module _ (s : List ℕ) (fit : Bool) (t : List ℕ) (vtl p n : ℕ) (e : n ≡ unregister_refusal s fit t vtl p) (z : n ≡ 0) where
  pub unregister_state : length s ≡ state_len
  unfolding unregister_refusal
  unregister_state = (call_passed s fit vtl _ (sym e ∙ z)).0

  pub unregister_fits : fit ≡ true
  unfolding unregister_refusal
  unregister_fits = (call_passed s fit vtl _ (sym e ∙ z)).2

module _ (w : Buffers) (v : GuestVtl) (p : ℕ) (e : OverlayPage) (q : e ≡ entry_in w.tables v p) where
  pub unregister_counted : (t : List ℕ) (r : Reply) → 1 < e.ref_count → t ≡ recounted w.tables v p (e.ref_count - 1) → r ≡ finished 0 0 0 0
      → outcome w.maps w.state w.pages t r ≡ unregister_taken w v p
  unfolding unregister_taken
  unregister_counted t r h a b =
      rw (a, b) (chose (ltb 1 e.ref_count) (ltb 1 (entry_in w.tables v p).ref_count) _ _ (counting w v p (e.ref_count - 1))
      (ap (λ (k : OverlayPage). ltb 1 k.ref_count) q) (lt-ltb 1 e.ref_count h) (ap (λ (k : OverlayPage). counting w v p (k.ref_count - 1)) q))

  pub unregister_carried : (set : Settings) (x : ChangeStep) (m : Permissions) (s t : List ℕ) (r : Reply) → e.ref_count ≤ 1 → set ≡ settings_of w.state
      → x ≡ start_old set.tracked v p e.previous_permissions e.gpn_source
      → m ≡ permitted_run x.written (flags_of x.change.flags) w.maps.permissions → s ≡ with_change x.stage x.change w.state
      → t ≡ entered x.entry x.change w.tables → r ≡ flat_of set.isolation x.answer
      → outcome (with_perms w.maps m) s w.pages t r ≡ unregister_taken w v p
  unfolding unregister_taken
  unregister_carried set x m s t r h d f a b c g =
      chose_not (ltb 1 e.ref_count) (ltb 1 (entry_in w.tables v p).ref_count) _ _ _
      (ap (λ (k : OverlayPage). ltb 1 k.ref_count) q) (le-ltb 1 e.ref_count h)
      (carried w set x _ m s t r d f a b c g
      ∙ ap (λ (k : Settings). carried_change w w.pages (start_old k.tracked v p e.previous_permissions e.gpn_source)) d
      ∙ ap (λ (k : OverlayPage). carried_change w w.pages (start_old (settings_of w.state).tracked v p k.previous_permissions k.gpn_source)) q)

-- ---- the place that the tests found

pub place_found : (t : List ℕ) (v : GuestVtl) (vtl p place : ℕ) → v ≡ vtl_of vtl → place ≡ place_of (overlays_of t (vtl_of vtl)) p → place ≡ place_of (overlays_of t v) p
place_found t v vtl p place a e = e ∙ ap (λ (x : GuestVtl). place_of (overlays_of t x) p) (sym a)

module _ (t : List ℕ) (v : GuestVtl) (p place : ℕ) (at : place ≡ place_of (overlays_of t v) p) where
  pub entry_found : (r : OverlayPage) → r ≡ entry_at (overlays_of t v) place → r ≡ entry_in t v p
  entry_found r e = e ∙ ap (entry_at (overlays_of t v)) at

  pub count_found : (n : ℕ) (u : List ℕ) → u ≡ with_overlays t v (count_words (overlays_of t v) place n) → u ≡ recounted t v p n
  count_found n u e = e ∙ ap (λ (k : ℕ). with_overlays t v (count_words (overlays_of t v) k n)) at

-- ---- register_overlay_page

pub register_asks : (w : Buffers) (fit : Bool) (v : GuestVtl) (vtl p source checked new n : ℕ) (current : HvMapGpaFlags) → v ≡ vtl_of vtl → current ≡ current_in w v p source
    → n ≡ register_refusal w.state fit w.maps.shared w.tables current vtl p source checked new
    → n ≡ register_refusal w.state fit w.maps.shared w.tables (current_in w (vtl_of vtl) p source) vtl p source checked new
register_asks w fit v vtl p source checked new n current a b e =
    e ∙ ap (λ (f : HvMapGpaFlags). register_refusal w.state fit w.maps.shared w.tables f vtl p source checked new) (b ∙ ap (λ (x : GuestVtl). current_in w x p source) a)

module _ (s : List ℕ) (fit : Bool) (shared t : List ℕ) (current : HvMapGpaFlags) (vtl p source checked new n : ℕ) (e : n ≡ register_refusal s fit shared t current vtl p source checked new) (z : n ≡ 0) where
  pub register_state : length s ≡ state_len
  unfolding register_refusal
  register_state = (call_passed s fit vtl _ (sym e ∙ z)).0

  pub register_fits : fit ≡ true
  unfolding register_refusal
  register_fits = (call_passed s fit vtl _ (sym e ∙ z)).2

  pub register_room : (v : GuestVtl) (place : ℕ) (x : OverlayPage) → v ≡ vtl_of vtl → place ≡ place_of (overlays_of t (vtl_of vtl)) p → (place ≡ 0 → ⊥) → x ≡ entry_in t v p → x.ref_count < 65535
  unfolding register_refusal page_refusal known_refusal
  register_room v place x e1 e2 e3 e5 =
      let known : is_overlay (overlays_of t (vtl_of vtl)) p ≡ true = ap not (ne_eqb _ 0 (λ k. e3 (e2 ∙ k))) in
      let rest = (flags_passed source checked new _ (call_passed s fit vtl _ (sym e ∙ z)).4).3 in
      let f : known_refusal (entry_in t (vtl_of vtl) p) checked new ≡ 0
      = sym (ap (λ (c : Bool). cond c (known_refusal (entry_in t (vtl_of vtl) p) checked new) (cond (bool_of source) (dma_refusal (entries_in s) (overlays_of t (vtl_of vtl)) (locks_of t (vtl_of vtl)) p) (guest_refusal (entries_in s) shared (overlays_of t (vtl_of vtl)) (locks_of t (vtl_of vtl)) p current checked))) known) ∙ rest in
      subst (λ (y : OverlayPage). y.ref_count < 65535) (sym (e5 ∙ ap (λ (y : GuestVtl). entry_in t y p) e1))
      (ltb-true (entry_in t (vtl_of vtl) p).ref_count 65535 (passed (ltb (entry_in t (vtl_of vtl) p).ref_count 65535) 16 0 (passed (within (flags_of (entry_in t (vtl_of vtl) p).overlay_permissions) (flags_of (needed_of checked new))) 12 _ f).1).0)

pub new_fits : (tracked : Bool) (v : GuestVtl) (p source current new : ℕ) (x : ChangeStep) → x ≡ start_new tracked v p source current new → p < 2 ^ 64 → x.written.first + x.written.count ≤ 2 ^ 64
unfolding start_new protect wait ask
new_fits tracked v p source current new x e h = subst (λ (k : ChangeStep). k.written.first + k.written.count ≤ 2 ^ 64) (sym e) (go (ltb new 16))
  where
    go : (b : Bool) → (cond b (protect tracked at.ProtectNew (overlay_of v p new current source) p (run p 1)) (wait (overlay_of v p current current source) Add)).written.first + (cond b (protect tracked at.ProtectNew (overlay_of v p new current source) p (run p 1)) (wait (overlay_of v p current current source) Add)).written.count ≤ 2 ^ 64
    go true = one_fits (is_vtl0 v && (tracked && eqb source 0)) p h
    go false = one_fits false p h

module _ (w : Buffers) (v : GuestVtl) (p source new place : ℕ) (at : place ≡ place_of (overlays_of w.tables v) p) where
  whether : not (eqb place 0) ≡ is_overlay (overlays_of w.tables v) p
  whether = ap (λ (k : ℕ). not (eqb k 0)) at

  pub register_counted : (e : OverlayPage) (t : List ℕ) (r : Reply) → (place ≡ 0 → ⊥) → e ≡ entry_in w.tables v p → t ≡ recounted w.tables v p (e.ref_count + 1) → r ≡ finished 0 0 0 0
      → outcome w.maps w.state w.pages t r ≡ register_taken w v p source new
  unfolding register_taken
  register_counted e t r h q a d =
      chose (not (eqb place 0)) (is_overlay (overlays_of w.tables v) p) _ _ _ whether (ap not (ne_eqb place 0 h))
      (ap₂ (λ (x : List ℕ) (y : Reply). outcome w.maps w.state w.pages x y) (a ∙ ap (λ (k : OverlayPage). recounted w.tables v p (k.ref_count + 1)) q) d)

  pub register_carried : (set : Settings) (current : HvMapGpaFlags) (bits : ℕ) (x : ChangeStep) (m : Permissions) (s t : List ℕ) (r : Reply) → place ≡ 0 → set ≡ settings_of w.state
      → current ≡ current_in w v p source → bits ≡ bits_of current → x ≡ start_new set.tracked v p source bits new
      → m ≡ permitted_run x.written (flags_of x.change.flags) w.maps.permissions → s ≡ with_change x.stage x.change w.state
      → t ≡ entered x.entry x.change w.tables → r ≡ flat_of set.isolation x.answer
      → outcome (with_perms w.maps m) s w.pages t r ≡ register_taken w v p source new
  unfolding register_taken
  register_carried set current bits x m s t r h d i j f a k c g =
      chose_not (not (eqb place 0)) (is_overlay (overlays_of w.tables v) p) _ _ _ whether (ap not (eq-eqb place 0 h))
      (carried w set x _ m s t r d f a k c g
      ∙ ap₂ (λ (y : Settings) (z : ℕ). carried_change w w.pages (start_new y.tracked v p source z new)) d (j ∙ ap bits_of i))
