-- Laws of what a step writes, one for each way that the code goes. Assumes nothing.
use native.Mathlib.Omega.{arith}
use mathlib.Core.Path.{◌≡◌, refl, sym, ap, ap₂, ◌∙◌}
use mathlib.Core.Bool.{Bool, not, cond}
use mathlib.Core.List.{List}
use Prim.Native.Nat.{ℕ, ◌+◌, ◌-◌, ◌*◌}
use lib.Seq.{drop-drop}
use borrow.Author.Tests.{eq-eqb}
use borrow.Rule.Slice.PartMut.{mid_of, put_mid}
use Rattle.bitmap.proofs.Steps.{run_none}
use Rattle.permissions.specs.declared.GuestVtl.{GuestVtl}
use Rattle.permissions.specs.declared.HvMapGpaFlags.{HvMapGpaFlags}
use Rattle.permissions.specs.Flags.{vtl_number, flags_of}
use Rattle.page_list.specs.declared.PageRun.{PageRun}
use Rattle.mapping.specs.Maps.{Permissions, permitted}
use Rattle.mapping.proofs.Marks.{permitted_is}
use Rattle.overlay_table.specs.Overlays.{place_of, remove_words}
use Rattle.visibility_steps.specs.declared.Settings.{Settings}
use Rattle.change_steps.specs.declared.ChangeStep.{ChangeStep}
use Rattle.protector_state.specs.declared.Reply.{Reply}
use Rattle.protector_state.specs.State.{settings_of}
use Rattle.protector_state.specs.Reply.{flat_of}
use Rattle.protector_state.specs.Changing.{with_change}
use Rattle.call_refusals.specs.Buffers.{overlays_of}
use Rattle.protector.specs.Writes.{with_overlays, without_page, permitted_run, entered}

-- ---- the permissions of a run

module _ (r : PageRun) (f : HvMapGpaFlags) (m : Permissions) where
  pub none_permitted : r.count ≡ 0 → m ≡ permitted_run r f m
  none_permitted h =
      let d : r.first ≡ r.first + r.count = omega arith in
      permitted_is r.first r.first f m.read m.write m.kernel m.user m.read m.write m.kernel m.user (run_none 8 _ _ _) (run_none 8 _ _ _) (run_none 8 _ _ _) (run_none 8 _ _ _)
      ∙ ap (λ (k : ℕ). permitted r.first k f m) d

  pub run_permitted : (last : ℕ) (u : Permissions) → last + 1 ≡ r.first + r.count → u ≡ permitted r.first (last + 1) f m → u ≡ permitted_run r f m
  run_permitted last u d e = e ∙ ap (λ (k : ℕ). permitted r.first k f m) d

-- ---- the overlays of a VTL, written where they begin

module _ (t n : List ℕ) (f : List ℕ → List ℕ) (v : GuestVtl) (s : ℕ) where
  pub put_overlays : s ≡ 641 * vtl_number v → n ≡ f (mid_of s (s + 641 - s) t) → put_mid s (s + 641 - s) t n ≡ with_overlays t v (f (overlays_of t v))
  put_overlays h e =
      let d : s + 641 - s ≡ 641 = omega arith in
      rw (e, d, h, drop-drop 641 (641 * vtl_number v) t) refl

module _ (o : List ℕ) (p place : ℕ) (e : place ≡ place_of o p) where
  pub kept : place ≡ 0 → o ≡ without_page o p
  kept h = sym (ap (λ (b : Bool). cond (not b) (remove_words o (place_of o p)) o) (eq-eqb (place_of o p) 0 (sym e ∙ h)))

-- ---- what an answer leads to

-- a step that the code found, carried out
module _ (p : Permissions) (s t : List ℕ) (set : Settings) (x y : ChangeStep) (e : set ≡ settings_of s) (d : x ≡ y) where
  pub carried : (p' : Permissions) (s' t' : List ℕ) (r : Reply)
      → (p' ≡ permitted_run x.written (flags_of x.change.flags) p) × ((s' ≡ with_change x.stage x.change s) × ((t' ≡ entered x.entry x.change t) × (r ≡ flat_of set.isolation x.answer)))
      → (p' ≡ permitted_run y.written (flags_of y.change.flags) p) × ((s' ≡ with_change y.stage y.change s) × ((t' ≡ entered y.entry y.change t) × (r ≡ flat_of (settings_of s).isolation y.answer)))
  carried p' s' t' r h = (
    h.0 ∙ ap (λ (z : ChangeStep). permitted_run z.written (flags_of z.change.flags) p) d,
    (
      h.1.0 ∙ ap (λ (z : ChangeStep). with_change z.stage z.change s) d,
      (h.1.1.0 ∙ ap (λ (z : ChangeStep). entered z.entry z.change t) d, h.1.1.1 ∙ ap₂ (λ (a : Settings) (z : ChangeStep). flat_of a.isolation z.answer) e d),
    ),
  )
