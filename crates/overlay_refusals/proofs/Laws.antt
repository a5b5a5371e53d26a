-- Laws of the tests of a call on overlay pages, one for each way that the code goes. Assumes nothing.
use mathlib.Core.Path.{◌≡◌, refl, sym, ap, ◌∙◌}
use mathlib.Core.Bool.{Bool, true, false, not, ◌&&◌}
use mathlib.Core.List.{List}
use Prim.Native.Nat.{ℕ}
use native.Mathlib.Omega.{arith}
use lib.Dec.{eqb, ltb}
use lib.ListN.{length}
use borrow.Author.Tests.{eq-eqb, ne_eqb}
use Rattle.std.specs.Prelude.{Option, Some, None}
use Rattle.std.specs.Option.{ok_or}
use Rattle.abi.specs.Refusals.{refused_by}
use Rattle.abi.specs.declared.refusal.Refusal.TheVariants as refusal
use Rattle.laws.specs.Refusal.{unless, passes, refuses, passed}
use Rattle.permissions.specs.declared.GuestVtl.{GuestVtl}
use Rattle.permissions.specs.Flags.{fit_vtl, vtl_of, fit_flags, fit_bool}
use Rattle.overlay_table.specs.Overlays.{IsPlace, is_overlay, place_of}
use Rattle.protector_state.specs.State.{state_len}
use Rattle.lock_table.specs.Locks.{held_in}
use Rattle.call_refusals.specs.Buffers.{overlays_of, status_in, is_locked}
use Rattle.call_refusals.proofs.Laws.{is_ready, goes_on_lem, swaps}
use Rattle.overlay_refusals.specs.Refusals.{call_refusal, flags_refusal}

-- ---- a chain that refuses does so whatever comes after, and one that doesn't goes on to it

goes : (t : Bool) (k a b n : ℕ) → (n ≡ 0 → ⊥) → n ≡ unless t k a → (n ≡ a → n ≡ b) → n ≡ unless t k b
goes true k a b n h e f = f e
goes false k a b n h e f = e

module _ (s : List ℕ) (fit : Bool) (vtl : ℕ) where
  pub call_passed : (rest : ℕ) → call_refusal s fit vtl rest ≡ 0 → (length s ≡ state_len) × (status_in s ≡ 0) × (fit ≡ true) × (fit_vtl vtl ≡ true) × (rest ≡ 0)
  unfolding call_refusal
  call_passed rest h =
      let a = is_ready s fit _ h in
      let e = passed (fit_vtl vtl) 7 _ a.goes in
      (a.long, a.idle, a.fits, e.0, e.1)

  module _ (n : ℕ) (e : n ≡ call_refusal s fit vtl 0) where
    pub call_ends : (rest : ℕ) → (n ≡ 0 → ⊥) → n ≡ call_refusal s fit vtl rest
    unfolding call_refusal
    call_ends rest h = swaps s fit _ _ n h e (λ e. goes (fit_vtl vtl) 8 0 rest n h e (λ e. absurd (h e)))

    pub call_state : n ≡ 0 → length s ≡ state_len
    call_state z = (call_passed 0 (sym e ∙ z)).0

    pub call_fits : n ≡ 0 → fit ≡ true
    call_fits z = (call_passed 0 (sym e ∙ z)).2

    pub call_goes : (x rest : ℕ) → n ≡ 0 → x ≡ rest → x ≡ call_refusal s fit vtl rest
    unfolding call_refusal
    call_goes x rest z q =
        let p = call_passed 0 (sym e ∙ z) in
        goes_on_lem s fit _ x p.0 p.1 p.2 (passes (fit_vtl vtl) 8 rest x p.3 q)

-- ---- the tests of a registration

pub flags_ends : (source checked new rest n : ℕ) → n ≡ flags_refusal source checked new 0 → (n ≡ 0 → ⊥) → n ≡ flags_refusal source checked new rest
flags_ends source checked new rest n e h =
    goes (fit_bool source) 8 _ _ n h e (λ e. goes (fit_flags checked) 8 _ _ n h e (λ e. goes (ltb new 17) 8 0 rest n h e (λ e. absurd (h e))))

pub flags_passed : (source checked new rest : ℕ) → flags_refusal source checked new rest ≡ 0 → (fit_bool source ≡ true) × (fit_flags checked ≡ true) × (ltb new 17 ≡ true) × (rest ≡ 0)
flags_passed source checked new rest h =
    let a = passed (fit_bool source) 7 _ h in
    let b = passed (fit_flags checked) 7 _ a.1 in
    let d = passed (ltb new 17) 7 _ b.1 in
    (a.0, b.0, d.0, d.1)

pub flags_go : (source checked new rest n x : ℕ) → n ≡ flags_refusal source checked new 0 → n ≡ 0 → x ≡ rest → x ≡ flags_refusal source checked new rest
flags_go source checked new rest n x e z q =
    let p = flags_passed source checked new 0 (sym e ∙ z) in
    passes (fit_bool source) 8 _ x p.0 (passes (fit_flags checked) 8 _ x p.1 (passes (ltb new 17) 8 rest x p.2 q))

-- ---- what the tests find

-- a page with no entry
none_refused : (o : List ℕ) (p : ℕ) (r : Option ℕ) → IsPlace o p r → refused_by (ok_or r refusal.NoOverlay) ≡ unless (is_overlay o p) 14 0
none_refused o p None h = refuses _ _ _ (ap not (eq-eqb _ 0 h))
none_refused o p (Some k) h = passes _ _ _ _ (ap not (ne_eqb (place_of o p) 0 (λ z. omega (arith, h.0, h.1, z)))) refl

pub unknown_refused : (t o : List ℕ) (v : GuestVtl) (vtl p : ℕ) (r : Option ℕ) → v ≡ vtl_of vtl → o ≡ overlays_of t v → IsPlace o p r
    → refused_by (ok_or r refusal.NoOverlay) ≡ unless (is_overlay (overlays_of t (vtl_of vtl)) p) 14 0
unknown_refused t o v vtl p r e1 e2 h = none_refused o p r h ∙ ap (λ (x : List ℕ). unless (is_overlay x p) 14 0) (e2 ∙ ap (overlays_of t) e1)

-- a page with no overlay entry is locked where a list has it
pub locked_new : (o locks : List ℕ) (p : ℕ) (b : Bool) → place_of o p ≡ 0 → b ≡ held_in locks p → b ≡ is_locked o locks p
locked_new o locks p b z e = e ∙ sym (ap (λ (k : ℕ). held_in locks p && not (not (eqb k 0))) z ∙ same (held_in locks p))
  where
    same : (b : Bool) → b && true ≡ b
    same true = refl
    same false = refl
