use mathlib.Core.Path.{sym, ap, ◌∙◌, refl}
use native.Mathlib.Omega.{arith}
use lib.Dec.{eqb}
use borrow.Author.Tests.{lt-ltb}
use Rattle.laws.specs.Refusal.{passes, when_passes}
use Rattle.permissions.specs.declared.GuestVtl.{GuestVtl}
use Rattle.page_list.specs.Pages.{pages_of}
use Rattle.protector_state.specs.State.{entries_in}
use Rattle.call_refusals.specs.Buffers.{overlays_of, locks_of}
use Rattle.call_refusals.specs.Refusals.{visibility_refusal, page_refusal, first_refusal}
use Rattle.call_refusals.proofs.Laws.{lent_refuses, lent_ready, lent_passes, tables_fit, first_end}
use Rattle.abi.proofs.Numbers.{number_not_zero, refused_exit}
use Rattle.call_refusals.proofs.visibility_refusal.Goals as goal

pub returns-in_err-lent_refusal : goal.returns-in_err-lent_refusal
unfolding visibility_refusal
returns-in_err-lent_refusal c =
    refused_exit _ _ c.from_residual.ensures.1
    ∙ lent_refuses _ _ _ c.in_err-lent_refusal.ensures _ (number_not_zero _)

pub returns-then-page_count-eq0 : goal.returns-then-page_count-eq0
unfolding visibility_refusal
returns-then-page_count-eq0 c =
    let a = c.args in
    let none = first_end _ (pages_of a.list.now) 0 (omega (arith, c.page_count.ensures, c.if-page_count-eq0.true)) in
    lent_passes _ _ _ c.in_ok-lent_refusal.ensures refl _ _ (when_passes _ _ _ _ (sym c.is_long.ensures ∙ c.if-is_long.false)
    (when_passes _ _ _ _ (sym c.has_repeat.ensures ∙ c.if-has_repeat.false) (passes _ _ _ _ (sym c.is_vtl.ensures ∙ c.if-not-is_vtl.false)
    (passes _ _ _ _ (lt-ltb a.visibility 2 (omega (arith, c.if-visibility-gt1.false))) (when_passes _ _ _ _ (sym c.is_ragged.ensures ∙ c.if-is_ragged.false)
    (sym none))))))

pub listed_refusal-requires : goal.listed_refusal-requires
listed_refusal-requires c =
    let ok = lent_ready _ _ _ c.in_ok-lent_refusal.ensures refl in (
      ok.long,
      sym c.requires ∙ tables_fit c.args.state.now c.args.lengths ok.fits,
    )

pub returns : goal.returns
unfolding visibility_refusal
returns c =
    let a = c.args in
    lent_passes _ _ _ c.in_ok-lent_refusal.ensures refl _ _ (when_passes _ _ _ _ (sym c.is_long.ensures ∙ c.if-is_long.false)
    (when_passes _ _ _ _ (sym c.has_repeat.ensures ∙ c.if-has_repeat.false) (passes _ _ _ _ (sym c.is_vtl.ensures ∙ c.if-not-is_vtl.false)
    (passes _ _ _ _ (lt-ltb a.visibility 2 (omega (arith, c.if-visibility-gt1.false))) (when_passes _ _ _ _ (sym c.is_ragged.ensures ∙ c.if-is_ragged.false)
    (c.listed_refusal.ensures ∙ ap (λ (v : GuestVtl). first_refusal
    (page_refusal (entries_in a.state.now) (overlays_of a.tables.now v) (locks_of a.tables.now v) (eqb a.visibility 1)) (pages_of a.list.now))
    c.vtl_of-v.ensures))))))
