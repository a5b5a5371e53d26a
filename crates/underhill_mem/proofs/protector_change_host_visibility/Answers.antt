use mathlib.Core.Path.{sym, ap, ◌∙◌}
use Rattle.call_refusals.specs.declared.Lengths.{Lengths}
use Rattle.call_refusals.proofs.Laws.{pages_fit}
use Rattle.underhill_mem.proofs.Laws.{visibility_passed}
use Rattle.underhill_mem.proofs.protector_change_host_visibility.Goals as goal

pub store-count-requires : goal.store-count-requires
store-count-requires c =
    let a = c.args in
    let p = visibility_passed a.state.now _ a.tables.now a.vtl a.visibility a.list.now (sym c.in_default.ensures) in
    (sym (ap (λ (l : Lengths). l.pages) c.of-lengths.ensures) ∙ pages_fit a.state.now c.of-lengths.result p.fits, p.short)
