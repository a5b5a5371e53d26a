use mathlib.Core.Path.{sym, ap, ◌∙◌}
use mathlib.Core.Bool.{true}
use Rattle.call_refusals.specs.declared.Lengths.{Lengths}
use Rattle.call_refusals.proofs.Laws.{tables_fit}
use Rattle.underhill_mem.proofs.Laws.{answer_passed}
use Rattle.underhill_mem.proofs.protector_answer_failed.Goals as goal

pub answer_failed-requires : goal.answer_failed-requires
answer_failed-requires c =
    let p = answer_passed c.args.state.now _ true (sym c.in_default.ensures) in
    (p.long, sym (ap (λ (l : Lengths). l.tables) c.of-lengths.ensures) ∙ tables_fit c.args.state.now c.of-lengths.result p.fits)
