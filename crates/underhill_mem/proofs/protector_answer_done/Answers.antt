use mathlib.Core.Path.{sym, ap, ◌∙◌}
use mathlib.Core.Bool.{false}
use Rattle.call_refusals.specs.declared.Lengths.{Lengths}
use Rattle.call_refusals.proofs.Laws.{pages_fit, tables_fit}
use Rattle.underhill_mem.proofs.Laws.{answer_passed}
use Rattle.underhill_mem.proofs.protector_answer_done.Goals as goal

pub answer_done-requires : goal.answer_done-requires
answer_done-requires c =
    let p = answer_passed c.args.state.now _ false (sym c.in_default.ensures) in
    (p.long, sym (ap (λ (l : Lengths). l.tables) c.of-lengths.ensures) ∙ tables_fit c.args.state.now c.of-lengths.result p.fits)

pub answer_done-requires-2 : goal.answer_done-requires-2
answer_done-requires-2 c =
    let p = answer_passed c.args.state.now _ false (sym c.in_default.ensures) in
    (p.long, sym (ap (λ (l : Lengths). l.pages) c.of-lengths.ensures) ∙ pages_fit c.args.state.now c.of-lengths.result p.fits)
