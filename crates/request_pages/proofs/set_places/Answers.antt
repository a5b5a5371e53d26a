use borrow.Author.Rules.{rules}
use native.Mathlib.Omega.{arith}
use mathlib.Core.Path.{refl, sym, ◌∙◌}
use Prim.Native.Nat.{◌<◌}
use Rattle.request_pages.proofs.Runs as laws
use Rattle.request_pages.proofs.set_places.Goals as goal

pub loop-i-init : goal.loop-i-init
loop-i-init c = (refl, refl)

pub overflow_sub-end : goal.overflow_sub-end
overflow_sub-end c =
    let a = c.args in
    let h = c.loop-i in
    let before-to : h.i < a.to = omega (arith, c.min-stop.ensures) in
    omega (arith, c.run_end-end.ensures, laws.end_after a.pages.now a.to h.i before-to)

pub update-requires : goal.update-requires
update-requires c =
    let a = c.args in
    let h = c.loop-i in
    let stop = c.min-stop.ensures in
    laws.last_above a.pages.now a.to h.i _ _ _ (omega arith) (omega arith) c.run_end-end.ensures
    c.word_at.ensures c.word_at-in-loop-i.ensures

pub loop-i-smaller : goal.loop-i-smaller
loop-i-smaller c =
    let a = c.args in
    let h = c.loop-i in
    let before-to : h.i < a.to = omega (arith, c.min-stop.ensures) in
    omega (arith, c.run_end-end.ensures, laws.end_after a.pages.now a.to h.i before-to)

pub loop-i-preserved : goal.loop-i-preserved
loop-i-preserved c =
    let a = c.args in
    let h = c.loop-i in
    let stop = c.min-stop.ensures in (
      search rules,
      laws.put_run a.pages.now a.to h.i _ _ _ (omega arith) (omega arith) c.run_end-end.ensures
          c.word_at.ensures c.word_at-in-loop-i.ensures a.state h.map _ c.update.ensures
          ∙ h.invariant.1,
    )

pub shape_of-map : goal.shape_of-map
shape_of-map c = c.loop-i.invariant.0

pub returns : goal.returns
returns c =
    let a = c.args in
    let h = c.loop-i in
    sym (laws.put_past a.pages.now a.to h.i a.state h.map (omega (arith, c.min-stop.ensures))) ∙ h.invariant.1
