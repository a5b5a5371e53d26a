use native.Mathlib.Omega.{arith}
use mathlib.Core.Path.{refl, sym, ◌∙◌}
use Rattle.bitmap.specs.Pages.{bit_at}
use Rattle.default_change.specs.Pieces.{free, wanted}
use Rattle.default_change.proofs.Next as laws
use Rattle.default_change.proofs.piece_between.Goals as goal

pub loop-at-init : goal.loop-at-init
loop-at-init c = refl

pub overflow_add-stop : goal.overflow_add-stop
overflow_add-stop c =
    let a = c.args in
    let h = c.loop-at in
    let g = c.first_piece-gap in
    let some = c.loop-at-test.true in
    omega (arith, laws.gap_fits (bit_at 8 a.private.now) (free a.overlays.now) h.at a.end g.result.first g.result.count g.ensures.0 g.ensures.1 some, c.well_formed)

pub returns-then-piece-ne0 : goal.returns-then-piece-ne0
returns-then-piece-ne0 c =
    let a = c.args in
    let h = c.loop-at in
    let g = c.first_piece-gap in
    let some = c.loop-at-test.true in
    let r = c.next_private_run-piece in
    laws.between_hit (bit_at 8 a.private.now) (free a.overlays.now) h.at a.end g.result.first g.result.count g.ensures.0 g.ensures.1 some r.result.first r.result.count r.ensures.0 r.ensures.1 c.if-piece-ne0.true ∙ sym h.invariant

pub loop-at-smaller : goal.loop-at-smaller
loop-at-smaller c =
    let a = c.args in
    let h = c.loop-at in
    let g = c.first_piece-gap in
    let some = c.loop-at-test.true in
    omega (arith, laws.gap_fits (bit_at 8 a.private.now) (free a.overlays.now) h.at a.end g.result.first g.result.count g.ensures.0 g.ensures.1 some, laws.gap_moves (bit_at 8 a.private.now) (free a.overlays.now) h.at a.end g.result.first g.result.count g.ensures.0 g.ensures.1 some)

pub loop-at-preserved : goal.loop-at-preserved
loop-at-preserved c =
    let a = c.args in
    let h = c.loop-at in
    let g = c.first_piece-gap in
    let some = c.loop-at-test.true in
    let r = c.next_private_run-piece in
    h.invariant ∙ laws.between_miss (bit_at 8 a.private.now) (free a.overlays.now) h.at a.end g.result.first g.result.count g.ensures.0 g.ensures.1 some r.result.first r.result.count r.ensures.0 r.ensures.1 c.if-piece-ne0.false

pub returns : goal.returns
returns c =
    let a = c.args in
    let h = c.loop-at in
    laws.between_end (wanted a.private.now a.overlays.now) h.at a.end c.loop-at-test.false ∙ sym h.invariant
