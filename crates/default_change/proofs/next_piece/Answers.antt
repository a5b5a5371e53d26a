use native.Mathlib.Omega.{arith}
use mathlib.Core.Path.{sym, ◌∙◌}
use Rattle.layout.specs.Layout.{entries_of}
use Rattle.default_change.specs.Pieces.{wanted}
use Rattle.default_change.proofs.Next as laws
use Rattle.default_change.proofs.next_piece.Goals as goal

pub returns-then-piece-ne0 : goal.returns-then-piece-ne0
returns-then-piece-ne0 c =
    let a = c.args in
    let h = c.loop-i in
    let r = c.piece_between-piece in
    let P = wanted a.private.now a.overlays.now in
    let es = entries_of a.ram.now in record {
      value = laws.next_hit P es a.at h.i (omega arith) c.entry_at-e.result c.entry_at-e.ensures c.page_up.result
          c.page_up-in-loop-i.result c.max-from.result c.page_up.ensures c.max-from.ensures c.page_up-in-loop-i.ensures r.result
          r.ensures c.if-piece-ne0.true ∙ h.invariant;
      count_bound = omega (
        arith,
        laws.piece_low P c.max-from.result c.page_up-in-loop-i.result r.result r.ensures
            c.if-piece-ne0.true,
        c.page_up-in-loop-i.type_inv,
      );
    }

pub loop-i-preserved : goal.loop-i-preserved
loop-i-preserved c =
    let a = c.args in
    let h = c.loop-i in
    let r = c.piece_between-piece in
    let P = wanted a.private.now a.overlays.now in
    let es = entries_of a.ram.now in
    sym (laws.next_miss P es a.at h.i (omega arith) c.entry_at-e.result c.entry_at-e.ensures c.page_up.result
    c.page_up-in-loop-i.result c.max-from.result c.page_up.ensures c.max-from.ensures c.page_up-in-loop-i.ensures r.result
    r.ensures c.if-piece-ne0.false) ∙ h.invariant

pub returns : goal.returns
returns c =
    let a = c.args in
    let h = c.loop-i in
    record { value = laws.next_end (wanted a.private.now a.overlays.now) (entries_of a.ram.now) a.at h.i (omega arith) ∙ h.invariant; count_bound = omega arith }
