use Rattle.std.proofs.Common.{ℕ, ◌+◌, ◌%◌, [], ◌∷◌, get_or, ◌∙◌, ap₂}
use Rattle.replay.specs.Tally.{noted_of}
use Rattle.replay.proofs.protector_part.compare.Goals as goal

pub returns : goal.returns
returns c =
    let a = c.args in
    let r = a.buffers.now.reply in
    c.note.ensures
    ∙ ap₂ (λ (x y : ℕ). noted_of a.tally.now a.f.now (x ∷ r.code ∷ r.index ∷ r.count ∷ a.buffers.now.asked ∷ y ∷ []) r.number (get_or a.buffers.now.state 16 0 % 4 + 2)) c.result_of-result.ensures c.left-left.ensures
