use Rattle.std.proofs.Common.{ℕ, [], ◌∷◌, ap, ◌∙◌, ap₂}
use Rattle.playback.specs.Registry.{asked_of}
use Rattle.replay.specs.Tally.{result_of, noted_of}
use Rattle.replay.proofs.registrar_part.compare.Goals as goal

pub returns : goal.returns
returns c =
    let a = c.args in
    let r = a.w.now.reply in
    c.note.ensures
    ∙ ap₂ (λ (x y : ℕ). noted_of a.tally.now a.f.now (x ∷ 0 ∷ r.address ∷ r.count ∷ y ∷ c.left-left.result ∷ []) r.number 3) c.result_of-result.ensures c.asked-asked.ensures
    ∙ ap (λ (x : ℕ). noted_of a.tally.now a.f.now (result_of r.number ∷ 0 ∷ r.address ∷ r.count ∷ asked_of a.w.now ∷ x ∷ []) r.number 3) c.left-left.ensures
