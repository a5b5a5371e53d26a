use mathlib.Core.Path.{ap, ◌∙◌}
use Prim.Native.Nat.{ℕ, ◌+◌}
use lib.ListN.{get_or}
use Rattle.words.proofs.Laws as laws
use Rattle.words.proofs.word_after.Goals as goal

pub returns : goal.returns
returns c =
    let a = c.args in
    c.word_at.ensures ∙ ap (λ (i : ℕ). get_or a.t.now i 0) c.place_after.ensures ∙ laws.get_d_after a.t.now (a.place + a.n)
