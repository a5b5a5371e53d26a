use mathlib.Core.Path.{ap, ◌∙◌}
use Prim.Native.Nat.{ℕ, ◌+◌}
use lib.ListN.{set}
use Rattle.words.proofs.Laws as laws
use Rattle.words.proofs.put_after.Goals as goal

pub returns : goal.returns
returns c =
    let a = c.args in
    c.put.ensures ∙ ap (λ (i : ℕ). set a.t.now i a.v) c.place_after-i.ensures ∙ laws.set_after a.t.now (a.place + a.n) a.v
