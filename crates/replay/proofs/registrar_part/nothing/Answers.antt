use Rattle.std.proofs.Common.{replicate, ap}
use Rattle.registrar_state.specs.declared.Reply.{Reply}
use Rattle.replay.proofs.registrar_part.nothing.Goals as goal

pub returns : goal.returns
returns c =
    ap (λ (r : Reply). record { state = replicate 108 0; registered = replicate 8 0; failed = replicate 8 0; reply = r; asked = 0 }) c.done.ensures
