use Rattle.std.proofs.Common.{◌/◌, ◌^◌, refl, ◌∙◌, arith}
use Rattle.std.proofs.Math.Nat.{div-one}
use Rattle.recording.specs.Lists.{filling}
use Rattle.recording.proofs.Laws.{bytes_next, no_bytes}
use Rattle.recording.proofs.lists.put_page.Goals as goal

pub loop-b-init : goal.loop-b-init
loop-b-init c = rw div-one refl

pub loop-b-preserved : goal.loop-b-preserved
loop-b-preserved c =
    let h = c.loop-b in
    bytes_next c.args.page h.b-index c.to_le_bytes-b-items.result c.to_le_bytes-b-items.ensures (omega arith) (filling h.list h.next) (filling c.put-next.new.list c.put-next.result) c.put-next.ensures ∙ h.invariant

pub returns : goal.returns
returns c =
    let h = c.loop-b in no_bytes 8 h.b-index (filling h.list h.next) (c.args.page / 256 ^ h.b-index) (omega arith) ∙ h.invariant
