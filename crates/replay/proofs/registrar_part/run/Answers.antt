use Rattle.std.proofs.Common.{◌∙◌, ap₂, arith}
use Rattle.recording.specs.declared.decode.Read.{Read}
use Rattle.playback.specs.declared.registry.Registry.{Registry}
use Rattle.replay.specs.Lines.{registry_tally}
use Rattle.replay.proofs.Laws.{registry_next, registry_none}
use Rattle.replay.proofs.registrar_part.run.Goals as goal

pub loop-preserved : goal.loop-preserved
loop-preserved c =
    let h = c.loop in
    let v = c.line-next in
    registry_next c.args.input.now h.w h.next h.tally c.number-count.result.value h.counter v.new.w v.result v.new.tally (omega arith) v.ensures.0 v.ensures.1 v.ensures.2 ∙ h.invariant

pub returns : goal.returns
returns c =
    let h = c.loop in
    let a = c.args in
    registry_none a.input.now h.w h.next h.tally c.number-count.result.value h.counter (omega arith) ∙ h.invariant
    ∙ ap₂ (λ (k : Read) (w : Registry). registry_tally k.value a.input.now w k.next a.tally.now) c.number-count.ensures c.nothing-w.ensures
