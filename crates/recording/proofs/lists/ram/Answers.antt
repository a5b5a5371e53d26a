use Rattle.std.proofs.Common.{◌∙◌, refl, arith}
use Rattle.recording.proofs.Laws.{entries_step, entries_end}
use Rattle.recording.proofs.lists.ram.Goals as goal

pub loop-i-preserved : goal.loop-i-preserved
loop-i-preserved c =
    let h = c.loop-i in
    let a = c.args in
    let p = c.put_entry in
    entries_step a.input.now h.next c.run_at-entry.result c.run_at-entry.ensures a.runs h.i h.run p.new.ram (omega arith) p.ensures ∙ h.invariant

pub returns : goal.returns
returns c =
    let h = c.loop-i in let a = c.args in (entries_end a.input.now h.next a.runs h.i h.run (omega arith) ∙ h.invariant, refl)
