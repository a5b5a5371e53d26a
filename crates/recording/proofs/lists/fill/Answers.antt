use Rattle.std.proofs.Common.{ℕ, ◌+◌, ◌-◌, ap, ◌∙◌, arith}
use Rattle.recording.specs.Lists.{filling, after_runs}
use Rattle.recording.proofs.Laws.{runs_step, after_runs_next, no_runs, after_none}
use Rattle.recording.proofs.lists.fill.Goals as goal

pub loop-preserved : goal.loop-preserved
loop-preserved c =
    let h = c.loop in
    let a = c.args in
    let p = c.put_run-len in
    let r = c.run_at-run in
    (runs_step a.input.now h.next r.result r.ensures a.runs h.counter (filling h.list h.len) (filling p.new.list p.result) (omega arith) p.ensures ∙ h.invariant.0, ap (λ (k : ℕ). after_runs (a.runs - (h.counter + 1)) a.input.now k) r.ensures.2 ∙ after_runs_next a.input.now h.next a.runs h.counter (omega arith) ∙ h.invariant.1)

pub returns : goal.returns
returns c =
    let h = c.loop in
    let a = c.args in
    (no_runs a.runs h.counter a.input.now h.next (filling h.list h.len) (omega arith) ∙ h.invariant.0, after_none a.runs h.counter a.input.now h.next (omega arith) ∙ h.invariant.1)
