use Rattle.std.proofs.Common.{ℕ, ◌+◌, ◌-◌, ap, ◌∙◌, arith}
use Rattle.recording.specs.Lists.{after_runs}
use Rattle.recording.proofs.Laws.{after_runs_next, after_none}
use Rattle.recording.proofs.lists.after_runs.Goals as goal

pub loop-preserved : goal.loop-preserved
loop-preserved c =
    let h = c.loop in
    let a = c.args in
    ap (λ (k : ℕ). after_runs (a.runs - (h.counter + 1)) a.input.now k) c.run_at-next.ensures.2 ∙ after_runs_next a.input.now h.next a.runs h.counter (omega arith) ∙ h.invariant

pub returns : goal.returns
returns c = let h = c.loop in after_none c.args.runs h.counter c.args.input.now h.next (omega arith) ∙ h.invariant
