use Rattle.std.proofs.Common.{ℕ, ◌+◌, ◌-◌, ◌∙◌, ap, ◌%◌, ◌^◌, arith}
use Rattle.recording.specs.Lists.{Filling, filling, with_pages}
use Rattle.recording.proofs.Laws.{pages_next, no_pages}
use Rattle.recording.proofs.lists.put_run.Goals as goal

pub loop-preserved : goal.loop-preserved
loop-preserved c =
    let h = c.loop in
    let n : ℕ = c.args.count in
    ap (λ (f : Filling). with_pages (n - (h.counter + 1)) f ((h.page + 1) % 2 ^ 64)) c.put_page-next.ensures ∙ pages_next n h.counter (filling h.list h.next) h.page (omega arith) ∙ h.invariant

pub returns : goal.returns
returns c = let h = c.loop in no_pages c.args.count h.counter (filling h.list h.next) h.page (omega arith) ∙ h.invariant
