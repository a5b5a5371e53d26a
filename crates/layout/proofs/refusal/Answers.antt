use native.Mathlib.Omega.{arith}
use mathlib.Core.Path.{sym, ◌∙◌}
use Rattle.layout.proofs.Laws as laws
use Rattle.layout.proofs.refusal.Goals as goal

pub returns-then-ram-ne0 : goal.returns-then-ram-ne0
returns-then-ram-ne0 c = laws.refused_ragged c.args.ram.now c.if-ram-ne0.true

pub returns-then-n-eq0 : goal.returns-then-n-eq0
returns-then-n-eq0 c = laws.refused_none c.args.ram.now c.if-ram-ne0.false (sym c.entry_count-n.ensures ∙ c.if-n-eq0.true)

pub returns-then-n-gt-RAM_ENTRIES : goal.returns-then-n-gt-RAM_ENTRIES
returns-then-n-gt-RAM_ENTRIES c = laws.refused_many c.args.ram.now c.if-ram-ne0.false (λ e. c.if-n-eq0.false (c.entry_count-n.ensures ∙ e)) (omega arith)

pub returns : goal.returns
returns c =
    let n = c.entry_count-n in
    let taken = laws.refused_entries c.args.ram.now c.if-ram-ne0.false (λ e. c.if-n-eq0.false (n.ensures ∙ e)) (omega arith) in
    c.entries_refusal.ensures ∙ rw (c.is_aligned.ensures, c.is_ordered.ensures) taken
