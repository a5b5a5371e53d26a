use Rattle.std.proofs.Common.{sym, refl, ◌∙◌, arith}
use Rattle.layout.specs.Layout.{entries_of}
use Rattle.registrar_steps.specs.Steps.{chunk_state}
use Rattle.registrar_steps.proofs.Laws as laws
use Rattle.chunks.proofs.Laws as chunk-laws
use Rattle.registrar_steps.proofs.all_from.Goals as goal

pub loop-i-init : goal.loop-i-init
loop-i-init c = refl

pub returns-then-not-is_nothing : goal.returns-then-not-is_nothing
returns-then-not-is_nothing c =
    let a = c.args in
    let l = c.loop-i in
    let span-at = c.span_at-at in
    let look_at = c.look_at-look in
    laws.all_hit (chunk_state a.granularity (entries_of a.ram.now) a.registered.now a.failed.now) a.offset a.count a.alignment a.ignore a.chunk l.i span-at.result look_at.result (omega arith) span-at.ensures look_at.ensures c.act.result (sym c.is_nothing.ensures ∙ c.if-not-is_nothing.true) c.act.ensures ∙ l.invariant

pub loop-i-smaller : goal.loop-i-smaller
loop-i-smaller c =
    let entry-count = c.entry_count-n in
    let span-at = c.span_at-at in
    chunk-laws.span_less (entries_of c.args.ram.now) c.loop-i.i entry-count.result span-at.result (omega arith) entry-count.ensures span-at.ensures

pub loop-i-preserved : goal.loop-i-preserved
loop-i-preserved c =
    let a = c.args in
    let l = c.loop-i in
    let span-at = c.span_at-at in
    let look_at = c.look_at-look in
    sym (laws.all_miss (chunk_state a.granularity (entries_of a.ram.now) a.registered.now a.failed.now) a.offset a.count a.alignment a.ignore a.chunk l.i span-at.result look_at.result (omega arith) span-at.ensures look_at.ensures (sym c.is_nothing.ensures ∙ c.if-not-is_nothing.false)) ∙ l.invariant

pub returns : goal.returns
returns c =
    let a = c.args in
    let l = c.loop-i in
    c.end.ensures ∙ sym (laws.all_end (chunk_state a.granularity (entries_of a.ram.now) a.registered.now a.failed.now) a.offset a.count a.alignment a.ignore a.chunk l.i (omega arith)) ∙ l.invariant
