use Rattle.std.proofs.Common.{sym, refl, ◌∙◌, arith}
use Rattle.layout.specs.Layout.{entries_of}
use Rattle.registrar_steps.specs.Steps.{chunk_state}
use Rattle.registrar_steps.proofs.Laws as laws
use Rattle.registrar_steps.proofs.View.walk.Goals as goal

pub loop-c-init : goal.loop-c-init
loop-c-init c = refl

pub offer_of-offer-requires : goal.offer_of-offer-requires
offer_of-offer-requires c = c.requires c.loop-c.c c.loop-c-test.true

pub returns-then-not-is_end : goal.returns-then-not-is_end
returns-then-not-is_end c =
    let a = c.args in
    let v = a.self.now in
    let l = c.loop-c in
    let offer-of = c.offer_of-offer in
    laws.stop_hit (chunk_state v.granularity (entries_of v.ram.now) v.registered.now v.failed.now) l.c a.to offer-of.result offer-of.ensures c.loop-c-test.true (sym c.is_end.ensures ∙ c.if-not-is_end.true) ∙ l.invariant

pub loop-c-preserved : goal.loop-c-preserved
loop-c-preserved c =
    let a = c.args in
    let v = a.self.now in
    let l = c.loop-c in
    let offer-of = c.offer_of-offer in
    sym (laws.stop_miss (chunk_state v.granularity (entries_of v.ram.now) v.registered.now v.failed.now) l.c a.to offer-of.result offer-of.ensures c.loop-c-test.true (sym c.is_end.ensures ∙ c.if-not-is_end.false)) ∙ l.invariant

pub returns : goal.returns
returns c =
    let a = c.args in
    let v = a.self.now in
    let l = c.loop-c in
    c.stop_of.ensures ∙ laws.stop_end (chunk_state v.granularity (entries_of v.ram.now) v.registered.now v.failed.now) l.c a.to (omega arith) ∙ l.invariant
