use native.Mathlib.Omega.{arith}
use Rattle.layout.specs.Layout.{entries_of}
use Rattle.page_list.specs.Runs.{part}
use Rattle.default_change.specs.Barred.{barring, any_of}
use Rattle.default_change.proofs.Locked as laws
use Rattle.default_change.proofs.is_any_barring.Goals as goal

pub returns-then-is_barring : goal.returns-then-is_barring
returns-then-is_barring c =
    let a = c.args in
    let h = c.loop-i in
    let least = c.min-end.ensures in
    laws.any_hit (barring a.private.now a.overlays.now (entries_of a.ram.now)) a.locks.now h.i a.to c.word_at.result (omega arith)
    (omega arith) c.word_at.ensures (any_of (barring a.private.now a.overlays.now (entries_of a.ram.now)) (part a.locks.now a.to a.from))
    h.invariant c.is_barring.result c.is_barring.ensures c.if-is_barring.true

pub loop-i-preserved : goal.loop-i-preserved
loop-i-preserved c =
    let a = c.args in
    let h = c.loop-i in
    let least = c.min-end.ensures in
    laws.any_miss (barring a.private.now a.overlays.now (entries_of a.ram.now)) a.locks.now h.i a.to c.word_at.result (omega arith)
    (omega arith) c.word_at.ensures (any_of (barring a.private.now a.overlays.now (entries_of a.ram.now)) (part a.locks.now a.to a.from))
    h.invariant c.is_barring.result c.is_barring.ensures c.if-is_barring.false

pub returns : goal.returns
returns c =
    let a = c.args in
    let h = c.loop-i in
    laws.any_end (barring a.private.now a.overlays.now (entries_of a.ram.now)) a.locks.now h.i a.to (omega (arith, c.min-end.ensures))
    (any_of (barring a.private.now a.overlays.now (entries_of a.ram.now)) (part a.locks.now a.to a.from)) h.invariant
