use native.Mathlib.Omega.{arith}
use mathlib.Core.Path.{sym, ◌∙◌}
use Rattle.abi.specs.Lengths.{word_bits}
use Rattle.bitmap.specs.Pages.{bit_at}
use Rattle.chunks.proofs.Scan as scan
use Rattle.chunks.proofs.first_clear.Goals as goal

pub returns-then-n-eq0 : goal.returns-then-n-eq0
returns-then-n-eq0 c =
    sym (scan.first_stop (bit_at word_bits c.args.map.now) c.loop-c.c c.args.to (omega arith) (c.set_here-n.ensures.stops c.if-n-eq0.true)) ∙ c.loop-c.invariant

pub loop-c-preserved : goal.loop-c-preserved
loop-c-preserved c =
    let here = c.set_here-n in
    sym (scan.first_skip (bit_at word_bits c.args.map.now) here.result c.loop-c.c c.args.to here.ensures.within here.ensures.holds) ∙ c.loop-c.invariant

pub returns : goal.returns
returns c = sym (scan.first_end (bit_at word_bits c.args.map.now) c.loop-c.c c.args.to (omega arith)) ∙ c.loop-c.invariant
