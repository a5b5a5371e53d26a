use borrow.Author.Rules.{rules}
use native.Mathlib.Omega.{arith}
use mathlib.Core.Path.{refl, ◌∙◌}
use mathlib.Core.Bool.{true}
use Rattle.abi.specs.Lengths.{word_bits}
use Rattle.chunks.proofs.Laws as laws
use Rattle.bitmap.proofs.Steps.{run_none, run_end_lem}
use Rattle.chunks.proofs.set_chunks.Goals as goal

pub loop-c-init : goal.loop-c-init
loop-c-init c = let a = c.args in (omega arith, omega arith, refl, run_none word_bits true a.map.now a.from)

pub loop-c-preserved : goal.loop-c-preserved
loop-c-preserved c =
    let a = c.args in
    let h = c.loop-c in
    let s = c.set_some-c in (
      omega (arith, s.ensures.0),
      omega (arith, s.ensures.1),
      search rules,
      laws.set_more a.map.now a.from h.c s.result h.map _ h.invariant.0 (omega (arith, s.ensures.0)) h.invariant.3 s.ensures.2,
    )

pub returns : goal.returns
returns c =
    let a = c.args in
    let h = c.loop-c in
    h.invariant.3 ∙ run_end_lem word_bits true a.map.now a.from c.stop_at-stop.result h.c (omega arith) h.invariant.1
    ∙ laws.set_stop a.map.now a.from a.to _ c.stop_at-stop.ensures
