use Rattle.std.proofs.Common.{◌≡◌, ℕ, ◌+◌, List, drop, ap, ◌∙◌, arith}
use Rattle.recording.proofs.Laws.{digits_end, digits_stop, digits_next}
use Rattle.recording.specs.Decode.{digits_from}
use Rattle.recording.proofs.decode.number.Goals as goal

pub returns-in_default : goal.returns-in_default
returns-in_default c =
    digits_stop c.args.input.now c.loop-i.value c.loop-i.i (omega arith) c.in_default.ensures ∙ c.loop-i.invariant.1

pub loop-i-preserved : goal.loop-i-preserved
loop-i-preserved c =
    let s : List ℕ = c.args.input.now in
    let i : ℕ = c.loop-i.i in (
      omega arith,
      ap (λ (v : ℕ). digits_from (drop (i + 1) s) v (i + 1)) c.with_digit-value.ensures
          ∙ digits_next s c.loop-i.value i c.in-Some.d (omega arith) c.in-Some.ensures ∙ c.loop-i.invariant.1,
    )

pub returns : goal.returns
returns c =
    let e : c.max.result ≡ c.loop-i.i = omega (arith, c.max.ensures, c.loop-i.invariant.0, c.loop-i.auto.i) in rw e (digits_end c.args.input.now c.loop-i.value c.loop-i.i (omega arith) ∙ c.loop-i.invariant.1)
