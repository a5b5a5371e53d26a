use Rattle.std.proofs.Common.{◌≡◌, ℕ, ◌+◌, List, length, get_or, set, ap, ◌∙◌, arith}
use Rattle.abi.specs.RegistrarPlaces as place
use Rattle.registrar.proofs.Laws.{filled_to}
use Rattle.registrar.proofs.Laws as laws
use Rattle.registrar.proofs.build_state.Goals as goal

pub loop-i-init : goal.loop-i-init
loop-i-init c =
    let a = c.args in
    let n = c.entry_count in
    let q = ap (λ (l : List ℕ). set (set (set l place.offset a.offset) place.granularity a.granularity) place.entries n.result) c.clear.ensures in
    q ∙ laws.filled_none a.state.now a.ram.now a.offset a.granularity n.result c.requires.0 n.ensures

pub loop-i-preserved : goal.loop-i-preserved
loop-i-preserved c =
    let h = c.loop-i in
    let a = c.args in
    ap (λ (l : List ℕ). set l (place.ram + h.i) (get_or a.ram.now h.i 0)) h.invariant ∙ laws.filled_more a.ram.now a.offset a.granularity h.i (omega arith) (omega (arith, c.requires.1))

pub returns : goal.returns
returns c =
    let a = c.args in
    let last : c.loop-i.i ≡ length a.ram.now = omega arith in
    c.loop-i.invariant ∙ ap (filled_to a.ram.now a.offset a.granularity) last ∙ laws.filled_all a.ram.now a.offset a.granularity
