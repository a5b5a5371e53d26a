use native.Mathlib.Omega.{arith}
use mathlib.Core.Path.{◌≡◌, ap, ◌∙◌}
use Prim.Native.Nat.{ℕ, ◌+◌}
use mathlib.Core.List.{List}
use lib.ListN.{length, get_or, set}
use Rattle.permissions.specs.declared.DefaultVtlPermissions.{DefaultVtlPermissions}
use Rattle.permissions.specs.declared.GuestVtl.TheVariants.{Vtl0, Vtl1}
use Rattle.protector_state.specs.State.{default_word}
use Rattle.protector_state.proofs.Laws.{filled_to}
use Rattle.protector_state.proofs.Laws as laws
use Rattle.protector_state.proofs.build_state.Goals as goal

pub loop-i-init : goal.loop-i-init
loop-i-init c =
    let a = c.args in
    let first = c.new-first.ensures in
    let default0 = c.default_word.ensures ∙ ap (λ (d : DefaultVtlPermissions). default_word d Vtl0) first in
    let default1 = c.default_word-2.ensures ∙ ap (λ (d : DefaultVtlPermissions). default_word d Vtl1) first in
    laws.filled_none a.state.now _ a.ram.now a.isolation a.tracked a.release _ _ c.entry_count.result c.requires.0 c.clear.ensures default0 default1 c.entry_count.ensures

pub loop-i-preserved : goal.loop-i-preserved
loop-i-preserved c =
    let h = c.loop-i in
    let a = c.args in
    ap (λ (l : List ℕ). set l (32 + h.i) (get_or a.ram.now h.i 0)) h.invariant ∙ laws.filled_more a.ram.now a.isolation a.tracked a.release h.i (omega arith) (omega (arith, c.requires.1))

pub returns : goal.returns
returns c =
    let a = c.args in
    let last : c.loop-i.i ≡ length a.ram.now = omega arith in
    c.loop-i.invariant ∙ ap (filled_to a.ram.now a.isolation a.tracked a.release) last ∙ laws.filled_all a.ram.now a.isolation a.tracked a.release
