use native.Mathlib.Omega.{arith}
use mathlib.Core.Path.{refl, sym}
use Rattle.overlay_table.proofs.Laws as laws
use Rattle.overlay_table.proofs.find_few.Goals as goal

pub returns-in_err-index : goal.returns-in_err-index
returns-in_err-index c =
    let a = c.args in
    rw c.from_residual.ensures (sym (laws.few_none a.table.now a.place a.key a.few _ _ c.requires.0 c.load-entries.ensures c.in_err-index.ensures refl))

pub overflow_mul-result : goal.overflow_mul-result
overflow_mul-result c =
    let a = c.args in
    record { fits = omega (arith, laws.few_fits a.table.now a.place a.key a.few _ _ c.requires.0 c.load-entries.ensures c.in_ok-index.ensures _ refl) }

pub overflow_add-result : goal.overflow_add-result
overflow_add-result c =
    let a = c.args in
    record { fits = omega (arith, laws.few_fits a.table.now a.place a.key a.few _ _ c.requires.0 c.load-entries.ensures c.in_ok-index.ensures _ refl) }

pub returns : goal.returns
returns c =
    let a = c.args in (
      laws.few_at a.table.now a.place a.key a.few _ _ c.requires.0 c.load-entries.ensures c.in_ok-index.ensures _ refl,
      omega arith,
    )
