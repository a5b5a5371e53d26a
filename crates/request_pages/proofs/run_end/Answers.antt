use native.Mathlib.Omega.{arith}
use Rattle.request_pages.proofs.Runs.{end_max, end_of_lem}
use Rattle.request_pages.proofs.run_end.Goals as goal

pub overflow_add-result : goal.overflow_add-result
overflow_add-result c =
    let a = c.args in
    omega (arith, end_of_lem a.pages.now a.count a.at _ c.run_at-run.ensures, end_max a.pages.now a.count a.at)

pub returns : goal.returns
returns c = let a = c.args in end_of_lem a.pages.now a.count a.at _ c.run_at-run.ensures
