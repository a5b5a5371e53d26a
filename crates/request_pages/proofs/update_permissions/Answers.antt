use borrow.Author.Rules.{rules}
use native.Mathlib.Omega.{arith}
use mathlib.Core.Path.{sym, ◌∙◌}
use Prim.Native.Nat.{◌<◌}
use Rattle.mapping.specs.Maps.{perms_lent}
use Rattle.request_pages.proofs.Runs as laws
use Rattle.request_pages.proofs.update_permissions.Goals as goal

pub overflow_sub-end : goal.overflow_sub-end
overflow_sub-end c =
    let a = c.args in
    let h = c.loop-i in
    let before-to : h.i < a.to = omega (arith, c.min-stop.ensures) in
    omega (arith, c.run_end-end.ensures, laws.end_after a.pages.now a.to h.i before-to)

pub update_permission_bitmaps-requires : goal.update_permission_bitmaps-requires
update_permission_bitmaps-requires c =
    let a = c.args in
    let h = c.loop-i in
    let stop = c.min-stop.ensures in
    laws.last_above a.pages.now a.to h.i _ _ _ (omega arith) (omega arith) c.run_end-end.ensures c.word_at-first.ensures c.word_at-last.ensures

pub loop-i-smaller : goal.loop-i-smaller
loop-i-smaller c =
    let a = c.args in
    let h = c.loop-i in
    let before-to : h.i < a.to = omega (arith, c.min-stop.ensures) in
    omega (arith, c.run_end-end.ensures, laws.end_after a.pages.now a.to h.i before-to)

pub loop-i-preserved : goal.loop-i-preserved
loop-i-preserved c =
    let a = c.args in
    let h = c.loop-i in (
      search rules,
      laws.flags_run a.pages.now a.to h.i _ _ _ (omega arith) (omega arith) c.run_end-end.ensures c.word_at-first.ensures c.word_at-last.ensures a.flags
          (perms_lent h.maps) _ c.update_permission_bitmaps.ensures.value ∙ h.invariant.1,
    )

pub returns-clause-value : goal.returns-clause-value
returns-clause-value c =
    let a = c.args in
    let h = c.loop-i in
    sym (laws.flags_past a.pages.now a.to h.i a.flags (perms_lent h.maps) (omega (arith, c.min-stop.ensures, c.loop-i-test.false))) ∙ h.invariant.1
