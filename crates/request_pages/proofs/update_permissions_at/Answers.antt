use native.Mathlib.Omega.{arith}
use Rattle.mapping.specs.Maps.{perms_lent}
use Rattle.request_pages.proofs.Runs as laws
use Rattle.request_pages.proofs.update_permissions_at.Goals as goal

pub overflow_sub-run : goal.overflow_sub-run
overflow_sub-run c = laws.run_some c.args.pages.now c.args.count c.args.at c.requires.0 c.requires.1 c.args.run c.requires.2

pub overflow_add-at : goal.overflow_add-at
overflow_add-at c =
    omega (arith, laws.run_inside c.args.pages.now c.args.count c.args.at c.requires.0 c.requires.1 c.args.run c.requires.2, c.ranges)

pub update_permission_bitmaps-requires : goal.update_permission_bitmaps-requires
update_permission_bitmaps-requires c =
    laws.run_above c.args.pages.now c.args.count c.args.at c.requires.0 c.requires.1 c.args.run _ c.requires.2 c.word_at-last.ensures

pub returns-clause-value : goal.returns-clause-value
returns-clause-value c =
    laws.flags_at_lem c.args.pages.now c.args.count c.args.at c.requires.0 c.requires.1 c.args.run _ c.requires.2 c.word_at-last.ensures c.args.flags
    (perms_lent c.args.maps.now) _ c.update_permission_bitmaps.ensures.value
