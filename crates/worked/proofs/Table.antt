-- The table, its families put together. Assumes nothing.
use mathlib.Core.Path.{refl}
use Rattle.permissions.specs.Rmpadjust.{operand_of}
use Rattle.change_claims.proofs.Table.{changes}
use Rattle.change_claims.proofs.Examples.{full}
use Rattle.visibility_claims.proofs.Table.{visibility}
use Rattle.worked.specs.Table.{Worked}
use Rattle.worked.proofs.Builds.{builds}
use Rattle.worked.proofs.Faults.{faults, permissions}
use Rattle.worked.proofs.Lists.{lists}
use Rattle.worked.proofs.Shares.{operations, moves, stops, calls, failures}
use Rattle.worked.proofs.Changes.{protections, default_changes}
use Rattle.worked.proofs.Overlays.{new_overlays, known_overlays}
use Rattle.worked.proofs.Past.{past_faults, past_permissions, past_lists}
use Rattle.worked.proofs.Bars.{bars, locks, queries, turns}
use Rattle.worked.proofs.Limits.{overlay_limit, first_overlays, last_overlays, lock_limits, page_limits}
use Rattle.worked.proofs.Registrar.{registrar_builds, registers, all_aligned}

pub worked : Worked
unfolding operand_of
worked =
    record {
      builds = builds;
      calls = calls;
      p2_to_p5 = visibility;
      p7_vtl0 = refl;
      p7_vtl1 = refl;
      set_vtl0 = refl;
      set_vtl1 = refl;
      registrar_builds = registrar_builds;
      registers = registers;
      all_aligned = all_aligned;
      faults = faults;
      permissions = permissions;
      past_faults = past_faults;
      past_permissions = past_permissions;
      past_lists = past_lists;
      lists = lists;
      operations = operations;
      moves = moves;
      stops = stops;
      failures = failures;
      protections = protections;
      default_changes = default_changes;
      new_overlays = new_overlays;
      known_overlays = known_overlays;
      bars = bars;
      locks = locks;
      queries = queries;
      turns = turns;
      overlay_limit = overlay_limit;
      first_overlays = first_overlays;
      last_overlays = last_overlays;
      lock_limits = lock_limits;
      page_limits = page_limits;
      other_changes = changes;
      limits = full;
    }
