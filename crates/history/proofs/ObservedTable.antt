-- What is seen of P2 and P3, reply by reply, computed. Assumes nothing.
use mathlib.Core.Path.{refl, ap}
use Rattle.permissions.specs.declared.IsolationType.TheVariants.{Snp}
use Rattle.page_list.specs.Pages.{among}
use Rattle.protector_state.specs.Reply.{asked_of}
use Rattle.visibility_claims.specs.Calls.{replies}
use Rattle.visibility_claims.proofs.Table.{visibility}
use Rattle.history.specs.ObservedTable.{done, ObservedTable}

pub observed_table : ObservedTable
unfolding among asked_of replies done
observed_table =
    record {
      sharing_asks = ap (replies Snp) visibility.p2_asked;
      sharing_waits = refl;
      sharing_last = refl;
      sharing_listed = refl;
      untaken_length = refl;
      untaken_unasked = refl;
      shared_waits = refl;
      shared_last = refl;
      shared_other = refl;
      shared_listed = refl;
      shared_age = refl;
      returning_waits = refl;
      returning_last = refl;
      returning_listed = refl;
      returned_first = refl;
      returned_second = refl;
      returned_age = refl;
      returned_unsettled = refl;
      validated_age = refl;
      validated_unsettled = refl;
      cleared_age = refl;
      cleared_settled = refl;
      cleared_other = refl;
      ended_listed = refl;
      ended_waits = refl;
      unordered_unsettled = refl;
      again_last = refl;
      again_age = refl;
      halted_halted = refl;
      halted_waits = refl;
      halted_listed = refl;
      halted_last = refl;
      late_untaken = refl;
      late_listed = refl;
      returned_halted_last = refl;
      returned_halted_age = refl;
      returned_halted_listed = refl;
      shared_halted_first = refl;
      shared_halted_second = refl;
    }
