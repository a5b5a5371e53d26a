-- All that is claimed of a registrar, from any build that is taken on. Assumes nothing.
use mathlib.Core.Path.{◌≡◌}
use mathlib.Core.Bool.{false}
use mathlib.Core.List.{List}
use Prim.Native.Nat.{ℕ}
use borrow.Author.Tests.{eq-eqb}
use Rattle.registrar_state.specs.Buffers.{Buffers, build_refusal, build_of}
use Rattle.registrar_claims.specs.Runs.{under_way, after, awaits_after, built_with, settings_after}
use Rattle.registrar_claims.specs.Entries.{Unasked}
use Rattle.registrar_claims.specs.Claims.{FromBuild}
use Rattle.registrar_claims.proofs.Refusals.{refusals_keep, marks_stay}
use Rattle.registrar_claims.proofs.Counts.{register_counts_operations, all_counts_operations}
use Rattle.registrar_claims.proofs.Built.{sound_from, register_always_whole, all_always_whole, registered_always_kept, chunks_always_plain, asked_always_plain}
use Rattle.registrar_claims.proofs.Stands.{built_has, has_after, quiet_stays, awaits_after_lem, stands}
use Rattle.registrar_claims.proofs.Ends.{every_request_ends}

built_idle : (w : Buffers) (ram : List ℕ) (o g : ℕ) → build_refusal w ram o g ≡ 0 → under_way (build_of w ram o g).buffers ≡ false
unfolding build_of
built_idle w ram o g z = rw (eq-eqb (build_refusal w ram o g) 0 z)

unasked : Unasked
unasked = record { build = λ κs a. tt; register = λ κs a. tt; register_all_lem = λ κs a. tt; done = λ κs a. tt; failed = λ κs a. tt }

-- THE CLAIM
pub from_build : (w : Buffers) (ram : List ℕ) (o g : ℕ) → build_refusal w ram o g ≡ 0 → FromBuild w ram o g
from_build w ram o g z =
    let u : Buffers = (build_of w ram o g).buffers in
    record {
      unasked = unasked;
      always =
          λ xs.
          record {
            stands =
                stands (after u xs) (settings_after u (built_with ram o g) xs) (awaits_after u false xs) (sound_from w ram o g z xs) (has_after xs u (built_with ram o g) (built_has w ram o g z))
                (awaits_after_lem xs u false (built_idle w ram o g z));
            register_whole_lem = register_always_whole w ram o g z xs;
            all_whole = all_always_whole w ram o g z xs;
            registered_kept = registered_always_kept w ram o g z xs;
            chunks_plain = chunks_always_plain w ram o g z xs;
            asked_plain = asked_always_plain w ram o g z xs;
            refusals_keep = refusals_keep (after u xs);
            marks_stay = marks_stay (after u xs);
            register_counts = register_counts_operations (after u xs);
            all_counts = all_counts_operations (after u xs);
            ends = every_request_ends w ram o g z xs;
          };
      stay = λ xs q. quiet_stays xs u (built_with ram o g) q;
    }
