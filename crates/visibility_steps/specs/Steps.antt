-- What each answer leads a visibility change to (01, "The request under way", its two bullets, and 15, 16, 20 and 21 of "From the state").
use Rattle.std.specs.Prelude.{ℕ, ◌+◌, ◌%◌, ◌^◌, Bool, true, false, cond, ◌&&◌, List, nat_le, nat_lt, slice_index, Option, Some, None}
use Rattle.abi.specs.Refusals as refusal
use Rattle.abi.specs.Lengths.{places_start}
use Rattle.permissions.specs.declared.GuestVtl.{GuestVtl}
use Rattle.permissions.specs.declared.GuestVtl.TheVariants.{Vtl0, Vtl1}
use Rattle.permissions.specs.declared.IsolationType.{IsolationType}
use Rattle.permissions.specs.declared.IsolationType.TheVariants.{Snp, Tdx, Cca}
use Rattle.permissions.specs.declared.HvMapGpaFlags.{HvMapGpaFlags}
pub use Rattle.permissions.specs.Flags.{is_vtl0}
use Rattle.permissions.specs.Flags.{no_flags}
use Rattle.page_list.specs.declared.PageRun.{PageRun}
use Rattle.page_list.specs.Runs.{run_at}
use Rattle.request_pages.specs.Request.{run_end}
use Rattle.visibility_steps.specs.declared.Phase.{Phase}
use Rattle.visibility_steps.specs.declared.Phase.TheVariants as at
use Rattle.visibility_steps.specs.declared.Operation.{Operation}
use Rattle.visibility_steps.specs.declared.Operation.TheVariants.{Wait, FlushAll, Protect, Invalidate, Release, Modify, Accept, Zero}
use Rattle.visibility_steps.specs.declared.Answer.{Answer}
use Rattle.visibility_steps.specs.declared.Answer.TheVariants.{Done, AccessDenied, Failed, Halted, Ask, Refused}
use Rattle.visibility_steps.specs.declared.Settings.{Settings}
use Rattle.visibility_steps.specs.declared.Request.{Request}
use Rattle.visibility_steps.specs.declared.Places.{Places}
use Rattle.visibility_steps.specs.declared.Writes.{Writes}
use Rattle.visibility_steps.specs.declared.Step.{Step}

abbrev pub is_snp : IsolationType → Bool
is_snp Snp = true
is_snp Tdx = false
is_snp Cca = false

abbrev pub is_cca : IsolationType → Bool
is_cca Snp = false
is_cca Tdx = false
is_cca Cca = true

-- whether shared pages are released: by the flag, and only on TDX
abbrev pub releases : IsolationType → Bool → Bool
releases Snp flag = false
releases Tdx flag = flag
releases Cca flag = false

-- the places of the request's table whose marks and permissions a step writes, and what it writes there
abbrev pub places : ℕ → ℕ → Places
places from to = record { from = from; to = to }

abbrev pub writes : Bool → Places → Places → Places → HvMapGpaFlags → Writes
writes state private shared permissions flags = record { state = state; private = private; shared = shared; permissions = permissions; flags = flags }

abbrev pub no_writes : Writes
no_writes = writes true (places 0 0) (places 0 0) (places 0 0) no_flags

abbrev pub set_private : Writes → ℕ → Writes
set_private old count = writes old.state (places 0 count) old.shared old.permissions old.flags

abbrev pub set_shared : Writes → ℕ → ℕ → Writes
set_shared old from to = writes old.state old.private (places from to) old.permissions old.flags

abbrev pub set_permissions : Writes → ℕ → ℕ → HvMapGpaFlags → Writes
set_permissions old from to flags = writes old.state old.private old.shared (places from to) flags

abbrev pub step : Phase → Request → Answer → Writes → Step
step phase request answer writes = record { phase = phase; request = request; answer = answer; writes = writes }

abbrev pub or_none : Option HvMapGpaFlags → HvMapGpaFlags
or_none (Some flags) = flags
or_none None = no_flags

-- the run that the request is at
abbrev pub run_of : Request → List ℕ → PageRun
run_of request pages = run_at pages request.n request.at

-- the operation of a phase, on the run that it is at
abbrev pub operation_on : Settings → Phase → Request → PageRun → Operation
operation_on settings at.Idle request run = Wait
operation_on settings at.Halted request run = Wait
operation_on settings at.Wait request run = Wait
operation_on settings at.FlushAll request run = FlushAll
operation_on settings at.ProtectNone0 request run = Protect Vtl0 no_flags run
operation_on settings at.ProtectNone1 request run = Protect Vtl1 no_flags run
operation_on settings at.Invalidate request run = Invalidate run
operation_on settings at.Release request run = Release run
operation_on settings at.Modify request run = Modify request.share request.n
operation_on settings at.Accept request run = Accept run
operation_on settings at.Zero request run = Zero run
operation_on settings at.ProtectDefault0 request run = Protect Vtl0 settings.defaults.vtl0 run
operation_on settings at.ProtectDefault1 request run = Protect Vtl1 (or_none settings.defaults.vtl1) run

unfoldable pub operation_of : Settings → Phase → Request → List ℕ → Operation
operation_of settings phase request pages = operation_on settings phase request (run_of request pages)

-- the request with one operation more, at a place; a count of 64 bits
abbrev pub counted : Request → ℕ → Request
counted request a =
    record {
      share = request.share;
      vtl = request.vtl;
      n = request.n;
      at = a;
      stopped = request.stopped;
      failed = request.failed;
      index = request.index;
      code = request.code;
      count = (request.count + 1) % 2 ^ 64;
    }

unfoldable pub ask : Settings → Phase → Request → List ℕ → ℕ → Writes → Step
ask settings phase request pages a writes = step phase (counted request a) (Ask (operation_of settings phase (counted request a) pages)) writes

abbrev pub no_request : Request
no_request =
    record {
      share = false;
      vtl = Vtl0;
      n = 0;
      at = 0;
      stopped = false;
      failed = false;
      index = 0;
      code = 0;
      count = 0;
    }

-- 15 at its index, 16 at its index with its code, else Ok; each with the number of operations
abbrev pub finished : Request → Answer
finished request =
    cond request.stopped (AccessDenied request.index request.count)
    (cond request.failed (Failed request.code request.index request.count)
    (Done request.count))

abbrev pub finish : Answer → Writes → Step
finish answer writes = step at.Idle no_request answer writes

unfoldable pub end : Request → Writes → Step
end request writes = finish (finished request) writes

-- 20
unfoldable pub halt : Request → Step
halt request = step at.Halted request (Halted request.count) no_writes

-- 21
unfoldable pub keep : Phase → Request → Step
keep phase request = step phase request (Refused refusal.nothing_asked) no_writes

-- To shared, from the run at place a on: its operations, or Modify where no run is left or asks for any
unfoldable pub share_run : Settings → Request → List ℕ → ℕ → Step
share_run settings request pages a =
    cond (nat_lt a request.n && is_snp settings.isolation) (ask settings at.ProtectNone0 request pages a no_writes)
    (cond (nat_lt a request.n && releases settings.isolation settings.release) (ask settings at.Release request pages a no_writes)
    (ask settings at.Modify request pages 0 no_writes))

-- To private, the default permissions from the run at place a on, in the maps before they are asked for; then the end
unfoldable pub default_run : Settings → Request → List ℕ → ℕ → Writes → Step
default_run settings request pages a writes =
    cond (nat_lt a request.n)
    (ask settings at.ProtectDefault0 request pages a (set_permissions writes a (cond settings.tracked (run_end pages request.n a) a) settings.defaults.vtl0))
    (end request writes)

-- To private, acceptance from the run at place a on; then the private marks of all
unfoldable pub return_run : Settings → Request → List ℕ → ℕ → Writes → Step
return_run settings request pages a writes =
    cond (nat_lt a request.n)
    (cond (is_cca settings.isolation) (default_run settings request pages 0 (set_private writes request.n)) (ask settings at.Accept request pages a writes))
    (default_run settings request pages 0 (set_private writes request.n))

unfoldable pub after_flush : Settings → Request → List ℕ → Step
after_flush settings request pages = cond request.share (share_run settings request pages 0) (ask settings at.Modify request pages 0 no_writes)

unfoldable pub after_wait : Settings → Request → List ℕ → Step
after_wait settings request pages = cond (is_snp settings.isolation) (ask settings at.FlushAll request pages 0 no_writes) (after_flush settings request pages)

unfoldable pub after_modify : Settings → Request → List ℕ → Step
after_modify settings request pages = cond request.share (end request (set_shared no_writes 0 request.n)) (return_run settings request pages 0 no_writes)

unfoldable pub after_accept : Settings → Request → List ℕ → Step
after_accept settings request pages =
    cond (is_snp settings.isolation) (ask settings at.Zero request pages request.at no_writes) (return_run settings request pages (run_end pages request.n request.at) no_writes)

abbrev pub after_default0 : Option HvMapGpaFlags → Settings → Request → List ℕ → Step
after_default0 (Some flags) settings request pages = ask settings at.ProtectDefault1 request pages request.at no_writes
after_default0 None settings request pages = default_run settings request pages (run_end pages request.n request.at) no_writes

-- a failed Modify: of a return with k pages processed, fewer than asked for, the others are marked shared again
abbrev pub cut_at : Request → ℕ → ℕ → ℕ → Request
cut_at request processed code index =
    record {
      share = request.share;
      vtl = request.vtl;
      n = processed;
      at = request.at;
      stopped = request.stopped;
      failed = true;
      index = index;
      code = code;
      count = request.count;
    }

unfoldable pub failed_modify : Settings → Request → List ℕ → ℕ → ℕ → Step
failed_modify settings request pages code processed =
    cond request.share (halt request)
    (cond (nat_le request.n processed) (halt request)
    (return_run settings (cut_at request processed code (slice_index pages (places_start + processed))) pages 0 (set_shared no_writes processed request.n)))

-- the operation outstanding is done
unfoldable pub done_of : Settings → Phase → Request → List ℕ → Step
done_of settings at.Idle request pages = keep at.Idle request
done_of settings at.Halted request pages = keep at.Halted request
done_of settings at.Wait request pages = after_wait settings request pages
done_of settings at.FlushAll request pages = after_flush settings request pages
done_of settings at.ProtectNone0 request pages = ask settings at.ProtectNone1 request pages request.at no_writes
done_of settings at.ProtectNone1 request pages = ask settings at.Invalidate request pages request.at no_writes
done_of settings at.Invalidate request pages = share_run settings request pages (run_end pages request.n request.at)
done_of settings at.Release request pages = share_run settings request pages (run_end pages request.n request.at)
done_of settings at.Modify request pages = after_modify settings request pages
done_of settings at.Accept request pages = after_accept settings request pages
done_of settings at.Zero request pages = return_run settings request pages (run_end pages request.n request.at) no_writes
done_of settings at.ProtectDefault0 request pages = after_default0 settings.defaults.vtl1 settings request pages
done_of settings at.ProtectDefault1 request pages = default_run settings request pages (run_end pages request.n request.at) no_writes

-- the operation outstanding failed
unfoldable pub failed_of : Settings → Phase → Request → List ℕ → ℕ → ℕ → Step
failed_of settings at.Idle request pages code processed = keep at.Idle request
failed_of settings at.Halted request pages code processed = keep at.Halted request
failed_of settings at.Wait request pages code processed = keep at.Wait request
failed_of settings at.FlushAll request pages code processed = keep at.FlushAll request
failed_of settings at.ProtectNone0 request pages code processed = halt request
failed_of settings at.ProtectNone1 request pages code processed = halt request
failed_of settings at.Invalidate request pages code processed = halt request
failed_of settings at.Release request pages code processed = halt request
failed_of settings at.Modify request pages code processed = failed_modify settings request pages code processed
failed_of settings at.Accept request pages code processed = halt request
failed_of settings at.Zero request pages code processed = halt request
failed_of settings at.ProtectDefault0 request pages code processed = halt request
failed_of settings at.ProtectDefault1 request pages code processed = halt request

-- a call that is taken: n pages are asked for, of a list that stops before its end or not
abbrev pub asked : GuestVtl → Bool → ℕ → ℕ → Bool → Request
asked vtl share n stop stopped =
    record {
      share = share;
      vtl = vtl;
      n = n;
      at = 0;
      stopped = stopped;
      failed = false;
      index = stop;
      code = 0;
      count = 1;
    }

-- what it clears at once
unfoldable pub cleared : Bool → GuestVtl → Bool → ℕ → Writes
cleared tracked vtl share count =
    cond share (writes false (places 0 count) (places 0 0) (places 0 (cond (is_vtl0 vtl && tracked) count 0)) no_flags)
    (writes false (places 0 0) (places 0 count) (places 0 0) no_flags)

unfoldable pub start_of : Settings → GuestVtl → Bool → ℕ → ℕ → Bool → Step
start_of settings vtl share count stop stopped = step at.Wait (asked vtl share count stop stopped) (Ask Wait) (cleared settings.tracked vtl share count)
