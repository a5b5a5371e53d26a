-- What each answer leads a protection change, a default change and an overlay call to (01, "The request under way", its last paragraph; "Overlays and
-- locks"; 16, 20 and 21 of "From the state").
use Rattle.std.specs.Prelude.{ℕ, ◌+◌, ◌%◌, ◌^◌, Bool, true, false, cond, ◌&&◌, List, ◌==◌, nat_lt}
pub use Rattle.abi.specs.Codes.{operation_denied}
use Rattle.abi.specs.Flags as bits
use Rattle.abi.specs.Refusals as refusal
use Rattle.permissions.specs.declared.GuestVtl.{GuestVtl}
use Rattle.permissions.specs.declared.GuestVtl.TheVariants.{Vtl0}
use Rattle.permissions.specs.Flags.{flags_of}
use Rattle.page_list.specs.declared.PageRun.{PageRun}
use Rattle.page_list.specs.Runs.{run, run_at}
use Rattle.request_pages.specs.Request.{run_end}
use Rattle.visibility_steps.specs.declared.Operation.{Operation}
use Rattle.visibility_steps.specs.declared.Operation.TheVariants.{Wait, Protect, Flush, TlbWait}
use Rattle.visibility_steps.specs.declared.Answer.{Answer}
use Rattle.visibility_steps.specs.declared.Answer.TheVariants.{Done, Failed, Halted, Ask, Refused}
use Rattle.visibility_steps.specs.Steps.{is_vtl0}
use Rattle.change_steps.specs.declared.Stage.{Stage}
use Rattle.change_steps.specs.declared.Stage.TheVariants as at
use Rattle.change_steps.specs.declared.Entry.{Entry}
use Rattle.change_steps.specs.declared.Entry.TheVariants.{Keep, Add, Remove}
use Rattle.change_steps.specs.declared.Change.{Change}
use Rattle.change_steps.specs.declared.ChangeStep.{ChangeStep}

abbrev pub no_run : PageRun
no_run = run 0 0

abbrev pub no_change : Change
no_change = record { vtl = Vtl0; flush = Vtl0; n = 0; at = 0; flags = 0; previous = 0; source = 0; count = 0 }

-- the change with one operation more, at a place; a count of 64 bits
abbrev pub counted : Change → ℕ → Change
counted change a =
    record {
      vtl = change.vtl;
      flush = change.flush;
      n = change.n;
      at = a;
      flags = change.flags;
      previous = change.previous;
      source = change.source;
      count = (change.count + 1) % 2 ^ 64;
    }

abbrev pub step : Stage → Change → Answer → PageRun → Entry → ChangeStep
step stage change answer run entry = record { stage = stage; change = change; answer = answer; written = run; entry = entry }

-- a Protect; the permission maps of its pages are written before it where they are guest memory of VTL0, and tracked
abbrev pub written_by : Bool → Change → PageRun → PageRun
written_by tracked change run = cond (is_vtl0 change.vtl && (tracked && change.source == 0)) run no_run

unfoldable pub protect : Bool → Stage → Change → ℕ → PageRun → ChangeStep
protect tracked stage change a run = step stage (counted change a) (Ask (Protect change.vtl (flags_of change.flags) run)) (written_by tracked change run) Keep

-- an operation on no page; the entry of an overlay page is written before it
unfoldable pub ask : Stage → Change → Operation → Entry → ChangeStep
ask stage change operation entry = step stage (counted change change.at) (Ask operation) no_run entry

unfoldable pub wait : Change → Entry → ChangeStep
wait change entry = ask at.Wait change Wait entry

unfoldable pub finish : Answer → ChangeStep
finish answer = step at.Idle no_change answer no_run Keep

-- 20, and 21
unfoldable pub halt : Change → ChangeStep
halt change = step at.Halted change (Halted change.count) no_run Keep

unfoldable pub keep : Stage → Change → ChangeStep
keep stage change = step stage change (Refused refusal.nothing_asked) no_run Keep

-- change_vtl_protections, from the run at place a on
unfoldable pub protect_pages : Bool → Change → List ℕ → ℕ → ChangeStep
protect_pages tracked change pages a = cond (nat_lt a change.n) (protect tracked at.ProtectPages change a (run_at pages change.n a)) (wait change Keep)

-- change_default_vtl_protections, its next piece; the place is the page after it
unfoldable pub protect_ram : Bool → Change → PageRun → ChangeStep
protect_ram tracked change run = cond (run.count == 0) (wait change Keep) (protect tracked at.ProtectRam change (run.first + run.count) run)

-- the operation outstanding is done; `next` is the next piece of a default change
unfoldable pub done_of : Bool → Stage → Change → List ℕ → PageRun → ChangeStep
done_of tracked at.Idle change pages next = keep at.Idle change
done_of tracked at.Halted change pages next = keep at.Halted change
done_of tracked at.ProtectPages change pages next = protect_pages tracked change pages (run_end pages change.n change.at)
done_of tracked at.ProtectRam change pages next = protect_ram tracked change next
done_of tracked at.ProtectNew change pages next = wait change Add
done_of tracked at.ProtectOld change pages next = wait change Remove
done_of tracked at.Wait change pages next = ask at.Flush change (Flush change.flush) Keep
done_of tracked at.Flush change pages next = ask at.TlbWait change (TlbWait change.vtl) Keep
done_of tracked at.TlbWait change pages next = finish (Done change.count)

-- Wait, Flush and TlbWait: they follow each other, then the call ends; no map and no entry is written (law `flush_done` of `change_writes`)
abbrev pub is_flushing : Stage → Bool
is_flushing at.Idle = false
is_flushing at.Halted = false
is_flushing at.ProtectPages = false
is_flushing at.ProtectRam = false
is_flushing at.ProtectNew = false
is_flushing at.ProtectOld = false
is_flushing at.Wait = true
is_flushing at.Flush = true
is_flushing at.TlbWait = true

-- the stage that follows one of them, Idle at the end
abbrev pub flush_stage : Stage → Stage
flush_stage at.Idle = at.Idle
flush_stage at.Halted = at.Idle
flush_stage at.ProtectPages = at.Idle
flush_stage at.ProtectRam = at.Idle
flush_stage at.ProtectNew = at.Idle
flush_stage at.ProtectOld = at.Idle
flush_stage at.Wait = at.Flush
flush_stage at.Flush = at.TlbWait
flush_stage at.TlbWait = at.Idle

-- by the stage that follows, the change that is left and the answer; only Flush, TlbWait and Idle follow
abbrev pub flush_change : Stage → Change → Change
flush_change at.Idle change = no_change
flush_change at.Halted change = no_change
flush_change at.ProtectPages change = no_change
flush_change at.ProtectRam change = no_change
flush_change at.ProtectNew change = no_change
flush_change at.ProtectOld change = no_change
flush_change at.Wait change = no_change
flush_change at.Flush change = counted change change.at
flush_change at.TlbWait change = counted change change.at

abbrev pub flush_answer : Stage → Change → Answer
flush_answer at.Idle change = Done change.count
flush_answer at.Halted change = Done change.count
flush_answer at.ProtectPages change = Done change.count
flush_answer at.ProtectRam change = Done change.count
flush_answer at.ProtectNew change = Done change.count
flush_answer at.ProtectOld change = Done change.count
flush_answer at.Wait change = Done change.count
flush_answer at.Flush change = Ask (Flush change.flush)
flush_answer at.TlbWait change = Ask (TlbWait change.vtl)

-- the operation outstanding failed: an overlay call gives 16
unfoldable pub failed_of : Stage → Change → ChangeStep
failed_of at.Idle change = keep at.Idle change
failed_of at.Halted change = keep at.Halted change
failed_of at.ProtectPages change = halt change
failed_of at.ProtectRam change = halt change
failed_of at.ProtectNew change = finish (Failed operation_denied 0 change.count)
failed_of at.ProtectOld change = finish (Failed operation_denied 0 change.count)
failed_of at.Wait change = keep at.Wait change
failed_of at.Flush change = keep at.Flush change
failed_of at.TlbWait change = keep at.TlbWait change

-- ---- the calls that are taken

-- a protection change or a default change: VTL0 is flushed, whichever VTL it is for
abbrev pub change_of : GuestVtl → ℕ → ℕ → Change
change_of vtl flags n = record { vtl = vtl; flush = Vtl0; n = n; at = 0; flags = flags; previous = 0; source = 0; count = 0 }

-- an overlay call: its own VTL is flushed
abbrev pub overlay_of : GuestVtl → ℕ → ℕ → ℕ → ℕ → Change
overlay_of vtl gpn flags previous source = record { vtl = vtl; flush = vtl; n = 0; at = gpn; flags = flags; previous = previous; source = source; count = 0 }

-- of the first count pages of the table
abbrev pub start_pages : Bool → GuestVtl → ℕ → ℕ → List ℕ → ChangeStep
start_pages tracked vtl flags count pages = protect_pages tracked (change_of vtl flags count) pages 0

abbrev pub start_ram : Bool → GuestVtl → ℕ → PageRun → ChangeStep
start_ram tracked vtl flags first = protect_ram tracked (change_of vtl flags 0) first

-- a new overlay page: its new flags are asked for, where they are given (16 where none are); else its current ones stay and it is entered at once
unfoldable pub start_new : Bool → GuestVtl → ℕ → ℕ → ℕ → ℕ → ChangeStep
start_new tracked vtl gpn source current new =
    cond (nat_lt new bits.no_flags) (protect tracked at.ProtectNew (overlay_of vtl gpn new current source) gpn (run gpn 1))
    (wait (overlay_of vtl gpn current current source) Add)

-- an overlay page unregistered: its previous flags are asked for
unfoldable pub start_old : Bool → GuestVtl → ℕ → ℕ → ℕ → ChangeStep
start_old tracked vtl gpn previous source = protect tracked at.ProtectOld (overlay_of vtl gpn previous previous source) gpn (run gpn 1)
