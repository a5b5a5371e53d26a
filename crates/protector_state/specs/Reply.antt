-- What crosses for each answer: 01's number, and the values of an answer or of the operation asked for (01, "From the state", "Defaults"). The numbers
-- of the operations are the port's choice.
use Rattle.std.specs.Prelude.{Bool, cond, ℕ}
use Rattle.abi.specs.Operations as operation
use Rattle.abi.specs.Refusals as refusal
use Rattle.laws.specs.Bools.{digit}
use Rattle.permissions.specs.declared.GuestVtl.{GuestVtl}
use Rattle.permissions.specs.declared.IsolationType.{IsolationType}
use Rattle.permissions.specs.declared.HvMapGpaFlags.{HvMapGpaFlags}
use Rattle.permissions.specs.Flags.{vtl_number, bits_of}
use Rattle.permissions.specs.Rmpadjust.{operand_of}
use Rattle.permissions.specs.HvError.{code_of}
use Rattle.page_list.specs.declared.PageRun.{PageRun}
use Rattle.visibility_steps.specs.declared.Operation.{Operation}
use Rattle.visibility_steps.specs.declared.Operation.TheVariants.{Wait, FlushAll, Protect, Invalidate, Release, Modify, Accept, Zero, Flush, TlbWait}
use Rattle.visibility_steps.specs.declared.Answer.{Answer}
use Rattle.visibility_steps.specs.declared.Answer.TheVariants.{Done, AccessDenied, Failed, Halted, Ask, Refused}
use Rattle.visibility_steps.specs.declared.Request.{Request}
use Rattle.visibility_steps.specs.Steps.{is_snp}
use Rattle.protector_state.specs.declared.Reply.{Reply}
use Rattle.protector_state.specs.declared.Value.{Value}

-- a call refused or finished: the number, its code, its index, the count
abbrev pub finished : ℕ → ℕ → ℕ → ℕ → Reply
finished number code index count =
    record { number = number; code = code; index = index; count = count; operation = 0; vtl = 0; flags = 0; operand = 0; first = 0; pages = 0; shared = 0 }

-- an operation on no page, one on a VTL, and one on a run of pages
abbrev pub plain : ℕ → Reply
plain o = record { number = 0; code = 0; index = 0; count = 0; operation = o; vtl = 0; flags = 0; operand = 0; first = 0; pages = 0; shared = 0 }

abbrev pub on_vtl : ℕ → GuestVtl → Reply
on_vtl o v = record { number = 0; code = 0; index = 0; count = 0; operation = o; vtl = vtl_number v; flags = 0; operand = 0; first = 0; pages = 0; shared = 0 }

abbrev pub on_run : ℕ → PageRun → Reply
on_run o r =
    record { number = 0; code = 0; index = 0; count = 0; operation = o; vtl = 0; flags = 0; operand = 0; first = r.first; pages = r.count; shared = 0 }

-- a Protect has its RMPADJUST operand on SNP
abbrev pub protects : IsolationType → GuestVtl → HvMapGpaFlags → PageRun → Reply
protects i v f r =
    record { number = 0; code = 0; index = 0; count = 0; operation = operation.protect; vtl = vtl_number v; flags = bits_of f; operand = cond (is_snp i) (operand_of v f) 0; first = r.first; pages = r.count; shared = 0 }

-- a Modify has how many pages it asks for; they are the first of the request's table
abbrev pub modifies : Bool → ℕ → Reply
modifies share n =
    record { number = 0; code = 0; index = 0; count = 0; operation = operation.modify; vtl = 0; flags = 0; operand = 0; first = 0; pages = n; shared = digit share }

unfoldable pub asked_of : IsolationType → Operation → Reply
asked_of i Wait = plain operation.wait
asked_of i FlushAll = plain operation.flush_all
asked_of i (Protect v f r) = protects i v f r
asked_of i (Invalidate r) = on_run operation.invalidate r
asked_of i (Release r) = on_run operation.release r
asked_of i (Modify s n) = modifies s n
asked_of i (Accept r) = on_run operation.accept r
asked_of i (Zero r) = on_run operation.zero r
asked_of i (Flush v) = on_vtl operation.flush v
asked_of i (TlbWait v) = on_vtl operation.tlb_wait v

unfoldable pub flat_of : IsolationType → Answer → Reply
flat_of i (Done n) = finished 0 0 0 n
flat_of i (AccessDenied index n) = finished refusal.access_denied (code_of refusal.access_denied) index n
flat_of i (Failed code index n) = finished refusal.backend_failed code index n
flat_of i (Halted n) = finished refusal.halted 0 0 n
flat_of i (Ask o) = asked_of i o
flat_of i (Refused number) = finished number (code_of number) 0 0

-- what a visibility change that ends gives, whatever the isolation
abbrev pub ended_of : Request → Reply
ended_of request =
    cond request.stopped (finished refusal.access_denied (code_of refusal.access_denied) request.index request.count)
    (cond request.failed (finished refusal.backend_failed request.code request.index request.count)
    (finished 0 0 0 request.count))

-- what crosses for a reading: a number, 0 where none, and the value
abbrev pub value : ℕ → ℕ → Value
value n v = record { number = n; value = v }
