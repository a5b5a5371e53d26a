-- What crosses for Flush, TlbWait and the end that follows them: `flush_answer` of `change_steps`, whatever the isolation.
use Rattle.abi.specs.Operations as operation
use Rattle.change_steps.specs.declared.Stage.{Stage}
use Rattle.change_steps.specs.declared.Stage.TheVariants as at
use Rattle.change_steps.specs.declared.Change.{Change}
use Rattle.protector_state.specs.declared.Reply.{Reply}
use Rattle.protector_state.specs.Reply.{finished, on_vtl}

abbrev pub flush_reply : Stage → Change → Reply
flush_reply at.Idle change = finished 0 0 0 change.count
flush_reply at.Halted change = finished 0 0 0 change.count
flush_reply at.ProtectPages change = finished 0 0 0 change.count
flush_reply at.ProtectRam change = finished 0 0 0 change.count
flush_reply at.ProtectNew change = finished 0 0 0 change.count
flush_reply at.ProtectOld change = finished 0 0 0 change.count
flush_reply at.Wait change = finished 0 0 0 change.count
flush_reply at.Flush change = on_vtl operation.flush change.flush
flush_reply at.TlbWait change = on_vtl operation.tlb_wait change.vtl
