-- A call run to its end: each operation that it asks for goes into the digest and is answered (crates/replay/README.md, "What is compared").
use Rattle.std.specs.Prelude.{cond, List, ℕ, zero, suc, ◌+◌, eqb, get_or}
use Rattle.abi.specs.Isolations.{cca}
use Rattle.abi.specs.Operations as operation
use Rattle.abi.specs.Places as place
use Rattle.protector_state.specs.declared.Reply.{Reply}
use Rattle.call_refusals.specs.Buffers as lent
use Rattle.protector.specs.Calls.{answer_done, answer_failed}
use Rattle.recording.specs.Digest.{digest_word, digest_of}
use Rattle.recording.specs.Lists.{part_of}
use Rattle.playback.specs.declared.buffers.Buffers.{Buffers}
use Rattle.playback.specs.declared.buffers.Call.{Call}
use Rattle.playback.specs.Buffers.{answers, bytes_in, lent_of, after, with_asked, code_of}

-- the original hands CCA's backend no flags
abbrev pub flags_of : Reply → ℕ → ℕ
flags_of r isolation = cond (eqb isolation cca) 0 r.flags

abbrev pub fields_of : ℕ → Reply → ℕ → ℕ
fields_of h r isolation =
    digest_word (digest_word (digest_word (digest_word (digest_word (digest_word (digest_word h r.operation) r.vtl) (flags_of r isolation)) r.operand) r.first) r.pages) r.shared

-- of a Modify its pages too
unfoldable pub asked_of : ℕ → List ℕ → Reply → ℕ → ℕ
asked_of h pages r isolation =
    cond (eqb r.operation operation.modify) (digest_of (fields_of h r isolation) (part_of pages r.pages)) (fields_of h r isolation)

-- the operation asked for in the digest
abbrev pub noted : Buffers → Buffers
noted buffers = with_asked buffers (asked_of buffers.asked buffers.pages buffers.reply (get_or buffers.state place.isolation 0))

-- the operation asked for as the call's place says: done, or failed where it is the one
abbrev pub answer_in : lent.Buffers → Call → ℕ → lent.Outcome
answer_in buffers c at = cond (eqb at c.place) (answer_failed buffers (code_of c.code) c.processed) (answer_done buffers)

unfoldable pub answered : Buffers → Call → ℕ → Buffers
answered buffers c at = after (bytes_in buffers) (noted buffers) (answer_in (lent_of (bytes_in buffers) buffers) c at)

-- so many answers at most, those before counted
unfoldable pub finished_from : ℕ → ℕ → Buffers → Call → Buffers
finished_from zero at buffers c = buffers
finished_from (suc n) at buffers c = cond (eqb buffers.reply.operation 0) buffers (finished_from n (at + 1) (answered buffers c (at + 1)) c)

abbrev pub finished_of : Buffers → Call → Buffers
finished_of buffers c = finished_from answers 0 buffers c
