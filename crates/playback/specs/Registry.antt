-- The registrar's calls, each run to its end (crates/replay/README.md, "What is compared").
use Rattle.std.specs.Prelude.{cond, List, ℕ, zero, suc, ◌+◌, eqb}
use Rattle.registrar_state.specs.declared.Reply.{Reply}
use Rattle.registrar_state.specs.Buffers as lent
use Rattle.recording.specs.Digest.{start, digest_word, digest_of}
use Rattle.recording.specs.Kinds as kind
use Rattle.playback.specs.declared.buffers.Call.{Call}
use Rattle.playback.specs.declared.registry.Registry.{Registry}
use Rattle.playback.specs.Buffers.{answers}

-- layouts end at chunk 512: the words of a bitmap
abbrev pub bitmap_words : ℕ
bitmap_words = 8

abbrev pub lent_of : Registry → lent.Buffers
lent_of w = lent.buffers w.state w.registered w.failed

-- what was lent as it is after a call, the reply, and a digest
abbrev pub after : lent.Outcome → ℕ → Registry
after o h = record { state = o.buffers.state; registered = o.buffers.registered; failed = o.buffers.failed; reply = o.reply; asked = h }

-- kinds 16 to 18
unfoldable pub start_in : lent.Buffers → Call → List ℕ → lent.Outcome
start_in w c ram =
    cond (eqb c.kind kind.registrar_build) (lent.build_of w ram c.a c.b) (cond (eqb c.kind kind.register) (lent.register_of w c.a c.b) (lent.all_of w c.a c.b))

-- the Register asked for goes into the digest and is done, or failed where the call's place says so
abbrev pub noted : ℕ → Reply → ℕ
noted h r = digest_word (digest_word h r.start) r.end

abbrev pub answer_in : lent.Buffers → Call → ℕ → lent.Outcome
answer_in w c at = cond (eqb at c.place) (lent.failed_of w) (lent.done_of w)

unfoldable pub answered : Registry → Call → ℕ → Registry
answered w c at = after (answer_in (lent_of w) c at) (noted w.asked w.reply)

-- so many answers at most, those before counted
unfoldable pub finished_from : ℕ → ℕ → Registry → Call → Registry
finished_from zero at w c = w
finished_from (suc n) at w c = cond (eqb w.reply.asked 0) w (finished_from n (at + 1) (answered w c (at + 1)) c)

-- a call run to its end
abbrev pub call_of : Registry → Call → List ℕ → Registry
call_of w c ram = finished_from answers 0 (after (start_in (lent_of w) c ram) start) c

-- the fields of a span that is not aligned
abbrev pub asked_of : Registry → ℕ
asked_of w =
    let r : Reply = w.reply in
    digest_word (digest_word (digest_word (digest_word (digest_word (digest_word (digest_word (digest_word w.asked r.span_start) r.span_end) r.edge_start) r.edge_end) r.vnode) r.node_start) r.node_end) r.alignment

abbrev pub left_of : Registry → ℕ
left_of w = digest_of (digest_of start w.registered) w.failed
