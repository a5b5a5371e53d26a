-- A whole call under a list of backend answers, done or not, written from document 01, "Registrar".
use Rattle.std.specs.Prelude.{◌≡◌, Bool, true, false, not, cond, ◌&&◌, List, [], ◌∷◌, ℕ, zero, suc, ◌+◌, ◌-◌, ◌*◌, ◌/◌, ◌%◌, ◌^◌, ◌<◌, eqb, ltb, length, get_or}
use Rattle.abi.specs.Lengths.{word_bits}
use Rattle.bitmap.specs.Pages.{bit_at}
use Rattle.layout.specs.declared.MemoryRange.{MemoryRange}
use Rattle.layout.specs.declared.MemoryRangeWithNode.{MemoryRangeWithNode}
use Rattle.layout.specs.Layout.{range, spans}
use Rattle.chunks.specs.Chunks.{first_chunk, end_chunk, empty, pieces, aligned_part, edge_of}
use Rattle.registrar_steps.specs.declared.Unaligned.{Unaligned}
use Rattle.registrar_steps.specs.declared.Answer.TheVariants.{Done, RegistrationFailed, UnalignedMemory}
use Rattle.registrar_steps.specs.Steps.{unaligned_at}
use Rattle.registrar_state.specs.declared.Reply.{Reply}
use Rattle.registrar_state.specs.Buffers.{Buffers, offset_of, granularity_of, entries_in, flat_of, marked}
use Rattle.registrar_claims.specs.Runs.{Told}

-- how a call stands once the answers are used up: it waits for one, is Ok, or ended with 23 or 22
pub data Status : Type 0 where
  Waits : Status
  Ok : Status
  FailedAt : ℕ → Status
  UnalignedAt : Unaligned → Status

-- the ranges that it asked for, in order, the bitmaps that it leaves, and how it stands
pub record Whole : Type 0 where
  pub asked : List MemoryRange
  pub registered : List ℕ
  pub failed : List ℕ
  pub status : Status

abbrev pub ended : List ℕ → List ℕ → Status → Whole
ended registered failed status = record { asked = []; registered = registered; failed = failed; status = status }

-- a range is offered at offset + address
abbrev pub offered : ℕ → MemoryRange → MemoryRange
offered offset piece = range ((offset + piece.start) % 2 ^ 64) ((offset + piece.end) % 2 ^ 64)

abbrev pub asking : ℕ → MemoryRange → Whole → Whole
asking offset piece whole = record { asked = offered offset piece ∷ whole.asked; registered = whole.registered; failed = whole.failed; status = whole.status }

-- the RAM of a chunk, one range a span: a failure marks the chunk failed and tells where the range starts; else the call goes on
unfoldable pub offer : ℕ → ℕ → List MemoryRange → List Bool → List ℕ → List ℕ → (List Bool → Whole) → Whole
offer offset chunk [] answers registered failed next = next answers
offer offset chunk (piece ∷ later) [] registered failed next = asking offset piece (ended registered failed Waits)
offer offset chunk (piece ∷ later) (true ∷ answers) registered failed next = asking offset piece (offer offset chunk later answers registered failed next)
offer offset chunk (piece ∷ later) (false ∷ answers) registered failed next = asking offset piece (ended registered (marked chunk (chunk + 1) failed) (FailedAt piece.start))

-- n chunks from this one on: one registered is skipped, one that failed before ends the call, else its RAM is offered and it becomes registered
unfoldable pub whole_chunks : ℕ → ℕ → List MemoryRange → ℕ → ℕ → List ℕ → List ℕ → List Bool → Whole
whole_chunks offset granularity ram zero chunk registered failed answers = ended registered failed Ok
whole_chunks offset granularity ram (suc n) chunk registered failed answers =
    cond (bit_at word_bits registered chunk) (whole_chunks offset granularity ram n (chunk + 1) registered failed answers)
    (cond (bit_at word_bits failed chunk) (ended registered failed (FailedAt (chunk * granularity)))
    (offer offset chunk (pieces (chunk * granularity) ((chunk + 1) * granularity) ram) answers registered failed (λ answers. whole_chunks offset granularity ram n (chunk + 1) (marked chunk (chunk + 1) registered) failed answers)))

unfoldable pub whole_register : Buffers → ℕ → ℕ → List Bool → Whole
whole_register lent address len answers =
    let granularity : ℕ = granularity_of lent.state in
    whole_chunks (offset_of lent.state) granularity (spans (entries_in lent.state)) (end_chunk granularity address len - first_chunk granularity address) (first_chunk granularity address) lent.registered lent.failed answers

-- ---- register_all_aligned

-- the chunks from `from` to before `to` are one range: done marks them registered, a failure marks them failed
unfoldable pub offer_stretch : ℕ → ℕ → ℕ → ℕ → List Bool → List ℕ → List ℕ → (List Bool → List ℕ → Whole) → Whole
offer_stretch offset granularity from to [] registered failed next = asking offset (range (from * granularity) (to * granularity)) (ended registered failed Waits)
offer_stretch offset granularity from to (true ∷ answers) registered failed next = asking offset (range (from * granularity) (to * granularity)) (next answers (marked from to registered))
offer_stretch offset granularity from to (false ∷ answers) registered failed next = asking offset (range (from * granularity) (to * granularity)) (ended registered (marked from to failed) (FailedAt (from * granularity)))

-- n chunks of an aligned part from this one on; those from `from` to before it are a stretch, neither registered nor offered so far. A chunk that failed earlier ends the call
-- with that stretch left out; a registered chunk closes it, and so does the end of the part
unfoldable pub whole_span : ℕ → ℕ → ℕ → ℕ → ℕ → List Bool → List ℕ → List ℕ → (List Bool → List ℕ → Whole) → Whole
whole_span offset granularity zero from chunk answers registered failed next = cond (ltb from chunk) (offer_stretch offset granularity from chunk answers registered failed next) (next answers registered)
whole_span offset granularity (suc n) from chunk answers registered failed next =
    cond (bit_at word_bits failed chunk) (ended registered failed (FailedAt (chunk * granularity)))
    (cond (bit_at word_bits registered chunk)
    (cond (ltb from chunk)
    (offer_stretch offset granularity from chunk answers registered failed (λ answers registered. whole_span offset granularity n (chunk + 1) (chunk + 1) answers registered failed next))
    (whole_span offset granularity n (chunk + 1) (chunk + 1) answers registered failed next))
    (whole_span offset granularity n from (chunk + 1) answers registered failed next))

-- by span: its edge unless edges are ignored, else the stretches of its aligned part
unfoldable pub whole_spans : ℕ → ℕ → List MemoryRangeWithNode → ℕ → ℕ → List MemoryRange → List Bool → List ℕ → List ℕ → Whole
whole_spans offset granularity entries alignment ignore [] answers registered failed = ended registered failed Ok
whole_spans offset granularity entries alignment ignore (span ∷ later) answers registered failed =
    let part : MemoryRange = aligned_part alignment span in
    cond (eqb ignore 0 && not (empty (edge_of alignment span))) (ended registered failed (UnalignedAt (unaligned_at entries alignment span (edge_of alignment span))))
    (cond (empty part) (whole_spans offset granularity entries alignment ignore later answers registered failed)
    (whole_span offset granularity (part.end / granularity - part.start / granularity) (part.start / granularity) (part.start / granularity) answers registered failed (λ answers registered. whole_spans offset granularity entries alignment ignore later answers registered failed)))

unfoldable pub whole_all : Buffers → ℕ → ℕ → List Bool → Whole
whole_all lent alignment ignore answers =
    whole_spans (offset_of lent.state) (granularity_of lent.state) (entries_in lent.state) alignment ignore (spans (entries_in lent.state)) answers lent.registered lent.failed

-- ---- what the steps of a call tell

-- what a call replies that stands so after count operations
abbrev pub Says : ℕ → Reply → Status → Type 0
Says count reply Waits = reply.asked ≡ 1
Says count reply Ok = reply ≡ flat_of (Done (count % 2 ^ 64))
Says count reply (FailedAt address) = reply ≡ flat_of (RegistrationFailed address (count % 2 ^ 64))
Says count reply (UnalignedAt unaligned) = reply ≡ flat_of (UnalignedMemory unaligned (count % 2 ^ 64))

-- words of 64 bits
abbrev pub Words : List ℕ → Type 0
Words words = (j : ℕ) → get_or words j 0 < 2 ^ 64

-- the steps of a call tell what the whole call does, count operations having been asked for before
pub record Match (count : ℕ) (told : Told) (whole : Whole) : Type 0 where
  pub same_asked : told.asked ≡ whole.asked
  pub same_registered : told.last.buffers.registered ≡ whole.registered
  pub same_failed : told.last.buffers.failed ≡ whole.failed
  pub same_reply : Says (count + length whole.asked) told.last.reply whole.status
