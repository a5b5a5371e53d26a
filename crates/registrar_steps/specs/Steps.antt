-- What a call or an answer leads to: document 01, "Registrar" and "The request under way", refusals 22 and 23.
use Rattle.std.specs.Prelude.{ℕ, ◌+◌, ◌*◌, ◌/◌, ◌%◌, ◌^◌, min, max, Bool, true, false, cond, not, ◌&&◌, ◌||◌, List, [], ◌∷◌, ◌==◌, nat_lt}
use Rattle.abi.specs.Kinds as kind
use Rattle.abi.specs.Lengths.{word_bits}
use Rattle.bitmap.specs.Pages.{bit_at}
use Rattle.layout.specs.declared.MemoryRange.{MemoryRange}
use Rattle.layout.specs.declared.MemoryRangeWithNode.{MemoryRangeWithNode}
use Rattle.layout.specs.Layout.{range, spans}
use Rattle.chunks.specs.Chunks.{chunk_count, empty, pieces, first_of, first_not, alike, aligned_part, edge_of, entry_with}
use Rattle.registrar_steps.specs.declared.Request.{Request}
use Rattle.registrar_steps.specs.declared.Unaligned.{Unaligned}
use Rattle.registrar_steps.specs.declared.Answer.{Answer}
use Rattle.registrar_steps.specs.declared.Answer.TheVariants.{Done, Register, RegistrationFailed, UnalignedMemory}
use Rattle.registrar_steps.specs.declared.Why.{Why}
use Rattle.registrar_steps.specs.declared.Why.TheVariants as why
use Rattle.registrar_steps.specs.declared.Stop.{Stop}
use Rattle.registrar_steps.specs.declared.Look.{Look}
use Rattle.registrar_steps.specs.declared.Look.TheVariants.{Nothing, Edge, FailedBefore, Stretch}
use Rattle.registrar_steps.specs.declared.Plan.{Plan}

-- what a step looks at
pub record ChunkState : Type 0 where
  pub granularity : ℕ
  pub entries : List MemoryRangeWithNode
  pub registered : List ℕ
  pub failed : List ℕ

abbrev pub chunk_state : ℕ → List MemoryRangeWithNode → List ℕ → List ℕ → ChunkState
chunk_state granularity entries registered failed = record { granularity = granularity; entries = entries; registered = registered; failed = failed }

-- nothing asked
abbrev pub idle : Request
idle = record { kind = kind.none; count = 0; from = 0; to = 0; start = 0; end = 0; until = 0; alignment = 0; ignore = 0 }

abbrev pub is_idle : Request → Bool
is_idle request =
    (request.kind == kind.none) && (request.count == 0 && (request.from == 0 && (request.to == 0 && (request.start == 0 && (request.end == 0 && (request.until == 0 && (request.alignment == 0 && request.ignore == 0)))))))

-- the operation that a request asks for, at offset + address in 64 bits
abbrev pub asked_of : ℕ → Request → Answer
asked_of offset request = Register (range ((offset + request.start) % 2 ^ 64) ((offset + request.end) % 2 ^ 64))

-- a plan: the chunks from `from` to before `to` become registered, and this is asked or answered
abbrev pub asks : ℕ → ℕ → ℕ → Request → Plan
asks offset from to request = record { from = from; to = to; request = request; answer = asked_of offset request }

abbrev pub ends : ℕ → ℕ → Answer → Plan
ends from to answer = record { from = from; to = to; request = idle; answer = answer }

-- one operation more, in 64 bits
abbrev pub more : ℕ → ℕ
more n = (n + 1) % 2 ^ 64

-- ---- register

-- the first of a chunk's RAM from an address on
abbrev pub ram_from : ℕ → List MemoryRangeWithNode → ℕ → ℕ → MemoryRange
ram_from granularity entries chunk from = first_of (pieces from ((chunk + 1) * granularity) (spans entries))

-- a chunk that asks for nothing: it is registered, or has not failed and has no RAM
abbrev pub passes : ChunkState → ℕ → Bool
passes view chunk =
    bit_at word_bits view.registered chunk || (not (bit_at word_bits view.failed chunk) && empty (ram_from view.granularity view.entries chunk (chunk * view.granularity)))

-- a piece of RAM of the chunks from `from` to before `to`, for a request that ends before chunk `until` and has asked `count` times
abbrev pub piece_of : ℕ → ℕ → ℕ → ℕ → MemoryRange → Request
piece_of count from to until r =
    record { kind = kind.register; count = more count; from = from; to = to; start = r.start; end = r.end; until = until; alignment = 0; ignore = 0 }

-- from a chunk on: chunks that ask for nothing become registered; one that failed before ends it with 23; else its RAM is offered
unfoldable pub register_from : ChunkState → ℕ → ℕ → ℕ → ℕ → Plan
register_from view offset count from until =
    let to : ℕ = min until (chunk_count view.granularity view.entries) in
    let at : ℕ = first_not (passes view) from to in
    cond (nat_lt at to)
    (cond (bit_at word_bits view.failed at) (ends from at (RegistrationFailed (at * view.granularity) count))
    (asks offset from at (piece_of count at (at + 1) until (ram_from view.granularity view.entries at (at * view.granularity)))))
    (ends from at (Done count))

-- the same as the code finds it: a stop at the end (of one chunk: nothing to ask for), at a chunk with RAM to ask for, or at one that failed before
abbrev pub is_end : Why → Bool
is_end why.End = true
is_end why.Ram = false
is_end why.Failed = false

abbrev pub has_ram : Why → Bool
has_ram why.End = false
has_ram why.Ram = true
has_ram why.Failed = false

abbrev pub stop : Why → ℕ → ℕ → ℕ → Stop
stop reason chunk start end = record { why = reason; chunk = chunk; start = start; end = end }

-- what a chunk asks for
abbrev pub offer_of : ChunkState → ℕ → Stop
offer_of view chunk =
    let r : MemoryRange = ram_from view.granularity view.entries chunk (chunk * view.granularity) in
    cond (bit_at word_bits view.registered chunk) (stop why.End chunk 0 0)
    (cond (bit_at word_bits view.failed chunk) (stop why.Failed chunk (chunk * view.granularity) 0)
    (cond (empty r) (stop why.End chunk 0 0) (stop why.Ram chunk r.start r.end)))

-- where a walk over chunks stops
unfoldable pub stop_at : ChunkState → ℕ → ℕ → Stop
stop_at view from to =
    let at : ℕ = first_not (passes view) from to in
    let r : MemoryRange = ram_from view.granularity view.entries at (at * view.granularity) in
    cond (nat_lt at to) (cond (bit_at word_bits view.failed at) (stop why.Failed at (at * view.granularity) 0) (stop why.Ram at r.start r.end)) (stop why.End at 0 0)

-- the plan of such a stop
abbrev pub plan_at : ℕ → ℕ → ℕ → ℕ → Stop → Why → Plan
plan_at offset count from until at why.End = ends from at.chunk (Done count)
plan_at offset count from until at why.Ram = asks offset from at.chunk (piece_of count at.chunk (at.chunk + 1) until (range at.start at.end))
plan_at offset count from until at why.Failed = ends from at.chunk (RegistrationFailed at.start count)

abbrev pub stop_plan : ℕ → ℕ → ℕ → ℕ → Stop → Plan
stop_plan offset count from until at = plan_at offset count from until at at.why

-- ---- register_all_aligned

-- of the chunks from `from` to before `to`: the next unregistered stretch, or the start of a chunk that failed before
abbrev pub stretch_in : ℕ → List ℕ → List ℕ → ℕ → ℕ → Look
stretch_in granularity registered failed from to =
    let first : ℕ = first_not (alike registered failed true) from to in
    let after : ℕ = first_not (alike registered failed false) first to in
    cond (nat_lt first to)
    (cond (bit_at word_bits failed first) (FailedBefore (first * granularity)) (cond (nat_lt after to && bit_at word_bits failed after) (FailedBefore (after * granularity)) (Stretch first after (first * granularity) (after * granularity))))
    Nothing

-- a span: its edge unless edges are ignored, else what its aligned part has from a chunk on
unfoldable pub look_at : ℕ → List ℕ → List ℕ → ℕ → ℕ → ℕ → MemoryRange → Look
look_at granularity registered failed alignment ignore chunk span =
    let p : MemoryRange = aligned_part alignment span in
    cond (ignore == 0 && not (empty (edge_of alignment span))) (Edge (edge_of alignment span))
    (cond (empty p) Nothing
    (stretch_in granularity registered failed (max chunk (p.start / granularity)) (p.end / granularity)))

-- 22 with its fields
abbrev pub unaligned_at : List MemoryRangeWithNode → ℕ → MemoryRange → MemoryRange → Unaligned
unaligned_at entries alignment span edge =
    let entry : MemoryRangeWithNode = entry_with edge entries in
    record { span = span; edge = edge; vnode = entry.vnode; node_range = range entry.start entry.end; alignment = alignment }

-- a stretch of chunks and its bytes, for a call that has asked `count` times
abbrev pub stretch_of : ℕ → ℕ → ℕ → ℕ → ℕ → ℕ → ℕ → Request
stretch_of count alignment ignore from to start end =
    record { kind = kind.register_all; count = more count; from = from; to = to; start = start; end = end; until = 0; alignment = alignment; ignore = ignore }

-- what is found in a span ends the step, save nothing
abbrev pub found : List MemoryRangeWithNode → ℕ → ℕ → ℕ → ℕ → MemoryRange → Look → Plan → Plan
found entries offset count alignment ignore span Nothing rest = rest
found entries offset count alignment ignore span (Edge edge) rest = ends 0 0 (UnalignedMemory (unaligned_at entries alignment span edge) count)
found entries offset count alignment ignore span (FailedBefore address) rest = ends 0 0 (RegistrationFailed address count)
found entries offset count alignment ignore span (Stretch from to start end) rest = asks offset 0 0 (stretch_of count alignment ignore from to start end)

abbrev pub is_nothing : Look → Bool
is_nothing Nothing = true
is_nothing (Edge edge) = false
is_nothing (FailedBefore x) = false
is_nothing (Stretch a b x y) = false

unfoldable pub all_from : ChunkState → ℕ → ℕ → ℕ → ℕ → ℕ → List MemoryRange → Plan
all_from view offset count alignment ignore chunk [] = ends 0 0 (Done count)
all_from view offset count alignment ignore chunk (span ∷ later) = found view.entries offset count alignment ignore span (look_at view.granularity view.registered view.failed alignment ignore chunk span) (all_from view offset count alignment ignore chunk later)
