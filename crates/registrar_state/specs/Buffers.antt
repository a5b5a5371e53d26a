-- The registrar's calls, each as a definition of what it gives: document 01, "Registrar", "From the input", "From the state", and the order of refusals.
use Rattle.std.specs.Prelude.{Bool, true, not, cond, ◌||◌, ◌&&◌, List, [], ◌∷◌, ◌++◌, ℕ, ◌+◌, ◌-◌, ◌*◌, ◌%◌, ◌^◌, eqb, leb, ltb, length, get_or, drop, take, replicate}
use Rattle.abi.specs.Kinds as kind
use Rattle.abi.specs.Refusals as refusal
use Rattle.abi.specs.RegistrarPlaces as place
use Rattle.abi.specs.Lengths.{page_size, ram_entry_words, ram_len, registrar_len, word_bits}
use Rattle.laws.specs.Refusal.{unless, when}
use Rattle.laws.specs.Ranges.{between}
use Rattle.bitmap.specs.Pages.{bit_at, written}
use Rattle.layout.specs.declared.MemoryRange.{MemoryRange}
use Rattle.layout.specs.declared.MemoryRangeWithNode.{MemoryRangeWithNode}
use Rattle.layout.specs.Layout.{entries_of, refusal_of, last_end, spans}
use Rattle.chunks.specs.Chunks.{chunk_count, map_words, first_chunk, end_chunk, is_power, empty, first_not}
use Rattle.registrar_steps.specs.declared.Request.{Request}
use Rattle.registrar_steps.specs.declared.Unaligned.{Unaligned}
use Rattle.registrar_steps.specs.declared.Answer.{Answer}
use Rattle.registrar_steps.specs.declared.Answer.TheVariants.{Done, Register, RegistrationFailed, UnalignedMemory, Refused}
use Rattle.registrar_steps.specs.declared.Plan.{Plan}
use Rattle.registrar_steps.specs.Steps.{ChunkState, chunk_state, idle, is_idle, asks, ram_from, piece_of, register_from, all_from}
use Rattle.registrar_state.specs.declared.Reply.{Reply}

-- what is lent: the state block of 108 words, and the two bitmaps
pub record Buffers : Type 0 where
  pub state : List ℕ
  pub registered : List ℕ
  pub failed : List ℕ

abbrev pub buffers : List ℕ → List ℕ → List ℕ → Buffers
buffers state registered failed = record { state = state; registered = registered; failed = failed }

-- what a call gives: all that is lent as it is then, and the reply
pub record Outcome : Type 0 where
  pub buffers : Buffers
  pub reply : Reply

abbrev pub outcome : List ℕ → List ℕ → List ℕ → Reply → Outcome
outcome state registered failed reply = record { buffers = buffers state registered failed; reply = reply }

-- ---- the state block: the request under way in words 0 to 8, offset, granularity, number of entries, up to 32 entries

abbrev pub request_of : List ℕ → Request
request_of state =
    record { kind = get_or state place.kind 0; count = get_or state place.count 0; from = get_or state place.from 0; to = get_or state place.to 0; start = get_or state place.start 0; end = get_or state place.end 0; until = get_or state place.until 0; alignment = get_or state place.alignment 0; ignore = get_or state place.ignore 0 }

abbrev pub request_words : Request → List ℕ
request_words request =
    request.kind ∷ request.count ∷ request.from ∷ request.to ∷ request.start ∷ request.end ∷ request.until ∷ request.alignment ∷ request.ignore ∷ []

abbrev pub with_request : Request → List ℕ → List ℕ
with_request request state = request_words request ++ drop place.after_request state

abbrev pub offset_of : List ℕ → ℕ
offset_of state = get_or state place.offset 0

abbrev pub granularity_of : List ℕ → ℕ
granularity_of state = get_or state place.granularity 0

abbrev pub ram_of : List ℕ → List ℕ
ram_of state = take (ram_entry_words * get_or state place.entries 0) (drop place.ram state)

abbrev pub entries_in : List ℕ → List MemoryRangeWithNode
entries_in state = entries_of (ram_of state)

-- what a build leaves in it
abbrev pub built_state : List ℕ → ℕ → ℕ → List ℕ
built_state ram offset granularity =
    request_words idle ++ (offset ∷ granularity ∷ length (entries_of ram) ∷ ram) ++ replicate (ram_len - length ram) 0

abbrev pub chunk_state_in : Buffers → ChunkState
chunk_state_in lent = chunk_state (granularity_of lent.state) (entries_in lent.state) lent.registered lent.failed

-- ---- the reply: 01's number and values for each case of the answer

abbrev pub flat_unaligned : Unaligned → ℕ → Reply
flat_unaligned unaligned count =
    record {
      number = refusal.unaligned_memory;
      asked = 0;
      count = count;
      start = 0;
      end = 0;
      address = 0;
      span_start = unaligned.span.start;
      span_end = unaligned.span.end;
      edge_start = unaligned.edge.start;
      edge_end = unaligned.edge.end;
      vnode = unaligned.vnode;
      node_start = unaligned.node_range.start;
      node_end = unaligned.node_range.end;
      alignment = unaligned.alignment;
    }

abbrev pub simple : ℕ → ℕ → ℕ → ℕ → ℕ → ℕ → Reply
simple number asked count start end address =
    record { number = number; asked = asked; count = count; start = start; end = end; address = address; span_start = 0; span_end = 0; edge_start = 0; edge_end = 0; vnode = 0; node_start = 0; node_end = 0; alignment = 0 }

abbrev pub flat_of : Answer → Reply
flat_of (Done count) = simple 0 0 count 0 0 0
flat_of (Register r) = simple 0 1 0 r.start r.end 0
flat_of (RegistrationFailed address count) = simple refusal.registration_failed 0 count 0 0 address
flat_of (UnalignedMemory unaligned count) = flat_unaligned unaligned count
flat_of (Refused number) = simple number 0 0 0 0 0

-- a call is refused by its number and changes nothing, or is answered where that is 0
abbrev pub decided : Buffers → ℕ → Outcome → Outcome
decided lent number taken = cond (eqb number 0) taken (record { buffers = lent; reply = flat_of (Refused number) })

-- ---- build

abbrev pub lengths_fit : ℕ → List MemoryRangeWithNode → List ℕ → List ℕ → Bool
lengths_fit granularity entries registered failed = eqb (length registered) (map_words granularity entries) && eqb (length failed) (map_words granularity entries)

-- 1 for the layout and the offset, 2, then by number: 4 for the state block, 9 for the granularity; 4 for the bitmaps after it, since their length hangs on it
unfoldable pub build_refusal : Buffers → List ℕ → ℕ → ℕ → ℕ
build_refusal lent ram offset granularity =
    when (eqb (refusal_of ram) refusal.unfit_layout) refusal.unfit_layout
    (unless (eqb (offset % page_size) 0) refusal.unfit_layout
    (unless (ltb (offset + last_end (entries_of ram)) (2 ^ 64)) refusal.unfit_layout
    (unless (eqb (refusal_of ram) 0) refusal.bad_alignment
    (unless (eqb (length lent.state) registrar_len) refusal.wrong_length
    (unless (leb page_size granularity && is_power granularity) refusal.unfit_chunk
    (unless (lengths_fit granularity (entries_of ram) lent.registered lent.failed) refusal.wrong_length
    0))))))

unfoldable pub build_of : Buffers → List ℕ → ℕ → ℕ → Outcome
build_of lent ram offset granularity =
    decided lent (build_refusal lent ram offset granularity)
    (outcome (built_state ram offset granularity) (replicate (length lent.registered) 0) (replicate (length lent.failed) 0) (flat_of (Done 0)))

-- ---- register and register_all_aligned

-- 4 for the state block, 19, 4 for the bitmaps
abbrev pub call_refusal : Buffers → ℕ → ℕ
call_refusal lent rest =
    unless (eqb (length lent.state) registrar_len) refusal.wrong_length
    (unless (eqb (request_of lent.state).kind kind.none) refusal.busy
    (unless (lengths_fit (granularity_of lent.state) (entries_in lent.state) lent.registered lent.failed) refusal.wrong_length
    rest))

-- how many chunks there are, by the state block; a block of another length has none
abbrev pub count_in : List ℕ → ℕ
count_in state = cond (eqb (length state) registrar_len) (chunk_count (granularity_of state) (entries_in state)) 0

-- of the chunks from first to before end: there are none, or none past the last
abbrev pub chunks_fit : List ℕ → ℕ → ℕ → Bool
chunks_fit state first end = leb end first || leb end (chunk_count (granularity_of state) (entries_in state))

unfoldable pub register_refusal : Buffers → ℕ → ℕ → ℕ
register_refusal lent address len =
    let granularity : ℕ = granularity_of lent.state in
    call_refusal lent (unless (chunks_fit lent.state (first_chunk granularity address) (end_chunk granularity address len)) refusal.unfit_chunk 0)

unfoldable pub all_refusal : Buffers → ℕ → ℕ → ℕ
all_refusal lent alignment ignore =
    call_refusal lent (unless (leb ignore 1) refusal.unfit_number (unless (leb (granularity_of lent.state) alignment && is_power alignment) refusal.unfit_chunk 0))

-- a plan carried out
abbrev pub marked : ℕ → ℕ → List ℕ → List ℕ
marked from to map = written word_bits (between from to) true map

abbrev pub carried_out : Buffers → Plan → Outcome
carried_out lent plan =
    outcome (with_request plan.request lent.state) (marked plan.from plan.to lent.registered) lent.failed (flat_of plan.answer)

abbrev pub register_plan : Buffers → ℕ → ℕ → Plan
register_plan lent address len =
    let granularity : ℕ = granularity_of lent.state in
    register_from (chunk_state_in lent) (offset_of lent.state) 0 (first_chunk granularity address) (end_chunk granularity address len)

abbrev pub all_plan : Buffers → ℕ → ℕ → Plan
all_plan lent alignment ignore = all_from (chunk_state_in lent) (offset_of lent.state) 0 alignment ignore 0 (spans (entries_in lent.state))

-- nothing is left of an earlier request, and the chunks from first to before end are registered
abbrev pub is_known : List ℕ → List ℕ → ℕ → ℕ → Bool
is_known state registered first end = is_idle (request_of state) && leb end (first_not (bit_at word_bits registered) first end)

unfoldable pub register_of : Buffers → ℕ → ℕ → Outcome
register_of lent address len = decided lent (register_refusal lent address len) (carried_out lent (register_plan lent address len))

unfoldable pub all_of : Buffers → ℕ → ℕ → Outcome
all_of lent alignment ignore = decided lent (all_refusal lent alignment ignore) (carried_out lent (all_plan lent alignment ignore))

-- ---- the answer

unfoldable pub answer_refusal : Buffers → ℕ
answer_refusal lent =
    unless (eqb (length lent.state) registrar_len) refusal.wrong_length
    (unless (lengths_fit (granularity_of lent.state) (entries_in lent.state) lent.registered lent.failed) refusal.wrong_length
    (when (eqb (request_of lent.state).kind kind.none) refusal.nothing_asked
    0))

-- failed: the chunks under way are marked failed, and 23 tells where the range starts
unfoldable pub failed_of : Buffers → Outcome
failed_of lent =
    let request : Request = request_of lent.state in
    decided lent (answer_refusal lent)
    (outcome (with_request idle lent.state) lent.registered (marked request.from request.to lent.failed) (flat_of (RegistrationFailed request.start request.count)))

-- done: of a chunk of `register`, its RAM after what was taken
abbrev pub rest_of : List ℕ → MemoryRange
rest_of state = ram_from (granularity_of state) (entries_in state) (request_of state).from (request_of state).end

abbrev pub has_rest : List ℕ → Bool
has_rest state = eqb (request_of state).kind kind.register && not (empty (rest_of state))

-- the chunks under way become registered, unless some of that RAM is left
abbrev pub taken_to : List ℕ → ℕ
taken_to state = cond (has_rest state) (request_of state).from (request_of state).to

-- then that RAM is asked for, or the call goes on after the chunks that were under way
abbrev pub done_plan : Buffers → Plan
done_plan lent =
    let request : Request = request_of lent.state in
    cond (has_rest lent.state) (asks (offset_of lent.state) 0 0 (piece_of request.count request.from request.to request.until (rest_of lent.state)))
    (cond (eqb request.kind kind.register) (register_from (chunk_state_in lent) (offset_of lent.state) request.count request.to request.until)
    (all_from (chunk_state_in lent) (offset_of lent.state) request.count request.alignment request.ignore request.to (spans (entries_in lent.state))))

abbrev pub after_taken : Buffers → Buffers
after_taken lent = buffers lent.state (marked (request_of lent.state).from (taken_to lent.state) lent.registered) lent.failed

unfoldable pub done_of : Buffers → Outcome
done_of lent = decided lent (answer_refusal lent) (carried_out (after_taken lent) (done_plan (after_taken lent)))
