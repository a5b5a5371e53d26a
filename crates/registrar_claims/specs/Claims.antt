-- What is claimed of a registrar wherever a list of any calls from its build stops, refused ones and later builds among them.
use Rattle.std.specs.Prelude.{◌≡◌, Bool, true, false, ◌||◌, ◌&&◌, List, ℕ, ◌+◌, ◌/◌, ◌%◌, ◌^◌, ◌≤◌, ◌<◌, leb, length}
use Rattle.abi.specs.Refusals as refusal
use Rattle.abi.specs.Lengths.{registrar_len, word_bits}
use Rattle.bitmap.specs.Pages.{bit_at}
use Rattle.layout.specs.Layout.{range, entries_of}
use Rattle.chunks.specs.Chunks.{up, chunk_count, map_words, first_chunk, end_chunk, is_power}
use Rattle.registrar_steps.specs.declared.Request.{Request}
use Rattle.registrar_steps.specs.declared.Answer.TheVariants.{Done, Register, Refused}
use Rattle.registrar_steps.specs.Steps.{asked_of}
use Rattle.registrar_state.specs.Buffers.{Buffers, request_of, offset_of, granularity_of, ram_of, flat_of, build_of, register_refusal, all_refusal, register_of, all_of, done_of, failed_of}
use Rattle.registrar_claims.specs.Runs.{Call, give, is_build, is_taken, under_way, after, awaits_after, Settings, built_with, settings_after, quiet, Told, follow}
use Rattle.registrar_claims.specs.Changes.{with_taken, with_failed, Kept, Stays}
use Rattle.registrar_claims.specs.Whole.{whole_register, whole_all, Match}
use Rattle.registrar_claims.specs.Ends.{RequestEnds}
use Rattle.registrar_claims.specs.Entries.{Unasked}

-- ---- what is lent stays a registrar's, and what 01 takes is taken

-- widened to pages and then to chunks, the request touches no chunk past the last
abbrev pub is_within : Settings → ℕ → ℕ → Bool
is_within settings address len =
    let end : ℕ = end_chunk settings.granularity address len in
    leb end (first_chunk settings.granularity address) || leb end (chunk_count settings.granularity (entries_of settings.ram))

-- edges are ignored or not, and the alignment is a power of two from the granularity on
abbrev pub is_aligned : Settings → ℕ → ℕ → Bool
is_aligned settings alignment ignore = leb ignore 1 && (leb settings.granularity alignment && is_power alignment)

-- a registrar that was built so, and that awaits an answer or not
pub record Stands (lent : Buffers) (settings : Settings) (awaits : Bool) : Type 0 where
  -- offset, granularity and layout are the build's
  pub same_offset : offset_of lent.state ≡ settings.offset
  pub same_granularity : granularity_of lent.state ≡ settings.granularity
  pub same_ram : ram_of lent.state ≡ settings.ram
  -- all that is lent has the length that the build asked for
  pub state_length : length lent.state ≡ registrar_len
  pub registered_length : length lent.registered ≡ map_words settings.granularity (entries_of settings.ram)
  pub failed_length : length lent.failed ≡ map_words settings.granularity (entries_of settings.ram)
  -- an answer that is awaited is taken, done or failed; any other is refused by 21
  pub told : under_way lent ≡ awaits
  pub answer_taken : awaits ≡ true → (is_taken (done_of lent) ≡ true) × (is_taken (failed_of lent) ≡ true)
  pub answer_refused : awaits ≡ false → (done_of lent ≡ record { buffers = lent; reply = flat_of (Refused refusal.nothing_asked) }) × (failed_of lent ≡ record { buffers = lent; reply = flat_of (Refused refusal.nothing_asked) })
  -- where none is awaited a request within the limits is taken
  pub register_taken_lem : awaits ≡ false → (address len : ℕ) → is_within settings address len ≡ true → is_taken (register_of lent address len) ≡ true
  pub all_taken : awaits ≡ false → (alignment ignore : ℕ) → is_aligned settings alignment ignore ≡ true → is_taken (all_of lent alignment ignore) ≡ true

-- ---- a call that is taken is, under any answers, the whole call as 01 writes it

abbrev pub RegisterWhole : Buffers → Type 0
RegisterWhole lent = (address len : ℕ) (answers : List Bool) → register_refusal lent address len ≡ 0 → Match 0 (follow (register_of lent address len) answers) (whole_register lent address len answers)

abbrev pub AllWhole : Buffers → Type 0
AllWhole lent = (alignment ignore : ℕ) (answers : List Bool) → all_refusal lent alignment ignore ≡ 0 → Match 0 (follow (all_of lent alignment ignore) answers) (whole_all lent alignment ignore answers)

-- a request whose chunks are all registered is Ok, asks for nothing and changes no word
abbrev pub RegisteredKept : Buffers → Type 0
RegisteredKept lent =
    (address len : ℕ) → register_refusal lent address len ≡ 0
    → ((chunk : ℕ) → first_chunk (granularity_of lent.state) address ≤ chunk → chunk < end_chunk (granularity_of lent.state) address len → bit_at word_bits lent.registered chunk ≡ true)
    → register_of lent address len ≡ record { buffers = lent; reply = flat_of (Done 0) }

-- the chunks that a request touches, widened to pages or not, are those of its bytes
abbrev pub ChunksPlain : Buffers → Type 0
ChunksPlain lent =
    let granularity : ℕ = granularity_of lent.state in
    (address len : ℕ) → (first_chunk granularity address ≡ address / granularity) × (end_chunk granularity address len ≡ up (address + len) granularity)

-- what is asked for lies at offset + address, and no number wraps
abbrev pub AskedPlain : Buffers → Type 0
AskedPlain lent =
    let offset : ℕ = offset_of lent.state in
    let request : Request = request_of lent.state in
    asked_of offset request ≡ Register (range (offset + request.start) (offset + request.end))

-- ---- of any words that are lent

-- a refusal leaves every lent word as given, save what 22 and 23 name; what is marked stays marked until a build
abbrev pub RefusalsKeep : Buffers → Type 0
RefusalsKeep lent = (call : Call) → Kept lent (with_taken lent call) (with_failed lent call) (give lent call)

abbrev pub MarksStay : Buffers → Type 0
MarksStay lent = (call : Call) (chunk : ℕ) → is_build call ≡ false → Stays lent chunk (give lent call)

-- a call that has ended, with Ok, 22 or 23, tells how many operations it asked for, in 64 bits
abbrev pub Counts : Told → Type 0
Counts told = told.last.reply.asked ≡ 0 → is_taken told.last ≡ true → told.last.reply.count ≡ length told.asked % 2 ^ 64

-- ---- all of it

pub record Claim (lent : Buffers) (settings : Settings) (awaits : Bool) : Type 0 where
  pub stands : Stands lent settings awaits
  pub register_whole_lem : RegisterWhole lent
  pub all_whole : AllWhole lent
  pub registered_kept : RegisteredKept lent
  pub chunks_plain : ChunksPlain lent
  pub asked_plain : AskedPlain lent
  pub refusals_keep : RefusalsKeep lent
  pub marks_stay : MarksStay lent
  pub register_counts : (address len : ℕ) (answers : List Bool) → Counts (follow (register_of lent address len) answers)
  pub all_counts : (alignment ignore : ℕ) (answers : List Bool) → Counts (follow (all_of lent alignment ignore) answers)
  pub ends : RequestEnds lent

-- from a build that is taken on
pub record FromBuild (lent : Buffers) (ram : List ℕ) (offset granularity : ℕ) : Type 0 where
  -- no entry asks anything of its arguments
  pub unasked : Unasked
  pub always : (calls : List Call) → let built : Buffers = (build_of lent ram offset granularity).buffers in
      Claim (after built calls) (settings_after built (built_with ram offset granularity) calls) (awaits_after built false calls)
  -- with no other build the settings stay this one's
  pub stay : (calls : List Call) → quiet calls ≡ true → settings_after (build_of lent ram offset granularity).buffers (built_with ram offset granularity) calls ≡ built_with ram offset granularity
