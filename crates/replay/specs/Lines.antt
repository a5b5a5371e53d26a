-- Lines of the file put to the entries and compared (README.md, "The file", "What is compared").
use Rattle.std.specs.Prelude.{ℕ, zero, suc, ◌+◌, ◌%◌, cond, List, [], ◌∷◌, replicate, ◌==◌, slice_index}
use Rattle.abi.specs.Lengths.{registrar_len, ram_len}
use Rattle.abi.specs.Limits as limit
use Rattle.abi.specs.Places as place
use Rattle.registrar_state.specs.Buffers as chunks
use Rattle.recording.specs.Decode.{numbers_at, after_numbers}
use Rattle.recording.specs.Digest.{start}
use Rattle.recording.specs.Kinds as kind
use Rattle.recording.specs.Lists.{Filling, filling, after_runs, with_runs, entry_place, with_entries, part_of}
use Rattle.playback.specs.declared.buffers.Buffers.{Buffers}
use Rattle.playback.specs.declared.buffers.Call.{Call}
use Rattle.playback.specs.declared.registry.Registry.{Registry}
use Rattle.playback.specs.Buffers.{with_asked}
use Rattle.playback.specs.Calls.{build_of, call_of}
use Rattle.playback.specs.Answers.{finished_of}
use Rattle.playback.specs.Left.{left_of}
use Rattle.playback.specs.Registry as registry
use Rattle.replay.specs.Fields as field
use Rattle.replay.specs.Tally.{columns, registrar, recorded, result_of, noted_of}

-- ---- a line: its sixteen numbers, the runs that follow, the place after them

abbrev pub fields_at : List ℕ → ℕ → List ℕ
fields_at s at = numbers_at field.all s at

abbrev pub runs_at : List ℕ → ℕ → ℕ
runs_at s at = after_numbers field.all s at

abbrev pub call_at : List ℕ → ℕ → Call
call_at s at = recorded (fields_at s at)

abbrev pub filled_at : List ℕ → ℕ → Filling
filled_at s at = with_runs (call_at s at).runs s (runs_at s at) (filling (replicate limit.list_bytes 0) 0)

abbrev pub list_at : List ℕ → ℕ → List ℕ
list_at s at = part_of (filled_at s at).bytes (filled_at s at).at

abbrev pub ram_at : List ℕ → ℕ → List ℕ
ram_at s at = part_of (with_entries (call_at s at).runs s (runs_at s at) 0 (replicate ram_len 0)) (entry_place (call_at s at).runs)

abbrev pub after_line : List ℕ → ℕ → ℕ
after_line s at = after_runs (call_at s at).runs s (runs_at s at)

-- ---- the protector's

-- a call run to its end
unfoldable pub put_of : Buffers → Call → List ℕ → List ℕ → Buffers
put_of buffers c l ram = cond (c.kind == kind.build) (build_of (with_asked buffers start) c ram) (finished_of (call_of (with_asked buffers start) c l) c)

-- of a call that fails nowhere the place of the code says how often it is put before
abbrev pub times_before : Call → ℕ
times_before c = cond (c.place == 0) c.code 0

unfoldable pub put_times : ℕ → Buffers → Call → List ℕ → List ℕ → Buffers
put_times zero buffers c l ram = buffers
put_times (suc n) buffers c l ram = put_times n (put_of buffers c l ram) c l ram

abbrev pub put_often : Buffers → Call → List ℕ → List ℕ → Buffers
put_often buffers c l ram = put_of (put_times (times_before c) buffers c l ram) c l ram

abbrev pub given_by : Buffers → List ℕ
given_by buffers = result_of buffers.reply.number ∷ buffers.reply.code ∷ buffers.reply.index ∷ buffers.reply.count ∷ buffers.asked ∷ left_of buffers ∷ []

abbrev pub compared_to : Buffers → List ℕ → List ℕ → List ℕ
compared_to buffers f t = noted_of t f (given_by buffers) buffers.reply.number (slice_index buffers.state place.isolation % columns + 2)

abbrev pub buffers_after : List ℕ → Buffers → ℕ → Buffers
buffers_after s buffers at = put_often buffers (call_at s at) (list_at s at) (ram_at s at)

-- so many lines: the counts, and the place after them
unfoldable pub tally_after : ℕ → List ℕ → Buffers → ℕ → List ℕ → List ℕ
tally_after zero s buffers at t = t
tally_after (suc n) s buffers at t = tally_after n s (buffers_after s buffers at) (after_line s at) (compared_to (buffers_after s buffers at) (fields_at s at) t)

unfoldable pub after_lines : ℕ → List ℕ → ℕ → ℕ
after_lines zero s at = at
after_lines (suc n) s at = after_lines n s (after_line s at)

-- ---- the registrar's

-- before the first build
abbrev pub no_registry : Registry
no_registry = record { state = replicate registrar_len 0; registered = replicate registry.bitmap_words 0; failed = replicate registry.bitmap_words 0; reply = chunks.simple 0 0 0 0 0 0; asked = 0 }

abbrev pub given_by_registry : Registry → List ℕ
given_by_registry w = result_of w.reply.number ∷ 0 ∷ w.reply.address ∷ w.reply.count ∷ registry.asked_of w ∷ registry.left_of w ∷ []

abbrev pub registry_compared_to : Registry → List ℕ → List ℕ → List ℕ
registry_compared_to w f t = noted_of t f (given_by_registry w) w.reply.number registrar

abbrev pub registry_after : List ℕ → Registry → ℕ → Registry
registry_after s w at = registry.call_of w (call_at s at) (ram_at s at)

unfoldable pub registry_tally : ℕ → List ℕ → Registry → ℕ → List ℕ → List ℕ
registry_tally zero s w at t = t
registry_tally (suc n) s w at t = registry_tally n s (registry_after s w at) (after_line s at) (registry_compared_to (registry_after s w at) (fields_at s at) t)
