-- The rows of the registrar, computed. Assumes nothing.
use mathlib.Core.Path.{refl}
use Rattle.bitmap.specs.Pages.{word, written_from}
use Rattle.layout.specs.Layout.{entries_of, ordered, aligned, refusal_of, spans_from, spans}
use Rattle.chunks.specs.Chunks.{power_from, pieces, first_not_of, entry_with}
use Rattle.registrar_steps.specs.Steps.{register_from, look_at, all_from}
use Rattle.registrar_state.specs.Buffers as reg
use Rattle.registrar_state.specs.Buffers.{all_refusal, all_of}
use Rattle.worked.specs.Registrar.{RegistrarBuilds, Registers, AllAligned}

pub registrar_builds : RegistrarBuilds
unfolding word written_from entries_of ordered aligned refusal_of spans_from spans power_from pieces first_not_of entry_with register_from look_at all_from
    reg.build_refusal reg.build_of reg.register_refusal reg.register_of all_refusal all_of reg.answer_refusal reg.done_of reg.failed_of
registrar_builds =
    record {
      taken = refl;
      chunks_64 = refl;
      chunks_64_long = refl;
      chunks_65 = refl;
      chunks_65_short = refl;
      half = refl;
      layout_1 = refl;
      layout_2 = refl;
      offset_1 = refl;
      offset_high = refl;
      offset_highest = refl;
      granularity_2048 = refl;
      granularity_4096 = refl;
      granularity_12288 = refl;
      block_first = refl;
      bitmaps_last = refl;
    }

pub registers : Registers
unfolding word written_from entries_of ordered aligned refusal_of spans_from spans power_from pieces first_not_of entry_with register_from look_at all_from
    reg.build_refusal reg.build_of reg.register_refusal reg.register_of all_refusal all_of reg.answer_refusal reg.done_of reg.failed_of
registers =
    record {
      p8_nothing = refl;
      p8_asked = refl;
      p8_registered = refl;
      registered_again = refl;
      first_asked = refl;
      first_passed = refl;
      second_asked = refl;
      second_marks = refl;
      both_done = refl;
      first_fails = refl;
      second_fails = refl;
      failed_again = refl;
      short_busy = refl;
      short_idle = refl;
      short_done = refl;
      short_failed = refl;
      widened = refl;
      widened_on = refl;
      before_failed = refl;
      before_failed_done = refl;
      chunk_64 = refl;
      chunk_63 = refl;
      chunk_65 = refl;
      past_empty = refl;
      past_touched = refl;
      busy = refl;
      busy_all = refl;
      nothing_done = refl;
      nothing_failed = refl;
    }

pub all_aligned : AllAligned
unfolding word written_from entries_of ordered aligned refusal_of spans_from spans power_from pieces first_not_of entry_with register_from look_at all_from
    reg.build_refusal reg.build_of reg.register_refusal reg.register_of all_refusal all_of reg.answer_refusal reg.done_of reg.failed_of
all_aligned =
    record {
      p9_asked = refl;
      p9_unaligned = refl;
      front = refl;
      back = refl;
      front_and_back = refl;
      no_aligned_part = refl;
      second_node = refl;
      both_nodes = refl;
      first_node = refl;
      ignored_front = refl;
      ignored_both = refl;
      ignored_joined = refl;
      ignored_none = refl;
      aligned_span = refl;
      stretches = refl;
      stretches_on = refl;
      stretches_done = refl;
      before_failed = refl;
      before_registered = refl;
      stretch_fails = refl;
      all_64 = refl;
      all_65_asked = refl;
      all_65 = refl;
      ignore_2 = refl;
      alignment_3 = refl;
      alignment_low = refl;
    }
