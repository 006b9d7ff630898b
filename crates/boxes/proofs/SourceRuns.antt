-- The history answers every line of the source's runs as the Rust does: each side computes. Assumes nothing.
use mathlib.Core.Path.{◌≡◌, refl}
use mathlib.Core.List.{[], map}
use Rattle.arithmetic.specs.Tests.{within, same, δ}
use Rattle.arithmetic.specs.Scalar.{stop, add_sat, sub_sat, gap_times, max_of, unsigned_of}
use Rattle.arithmetic.specs.Growth.{sum_to, total, table, comes_before, rank, grow_sum, whole_share, remainder, missing, share_with_unit, share, plan_growth}
use Rattle.text.specs.Utf8.{is_scalar, encoded, encoded_all}
use Rattle.text.specs.Steps.{front}
use Rattle.field.specs.Text.{bytes_of, caret_of, goes_in, typed, keyed}
use Rattle.field.specs.Marks.{takes}
use Rattle.field.specs.Metres.{value_of, behind, plain_metres, trimmed, point_for, metres_of}
use Rattle.boxes.specs.Layout.{outer, summed, content, want, offset, boxes, place, holds}
use Rattle.boxes.specs.States.{entry_of, patch_style, touches, in_pool, bits_of}
use Rattle.boxes.specs.Pointers.{first_pointer}
use Rattle.boxes.specs.Nodes.{wears, swaps, bits_for, restyled, bare}
use Rattle.boxes.specs.History.{limit_from, start, text_said, caret_said, metres_said, confirmed_said, marked_said, rect_said, live_said, first_said, next_said, refusal_of, refresh, grown, accept, recorded}
use Rattle.boxes.specs.Runs.{Run, unlike}
use Rattle.boxes.specs.SourceRuns.{source_runs}

-- No line of any run.
pub the_history_answers_as_the_source : map unlike source_runs ≡ map (λ (r : Run). []) source_runs
unfolding within same δ stop add_sat sub_sat gap_times max_of unsigned_of sum_to table comes_before rank grow_sum whole_share remainder missing share_with_unit share plan_growth is_scalar encoded encoded_all front bytes_of caret_of goes_in typed keyed takes value_of behind plain_metres trimmed point_for metres_of outer summed content want offset total boxes place holds entry_of patch_style touches in_pool bits_of wears swaps bits_for restyled bare first_pointer limit_from start text_said caret_said metres_said confirmed_said marked_said rect_said live_said first_said next_said refusal_of refresh grown accept recorded unlike source_runs
the_history_answers_as_the_source = refl
