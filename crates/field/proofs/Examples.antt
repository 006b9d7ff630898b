-- Every row of the documents' examples holds, and every row about marks: each side computes. Assumes nothing.
use mathlib.Core.Path.{◌≡◌, refl}
use mathlib.Core.List.{map}
use Rattle.arithmetic.specs.Scalar.{stop, add_sat}
use Rattle.arithmetic.specs.Growth.{sum_to, table, comes_before, rank, grow_sum, whole_share, remainder, missing, share_with_unit, share, plan_growth}
use Rattle.arithmetic.specs.Tests.{within}
use Rattle.text.specs.Utf8.{is_scalar, encoded}
use Rattle.text.specs.Reader.{lead_of, step_of, run_from, is_utf8, scalars_from, scalars}
use Rattle.text.specs.Steps.{front, back_of, step_back, step_forward}
use Rattle.text.specs.Advance.{advances, advance_of, stop_sum, measure_of}
use Rattle.field.specs.Fields.{empty_field, in_range, moved, cut_out, put_in, step_back_of, step_forward_of, edited_in, edited, inserted, with_mark, unconfirmed}
use Rattle.field.specs.Metres.{value_of, behind, plain_metres, trimmed, point_for, metres_of}
use Rattle.field.specs.Examples.{Row, rows, mark_rows}

pub examples_hold : map (λ (r : Row). r.given) rows ≡ map (λ (r : Row). r.wanted) rows
unfolding rows stop add_sat sum_to table comes_before rank grow_sum whole_share remainder missing share_with_unit share plan_growth within is_scalar encoded lead_of step_of run_from is_utf8 scalars_from scalars front advances advance_of stop_sum measure_of in_range put_in inserted value_of behind plain_metres trimmed point_for metres_of
examples_hold = refl

pub mark_examples_hold : map (λ (r : Row). r.given) mark_rows ≡ map (λ (r : Row). r.wanted) mark_rows
unfolding mark_rows within is_scalar encoded front empty_field in_range moved cut_out put_in back_of step_back step_forward step_back_of step_forward_of edited_in edited inserted with_mark unconfirmed value_of behind plain_metres trimmed point_for metres_of
mark_examples_hold = refl
