-- The rows of wish 4: each side computes, row by row. Assumes nothing, and cites no other proof, so that a row tells by itself.
use mathlib.Core.Path.{◌≡◌, refl}
use mathlib.Core.List.{List, ◌∷◌, map}
use Prim.Native.Nat.{ℕ}
use Rattle.arithmetic.specs.Tests.{within}
use Rattle.text.specs.Advance.{advances, advance_of}
use Rattle.text.specs.Lines.{count_of, width_of, widest_in, widest, words_of, word_of, breaks, greedy_from}
use Rattle.text.specs.LineStarts.{in_bytes, starts_from, starts_of, lines_of, line_count_of, starts_kept}
use Rattle.text.specs.LineLaws.{Row, rows}
use Rattle.text.specs.Reader.{lead_of, step_of, run_from, is_utf8, scalars_from, scalars}
use Rattle.text.specs.Utf8.{encoded, encoded_all}

row : {a b : List ℕ} {x y : List (List ℕ)} → a ≡ b → x ≡ y → a ∷ x ≡ b ∷ y
row p q = cc

pub the_rows_hold : map (λ (r : Row). r.given) rows ≡ map (λ (r : Row). r.wanted) rows
unfolding rows line_count_of starts_kept lines_of in_bytes starts_from starts_of is_utf8 run_from step_of lead_of within scalars scalars_from advance_of advances widest widest_in width_of words_of word_of breaks greedy_from count_of encoded encoded_all
the_rows_hold = row refl (row refl (row refl (row refl (row refl (row refl (row refl (row refl (row refl (row refl refl)))))))))
