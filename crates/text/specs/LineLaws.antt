-- Document 02, **Wish 4**, as one statement: `LabelsInLines`, which is proved in proofs/LineLaws.antt. A choice of breaks is any `Lines` whose text is
-- the text.
use Rattle.std.specs.Prelude.{◌≡◌, true, List, [], ◌∷◌, map, ℕ, zero, suc, ◌*◌, ◌≤◌, ◌<◌, eqb, pos, length, get_or, drop}
use Rattle.arithmetic.specs.Scalar.{from_int}
use Rattle.arithmetic.specs.Tests.{occ, all}
use Rattle.text.specs.Advance.{advance_of, stop_sum, measure_of}
use Rattle.text.specs.Lines.{Lines, first_of, more_of, all_of, text_of, count_of, width_of, widest, words_of, Full}
use Rattle.text.specs.Lines.Lines.{lines}
use Rattle.text.specs.LineStarts.{in_bytes, lines_of, line_count_of, starts_kept}
use Rattle.text.specs.Reader.{is_utf8, scalars}
use Rattle.text.specs.Refusal.{accepted}
use Rattle.text.specs.Utf8.{all_scalars, encoded_all}

-- Line k and those behind it.
unfoldable pub line_onward : ℕ → List ℕ → List (List ℕ) → Lines
line_onward zero l ls = lines l ls
line_onward (suc k) l [] = lines l []
line_onward (suc k) l (m ∷ ms) = line_onward k m ms

unfoldable pub from_line : ℕ → Lines → Lines
from_line k b = line_onward k (first_of b) (more_of b)

-- What the lines b of a text are, where n of them are counted.
pub record AsAsked (s : List ℕ) (w n : ℕ) (b : Lines) : Type 0 where
  pub counted : count_of b ≡ n
  -- joined by single spaces they are the text
  pub of_the_text : text_of b ≡ scalars s
  pub every_line_fits : widest advance_of b ≤ w
  pub each_takes_what_fits : Full advance_of w b
  pub no_choice_makes_fewer : (o : Lines) → text_of o ≡ scalars s → widest advance_of o ≤ w → n ≤ count_of o

-- No choice of breaks has lines that all fit.
abbrev pub NothingFits : List ℕ → ℕ → Type 0
NothingFits s w = (o : Lines) → text_of o ≡ scalars s → widest advance_of o ≤ w → ⊥

-- What the call tells: number, count, and the buffer afterwards.
abbrev told : List ℕ → ℕ → List ℕ → List ℕ
told s w buf = (line_count_of s w (length buf)).number ∷ (line_count_of s w (length buf)).value ∷ starts_kept s w buf

-- What it tells, and what it is to tell. A letter a, b or c is 7 pixels wide, a space 4, and any character past 126 counts as '?', which is 7.
pub record Row : Type 0 where
  pub given : List ℕ
  pub wanted : List ℕ

unfoldable pub rows : List Row
rows =
    record { given = told (97 ∷ 98 ∷ 32 ∷ 99 ∷ []) 25 (7 ∷ 8 ∷ 9 ∷ []); wanted = 0 ∷ 1 ∷ 0 ∷ 8 ∷ 9 ∷ [] }  -- "ab c" just fits
    ∷ record { given = told (97 ∷ 98 ∷ 32 ∷ 99 ∷ []) 24 (7 ∷ 8 ∷ 9 ∷ []); wanted = 0 ∷ 2 ∷ 0 ∷ 3 ∷ 9 ∷ [] }
    ∷ record { given = told (97 ∷ 98 ∷ 32 ∷ 32 ∷ 99 ∷ []) 14 (7 ∷ 8 ∷ []); wanted = 0 ∷ 2 ∷ 0 ∷ 3 ∷ [] }  -- "ab  c": the empty word begins the second line
    ∷ record { given = told (32 ∷ 97 ∷ 32 ∷ []) 10 (7 ∷ 8 ∷ 9 ∷ []); wanted = 0 ∷ 3 ∷ 0 ∷ 1 ∷ 3 ∷ [] }  -- " a ": an empty word before and after
    ∷ record { given = told (0xC3 ∷ 0xA9 ∷ 32 ∷ 98 ∷ []) 7 (7 ∷ 8 ∷ []); wanted = 0 ∷ 2 ∷ 0 ∷ 3 ∷ [] }  -- U+00E9 has two bytes
    ∷ record { given = told [] 0 (7 ∷ []); wanted = 0 ∷ 1 ∷ 0 ∷ [] }
    ∷ record { given = told (32 ∷ 32 ∷ []) 0 (7 ∷ 8 ∷ 9 ∷ []); wanted = 0 ∷ 3 ∷ 0 ∷ 1 ∷ 2 ∷ [] }
    ∷ record { given = told (97 ∷ 98 ∷ 32 ∷ 99 ∷ []) 24 (7 ∷ []); wanted = 13 ∷ 0 ∷ 7 ∷ [] }  -- a place too few
    ∷ record { given = told (97 ∷ 98 ∷ 32 ∷ 99 ∷ []) 13 (7 ∷ []); wanted = 12 ∷ 0 ∷ 7 ∷ [] }  -- too wide, and a place too few
    ∷ record { given = told (97 ∷ 98 ∷ 0xC3 ∷ []) 13 []; wanted = 11 ∷ 0 ∷ [] }  -- ill-formed, too wide, and a place too few
    ∷ []

pub record LabelsInLines : Type 0 where
  pub the_lines_are_as_asked : (s : List ℕ) (w room n : ℕ) → line_count_of s w room ≡ accepted n → AsAsked s w n (lines_of s w)
  -- where place k says that line k starts, stand the bytes of that line and of those behind it; and it is inside the text or at its end, so that no
  -- other place would do
  pub each_place_is_a_start : (s : List ℕ) (w n : ℕ) (buf : List ℕ) → line_count_of s w (length buf) ≡ accepted n
      → (k : ℕ) → k < n → drop (get_or (starts_kept s w buf) k 0) s ≡ text_of (from_line k (in_bytes (lines_of s w)))
  pub no_place_is_past_the_end : (s : List ℕ) (w n : ℕ) (buf : List ℕ) → line_count_of s w (length buf) ≡ accepted n
      → (k : ℕ) → k < n → get_or (starts_kept s w buf) k 0 ≤ length s
  pub further_places_are_kept : (s : List ℕ) (w n : ℕ) (buf : List ℕ) → line_count_of s w (length buf) ≡ accepted n
      → (k : ℕ) → n ≤ k → get_or (starts_kept s w buf) k 0 ≡ get_or buf k 0
  pub a_refusal_writes_nothing : (s : List ℕ) (w : ℕ) (buf : List ℕ) → ((line_count_of s w (length buf)).number ≡ 0 → ⊥) → starts_kept s w buf ≡ buf
  -- the words are a choice of breaks, and none of them holds a space
  pub the_words_are_of_the_text : (cs : List ℕ) → text_of (words_of cs) ≡ cs
  pub no_word_holds_a_space : (cs : List ℕ) → all (λ (m : List ℕ). eqb (occ 32 m) 0) (all_of (words_of cs)) ≡ true
  -- 12 comes just where no choice of breaks fits
  pub nothing_fits_what_is_wide : (s : List ℕ) (w room : ℕ) → (line_count_of s w room).number ≡ 12 → NothingFits s w
  pub wide_where_nothing_fits : (s : List ℕ) (w room : ℕ) → is_utf8 s ≡ true → length s ≤ 1024 → NothingFits s w → (line_count_of s w room).number ≡ 12
  -- text with no break is one line: without a space, or no wider than the width; so is the empty text
  pub no_space_is_one_line : (s : List ℕ) (w : ℕ) → occ 32 (scalars s) ≡ 0 → lines_of s w ≡ lines (scalars s) []
  pub what_fits_is_one_line : (s : List ℕ) (w : ℕ) → width_of advance_of (scalars s) ≤ w → lines_of s w ≡ lines (scalars s) []
  pub no_text_is_one_line : (w : ℕ) → lines_of [] w ≡ lines [] []
  -- a character is at most 13 pixels wide, so that no sum comes near the top of an i32, where that of `measure` stops
  pub no_sum_stops : (cs : List ℕ) → length cs ≤ 1024 → (width_of advance_of cs ≤ 13 * 1024) × (stop_sum 0 (map advance_of cs) ≡ width_of advance_of cs)
  -- so a line is as wide as `measure` says
  pub a_line_is_as_measured : (cs : List ℕ) → all_scalars cs ≡ true → length cs ≤ 1024 → measure_of (encoded_all cs) ≡ accepted (from_int (pos (width_of advance_of cs)))
  pub the_rows_hold : map (λ (r : Row). r.given) rows ≡ map (λ (r : Row). r.wanted) rows
