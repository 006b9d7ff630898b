-- Document 02, **Wish 4**: what the call answers, how many lines or why none, and what the lent buffer then holds: the byte offset where each line
-- starts.
use Rattle.std.specs.Prelude.{cond, not, List, [], ◌∷◌, map, ℕ, ◌+◌, eqb, ltb, length}
use Rattle.arithmetic.specs.Tests.{over}
use Rattle.text.specs.Advance.{advance_of}
use Rattle.text.specs.Lines.{Lines, first_of, more_of, all_of, count_of, widest, words_of, greedy}
use Rattle.text.specs.Lines.Lines.{lines}
use Rattle.text.specs.Reader.{is_utf8, scalars}
use Rattle.text.specs.Refusal.{Answer, accepted, refused}
use Rattle.text.specs.Utf8.{encoded_all}
use Rattle.text.specs.declared.refusal.Refusal.TheVariants.{IllFormed, Wide, Short}

-- Lines of characters as lines of bytes.
unfoldable pub in_bytes : Lines → Lines
in_bytes b = lines (encoded_all (first_of b)) (map encoded_all (more_of b))

-- Where lines start, the first of them at n: a space stands between two lines.
unfoldable pub starts_from : ℕ → List (List ℕ) → List ℕ
starts_from n [] = []
starts_from n (m ∷ ms) = n ∷ starts_from (n + length m + 1) ms

unfoldable pub starts_of : Lines → List ℕ
starts_of b = starts_from 0 (all_of b)

-- The lines of a text, by the advances of document 01.
unfoldable pub lines_of : List ℕ → ℕ → Lines
lines_of s w = greedy advance_of w (scalars s)

-- How many lines, for a width and a buffer of so many places; or the refusal that comes first.
unfoldable pub line_count_of : List ℕ → ℕ → ℕ → Answer ℕ
line_count_of s w room =
    cond (not (is_utf8 s)) (refused IllFormed 0)
    (cond (ltb 1024 (length s)) (refused Short 0)
    (cond (ltb w (widest advance_of (words_of (scalars s)))) (refused Wide 0)
    (cond (ltb room (count_of (lines_of s w))) (refused Short 0)
    (accepted (count_of (lines_of s w))))))

-- The buffer afterwards: the starts over its front, and where the call is refused what it held.
unfoldable pub starts_kept : List ℕ → ℕ → List ℕ → List ℕ
starts_kept s w buf = cond (eqb (line_count_of s w (length buf)).number 0) (over (starts_of (in_bytes (lines_of s w))) buf) buf
