-- What the private walks of src/lines.rt promise each other, in bytes.
use Rattle.std.specs.Prelude.{◌≡◌, cond, List, [], ℕ, ◌+◌, ◌*◌, ◌≤◌, leb, length, drop}
use Rattle.text.specs.Advance.{advance_of}
use Rattle.text.specs.Lines.{all_of, width_of, greedy}
use Rattle.text.specs.Steps.{is_tail}
use Rattle.text.specs.declared.lines.Part.{Part}

-- A byte's share of its character's advance: the first byte has all of it.
unfoldable pub weight_of : ℕ → ℕ
weight_of b = cond (is_tail b) 0 (advance_of b)

-- The part p of the bytes s, a word or a line, starts at `from` and is l.
pub record Spans (s : List ℕ) (from : ℕ) (l : List ℕ) (p : Part) : Type 0 where
  pub ends : p.end ≡ from + length l
  pub wide : p.width ≡ width_of weight_of l
  pub inside : p.end ≤ length s
  pub small : p.width ≤ 13 * 1024

-- The lines of what starts at n, and none past the end.
unfoldable pub lines_from : ℕ → ℕ → List ℕ → List (List ℕ)
lines_from w n s = cond (leb n (length s)) (all_of (greedy weight_of w (drop n s))) []
