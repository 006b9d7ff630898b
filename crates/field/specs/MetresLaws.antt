-- Document 02, **Wish 1**: what commas and spaces change in the reading of metres, and that they change no more. Proved in proofs/MetresLaws.antt.
use Rattle.std.specs.Prelude.{◌≡◌, Bool, true, false, not, ◌||◌, List, ◌∷◌, ◌++◌, reverse, ℕ, replicate}
use Rattle.arithmetic.specs.Tests.{all}
use Rattle.text.specs.Steps.{front}
use Rattle.text.specs.Refusal.{refused}
use Rattle.text.specs.declared.refusal.Refusal.TheVariants.{Empty}
use Rattle.field.specs.Metres.{is_space, is_comma, trimmed, pointed, plain_metres, metres_of, unread}

-- The text s is t with spaces before and after it, and t neither begins nor ends with one.
module _ (s t : List ℕ) where
  pub record Trims : Type 0 where
    pub before : ℕ
    pub after : ℕ
    pub parts : s ≡ replicate before 32 ++ (t ++ replicate after 32)
    pub begins_with_none : front is_space t ≡ 0
    pub ends_with_none : front is_space (reverse t) ≡ 0

-- Neither a space nor a comma.
abbrev pub is_other : ℕ → Bool
is_other b = not (is_space b || is_comma b)

pub record MetresLaws : Type 0 where
  -- a text without comma and space reads as document 01 has it
  pub others_read_as_before : (s : List ℕ) → all is_other s ≡ true → metres_of s ≡ plain_metres s
  -- all that is skipped is spaces before and after, and all that is swapped is commas for points
  pub no_more_is_skipped_or_swapped : (s : List ℕ) → Trims s (trimmed s) × (metres_of s ≡ plain_metres (pointed (trimmed s)))
  -- a comma reads as a point
  pub a_comma_is_a_point : (s t : List ℕ) → metres_of (s ++ 44 ∷ t) ≡ metres_of (s ++ 46 ∷ t)
  -- 9 exactly where every byte is a space
  pub only_spaces_are_empty : (s : List ℕ) → all is_space s ≡ true → metres_of s ≡ refused Empty 0
  pub nothing_else_is_empty : (s : List ℕ) → (metres_of s).number ≡ 9 → all is_space s ≡ true
  -- 10 where a space stands inside, with another byte before it and another after it
  pub a_space_inside_is_unread : (s t : List ℕ) → all is_space s ≡ false → all is_space t ≡ false → metres_of (s ++ 32 ∷ t) ≡ unread
