-- Document 01, **Metres**: one to three digits, optionally a point and one or two digits, read as whole centimetres. Document 02, **Wish 1**:
-- a comma reads as a point, spaces before and after are skipped, and nothing but spaces counts as empty.
use Rattle.std.specs.Prelude.{ℕ, zero, suc, ◌+◌, ◌-◌, ◌*◌, Bool, ◌&&◌, cond, List, [], ◌∷◌, map, reverse, eqb, length, get_or, drop}
use Rattle.arithmetic.specs.Tests.{same, within}
use Rattle.text.specs.Steps.{front}
use Rattle.text.specs.Refusal.{Answer, accepted, refused}
use Rattle.text.specs.declared.refusal.Refusal.TheVariants.{Empty, Unread}

abbrev pub is_digit : ℕ → Bool
is_digit b = within 48 57 b

abbrev pub is_point : ℕ → Bool
is_point b = eqb b 46

-- The number that the first n digits of a list make.
unfoldable pub value_of : List ℕ → ℕ → ℕ
value_of s zero = 0
value_of s (suc n) = value_of s n * 10 + (get_or s n 0 - 48)

abbrev pub unread : Answer ℕ
unread = refused Unread 0

-- What stands behind the whole metres, of which there are v centimetres.
unfoldable pub behind : ℕ → List ℕ → Answer ℕ
behind v [] = accepted v
behind v (p ∷ []) = unread
behind v (p ∷ d ∷ []) = cond (is_point p && is_digit d) (accepted (v + (d - 48) * 10)) unread
behind v (p ∷ d ∷ e ∷ []) = cond (is_point p && (is_digit d && is_digit e)) (accepted (v + (d - 48) * 10 + (e - 48))) unread
behind v (p ∷ d ∷ e ∷ x ∷ s) = unread

-- The centimetres of a text by document 01; 9 for an empty one, 10 for one of another form.
unfoldable pub plain_metres : List ℕ → Answer ℕ
plain_metres s =
    cond (eqb (length s) 0) (refused Empty 0)
    (cond (within 1 3 (front is_digit s)) (behind (value_of s (front is_digit s) * 100) (drop (front is_digit s) s)) unread)

-- Code 32 is a space, and nothing else is.
abbrev pub is_space : ℕ → Bool
is_space b = eqb b 32

-- The text without the spaces before it, without those after it, and without both.
abbrev pub skipped : List ℕ → List ℕ
skipped s = drop (front is_space s) s

abbrev pub skipped_back : List ℕ → List ℕ
skipped_back s = reverse (skipped (reverse s))

unfoldable pub trimmed : List ℕ → List ℕ
trimmed s = skipped_back (skipped s)

-- The text with each comma made a point.
abbrev pub is_comma : ℕ → Bool
is_comma b = eqb b 44

unfoldable pub point_for : ℕ → ℕ
point_for b = cond (is_comma b) 46 b

abbrev pub pointed : List ℕ → List ℕ
pointed s = map point_for s

-- The centimetres of a text; 9 for nothing but spaces, 10 for one of another form.
unfoldable pub metres_of : List ℕ → Answer ℕ
metres_of s = plain_metres (pointed (trimmed s))

-- The text reads as metres.
unfoldable pub reads : List ℕ → Bool
reads s = same (metres_of s).number 0
