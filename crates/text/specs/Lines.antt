-- Document 02, **Wish 4**: a text broken into lines at spaces, its words, and the lines that each take as many words as fit. A text is a list of
-- codes, and `adv` says how wide each of them is.
use Rattle.std.specs.Prelude.{Bool, cond, ◌&&◌, List, [], ◌∷◌, ◌++◌, ℕ, suc, ◌+◌, ◌<◌, max, eqb, ltb, length}

-- A choice of breaks is the lines that it makes: a first one, and those behind it.
pub data Lines : Type 0 where
  lines : List ℕ → List (List ℕ) → Lines

abbrev pub first_of : Lines → List ℕ
first_of (lines l ls) = l

abbrev pub more_of : Lines → List (List ℕ)
more_of (lines l ls) = ls

abbrev pub all_of : Lines → List (List ℕ)
all_of (lines l ls) = l ∷ ls

unfoldable pub count_of : Lines → ℕ
count_of (lines l ls) = suc (length ls)

-- The text that lines are of: a break replaces one space.
unfoldable pub behind : List (List ℕ) → List ℕ
behind [] = []
behind (m ∷ ms) = 32 ∷ (m ++ behind ms)

unfoldable pub text_of : Lines → List ℕ
text_of (lines l ls) = l ++ behind ls

-- The width of a line, with the spaces inside it, and of the widest line. All lines fit where the widest does.
unfoldable pub width_of : (ℕ → ℕ) → List ℕ → ℕ
width_of adv [] = 0
width_of adv (c ∷ cs) = adv c + width_of adv cs

unfoldable pub widest_in : (ℕ → ℕ) → List (List ℕ) → ℕ
widest_in adv [] = 0
widest_in adv (m ∷ ms) = max (width_of adv m) (widest_in adv ms)

unfoldable pub widest : (ℕ → ℕ) → Lines → ℕ
widest adv b = widest_in adv (all_of b)

-- A break in front of lines, and a code in front of their first.
abbrev pub cut : Lines → Lines
cut (lines l ls) = lines [] (l ∷ ls)

abbrev pub onto : ℕ → Lines → Lines
onto c (lines l ls) = lines (c ∷ l) ls

-- The words: a break at every space. They may be empty. And the first of them.
unfoldable pub words_of : List ℕ → Lines
words_of [] = lines [] []
words_of (c ∷ cs) = cond (eqb c 32) (cut (words_of cs)) (onto c (words_of cs))

unfoldable pub word_of : List ℕ → List ℕ
word_of [] = []
word_of (c ∷ cs) = cond (eqb c 32) [] (c ∷ word_of cs)

-- With u the width of the line so far, there is a break at a code c, with cs behind it, just where c is a space that does not fit with the word
-- behind it.
unfoldable pub breaks : (ℕ → ℕ) → ℕ → ℕ → ℕ → List ℕ → Bool
breaks adv w u c cs = eqb c 32 && ltb w (u + adv c + width_of adv (word_of cs))

-- The lines that take as many words as fit, from a line of width u on, and from the start.
unfoldable pub greedy_from : (ℕ → ℕ) → ℕ → ℕ → List ℕ → Lines
greedy_from adv w u [] = lines [] []
greedy_from adv w u (c ∷ cs) =
    cond (breaks adv w u c cs) (cut (greedy_from adv w 0 cs)) (onto c (greedy_from adv w (u + adv c) cs))

abbrev pub greedy : (ℕ → ℕ) → ℕ → List ℕ → Lines
greedy adv w cs = greedy_from adv w 0 cs

-- Each line takes as many words as fit: with a space and the first word of the next line it would not.
unfoldable pub FullIn : (ℕ → ℕ) → ℕ → List ℕ → List (List ℕ) → Type 0
FullIn adv w l [] = Unit
FullIn adv w l (m ∷ ms) = (w < width_of adv (l ++ (32 ∷ word_of m))) × FullIn adv w m ms

unfoldable pub Full : (ℕ → ℕ) → ℕ → Lines → Type 0
Full adv w b = FullIn adv w (first_of b) (more_of b)
