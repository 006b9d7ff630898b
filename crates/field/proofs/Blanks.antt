-- A text of nothing but spaces: keys that type no other character leave it so, and it is read as empty. Assumes nothing.
use mathlib.Core.Path.{◌≡◌, refl}
use mathlib.Core.Bool.{true, ◌&&◌}
use mathlib.Core.List.{List, [], ◌∷◌, reverse_aux}
use Prim.Native.Nat.{ℕ, ◌+◌}
use borrow.Author.Tests.{eqb-true}
use lib.Dec.{leb}
use lib.ListN.{length}
use Rattle.arithmetic.specs.Tests.{all}
use Rattle.arithmetic.proofs.BoolLaws.{pick_of, both, and_both}
use Rattle.text.specs.Utf8.{is_scalar, encoded, encoded_all}
use Rattle.text.specs.Refusal.{refused}
use Rattle.text.specs.declared.refusal.Refusal.TheVariants.{Empty}
use Rattle.field.specs.Text.{Text, text, bytes_of, goes_in, typed, keyed}
use Rattle.field.specs.Metres.{is_space, metres_of}
use Rattle.field.specs.declared.EditOp.{EditOp}
use Rattle.field.specs.declared.EditOp.TheVariants.{Backspace, Delete, Left, Right, Home, End}
use Rattle.field.proofs.MetresLaws.{spaces_are_empty}

-- All characters are spaces, before the caret and after it.
abbrev pub Blank : Text → Type 0
Blank (text b a) = (all is_space b ≡ true) × (all is_space a ≡ true)

all_over : (b a : List ℕ) → all is_space b ≡ true → all is_space a ≡ true → all is_space (reverse_aux b a) ≡ true
all_over [] a p q = q
all_over (c ∷ b) a p q = let k = both (is_space c) (all is_space b) p in all_over b (c ∷ a) k.1 (and_both k.0 q)

pub typed_blank : (c : ℕ) → is_space c ≡ true → (t : Text) → Blank t → Blank (typed c t)
unfolding typed goes_in
typed_blank c e (text b a) k =
    pick_of Blank (is_scalar c && leb (length (bytes_of (text b a)) + length (encoded c)) 64) (λ _. (and_both e k.0, k.1)) (λ _. k)

pub keyed_blank : (op : EditOp) (t : Text) → Blank t → Blank (keyed op t)
unfolding keyed
keyed_blank Backspace (text [] a) k = k
keyed_blank Backspace (text (c ∷ b) a) k = ((both (is_space c) (all is_space b) k.0).1, k.1)
keyed_blank Delete (text b []) k = k
keyed_blank Delete (text b (c ∷ a)) k = (k.0, (both (is_space c) (all is_space a) k.1).1)
keyed_blank Left (text [] a) k = k
keyed_blank Left (text (c ∷ b) a) k = let m = both (is_space c) (all is_space b) k.0 in (m.1, and_both m.0 k.1)
keyed_blank Right (text b []) k = k
keyed_blank Right (text b (c ∷ a)) k = let m = both (is_space c) (all is_space a) k.1 in (and_both m.0 k.0, m.1)
keyed_blank Home (text b a) k = (refl, all_over b a k.0 k.1)
keyed_blank End (text b a) k = (all_over a b k.1 k.0, refl)

-- a space is written as one byte, 32
spaces_as_bytes : (s : List ℕ) → all is_space s ≡ true → all is_space (encoded_all s) ≡ true
unfolding encoded_all encoded
spaces_as_bytes [] a = refl
spaces_as_bytes (c ∷ s) a = let k = both (is_space c) (all is_space s) a in rw (eqb-true c 32 k.0) (spaces_as_bytes s k.1)

pub blank_is_empty : (t : Text) → Blank t → metres_of (bytes_of t) ≡ refused Empty 0
unfolding bytes_of
blank_is_empty (text b a) k = spaces_are_empty _ (spaces_as_bytes (reverse_aux b a) (all_over b a k.0 k.1))
