-- Whether an answer is accepted can be read from its number: no word has the number 0. Assumes nothing.
use Rattle.std.specs.Prelude.{Err, Ok, Result}
use Rattle.std.specs.Result.{is_ok}
use mathlib.Core.Path.{◌≡◌, refl}
use mathlib.Core.Bool.{false}
use Prim.Native.Nat.{ℕ}
use Rattle.arithmetic.specs.Tests.{same}
use Rattle.text.specs.Refusal.{Answer, number_of, answered}
use Rattle.text.specs.declared.refusal.Refusal.{Refusal}
use Rattle.text.specs.declared.refusal.Refusal.TheVariants.{Broken, Large, Missing, Full, Root, Foreign, Long, Fieldless, Empty, Unread, IllFormed, Wide, Short, Unconfirmed}

pub no_word_is_0 : (word : Refusal) → same (number_of word) 0 ≡ false
unfolding same
no_word_is_0 Broken = refl
no_word_is_0 Large = refl
no_word_is_0 Missing = refl
no_word_is_0 Full = refl
no_word_is_0 Root = refl
no_word_is_0 Foreign = refl
no_word_is_0 Long = refl
no_word_is_0 Fieldless = refl
no_word_is_0 Empty = refl
no_word_is_0 Unread = refl
no_word_is_0 IllFormed = refl
no_word_is_0 Wide = refl
no_word_is_0 Short = refl
no_word_is_0 Unconfirmed = refl

pub accepted_is_ok : {A : Type 0} (none : A) (r : Result A Refusal) → is_ok r ≡ same (answered none r).number 0
unfolding same
accepted_is_ok none (Ok v) = refl
accepted_is_ok none (Err word) = rw (no_word_is_0 word)
