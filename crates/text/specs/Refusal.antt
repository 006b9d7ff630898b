-- Document 01, "Refusal words", and those that document 02 adds: the number of each word, and what an answer tells.
use Rattle.std.specs.Prelude.{ℕ, Err, Ok, Result}
use Rattle.text.specs.declared.refusal.Refusal.{Refusal}
use Rattle.text.specs.declared.refusal.Refusal.TheVariants.{Broken, Large, Missing, Full, Root, Foreign, Long, Fieldless, Empty, Unread, IllFormed, Wide, Short, Unconfirmed}

-- The table.
abbrev pub number_of : Refusal → ℕ
number_of Broken = 1
number_of Large = 2
number_of Missing = 3
number_of Full = 4
number_of Root = 5
number_of Foreign = 6
number_of Long = 7
number_of Fieldless = 8
number_of Empty = 9
number_of Unread = 10
number_of IllFormed = 11
number_of Wide = 12
number_of Short = 13
number_of Unconfirmed = 14

-- The number of an answer: 0 where the call is accepted.
abbrev pub verdict_of : {A : Type 0} → Result A Refusal → ℕ
verdict_of (Ok _) = 0
verdict_of (Err word) = number_of word

-- What a call tells: the refusal's number, 0 where it is accepted, and its value, 0 where it is refused.
pub record Answer (A : Type 0) : Type 0 where
  pub number : ℕ
  pub value : A

abbrev pub accepted : {A : Type 0} → A → Answer A
accepted v = record { number = 0; value = v }

-- Refused by a word, with the value that stands for none.
abbrev pub refused : {A : Type 0} → Refusal → A → Answer A
refused word none = record { number = number_of word; value = none }

-- What a call that answers a `Result` tells, by the value that stands for none.
abbrev pub answered : {A : Type 0} → A → Result A Refusal → Answer A
answered none (Ok v) = accepted v
answered none (Err word) = refused word none
