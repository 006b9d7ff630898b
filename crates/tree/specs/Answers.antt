-- Each kind of answer as document 01's number and values: 0 where it is accepted, and no value but 0 where it is refused.
use Rattle.text.specs.declared.refusal.Refusal.{Refusal}
use Rattle.std.specs.Prelude.{ℕ, cond, Err, None, Ok, Option, Result, Some}
use Rattle.text.specs.Refusal.{Answer, accepted, refused, answered, verdict_of}
use Rattle.text.specs.declared.refusal.Refusal.TheVariants.{Broken, Missing, Fieldless}
use Rattle.field.specs.declared.NodeId.{NodeId}
use Rattle.arena.specs.Slots.{is_live, nobody}
use Rattle.tree.specs.Broken.{broken}
use Rattle.tree.specs.Trees.{limit_of}
use Rattle.tree.specs.declared.Ui.{Ui}
use Rattle.tree.specs.Calls.{Outcome}
use Rattle.arena.specs.Support.Places.{place_of}
use Rattle.tree.specs.declared.answers.Reply.{Reply}
use Rattle.tree.specs.declared.answers.FieldText.{FieldText}
use Rattle.arena.specs.Fields.{Shown, no_text}

-- Whether a call on a node is refused before anything else.
unfoldable pub precheck : Ui → NodeId → Result Unit Refusal
precheck u d = cond (broken u) (Err Broken) (cond (is_live (limit_of u) u.slots d) (Ok tt) (Err Missing))

-- Where a read finds the node's field, or the word by which it is refused.
abbrev pub found_at : Result Unit Refusal → Option ℕ → Result ℕ Refusal
found_at (Err word) p = Err word
found_at (Ok tt) None = Err Fieldless
found_at (Ok tt) (Some i) = Ok i

unfoldable pub field_place : Ui → NodeId → Result ℕ Refusal
field_place u d = found_at (precheck u d) (place_of d u.fields)

abbrev pub changed_of : Reply Unit → Outcome ℕ
changed_of r = record { next = r.tree; answer = record { number = verdict_of r.answer; value = 0 } }

-- A reply, with no value but `none` where it is refused.
abbrev pub reply_of : {A : Type 0} → A → Reply A → Outcome A
reply_of none r = record { next = r.tree; answer = answered none r.answer }

abbrev pub inserted_of : Reply NodeId → Outcome NodeId
inserted_of r = reply_of nobody r

-- A text as it is shown: a refused read gives 64 bytes of 0.
abbrev pub field_text_of : Result FieldText Refusal → Answer Shown
field_text_of (Ok t) = accepted (record { bytes = t.bytes; len = t.len })
field_text_of (Err word) = refused word no_text
