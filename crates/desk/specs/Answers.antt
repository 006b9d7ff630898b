-- The answers of a taken output and of the harbour office's reader as the documents' number and values.
use Rattle.field.specs.declared.NodeId.{NodeId}
use Rattle.std.specs.Prelude.{Err, None, Ok, Option, Result}
use Rattle.text.specs.Refusal.{Answer, accepted, refused}
use Rattle.text.specs.declared.refusal.Refusal.{Refusal}
use Rattle.tree.specs.Answers.{reply_of}
use Rattle.tree.specs.Fields.{ShownMarked, no_marked}
use Rattle.tree.specs.Calls.{Outcome}
use Rattle.tree.specs.declared.answers.Reply.{Reply}
use Rattle.desk.specs.declared.marks.MarkedText.{MarkedText}

abbrev pub taken_of : Reply (Option NodeId) → Outcome (Option NodeId)
taken_of r = reply_of None r

-- A refused read gives 64 bytes of 0.
abbrev pub marked_text_of : Result MarkedText Refusal → Answer ShownMarked
marked_text_of (Ok e) = accepted (record { shown = record { bytes = e.bytes; len = e.len }; caret = e.cursor; mark = e.mark })
marked_text_of (Err word) = refused word no_marked
