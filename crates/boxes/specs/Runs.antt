-- Runs of calls held against the history: each line is asked of it, and what it says is compared with an answer. SourceRuns.antt has the
-- answers of the Rust, so that what code and history share, and no theorem between the two can tell, is right as well.
use Rattle.std.specs.Prelude.{ℕ, suc, ◌-◌, Bool, true, false, ◌&&◌, cond, List, [], ◌∷◌, ◌++◌, map, ℤ, pos, length, take, replicate, None, Option, Some}
use Rattle.arithmetic.specs.Tests.{same_z}
use Rattle.text.specs.Refusal.{Answer}
use Rattle.field.specs.declared.NodeId.{NodeId}
use Rattle.arena.specs.Slots.{nobody}
use Rattle.boxes.specs.Styles.{no_state_patch}
use Rattle.arena.specs.Fields.{Shown, ShownMarked}
use Rattle.field.specs.Marks.{mark_number}
use Rattle.boxes.specs.History.{History, Call, Question, start, refusal_of, recorded, text_said, caret_said, metres_said, rect_said, live_said, first_said, next_said, confirmed_said, marked_said, id_named}
use Rattle.boxes.specs.History.Call.{insert, change, ask}
use Rattle.boxes.specs.History.Change.{set_patch_pool}
use Rattle.boxes.specs.History.Question.{field_text, field_cursor, metres, rect, live, first_child, next_sibling, absorb, confirmed_metres, marked_text}
use Rattle.boxes.specs.declared.Direction.{Direction}
use Rattle.boxes.specs.declared.Size.{Size}
use Rattle.boxes.specs.declared.Align.{Align}
use Rattle.boxes.specs.declared.Edges.{Edges}
use Rattle.boxes.specs.declared.Style.{Style}
use Rattle.boxes.specs.declared.Rect.{Rect}
use Rattle.boxes.specs.declared.StatePatch.{StatePatch}
use Rattle.boxes.specs.declared.StartKind.{StartKind}

-- What a line asks: a call, or the stored focus or press.
pub data Asked : Type 0 where
  call : Call → Asked
  focused : Asked
  pressed : Asked

-- With the id that an accepted insertion gave, which the history is told, and the numbers of the answer.
pub record Line : Type 0 where
  pub asked : Asked
  pub given : NodeId
  pub answer : List ℤ

pub record Run : Type 0 where
  pub kind : StartKind
  pub limit : ℕ
  pub lines : List Line

-- ---- what the history says, as numbers: the refusal's first

abbrev numbers_of : {A : Type 0} → (A → List ℤ) → Answer A → List ℤ
numbers_of f a = pos a.number ∷ f a.value

abbrev of_number : ℕ → List ℤ
of_number n = pos n ∷ []

abbrev of_bool : Bool → List ℤ
of_bool b = pos (cond b 1 0) ∷ []

abbrev of_id : Option NodeId → List ℤ
of_id None = []
of_id (Some d) = pos d.index ∷ pos d.generation ∷ []

abbrev of_shown : Shown → List ℤ
of_shown t = pos t.len ∷ map pos (take t.len t.bytes)

abbrev of_marked_text : ShownMarked → List ℤ
of_marked_text t = of_shown t.shown ++ pos t.caret ∷ pos (mark_number t.mark) ∷ []

abbrev of_rect : Rect → List ℤ
of_rect r = r.x ∷ r.y ∷ r.width ∷ r.height ∷ []

abbrev questioned : History → Question → List ℤ
questioned h (field_text d) = numbers_of of_shown (text_said h d)
questioned h (field_cursor d) = numbers_of of_number (caret_said h d)
questioned h (metres d) = numbers_of of_number (metres_said h d)
questioned h (rect d) = numbers_of of_rect (rect_said h d)
questioned h (live d) = numbers_of of_bool (live_said h d)
questioned h (first_child d) = numbers_of of_id (first_said h d)
questioned h (next_sibling d) = numbers_of of_id (next_said h d)
questioned h (absorb s) = []
questioned h (confirmed_metres d) = numbers_of of_number (confirmed_said h d)
questioned h (marked_text d) = numbers_of of_marked_text (marked_said h d)

abbrev said : History → Asked → List ℤ
said h (call (insert d)) = of_number (refusal_of h (insert d))
said h (call (change c)) = of_number (refusal_of h (change c))
said h (call (ask q)) = questioned h q
said h focused = pos 0 ∷ of_id (id_named h.named h.input.focus)
said h pressed = pos 0 ∷ of_id (id_named h.named h.input.pressed)

abbrev after_line : History → Asked → NodeId → History
after_line h (call c) new = recorded h c new
after_line h focused new = h
after_line h pressed new = h

abbrev same_numbers : List ℤ → List ℤ → Bool
same_numbers [] [] = true
same_numbers [] (n ∷ ns) = false
same_numbers (m ∷ ms) [] = false
same_numbers (m ∷ ms) (n ∷ ns) = same_z m n && same_numbers ms ns

-- The places of the lines, from n on, where the history says something else.
abbrev unlike_from : ℕ → History → List Line → List ℕ
unlike_from n h [] = []
unlike_from n h (l ∷ ls) =
    cond (same_numbers (said h l.asked) l.answer) [] (n ∷ []) ++ unlike_from (suc n) (after_line h l.asked l.given) ls

unfoldable pub unlike : Run → List ℕ
unlike r = unlike_from 0 (start r.kind r.limit) r.lines

-- ---- how the lines are written

abbrev pub id : ℕ → ℕ → NodeId
id i g = record { index = i; generation = g }

abbrev pub says : Call → List ℤ → Line
says c answer' = record { asked = call c; given = nobody; answer = answer' }

abbrev pub says_focus : List ℤ → Line
says_focus answer' = record { asked = focused; given = nobody; answer = answer' }

abbrev pub says_pressed : List ℤ → Line
says_pressed answer' = record { asked = pressed; given = nobody; answer = answer' }

abbrev pub gives : NodeId → NodeId → ℕ → Line
gives parent new number = record { asked = call (insert parent); given = new; answer = pos number ∷ [] }

-- The patches, and what an array of 64 has past them.
abbrev pub pooled : List StatePatch → Call
pooled patches = change (set_patch_pool (patches ++ replicate (64 - length patches) no_state_patch) (length patches))

abbrev pub edges : ℤ → ℤ → ℤ → ℤ → Edges
edges l r t b = record { left = l; right = r; top = t; bottom = b }

abbrev pub style : Direction → Size → Size → Edges → Edges → ℤ → ℕ → Align → Align → Style
style d w h m p g n j a = record { direction = d; width = w; height = h; margin = m; padding = p; gap = g; grow = n; justify = j; align_cross = a; background = 0 ∷ 0 ∷ 0 ∷ 0 ∷ [] }

abbrev pub patch : Bool → Style → StatePatch
patch moves s = record { style = s; touches_layout = moves }
