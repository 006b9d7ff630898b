-- Demand 3 in a harbour master's words: the keys that made a node's text.
use Rattle.std.specs.Prelude.{Bool, true, ◌&&◌, not, cond, ℕ, List, [], ◌∷◌, ◌++◌, Option, None, Some}
use Rattle.field.specs.Text.{Text, text}
use Rattle.field.specs.Metres.{is_space}
use Rattle.field.specs.Marks.{Marked}
use Rattle.field.specs.declared.NodeId.{NodeId}
use Rattle.arithmetic.specs.Tests.{same}
use Rattle.tree.specs.Forest.{find}
use Rattle.tree.specs.Nodes.{Info}
use Rattle.tree.specs.History.{History, Call, Change, refusal_of, recorded, same_name, key_text, key_changes}
use Rattle.tree.specs.History.Call.{insert, change, ask}
use Rattle.tree.specs.History.Change.{remove, set_style, set_state_table, set_patch_pool, make_field, solve, handle, next_output, confirm, next_ship}
use Rattle.boxes.specs.declared.UiEvent.{UiEvent}
use Rattle.boxes.specs.declared.UiEvent.TheVariants.{PointerMoved, PointerPressed, PointerReleased, TextEntered, Edit}
use Rattle.boxes.specs.declared.Key.{Key}
use Rattle.boxes.specs.declared.Key.TheVariants.{Char, Op}

-- The text that keys make of an empty one.
abbrev pub typed_on : Text → List Key → Text
typed_on t [] = t
typed_on t (k ∷ ks) = typed_on (key_text k t) ks

abbrev pub text_of_keys : List Key → Text
text_of_keys ks = typed_on (text [] []) ks

-- In turn, none of the keys changes the text: each moves the caret, or does nothing.
abbrev pub leave_alone : Text → List Key → Bool
leave_alone t [] = true
leave_alone t (k ∷ ks) = not (key_changes k t) && leave_alone (key_text k t) ks

-- A key that types no character but a space.
abbrev pub is_blank : Key → Bool
is_blank (Char c) = is_space c
is_blank (Op op) = true

-- The keys of each node, by its name.
abbrev pub Log : Type 0
Log = ℕ → List Key

-- A key goes to the node in focus.
abbrev pub log_key : Option ℕ → Key → Log → Log
log_key focus key log m = cond (same_name focus (Some m)) (log m ++ key ∷ []) (log m)

abbrev pub log_event : Option ℕ → UiEvent → Log → Log
log_event focus (PointerMoved x y) log = log
log_event focus PointerPressed log = log
log_event focus PointerReleased log = log
log_event focus (TextEntered ch) log = log_key focus (Char ch) log
log_event focus (Edit op) log = log_key focus (Op op) log

-- A node that gets a field begins anew.
abbrev pub begin_at : Option Marked → ℕ → Log → Log
begin_at None name log m = cond (same m name) [] (log m)
begin_at (Some e) name log m = log m

abbrev pub log_field : Option Info → Log → Log
log_field None log = log
log_field (Some x) log = begin_at x.marked x.name log

abbrev pub logged_change : History → Change → Log → Log
logged_change h (remove d) log = log
logged_change h (set_style d s) log = log
logged_change h (set_state_table d table) log = log
logged_change h (set_patch_pool patches count) log = log
logged_change h (make_field d) log = log_field (find d h.tree) log
logged_change h (solve v) log = log
logged_change h (handle e) log = log_event h.input.focus e log
logged_change h next_output log = log
logged_change h (confirm d) log = log
logged_change h next_ship log = log

unfoldable pub logged : History → Call → Log → Log
logged h (insert d) log = log
logged h (change c) log = logged_change h c log
logged h (ask q) log = log

-- The keys of each node after a list of calls: those handled while it had the focus, since its field was made.
abbrev pub logs : History → List Call → List NodeId → Log → Log
logs h [] fed log = log
logs h (c ∷ cs) [] log = log
logs h (c ∷ cs) (d ∷ fed) log = logs (recorded h c d) cs fed (cond (same (refusal_of h c) 0) (logged h c log) log)

-- No key yet.
abbrev pub no_keys : Log
no_keys m = []
