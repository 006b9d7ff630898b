-- Made by tests/history/record from the scripts beside it: runs of calls with the Rust's answers, as docs/CONSOLE.md has them. The proof is in
-- proofs/SourceRuns.antt.
use Rattle.std.specs.Prelude.{true, false, List, [], ◌∷◌, pos, negsuc}
use Rattle.field.specs.declared.EditOp.TheVariants.{Backspace, Delete, Left, Right, Home, End}
use Rattle.boxes.specs.Runs.{Run, id, style, edges, patch, pooled, gives, says, says_focus, says_pressed}
use Rattle.boxes.specs.History.Call.{change, ask}
use Rattle.boxes.specs.History.Change.{remove, set_style, set_state_table, make_field, solve, handle, confirm, next_ship}
use Rattle.boxes.specs.History.Question.{field_text, field_cursor, metres, rect, live, first_child, next_sibling, confirmed_metres, marked_text}
use Rattle.boxes.specs.declared.UiEvent.TheVariants.{PointerMoved, PointerPressed, PointerReleased, TextEntered, Edit}
use Rattle.boxes.specs.declared.StartKind.TheVariants.{New, AtOrigin}
use Rattle.boxes.specs.declared.Direction.TheVariants.{Row, Column}
use Rattle.boxes.specs.declared.Size.TheVariants.{Auto, Px}
use Rattle.boxes.specs.declared.Align.TheVariants.{Start, Center}
use Rattle.boxes.specs.declared.Align.TheVariants as Aligned

unfoldable pub source_runs : List Run
source_runs =
    -- 01-a-row
    record {
      kind = New;
      limit = 3;
      lines =
          gives (id 0 1) (id 1 1) 0 ∷
          gives (id 0 1) (id 2 1) 0 ∷
          gives (id 0 1) (id 0 0) 4 ∷
          says (change (set_style (id 0 1) (style Row Auto Auto (edges (pos 0) (pos 0) (pos 0) (pos 0)) (edges (pos 655360) (pos 655360) (pos 655360) (pos 655360)) (pos 327680) 0 Start Start))) (pos 0 ∷ []) ∷
          says (change (set_style (id 1 1) (style Row Auto Auto (edges (pos 0) (pos 0) (pos 0) (pos 0)) (edges (pos 0) (pos 0) (pos 0) (pos 0)) (pos 0) 1 Start Start))) (pos 0 ∷ []) ∷
          says (change (set_style (id 2 1) (style Row Auto Auto (edges (pos 0) (pos 0) (pos 0) (pos 0)) (edges (pos 0) (pos 0) (pos 0) (pos 0)) (pos 0) 1 Start Start))) (pos 0 ∷ []) ∷
          says (change (solve (record { width = pos 19660800; height = pos 6553600 }))) (pos 0 ∷ []) ∷
          says (ask (rect (id 0 1))) (pos 0 ∷ pos 0 ∷ pos 0 ∷ pos 19660800 ∷ pos 6553600 ∷ []) ∷
          says (ask (rect (id 1 1))) (pos 0 ∷ pos 655360 ∷ pos 655360 ∷ pos 9011200 ∷ pos 0 ∷ []) ∷
          says (ask (rect (id 2 1))) (pos 0 ∷ pos 9994240 ∷ pos 655360 ∷ pos 9011200 ∷ pos 0 ∷ []) ∷
          says (ask (rect (id 3 1))) (pos 3 ∷ pos 0 ∷ pos 0 ∷ pos 0 ∷ pos 0 ∷ []) ∷
          says (change (handle (PointerMoved (pos 50) (pos 10)))) (pos 0 ∷ []) ∷
          says (change (handle PointerPressed)) (pos 0 ∷ []) ∷
          says_pressed (pos 0 ∷ pos 0 ∷ pos 1 ∷ []) ∷
          says (change (handle PointerReleased)) (pos 0 ∷ []) ∷
          says_pressed (pos 0 ∷ []) ∷
          says_focus (pos 0 ∷ pos 0 ∷ pos 1 ∷ []) ∷
          says (ask (first_child (id 0 1))) (pos 0 ∷ pos 1 ∷ pos 1 ∷ []) ∷
          says (ask (next_sibling (id 1 1))) (pos 0 ∷ pos 2 ∷ pos 1 ∷ []) ∷
          says (ask (next_sibling (id 2 1))) (pos 0 ∷ []) ∷
          says (ask (next_sibling (id 0 1))) (pos 0 ∷ []) ∷
          says (ask (next_sibling (id 3 1))) (pos 3 ∷ []) ∷
          says (ask (first_child (id 3 1))) (pos 0 ∷ []) ∷
          says (ask (live (id 2 1))) (pos 0 ∷ pos 1 ∷ []) ∷
          says (ask (live (id 2 2))) (pos 0 ∷ pos 0 ∷ []) ∷
          [];
    } ∷
    -- 02-a-column
    record {
      kind = New;
      limit = 5;
      lines =
          gives (id 0 1) (id 1 1) 0 ∷
          gives (id 1 1) (id 2 1) 0 ∷
          gives (id 1 1) (id 3 1) 0 ∷
          gives (id 0 1) (id 4 1) 0 ∷
          says (change (set_style (id 0 1) (style Row Auto Auto (edges (pos 0) (pos 0) (pos 0) (pos 0)) (edges (pos 65536) (pos 131072) (pos 196608) (pos 262144)) (pos 327680) 0 Aligned.End Center))) (pos 0 ∷ []) ∷
          says (change (set_style (id 1 1) (style Column (Px (pos 13107200)) (Px (pos 19660800)) (edges (pos 65536) (pos 131072) (pos 196608) (pos 262144)) (edges (pos 327680) (pos 393216) (pos 458752) (pos 524288)) (pos 589824) 0 Center Aligned.End))) (pos 0 ∷ []) ∷
          says (change (set_style (id 2 1) (style Row (Px (pos 1310720)) (Px (pos 655360)) (edges (pos 65536) (pos 131072) (pos 196608) (pos 262144)) (edges (pos 0) (pos 0) (pos 0) (pos 0)) (pos 0) 0 Start Start))) (pos 0 ∷ []) ∷
          says (change (set_style (id 3 1) (style Row (Px (pos 655361)) (Px (pos 1310721)) (edges (pos 0) (pos 0) (pos 0) (pos 0)) (edges (pos 0) (pos 0) (pos 0) (pos 0)) (pos 0) 0 Start Start))) (pos 0 ∷ []) ∷
          says (change (set_style (id 4 1) (style Column Auto Auto (edges (pos 0) (pos 0) (pos 0) (pos 0)) (edges (pos 131072) (pos 196608) (pos 262144) (pos 327680)) (pos 0) 0 Start Start))) (pos 0 ∷ []) ∷
          says (change (solve (record { width = pos 26214400; height = pos 32768000 }))) (pos 0 ∷ []) ∷
          says (ask (rect (id 0 1))) (pos 0 ∷ pos 0 ∷ pos 0 ∷ pos 26214400 ∷ pos 32768000 ∷ []) ∷
          says (ask (rect (id 1 1))) (pos 0 ∷ pos 12189696 ∷ pos 6488064 ∷ pos 13107200 ∷ pos 19660800 ∷ []) ∷
          says (ask (rect (id 2 1))) (pos 0 ∷ pos 23461888 ∷ pos 14942208 ∷ pos 1310720 ∷ pos 655360 ∷ []) ∷
          says (ask (rect (id 3 1))) (pos 0 ∷ pos 24248319 ∷ pos 16449536 ∷ pos 655361 ∷ pos 1310721 ∷ []) ∷
          says (ask (rect (id 4 1))) (pos 0 ∷ pos 25755648 ∷ pos 16056320 ∷ pos 327680 ∷ pos 589824 ∷ []) ∷
          says (change (set_style (id 1 1) (style Column (Px (pos 13107200)) (Px (pos 19660800)) (edges (pos 0) (pos 0) (pos 0) (pos 0)) (edges (pos 0) (pos 0) (pos 0) (pos 0)) (pos 65536) 0 Aligned.End Center))) (pos 0 ∷ []) ∷
          says (change (solve (record { width = pos 26214400; height = pos 32768000 }))) (pos 0 ∷ []) ∷
          says (ask (rect (id 1 1))) (pos 0 ∷ pos 12320768 ∷ pos 6488064 ∷ pos 13107200 ∷ pos 19660800 ∷ []) ∷
          says (ask (rect (id 2 1))) (pos 0 ∷ pos 18153472 ∷ pos 23855103 ∷ pos 1310720 ∷ pos 655360 ∷ []) ∷
          says (ask (rect (id 3 1))) (pos 0 ∷ pos 18481152 ∷ pos 24838143 ∷ pos 655361 ∷ pos 1310721 ∷ []) ∷
          says (change (set_style (id 1 1) (style Row (Px (pos 655360)) (Px (pos 655360)) (edges (pos 0) (pos 0) (pos 0) (pos 0)) (edges (pos 0) (pos 0) (pos 0) (pos 0)) (pos 65536) 0 Aligned.End Aligned.End))) (pos 0 ∷ []) ∷
          says (change (solve (record { width = pos 26214400; height = pos 32768000 }))) (pos 0 ∷ []) ∷
          says (ask (rect (id 2 1))) (pos 0 ∷ pos 24838144 ∷ pos 16187392 ∷ pos 1310720 ∷ pos 655360 ∷ []) ∷
          says (ask (rect (id 3 1))) (pos 0 ∷ pos 26345472 ∷ pos 15990784 ∷ pos 655361 ∷ pos 1310721 ∷ []) ∷
          says (change (set_style (id 1 1) (style Row Auto Auto (edges (pos 0) (pos 0) (pos 0) (pos 0)) (edges (pos 0) (pos 0) (pos 0) (pos 0)) (pos 65536) 0 Start Start))) (pos 0 ∷ []) ∷
          says (change (set_style (id 2 1) (style Row (Px (pos 1310720)) (Px (pos 2621440)) (edges (pos 0) (pos 0) (pos 0) (pos 0)) (edges (pos 0) (pos 0) (pos 0) (pos 0)) (pos 0) 0 Start Start))) (pos 0 ∷ []) ∷
          says (change (solve (record { width = pos 26214400; height = pos 32768000 }))) (pos 0 ∷ []) ∷
          says (ask (rect (id 1 1))) (pos 0 ∷ pos 23396351 ∷ pos 15007744 ∷ pos 2031617 ∷ pos 2621440 ∷ []) ∷
          says (ask (rect (id 3 1))) (pos 0 ∷ pos 24772607 ∷ pos 15007744 ∷ pos 655361 ∷ pos 1310721 ∷ []) ∷
          [];
    } ∷
    -- 03-growth
    record {
      kind = New;
      limit = 4;
      lines =
          gives (id 0 1) (id 1 1) 0 ∷
          gives (id 0 1) (id 2 1) 0 ∷
          gives (id 0 1) (id 3 1) 0 ∷
          says (change (set_style (id 1 1) (style Row (Px (pos 65536)) (Px (pos 65536)) (edges (pos 0) (pos 0) (pos 0) (pos 0)) (edges (pos 0) (pos 0) (pos 0) (pos 0)) (pos 0) 1 Start Start))) (pos 0 ∷ []) ∷
          says (change (set_style (id 2 1) (style Row (Px (pos 65536)) (Px (pos 65536)) (edges (pos 0) (pos 0) (pos 0) (pos 0)) (edges (pos 0) (pos 0) (pos 0) (pos 0)) (pos 0) 2 Start Start))) (pos 0 ∷ []) ∷
          says (change (set_style (id 3 1) (style Row (Px (pos 65536)) (Px (pos 65536)) (edges (pos 0) (pos 0) (pos 0) (pos 0)) (edges (pos 0) (pos 0) (pos 0) (pos 0)) (pos 0) 0 Start Start))) (pos 0 ∷ []) ∷
          says (change (solve (record { width = pos 655361; height = pos 65536 }))) (pos 0 ∷ []) ∷
          says (ask (rect (id 1 1))) (pos 0 ∷ pos 0 ∷ pos 0 ∷ pos 218454 ∷ pos 65536 ∷ []) ∷
          says (ask (rect (id 2 1))) (pos 0 ∷ pos 218454 ∷ pos 0 ∷ pos 371371 ∷ pos 65536 ∷ []) ∷
          says (ask (rect (id 3 1))) (pos 0 ∷ pos 589825 ∷ pos 0 ∷ pos 65536 ∷ pos 65536 ∷ []) ∷
          says (change (set_style (id 3 1) (style Row (Px (pos 65536)) (Px (pos 65536)) (edges (pos 0) (pos 0) (pos 0) (pos 0)) (edges (pos 0) (pos 0) (pos 0) (pos 0)) (pos 0) 4 Start Start))) (pos 0 ∷ []) ∷
          says (change (solve (record { width = pos 655361; height = pos 65536 }))) (pos 0 ∷ []) ∷
          says (ask (rect (id 1 1))) (pos 0 ∷ pos 0 ∷ pos 0 ∷ pos 131072 ∷ pos 65536 ∷ []) ∷
          says (ask (rect (id 2 1))) (pos 0 ∷ pos 131072 ∷ pos 0 ∷ pos 196608 ∷ pos 65536 ∷ []) ∷
          says (ask (rect (id 3 1))) (pos 0 ∷ pos 327680 ∷ pos 0 ∷ pos 327681 ∷ pos 65536 ∷ []) ∷
          says (change (solve (record { width = pos 100000; height = pos 65536 }))) (pos 0 ∷ []) ∷
          says (ask (rect (id 1 1))) (pos 0 ∷ pos 0 ∷ pos 0 ∷ pos 65536 ∷ pos 65536 ∷ []) ∷
          says (ask (rect (id 2 1))) (pos 0 ∷ pos 65536 ∷ pos 0 ∷ pos 65536 ∷ pos 65536 ∷ []) ∷
          says (ask (rect (id 3 1))) (pos 0 ∷ pos 131072 ∷ pos 0 ∷ pos 65536 ∷ pos 65536 ∷ []) ∷
          says (change (set_style (id 0 1) (style Column Auto Auto (edges (pos 0) (pos 0) (pos 0) (pos 0)) (edges (pos 0) (pos 0) (pos 0) (pos 0)) (pos 7) 0 Aligned.End Start))) (pos 0 ∷ []) ∷
          says (change (solve (record { width = pos 655361; height = pos 655370 }))) (pos 0 ∷ []) ∷
          says (ask (rect (id 1 1))) (pos 0 ∷ pos 0 ∷ pos 0 ∷ pos 65536 ∷ pos 131071 ∷ []) ∷
          says (ask (rect (id 2 1))) (pos 0 ∷ pos 0 ∷ pos 131078 ∷ pos 65536 ∷ pos 196607 ∷ []) ∷
          says (ask (rect (id 3 1))) (pos 0 ∷ pos 0 ∷ pos 327692 ∷ pos 65536 ∷ pos 327678 ∷ []) ∷
          [];
    } ∷
    -- 04-edges
    record {
      kind = New;
      limit = 4;
      lines =
          gives (id 0 1) (id 1 1) 0 ∷
          says (change (set_style (id 0 1) (style Row Auto Auto (edges (pos 0) (pos 0) (pos 0) (pos 0)) (edges (pos 655360) (pos 0) (pos 1310720) (pos 0)) (pos 0) 0 Start Start))) (pos 0 ∷ []) ∷
          says (change (set_style (id 1 1) (style Row (Px (pos 1966080)) (Px (pos 2621440)) (edges (pos 0) (pos 0) (pos 0) (pos 0)) (edges (pos 0) (pos 0) (pos 0) (pos 0)) (pos 0) 0 Start Start))) (pos 0 ∷ []) ∷
          says (change (handle (PointerMoved (pos 0) (pos 0)))) (pos 0 ∷ []) ∷
          says (change (handle PointerPressed)) (pos 0 ∷ []) ∷
          says_pressed (pos 0 ∷ []) ∷
          says (change (solve (record { width = pos 6553600; height = pos 6553600 }))) (pos 0 ∷ []) ∷
          says (ask (rect (id 1 1))) (pos 0 ∷ pos 655360 ∷ pos 1310720 ∷ pos 1966080 ∷ pos 2621440 ∷ []) ∷
          says (change (handle (PointerMoved (pos 10) (pos 20)))) (pos 0 ∷ []) ∷
          says (change (handle PointerPressed)) (pos 0 ∷ []) ∷
          says_pressed (pos 0 ∷ pos 1 ∷ pos 1 ∷ []) ∷
          says (change (handle (PointerMoved (pos 9) (pos 20)))) (pos 0 ∷ []) ∷
          says (change (handle PointerPressed)) (pos 0 ∷ []) ∷
          says_pressed (pos 0 ∷ pos 0 ∷ pos 1 ∷ []) ∷
          says (change (handle (PointerMoved (pos 10) (pos 19)))) (pos 0 ∷ []) ∷
          says (change (handle PointerPressed)) (pos 0 ∷ []) ∷
          says_pressed (pos 0 ∷ pos 0 ∷ pos 1 ∷ []) ∷
          says (change (handle (PointerMoved (pos 39) (pos 59)))) (pos 0 ∷ []) ∷
          says (change (handle PointerPressed)) (pos 0 ∷ []) ∷
          says_pressed (pos 0 ∷ pos 1 ∷ pos 1 ∷ []) ∷
          says (change (handle (PointerMoved (pos 40) (pos 59)))) (pos 0 ∷ []) ∷
          says (change (handle PointerPressed)) (pos 0 ∷ []) ∷
          says_pressed (pos 0 ∷ pos 0 ∷ pos 1 ∷ []) ∷
          says (change (handle (PointerMoved (pos 39) (pos 60)))) (pos 0 ∷ []) ∷
          says (change (handle PointerPressed)) (pos 0 ∷ []) ∷
          says_pressed (pos 0 ∷ pos 0 ∷ pos 1 ∷ []) ∷
          says (change (handle (PointerMoved (pos 25) (pos 59)))) (pos 0 ∷ []) ∷
          says (change (handle PointerPressed)) (pos 0 ∷ []) ∷
          says_pressed (pos 0 ∷ pos 1 ∷ pos 1 ∷ []) ∷
          says (change (handle (PointerMoved (pos 10) (pos 59)))) (pos 0 ∷ []) ∷
          says (change (handle PointerPressed)) (pos 0 ∷ []) ∷
          says_pressed (pos 0 ∷ pos 1 ∷ pos 1 ∷ []) ∷
          says (change (handle (PointerMoved (pos 99) (pos 99)))) (pos 0 ∷ []) ∷
          says (change (handle PointerPressed)) (pos 0 ∷ []) ∷
          says_pressed (pos 0 ∷ pos 0 ∷ pos 1 ∷ []) ∷
          says (change (handle (PointerMoved (pos 100) (pos 50)))) (pos 0 ∷ []) ∷
          says (change (handle PointerPressed)) (pos 0 ∷ []) ∷
          says_pressed (pos 0 ∷ []) ∷
          says (change (handle (PointerMoved (pos 50) (pos 100)))) (pos 0 ∷ []) ∷
          says (change (handle PointerPressed)) (pos 0 ∷ []) ∷
          says_pressed (pos 0 ∷ []) ∷
          says (change (handle (PointerMoved (negsuc 0) (pos 50)))) (pos 0 ∷ []) ∷
          says (change (handle PointerPressed)) (pos 0 ∷ []) ∷
          says_pressed (pos 0 ∷ []) ∷
          says (change (handle (PointerMoved (pos 50) (negsuc 0)))) (pos 0 ∷ []) ∷
          says (change (handle PointerPressed)) (pos 0 ∷ []) ∷
          says_pressed (pos 0 ∷ []) ∷
          gives (id 1 1) (id 2 1) 0 ∷
          gives (id 1 1) (id 3 1) 0 ∷
          says (change (set_style (id 2 1) (style Row (Px (pos 1310720)) (Px (pos 1310720)) (edges (pos 0) (pos 0) (pos 0) (pos 0)) (edges (pos 0) (pos 0) (pos 0) (pos 0)) (pos 0) 0 Start Start))) (pos 0 ∷ []) ∷
          says (change (set_style (id 3 1) (style Row (Px (pos 1310720)) (Px (pos 1310720)) (edges (negsuc 655359) (pos 0) (pos 0) (pos 0)) (edges (pos 0) (pos 0) (pos 0) (pos 0)) (pos 0) 0 Start Start))) (pos 0 ∷ []) ∷
          says (change (solve (record { width = pos 6553600; height = pos 6553600 }))) (pos 0 ∷ []) ∷
          says (ask (rect (id 2 1))) (pos 0 ∷ pos 655360 ∷ pos 1310720 ∷ pos 1310720 ∷ pos 1310720 ∷ []) ∷
          says (ask (rect (id 3 1))) (pos 0 ∷ pos 1310720 ∷ pos 1310720 ∷ pos 1310720 ∷ pos 1310720 ∷ []) ∷
          says (change (handle (PointerMoved (pos 15) (pos 25)))) (pos 0 ∷ []) ∷
          says (change (handle PointerPressed)) (pos 0 ∷ []) ∷
          says_pressed (pos 0 ∷ pos 2 ∷ pos 1 ∷ []) ∷
          says (change (handle (PointerMoved (pos 22) (pos 25)))) (pos 0 ∷ []) ∷
          says (change (handle PointerPressed)) (pos 0 ∷ []) ∷
          says_pressed (pos 0 ∷ pos 3 ∷ pos 1 ∷ []) ∷
          says (change (handle (PointerMoved (pos 39) (pos 25)))) (pos 0 ∷ []) ∷
          says (change (handle PointerPressed)) (pos 0 ∷ []) ∷
          says_pressed (pos 0 ∷ pos 3 ∷ pos 1 ∷ []) ∷
          says (change (handle (PointerMoved (pos 41) (pos 25)))) (pos 0 ∷ []) ∷
          says (change (handle PointerPressed)) (pos 0 ∷ []) ∷
          says_pressed (pos 0 ∷ pos 0 ∷ pos 1 ∷ []) ∷
          [];
    } ∷
    -- 05-patches
    record {
      kind = New;
      limit = 3;
      lines =
          gives (id 0 1) (id 1 1) 0 ∷
          gives (id 0 1) (id 2 1) 0 ∷
          says (change (set_style (id 1 1) (style Row (Px (pos 655360)) (Px (pos 655360)) (edges (pos 0) (pos 0) (pos 0) (pos 0)) (edges (pos 0) (pos 0) (pos 0) (pos 0)) (pos 0) 0 Start Start))) (pos 0 ∷ []) ∷
          says (change (set_style (id 2 1) (style Row (Px (pos 655360)) (Px (pos 655360)) (edges (pos 0) (pos 0) (pos 0) (pos 0)) (edges (pos 0) (pos 0) (pos 0) (pos 0)) (pos 0) 0 Start Start))) (pos 0 ∷ []) ∷
          says (pooled ((patch true (style Row (Px (pos 1310720)) (Px (pos 655360)) (edges (pos 0) (pos 0) (pos 0) (pos 0)) (edges (pos 0) (pos 0) (pos 0) (pos 0)) (pos 0) 0 Start Start)) ∷ (patch true (style Row (Px (pos 1966080)) (Px (pos 655360)) (edges (pos 0) (pos 0) (pos 0) (pos 0)) (edges (pos 0) (pos 0) (pos 0) (pos 0)) (pos 0) 0 Start Start)) ∷ (patch true (style Row (Px (pos 2621440)) (Px (pos 655360)) (edges (pos 0) (pos 0) (pos 0) (pos 0)) (edges (pos 0) (pos 0) (pos 0) (pos 0)) (pos 0) 0 Start Start)) ∷ (patch true (style Row (Px (pos 3276800)) (Px (pos 655360)) (edges (pos 0) (pos 0) (pos 0) (pos 0)) (edges (pos 0) (pos 0) (pos 0) (pos 0)) (pos 0) 0 Start Start)) ∷ (patch true (style Row (Px (pos 3932160)) (Px (pos 655360)) (edges (pos 0) (pos 0) (pos 0) (pos 0)) (edges (pos 0) (pos 0) (pos 0) (pos 0)) (pos 0) 0 Start Start)) ∷ (patch true (style Row (Px (pos 4587520)) (Px (pos 655360)) (edges (pos 0) (pos 0) (pos 0) (pos 0)) (edges (pos 0) (pos 0) (pos 0) (pos 0)) (pos 0) 0 Start Start)) ∷ [])) (pos 0 ∷ []) ∷
          says (change (set_state_table (id 1 1) (65535 ∷ 0 ∷ 1 ∷ 3 ∷ 2 ∷ 4 ∷ 65535 ∷ 5 ∷ 65535 ∷ 65535 ∷ 65535 ∷ 65535 ∷ 65535 ∷ 65535 ∷ 65535 ∷ 65535 ∷ []))) (pos 0 ∷ []) ∷
          says (change (set_state_table (id 2 1) (65535 ∷ 6 ∷ 65535 ∷ 65535 ∷ 65535 ∷ 65535 ∷ 65535 ∷ 65535 ∷ 65535 ∷ 65535 ∷ 65535 ∷ 65535 ∷ 65535 ∷ 65535 ∷ 65535 ∷ 65535 ∷ []))) (pos 6 ∷ []) ∷
          says (change (set_state_table (id 2 1) (65535 ∷ 65535 ∷ 65535 ∷ 65535 ∷ 0 ∷ 65535 ∷ 65535 ∷ 65535 ∷ 65535 ∷ 65535 ∷ 65535 ∷ 65535 ∷ 65535 ∷ 65535 ∷ 65535 ∷ 65535 ∷ []))) (pos 0 ∷ []) ∷
          says (change (solve (record { width = pos 13107200; height = pos 6553600 }))) (pos 0 ∷ []) ∷
          says (ask (rect (id 1 1))) (pos 0 ∷ pos 0 ∷ pos 0 ∷ pos 655360 ∷ pos 655360 ∷ []) ∷
          says (ask (rect (id 2 1))) (pos 0 ∷ pos 655360 ∷ pos 0 ∷ pos 655360 ∷ pos 655360 ∷ []) ∷
          says (change (handle (PointerMoved (pos 5) (pos 5)))) (pos 0 ∷ []) ∷
          says (change (solve (record { width = pos 13107200; height = pos 6553600 }))) (pos 0 ∷ []) ∷
          says (ask (rect (id 1 1))) (pos 0 ∷ pos 0 ∷ pos 0 ∷ pos 1310720 ∷ pos 655360 ∷ []) ∷
          says (ask (rect (id 2 1))) (pos 0 ∷ pos 1310720 ∷ pos 0 ∷ pos 655360 ∷ pos 655360 ∷ []) ∷
          says (change (handle PointerPressed)) (pos 0 ∷ []) ∷
          says (change (solve (record { width = pos 13107200; height = pos 6553600 }))) (pos 0 ∷ []) ∷
          says (ask (rect (id 1 1))) (pos 0 ∷ pos 0 ∷ pos 0 ∷ pos 3276800 ∷ pos 655360 ∷ []) ∷
          says (ask (rect (id 2 1))) (pos 0 ∷ pos 3276800 ∷ pos 0 ∷ pos 655360 ∷ pos 655360 ∷ []) ∷
          says (change (handle (PointerMoved (pos 199) (pos 99)))) (pos 0 ∷ []) ∷
          says (change (solve (record { width = pos 13107200; height = pos 6553600 }))) (pos 0 ∷ []) ∷
          says (ask (rect (id 1 1))) (pos 0 ∷ pos 0 ∷ pos 0 ∷ pos 1966080 ∷ pos 655360 ∷ []) ∷
          says (ask (rect (id 2 1))) (pos 0 ∷ pos 1966080 ∷ pos 0 ∷ pos 655360 ∷ pos 655360 ∷ []) ∷
          says (change (handle (PointerMoved (pos 5) (pos 5)))) (pos 0 ∷ []) ∷
          says (change (handle PointerReleased)) (pos 0 ∷ []) ∷
          says (change (solve (record { width = pos 13107200; height = pos 6553600 }))) (pos 0 ∷ []) ∷
          says (ask (rect (id 1 1))) (pos 0 ∷ pos 0 ∷ pos 0 ∷ pos 3932160 ∷ pos 655360 ∷ []) ∷
          says_focus (pos 0 ∷ pos 1 ∷ pos 1 ∷ []) ∷
          says (change (handle (PointerMoved (pos 199) (pos 99)))) (pos 0 ∷ []) ∷
          says (change (solve (record { width = pos 13107200; height = pos 6553600 }))) (pos 0 ∷ []) ∷
          says (ask (rect (id 1 1))) (pos 0 ∷ pos 0 ∷ pos 0 ∷ pos 2621440 ∷ pos 655360 ∷ []) ∷
          says (ask (rect (id 2 1))) (pos 0 ∷ pos 2621440 ∷ pos 0 ∷ pos 655360 ∷ pos 655360 ∷ []) ∷
          says (change (handle (PointerMoved (pos 5) (pos 5)))) (pos 0 ∷ []) ∷
          says (change (handle PointerPressed)) (pos 0 ∷ []) ∷
          says (change (solve (record { width = pos 13107200; height = pos 6553600 }))) (pos 0 ∷ []) ∷
          says (ask (rect (id 1 1))) (pos 0 ∷ pos 0 ∷ pos 0 ∷ pos 4587520 ∷ pos 655360 ∷ []) ∷
          says (change (handle (PointerMoved (pos 199) (pos 99)))) (pos 0 ∷ []) ∷
          says (change (solve (record { width = pos 13107200; height = pos 6553600 }))) (pos 0 ∷ []) ∷
          says (ask (rect (id 1 1))) (pos 0 ∷ pos 0 ∷ pos 0 ∷ pos 655360 ∷ pos 655360 ∷ []) ∷
          says (change (handle PointerReleased)) (pos 0 ∷ []) ∷
          says (change (solve (record { width = pos 13107200; height = pos 6553600 }))) (pos 0 ∷ []) ∷
          says (ask (rect (id 2 1))) (pos 0 ∷ pos 2621440 ∷ pos 0 ∷ pos 655360 ∷ pos 655360 ∷ []) ∷
          says (change (handle (PointerMoved (pos 45) (pos 5)))) (pos 0 ∷ []) ∷
          says (change (handle PointerPressed)) (pos 0 ∷ []) ∷
          says (change (handle PointerReleased)) (pos 0 ∷ []) ∷
          says_focus (pos 0 ∷ pos 2 ∷ pos 1 ∷ []) ∷
          says (change (handle (PointerMoved (pos 199) (pos 99)))) (pos 0 ∷ []) ∷
          says (change (solve (record { width = pos 13107200; height = pos 6553600 }))) (pos 0 ∷ []) ∷
          says (ask (rect (id 1 1))) (pos 0 ∷ pos 0 ∷ pos 0 ∷ pos 655360 ∷ pos 655360 ∷ []) ∷
          says (ask (rect (id 2 1))) (pos 0 ∷ pos 655360 ∷ pos 0 ∷ pos 1310720 ∷ pos 655360 ∷ []) ∷
          [];
    } ∷
    -- 06-the-flag
    record {
      kind = New;
      limit = 3;
      lines =
          gives (id 0 1) (id 1 1) 0 ∷
          gives (id 0 1) (id 2 1) 0 ∷
          says (change (set_style (id 1 1) (style Row (Px (pos 655360)) (Px (pos 655360)) (edges (pos 0) (pos 0) (pos 0) (pos 0)) (edges (pos 0) (pos 0) (pos 0) (pos 0)) (pos 0) 0 Start Start))) (pos 0 ∷ []) ∷
          says (change (set_style (id 2 1) (style Row (Px (pos 655360)) (Px (pos 655360)) (edges (pos 0) (pos 0) (pos 0) (pos 0)) (edges (pos 0) (pos 0) (pos 0) (pos 0)) (pos 0) 0 Start Start))) (pos 0 ∷ []) ∷
          says (pooled ((patch false (style Row (Px (pos 1310720)) (Px (pos 655360)) (edges (pos 0) (pos 0) (pos 0) (pos 0)) (edges (pos 0) (pos 0) (pos 0) (pos 0)) (pos 0) 0 Start Start)) ∷ (patch true (style Row (Px (pos 1966080)) (Px (pos 655360)) (edges (pos 0) (pos 0) (pos 0) (pos 0)) (edges (pos 0) (pos 0) (pos 0) (pos 0)) (pos 0) 0 Start Start)) ∷ [])) (pos 0 ∷ []) ∷
          says (change (set_state_table (id 1 1) (65535 ∷ 0 ∷ 65535 ∷ 1 ∷ 65535 ∷ 65535 ∷ 65535 ∷ 65535 ∷ 65535 ∷ 65535 ∷ 65535 ∷ 65535 ∷ 65535 ∷ 65535 ∷ 65535 ∷ 65535 ∷ []))) (pos 0 ∷ []) ∷
          says (change (solve (record { width = pos 13107200; height = pos 6553600 }))) (pos 0 ∷ []) ∷
          says (change (handle (PointerMoved (pos 5) (pos 5)))) (pos 0 ∷ []) ∷
          says (change (solve (record { width = pos 13107200; height = pos 6553600 }))) (pos 0 ∷ []) ∷
          says (ask (rect (id 1 1))) (pos 0 ∷ pos 0 ∷ pos 0 ∷ pos 655360 ∷ pos 655360 ∷ []) ∷
          says (ask (rect (id 2 1))) (pos 0 ∷ pos 655360 ∷ pos 0 ∷ pos 655360 ∷ pos 655360 ∷ []) ∷
          says (change (solve (record { width = pos 13107201; height = pos 6553600 }))) (pos 0 ∷ []) ∷
          says (ask (rect (id 1 1))) (pos 0 ∷ pos 0 ∷ pos 0 ∷ pos 1310720 ∷ pos 655360 ∷ []) ∷
          says (ask (rect (id 2 1))) (pos 0 ∷ pos 1310720 ∷ pos 0 ∷ pos 655360 ∷ pos 655360 ∷ []) ∷
          says (change (handle PointerPressed)) (pos 0 ∷ []) ∷
          says (change (solve (record { width = pos 13107201; height = pos 6553600 }))) (pos 0 ∷ []) ∷
          says (ask (rect (id 1 1))) (pos 0 ∷ pos 0 ∷ pos 0 ∷ pos 1966080 ∷ pos 655360 ∷ []) ∷
          says (ask (rect (id 2 1))) (pos 0 ∷ pos 1966080 ∷ pos 0 ∷ pos 655360 ∷ pos 655360 ∷ []) ∷
          says (change (handle (PointerMoved (pos 99) (pos 50)))) (pos 0 ∷ []) ∷
          says (change (solve (record { width = pos 13107201; height = pos 6553600 }))) (pos 0 ∷ []) ∷
          says (ask (rect (id 1 1))) (pos 0 ∷ pos 0 ∷ pos 0 ∷ pos 655360 ∷ pos 655360 ∷ []) ∷
          says (ask (rect (id 2 1))) (pos 0 ∷ pos 655360 ∷ pos 0 ∷ pos 655360 ∷ pos 655360 ∷ []) ∷
          says (change (set_style (id 1 1) (style Row (Px (pos 786432)) (Px (pos 655360)) (edges (pos 0) (pos 0) (pos 0) (pos 0)) (edges (pos 0) (pos 0) (pos 0) (pos 0)) (pos 0) 0 Start Start))) (pos 0 ∷ []) ∷
          says (change (solve (record { width = pos 13107201; height = pos 6553600 }))) (pos 0 ∷ []) ∷
          says (ask (rect (id 1 1))) (pos 0 ∷ pos 0 ∷ pos 0 ∷ pos 786432 ∷ pos 655360 ∷ []) ∷
          says (change (handle PointerReleased)) (pos 0 ∷ []) ∷
          says (change (handle (PointerMoved (pos 5) (pos 5)))) (pos 0 ∷ []) ∷
          says (change (handle PointerPressed)) (pos 0 ∷ []) ∷
          says (change (set_style (id 1 1) (style Row (Px (pos 917504)) (Px (pos 655360)) (edges (pos 0) (pos 0) (pos 0) (pos 0)) (edges (pos 0) (pos 0) (pos 0) (pos 0)) (pos 0) 0 Start Start))) (pos 0 ∷ []) ∷
          says (change (solve (record { width = pos 13107201; height = pos 6553600 }))) (pos 0 ∷ []) ∷
          says (ask (rect (id 1 1))) (pos 0 ∷ pos 0 ∷ pos 0 ∷ pos 1966080 ∷ pos 655360 ∷ []) ∷
          says (change (set_state_table (id 1 1) (65535 ∷ 65535 ∷ 65535 ∷ 65535 ∷ 65535 ∷ 65535 ∷ 65535 ∷ 65535 ∷ 65535 ∷ 65535 ∷ 65535 ∷ 65535 ∷ 65535 ∷ 65535 ∷ 65535 ∷ 65535 ∷ []))) (pos 0 ∷ []) ∷
          says (change (solve (record { width = pos 13107201; height = pos 6553600 }))) (pos 0 ∷ []) ∷
          says (ask (rect (id 1 1))) (pos 0 ∷ pos 0 ∷ pos 0 ∷ pos 917504 ∷ pos 655360 ∷ []) ∷
          [];
    } ∷
    -- 07-two-viewports
    record {
      kind = New;
      limit = 3;
      lines =
          gives (id 0 1) (id 1 1) 0 ∷
          says (change (set_style (id 0 1) (style Row Auto Auto (edges (pos 0) (pos 0) (pos 0) (pos 0)) (edges (pos 0) (pos 0) (pos 0) (pos 0)) (pos 0) 0 Aligned.End Aligned.End))) (pos 0 ∷ []) ∷
          says (change (set_style (id 1 1) (style Row (Px (pos 655360)) (Px (pos 655360)) (edges (pos 0) (pos 0) (pos 0) (pos 0)) (edges (pos 0) (pos 0) (pos 0) (pos 0)) (pos 0) 0 Start Start))) (pos 0 ∷ []) ∷
          says (ask (rect (id 1 1))) (pos 0 ∷ pos 0 ∷ pos 0 ∷ pos 0 ∷ pos 0 ∷ []) ∷
          says (change (solve (record { width = pos 13107200; height = pos 6553600 }))) (pos 0 ∷ []) ∷
          says (ask (rect (id 0 1))) (pos 0 ∷ pos 0 ∷ pos 0 ∷ pos 13107200 ∷ pos 6553600 ∷ []) ∷
          says (ask (rect (id 1 1))) (pos 0 ∷ pos 12451840 ∷ pos 5898240 ∷ pos 655360 ∷ pos 655360 ∷ []) ∷
          says (change (solve (record { width = pos 13107200; height = pos 7864320 }))) (pos 0 ∷ []) ∷
          says (ask (rect (id 0 1))) (pos 0 ∷ pos 0 ∷ pos 0 ∷ pos 13107200 ∷ pos 7864320 ∷ []) ∷
          says (ask (rect (id 1 1))) (pos 0 ∷ pos 12451840 ∷ pos 7208960 ∷ pos 655360 ∷ pos 655360 ∷ []) ∷
          says (change (solve (record { width = pos 14417920; height = pos 7864320 }))) (pos 0 ∷ []) ∷
          says (ask (rect (id 0 1))) (pos 0 ∷ pos 0 ∷ pos 0 ∷ pos 14417920 ∷ pos 7864320 ∷ []) ∷
          says (ask (rect (id 1 1))) (pos 0 ∷ pos 13762560 ∷ pos 7208960 ∷ pos 655360 ∷ pos 655360 ∷ []) ∷
          says (change (solve (record { width = pos 14417920; height = pos 7864320 }))) (pos 0 ∷ []) ∷
          says (ask (rect (id 1 1))) (pos 0 ∷ pos 13762560 ∷ pos 7208960 ∷ pos 655360 ∷ pos 655360 ∷ []) ∷
          gives (id 0 1) (id 2 1) 0 ∷
          says (ask (rect (id 2 1))) (pos 0 ∷ pos 0 ∷ pos 0 ∷ pos 0 ∷ pos 0 ∷ []) ∷
          says (change (solve (record { width = pos 14417920; height = pos 7864320 }))) (pos 0 ∷ []) ∷
          says (ask (rect (id 1 1))) (pos 0 ∷ pos 13762560 ∷ pos 7208960 ∷ pos 655360 ∷ pos 655360 ∷ []) ∷
          says (ask (rect (id 2 1))) (pos 0 ∷ pos 14417920 ∷ pos 7864320 ∷ pos 0 ∷ pos 0 ∷ []) ∷
          says (change (set_style (id 2 1) (style Row (Px (pos 327680)) (Px (pos 327680)) (edges (pos 0) (pos 0) (pos 0) (pos 0)) (edges (pos 0) (pos 0) (pos 0) (pos 0)) (pos 0) 0 Start Start))) (pos 0 ∷ []) ∷
          says (change (solve (record { width = pos 14417920; height = pos 7864320 }))) (pos 0 ∷ []) ∷
          says (ask (rect (id 1 1))) (pos 0 ∷ pos 13434880 ∷ pos 7208960 ∷ pos 655360 ∷ pos 655360 ∷ []) ∷
          says (change (remove (id 2 1))) (pos 0 ∷ []) ∷
          says (change (solve (record { width = pos 14417920; height = pos 7864320 }))) (pos 0 ∷ []) ∷
          says (ask (rect (id 1 1))) (pos 0 ∷ pos 13762560 ∷ pos 7208960 ∷ pos 655360 ∷ pos 655360 ∷ []) ∷
          [];
    } ∷
    -- 08-pools
    record {
      kind = New;
      limit = 2;
      lines =
          gives (id 0 1) (id 1 1) 0 ∷
          says (change (set_style (id 1 1) (style Row (Px (pos 655360)) (Px (pos 655360)) (edges (pos 0) (pos 0) (pos 0) (pos 0)) (edges (pos 0) (pos 0) (pos 0) (pos 0)) (pos 0) 0 Start Start))) (pos 0 ∷ []) ∷
          says (change (set_state_table (id 1 1) (0 ∷ 65535 ∷ 65535 ∷ 65535 ∷ 65535 ∷ 65535 ∷ 65535 ∷ 65535 ∷ 65535 ∷ 65535 ∷ 65535 ∷ 65535 ∷ 65535 ∷ 65535 ∷ 65535 ∷ 65535 ∷ []))) (pos 6 ∷ []) ∷
          says (pooled ((patch false (style Row (Px (pos 1310720)) (Px (pos 655360)) (edges (pos 0) (pos 0) (pos 0) (pos 0)) (edges (pos 0) (pos 0) (pos 0) (pos 0)) (pos 0) 0 Start Start)) ∷ [])) (pos 0 ∷ []) ∷
          says (change (set_state_table (id 1 1) (0 ∷ 65535 ∷ 65535 ∷ 65535 ∷ 65535 ∷ 65535 ∷ 65535 ∷ 65535 ∷ 65535 ∷ 65535 ∷ 65535 ∷ 65535 ∷ 65535 ∷ 65535 ∷ 65535 ∷ 65535 ∷ []))) (pos 0 ∷ []) ∷
          says (change (solve (record { width = pos 13107200; height = pos 6553600 }))) (pos 0 ∷ []) ∷
          says (ask (rect (id 1 1))) (pos 0 ∷ pos 0 ∷ pos 0 ∷ pos 1310720 ∷ pos 655360 ∷ []) ∷
          says (pooled ((patch true (style Row (Px (pos 1966080)) (Px (pos 655360)) (edges (pos 0) (pos 0) (pos 0) (pos 0)) (edges (pos 0) (pos 0) (pos 0) (pos 0)) (pos 0) 0 Start Start)) ∷ [])) (pos 0 ∷ []) ∷
          says (change (solve (record { width = pos 13107200; height = pos 6553600 }))) (pos 0 ∷ []) ∷
          says (ask (rect (id 1 1))) (pos 0 ∷ pos 0 ∷ pos 0 ∷ pos 655360 ∷ pos 655360 ∷ []) ∷
          says (change (set_state_table (id 1 1) (65535 ∷ 1 ∷ 65535 ∷ 65535 ∷ 65535 ∷ 65535 ∷ 65535 ∷ 65535 ∷ 65535 ∷ 65535 ∷ 65535 ∷ 65535 ∷ 65535 ∷ 65535 ∷ 65535 ∷ 65535 ∷ []))) (pos 6 ∷ []) ∷
          says (change (set_state_table (id 1 1) (65535 ∷ 0 ∷ 65535 ∷ 65535 ∷ 65535 ∷ 65535 ∷ 65535 ∷ 65535 ∷ 65535 ∷ 65535 ∷ 65535 ∷ 65535 ∷ 65535 ∷ 65535 ∷ 65535 ∷ 65535 ∷ []))) (pos 0 ∷ []) ∷
          says (change (handle (PointerMoved (pos 5) (pos 5)))) (pos 0 ∷ []) ∷
          says (change (solve (record { width = pos 13107200; height = pos 6553600 }))) (pos 0 ∷ []) ∷
          says (ask (rect (id 1 1))) (pos 0 ∷ pos 0 ∷ pos 0 ∷ pos 1966080 ∷ pos 655360 ∷ []) ∷
          says (pooled ([])) (pos 0 ∷ []) ∷
          says (change (solve (record { width = pos 13107200; height = pos 6553600 }))) (pos 0 ∷ []) ∷
          says (ask (rect (id 1 1))) (pos 0 ∷ pos 0 ∷ pos 0 ∷ pos 655360 ∷ pos 655360 ∷ []) ∷
          says (change (set_state_table (id 1 1) (65535 ∷ 65535 ∷ 65535 ∷ 65535 ∷ 65535 ∷ 65535 ∷ 65535 ∷ 65535 ∷ 65535 ∷ 65535 ∷ 65535 ∷ 65535 ∷ 65535 ∷ 65535 ∷ 65535 ∷ 0 ∷ []))) (pos 6 ∷ []) ∷
          [];
    } ∷
    -- 09-two-ships
    record {
      kind = New;
      limit = 4;
      lines =
          gives (id 0 1) (id 1 1) 0 ∷
          gives (id 1 1) (id 2 1) 0 ∷
          says (change (set_style (id 1 1) (style Row (Px (pos 6553600)) (Px (pos 6553600)) (edges (pos 0) (pos 0) (pos 0) (pos 0)) (edges (pos 0) (pos 0) (pos 0) (pos 0)) (pos 0) 0 Start Start))) (pos 0 ∷ []) ∷
          says (change (set_style (id 2 1) (style Row (Px (pos 655360)) (Px (pos 655360)) (edges (pos 0) (pos 0) (pos 0) (pos 0)) (edges (pos 0) (pos 0) (pos 0) (pos 0)) (pos 0) 0 Start Start))) (pos 0 ∷ []) ∷
          says (change (make_field (id 2 1))) (pos 0 ∷ []) ∷
          says (change (make_field (id 2 1))) (pos 0 ∷ []) ∷
          says (change (make_field (id 3 1))) (pos 3 ∷ []) ∷
          says (ask (metres (id 2 1))) (pos 9 ∷ pos 0 ∷ []) ∷
          says (ask (metres (id 1 1))) (pos 8 ∷ pos 0 ∷ []) ∷
          says (change (solve (record { width = pos 13107200; height = pos 13107200 }))) (pos 0 ∷ []) ∷
          says (change (handle (PointerMoved (pos 5) (pos 5)))) (pos 0 ∷ []) ∷
          says (change (handle PointerPressed)) (pos 0 ∷ []) ∷
          says (change (handle PointerReleased)) (pos 0 ∷ []) ∷
          says_focus (pos 0 ∷ pos 2 ∷ pos 1 ∷ []) ∷
          says (change (handle (TextEntered 55))) (pos 0 ∷ []) ∷
          says (change (handle (TextEntered 46))) (pos 0 ∷ []) ∷
          says (change (handle (TextEntered 52))) (pos 0 ∷ []) ∷
          says (ask (field_text (id 2 1))) (pos 0 ∷ pos 3 ∷ pos 55 ∷ pos 46 ∷ pos 52 ∷ []) ∷
          says (ask (field_cursor (id 2 1))) (pos 0 ∷ pos 3 ∷ []) ∷
          says (ask (metres (id 2 1))) (pos 0 ∷ pos 740 ∷ []) ∷
          says (change (handle (Edit Home))) (pos 0 ∷ []) ∷
          says (change (handle (Edit Delete))) (pos 0 ∷ []) ∷
          says (change (handle (Edit Right))) (pos 0 ∷ []) ∷
          says (change (handle (TextEntered 233))) (pos 0 ∷ []) ∷
          says (change (handle (Edit Left))) (pos 0 ∷ []) ∷
          says (ask (field_text (id 2 1))) (pos 0 ∷ pos 4 ∷ pos 46 ∷ pos 195 ∷ pos 169 ∷ pos 52 ∷ []) ∷
          says (ask (field_cursor (id 2 1))) (pos 0 ∷ pos 1 ∷ []) ∷
          says (ask (metres (id 2 1))) (pos 10 ∷ pos 0 ∷ []) ∷
          says (change (handle (Edit End))) (pos 0 ∷ []) ∷
          says (change (handle (Edit Backspace))) (pos 0 ∷ []) ∷
          says (change (handle (Edit Backspace))) (pos 0 ∷ []) ∷
          says (change (handle (Edit Backspace))) (pos 0 ∷ []) ∷
          says (ask (field_text (id 2 1))) (pos 0 ∷ pos 0 ∷ []) ∷
          says (ask (metres (id 2 1))) (pos 9 ∷ pos 0 ∷ []) ∷
          says (change (handle (TextEntered 57))) (pos 0 ∷ []) ∷
          says (change (remove (id 1 1))) (pos 0 ∷ []) ∷
          says (change (remove (id 0 1))) (pos 5 ∷ []) ∷
          says_focus (pos 0 ∷ pos 2 ∷ pos 1 ∷ []) ∷
          says (ask (live (id 2 1))) (pos 0 ∷ pos 0 ∷ []) ∷
          says (ask (field_text (id 2 1))) (pos 3 ∷ pos 0 ∷ []) ∷
          gives (id 0 1) (id 2 2) 0 ∷
          gives (id 2 2) (id 1 2) 0 ∷
          says (ask (live (id 1 2))) (pos 0 ∷ pos 1 ∷ []) ∷
          says (ask (first_child (id 2 2))) (pos 0 ∷ pos 1 ∷ pos 2 ∷ []) ∷
          says (ask (next_sibling (id 1 2))) (pos 0 ∷ []) ∷
          says (ask (rect (id 1 2))) (pos 0 ∷ pos 0 ∷ pos 0 ∷ pos 0 ∷ pos 0 ∷ []) ∷
          says (change (make_field (id 1 2))) (pos 0 ∷ []) ∷
          says (ask (metres (id 1 2))) (pos 9 ∷ pos 0 ∷ []) ∷
          says (change (handle (TextEntered 56))) (pos 0 ∷ []) ∷
          says (ask (field_text (id 1 2))) (pos 0 ∷ pos 0 ∷ []) ∷
          says (ask (metres (id 1 2))) (pos 9 ∷ pos 0 ∷ []) ∷
          says (ask (field_cursor (id 1 2))) (pos 0 ∷ pos 0 ∷ []) ∷
          says (change (set_style (id 1 2) (style Row (Px (pos 655360)) (Px (pos 655360)) (edges (pos 0) (pos 0) (pos 0) (pos 0)) (edges (pos 0) (pos 0) (pos 0) (pos 0)) (pos 0) 0 Start Start))) (pos 0 ∷ []) ∷
          says (change (solve (record { width = pos 13107200; height = pos 13107200 }))) (pos 0 ∷ []) ∷
          says (ask (rect (id 2 2))) (pos 0 ∷ pos 0 ∷ pos 0 ∷ pos 655360 ∷ pos 655360 ∷ []) ∷
          says (ask (rect (id 1 2))) (pos 0 ∷ pos 0 ∷ pos 0 ∷ pos 655360 ∷ pos 655360 ∷ []) ∷
          says (change (handle (PointerMoved (pos 5) (pos 5)))) (pos 0 ∷ []) ∷
          says (change (handle PointerPressed)) (pos 0 ∷ []) ∷
          says_pressed (pos 0 ∷ pos 1 ∷ pos 2 ∷ []) ∷
          says (change (handle (TextEntered 49))) (pos 0 ∷ []) ∷
          says (ask (field_text (id 1 2))) (pos 0 ∷ pos 0 ∷ []) ∷
          says (change (handle PointerReleased)) (pos 0 ∷ []) ∷
          says (change (handle (TextEntered 50))) (pos 0 ∷ []) ∷
          says (ask (field_text (id 1 2))) (pos 0 ∷ pos 1 ∷ pos 50 ∷ []) ∷
          says (ask (metres (id 1 2))) (pos 0 ∷ pos 200 ∷ []) ∷
          says (change (make_field (id 0 1))) (pos 0 ∷ []) ∷
          says (ask (field_text (id 0 1))) (pos 0 ∷ pos 0 ∷ []) ∷
          gives (id 0 1) (id 3 1) 0 ∷
          gives (id 0 1) (id 0 0) 4 ∷
          [];
    } ∷
    -- 10-eight-fields
    record {
      kind = New;
      limit = 11;
      lines =
          gives (id 0 1) (id 1 1) 0 ∷
          gives (id 0 1) (id 2 1) 0 ∷
          gives (id 0 1) (id 3 1) 0 ∷
          gives (id 0 1) (id 4 1) 0 ∷
          gives (id 0 1) (id 5 1) 0 ∷
          gives (id 0 1) (id 6 1) 0 ∷
          gives (id 0 1) (id 7 1) 0 ∷
          gives (id 0 1) (id 8 1) 0 ∷
          gives (id 0 1) (id 9 1) 0 ∷
          says (change (make_field (id 1 1))) (pos 0 ∷ []) ∷
          says (change (make_field (id 2 1))) (pos 0 ∷ []) ∷
          says (change (make_field (id 3 1))) (pos 0 ∷ []) ∷
          says (change (make_field (id 4 1))) (pos 0 ∷ []) ∷
          says (change (make_field (id 5 1))) (pos 0 ∷ []) ∷
          says (change (make_field (id 6 1))) (pos 0 ∷ []) ∷
          says (change (make_field (id 7 1))) (pos 0 ∷ []) ∷
          says (change (make_field (id 8 1))) (pos 0 ∷ []) ∷
          says (change (make_field (id 9 1))) (pos 4 ∷ []) ∷
          says (change (make_field (id 3 1))) (pos 0 ∷ []) ∷
          says (ask (field_text (id 9 1))) (pos 8 ∷ pos 0 ∷ []) ∷
          says (change (remove (id 4 1))) (pos 0 ∷ []) ∷
          says (change (make_field (id 9 1))) (pos 0 ∷ []) ∷
          says (ask (field_text (id 9 1))) (pos 0 ∷ pos 0 ∷ []) ∷
          gives (id 0 1) (id 4 2) 0 ∷
          says (change (make_field (id 4 2))) (pos 4 ∷ []) ∷
          says (ask (field_text (id 4 2))) (pos 8 ∷ pos 0 ∷ []) ∷
          says (ask (metres (id 4 1))) (pos 3 ∷ pos 0 ∷ []) ∷
          [];
    } ∷
    -- 11-nowhere
    record {
      kind = New;
      limit = 3;
      lines =
          gives (id 0 1) (id 1 1) 0 ∷
          gives (id 0 1) (id 2 1) 0 ∷
          says (change (set_style (id 1 1) (style Row (Px (pos 655360)) (Px (pos 655360)) (edges (pos 0) (pos 0) (pos 0) (pos 0)) (edges (pos 0) (pos 0) (pos 0) (pos 0)) (pos 0) 0 Start Start))) (pos 0 ∷ []) ∷
          says (change (set_style (id 2 1) (style Row (Px (pos 655360)) (Px (pos 655360)) (edges (pos 0) (pos 0) (pos 0) (pos 0)) (edges (pos 0) (pos 0) (pos 0) (pos 0)) (pos 0) 0 Start Start))) (pos 0 ∷ []) ∷
          says (change (make_field (id 1 1))) (pos 0 ∷ []) ∷
          says (pooled ((patch true (style Row (Px (pos 1310720)) (Px (pos 655360)) (edges (pos 0) (pos 0) (pos 0) (pos 0)) (edges (pos 0) (pos 0) (pos 0) (pos 0)) (pos 0) 0 Start Start)) ∷ [])) (pos 0 ∷ []) ∷
          says (change (set_state_table (id 1 1) (65535 ∷ 0 ∷ 0 ∷ 0 ∷ 0 ∷ 0 ∷ 0 ∷ 0 ∷ 65535 ∷ 65535 ∷ 65535 ∷ 65535 ∷ 65535 ∷ 65535 ∷ 65535 ∷ 65535 ∷ []))) (pos 0 ∷ []) ∷
          says (change (solve (record { width = pos 13107200; height = pos 6553600 }))) (pos 0 ∷ []) ∷
          says (change (handle PointerPressed)) (pos 0 ∷ []) ∷
          says_pressed (pos 0 ∷ []) ∷
          says (change (handle PointerReleased)) (pos 0 ∷ []) ∷
          says_focus (pos 0 ∷ []) ∷
          says (change (handle (TextEntered 55))) (pos 0 ∷ []) ∷
          says (ask (field_text (id 1 1))) (pos 0 ∷ pos 0 ∷ []) ∷
          says (ask (metres (id 1 1))) (pos 9 ∷ pos 0 ∷ []) ∷
          says (change (solve (record { width = pos 13107200; height = pos 6553600 }))) (pos 0 ∷ []) ∷
          says (ask (rect (id 1 1))) (pos 0 ∷ pos 0 ∷ pos 0 ∷ pos 655360 ∷ pos 655360 ∷ []) ∷
          says (ask (rect (id 2 1))) (pos 0 ∷ pos 655360 ∷ pos 0 ∷ pos 655360 ∷ pos 655360 ∷ []) ∷
          says (change (handle (PointerMoved (pos 0) (pos 0)))) (pos 0 ∷ []) ∷
          says (change (handle PointerPressed)) (pos 0 ∷ []) ∷
          says_pressed (pos 0 ∷ pos 1 ∷ pos 1 ∷ []) ∷
          says (change (handle PointerReleased)) (pos 0 ∷ []) ∷
          says_focus (pos 0 ∷ pos 1 ∷ pos 1 ∷ []) ∷
          says (change (handle (TextEntered 56))) (pos 0 ∷ []) ∷
          says (ask (field_text (id 1 1))) (pos 0 ∷ pos 1 ∷ pos 56 ∷ []) ∷
          says (ask (metres (id 1 1))) (pos 0 ∷ pos 800 ∷ []) ∷
          says (change (solve (record { width = pos 13107200; height = pos 6553600 }))) (pos 0 ∷ []) ∷
          says (ask (rect (id 1 1))) (pos 0 ∷ pos 0 ∷ pos 0 ∷ pos 1310720 ∷ pos 655360 ∷ []) ∷
          says (ask (rect (id 2 1))) (pos 0 ∷ pos 1310720 ∷ pos 0 ∷ pos 655360 ∷ pos 655360 ∷ []) ∷
          [];
    } ∷
    -- 12-at-origin
    record {
      kind = AtOrigin;
      limit = 3;
      lines =
          gives (id 0 1) (id 1 1) 0 ∷
          gives (id 0 1) (id 2 1) 0 ∷
          says (change (set_style (id 1 1) (style Row (Px (pos 655360)) (Px (pos 655360)) (edges (pos 0) (pos 0) (pos 0) (pos 0)) (edges (pos 0) (pos 0) (pos 0) (pos 0)) (pos 0) 0 Start Start))) (pos 0 ∷ []) ∷
          says (change (set_style (id 2 1) (style Row (Px (pos 655360)) (Px (pos 655360)) (edges (pos 0) (pos 0) (pos 0) (pos 0)) (edges (pos 0) (pos 0) (pos 0) (pos 0)) (pos 0) 0 Start Start))) (pos 0 ∷ []) ∷
          says (change (make_field (id 1 1))) (pos 0 ∷ []) ∷
          says (pooled ((patch true (style Row (Px (pos 1310720)) (Px (pos 655360)) (edges (pos 0) (pos 0) (pos 0) (pos 0)) (edges (pos 0) (pos 0) (pos 0) (pos 0)) (pos 0) 0 Start Start)) ∷ [])) (pos 0 ∷ []) ∷
          says (change (set_state_table (id 1 1) (65535 ∷ 0 ∷ 0 ∷ 0 ∷ 0 ∷ 0 ∷ 0 ∷ 0 ∷ 65535 ∷ 65535 ∷ 65535 ∷ 65535 ∷ 65535 ∷ 65535 ∷ 65535 ∷ 65535 ∷ []))) (pos 0 ∷ []) ∷
          says (change (solve (record { width = pos 13107200; height = pos 6553600 }))) (pos 0 ∷ []) ∷
          says (change (handle PointerPressed)) (pos 0 ∷ []) ∷
          says_pressed (pos 0 ∷ pos 1 ∷ pos 1 ∷ []) ∷
          says (change (handle PointerReleased)) (pos 0 ∷ []) ∷
          says_focus (pos 0 ∷ pos 1 ∷ pos 1 ∷ []) ∷
          says (change (handle (TextEntered 55))) (pos 0 ∷ []) ∷
          says (ask (field_text (id 1 1))) (pos 0 ∷ pos 1 ∷ pos 55 ∷ []) ∷
          says (ask (metres (id 1 1))) (pos 0 ∷ pos 700 ∷ []) ∷
          says (change (solve (record { width = pos 13107200; height = pos 6553600 }))) (pos 0 ∷ []) ∷
          says (ask (rect (id 1 1))) (pos 0 ∷ pos 0 ∷ pos 0 ∷ pos 1310720 ∷ pos 655360 ∷ []) ∷
          says (ask (rect (id 2 1))) (pos 0 ∷ pos 1310720 ∷ pos 0 ∷ pos 655360 ∷ pos 655360 ∷ []) ∷
          says (change (handle (PointerMoved (pos 0) (pos 0)))) (pos 0 ∷ []) ∷
          says (change (handle PointerPressed)) (pos 0 ∷ []) ∷
          says_pressed (pos 0 ∷ pos 1 ∷ pos 1 ∷ []) ∷
          says (change (handle PointerReleased)) (pos 0 ∷ []) ∷
          says_focus (pos 0 ∷ pos 1 ∷ pos 1 ∷ []) ∷
          says (change (handle (TextEntered 56))) (pos 0 ∷ []) ∷
          says (ask (field_text (id 1 1))) (pos 0 ∷ pos 2 ∷ pos 55 ∷ pos 56 ∷ []) ∷
          says (ask (metres (id 1 1))) (pos 0 ∷ pos 7800 ∷ []) ∷
          says (change (solve (record { width = pos 13107200; height = pos 6553600 }))) (pos 0 ∷ []) ∷
          says (ask (rect (id 1 1))) (pos 0 ∷ pos 0 ∷ pos 0 ∷ pos 1310720 ∷ pos 655360 ∷ []) ∷
          says (ask (rect (id 2 1))) (pos 0 ∷ pos 1310720 ∷ pos 0 ∷ pos 655360 ∷ pos 655360 ∷ []) ∷
          [];
    } ∷
    -- 13-centred-field
    record {
      kind = New;
      limit = 2;
      lines =
          gives (id 0 1) (id 1 1) 0 ∷
          says (change (make_field (id 1 1))) (pos 0 ∷ []) ∷
          says (change (set_style (id 0 1) (style Row Auto Auto (edges (pos 0) (pos 0) (pos 0) (pos 0)) (edges (pos 0) (pos 0) (pos 0) (pos 0)) (pos 0) 0 Center Center))) (pos 0 ∷ []) ∷
          says (change (set_style (id 1 1) (style Row (Px (pos 6553600)) (Px (pos 1310720)) (edges (pos 0) (pos 0) (pos 0) (pos 0)) (edges (pos 0) (pos 0) (pos 0) (pos 0)) (pos 0) 0 Start Start))) (pos 0 ∷ []) ∷
          says (change (solve (record { width = pos 19726336; height = pos 2686976 }))) (pos 0 ∷ []) ∷
          says (ask (rect (id 1 1))) (pos 0 ∷ pos 6553600 ∷ pos 655360 ∷ pos 6553600 ∷ pos 1310720 ∷ []) ∷
          says (change (handle (PointerMoved (pos 200) (pos 29)))) (pos 0 ∷ []) ∷
          says (change (handle PointerPressed)) (pos 0 ∷ []) ∷
          says (change (handle PointerReleased)) (pos 0 ∷ []) ∷
          says_focus (pos 0 ∷ pos 0 ∷ pos 1 ∷ []) ∷
          says (change (handle (TextEntered 57))) (pos 0 ∷ []) ∷
          says (ask (field_text (id 1 1))) (pos 0 ∷ pos 0 ∷ []) ∷
          says (change (handle (PointerMoved (pos 100) (pos 10)))) (pos 0 ∷ []) ∷
          says (change (handle PointerPressed)) (pos 0 ∷ []) ∷
          says (change (handle PointerReleased)) (pos 0 ∷ []) ∷
          says_focus (pos 0 ∷ pos 1 ∷ pos 1 ∷ []) ∷
          says (change (handle (TextEntered 55))) (pos 0 ∷ []) ∷
          says (ask (field_text (id 1 1))) (pos 0 ∷ pos 1 ∷ pos 55 ∷ []) ∷
          says (ask (metres (id 1 1))) (pos 0 ∷ pos 700 ∷ []) ∷
          says (change (handle (PointerMoved (pos 199) (pos 30)))) (pos 0 ∷ []) ∷
          says (change (handle PointerPressed)) (pos 0 ∷ []) ∷
          says_pressed (pos 0 ∷ pos 0 ∷ pos 1 ∷ []) ∷
          says (change (handle (PointerMoved (pos 199) (pos 29)))) (pos 0 ∷ []) ∷
          says (change (handle PointerPressed)) (pos 0 ∷ []) ∷
          says_pressed (pos 0 ∷ pos 1 ∷ pos 1 ∷ []) ∷
          says (change (set_style (id 0 1) (style Column Auto Auto (edges (pos 0) (pos 0) (pos 0) (pos 0)) (edges (pos 0) (pos 0) (pos 0) (pos 0)) (pos 0) 0 Center Center))) (pos 0 ∷ []) ∷
          says (change (solve (record { width = pos 19726336; height = pos 2686976 }))) (pos 0 ∷ []) ∷
          says (ask (rect (id 1 1))) (pos 0 ∷ pos 6553600 ∷ pos 655360 ∷ pos 6553600 ∷ pos 1310720 ∷ []) ∷
          [];
    } ∷
    -- 14-confirmed-draughts
    record {
      kind = New;
      limit = 4;
      lines =
          gives (id 0 1) (id 1 1) 0 ∷
          says (change (set_style (id 1 1) (style Row (Px (pos 655360)) (Px (pos 655360)) (edges (pos 0) (pos 0) (pos 0) (pos 0)) (edges (pos 0) (pos 0) (pos 0) (pos 0)) (pos 0) 0 Start Start))) (pos 0 ∷ []) ∷
          says (change next_ship) (pos 0 ∷ []) ∷
          says (change (confirm (id 1 1))) (pos 8 ∷ []) ∷
          says (ask (confirmed_metres (id 1 1))) (pos 8 ∷ pos 0 ∷ []) ∷
          says (ask (marked_text (id 1 1))) (pos 8 ∷ pos 0 ∷ pos 0 ∷ pos 0 ∷ []) ∷
          says (change (make_field (id 1 1))) (pos 0 ∷ []) ∷
          says (ask (marked_text (id 1 1))) (pos 0 ∷ pos 0 ∷ pos 0 ∷ pos 0 ∷ []) ∷
          says (ask (confirmed_metres (id 1 1))) (pos 14 ∷ pos 0 ∷ []) ∷
          says (change (confirm (id 1 1))) (pos 9 ∷ []) ∷
          says (change (solve (record { width = pos 13107200; height = pos 13107200 }))) (pos 0 ∷ []) ∷
          says (change (handle (PointerMoved (pos 5) (pos 5)))) (pos 0 ∷ []) ∷
          says (change (handle PointerPressed)) (pos 0 ∷ []) ∷
          says (change (handle PointerReleased)) (pos 0 ∷ []) ∷
          says (change (handle (TextEntered 55))) (pos 0 ∷ []) ∷
          says (ask (marked_text (id 1 1))) (pos 0 ∷ pos 1 ∷ pos 55 ∷ pos 1 ∷ pos 1 ∷ []) ∷
          says (ask (confirmed_metres (id 1 1))) (pos 14 ∷ pos 0 ∷ []) ∷
          says (change (handle (TextEntered 44))) (pos 0 ∷ []) ∷
          says (change (confirm (id 1 1))) (pos 10 ∷ []) ∷
          says (change (handle (TextEntered 53))) (pos 0 ∷ []) ∷
          says (ask (metres (id 1 1))) (pos 0 ∷ pos 750 ∷ []) ∷
          says (change (confirm (id 1 1))) (pos 0 ∷ []) ∷
          says (ask (confirmed_metres (id 1 1))) (pos 0 ∷ pos 750 ∷ []) ∷
          says (change (handle (Edit Left))) (pos 0 ∷ []) ∷
          says (change (handle (Edit Home))) (pos 0 ∷ []) ∷
          says (change (handle (Edit Backspace))) (pos 0 ∷ []) ∷
          says (change (handle (TextEntered 55296))) (pos 0 ∷ []) ∷
          says (change (make_field (id 1 1))) (pos 0 ∷ []) ∷
          says (ask (marked_text (id 1 1))) (pos 0 ∷ pos 3 ∷ pos 55 ∷ pos 44 ∷ pos 53 ∷ pos 0 ∷ pos 2 ∷ []) ∷
          says (ask (confirmed_metres (id 1 1))) (pos 0 ∷ pos 750 ∷ []) ∷
          says (change next_ship) (pos 0 ∷ []) ∷
          says (ask (field_text (id 1 1))) (pos 0 ∷ pos 3 ∷ pos 55 ∷ pos 44 ∷ pos 53 ∷ []) ∷
          says (ask (field_cursor (id 1 1))) (pos 0 ∷ pos 0 ∷ []) ∷
          says (ask (marked_text (id 1 1))) (pos 0 ∷ pos 3 ∷ pos 55 ∷ pos 44 ∷ pos 53 ∷ pos 0 ∷ pos 0 ∷ []) ∷
          says (ask (confirmed_metres (id 1 1))) (pos 14 ∷ pos 0 ∷ []) ∷
          says (change (handle (Edit Delete))) (pos 0 ∷ []) ∷
          says (ask (marked_text (id 1 1))) (pos 0 ∷ pos 2 ∷ pos 44 ∷ pos 53 ∷ pos 0 ∷ pos 1 ∷ []) ∷
          says (ask (confirmed_metres (id 1 1))) (pos 14 ∷ pos 0 ∷ []) ∷
          says (change (confirm (id 1 1))) (pos 10 ∷ []) ∷
          says (change (handle (TextEntered 57))) (pos 0 ∷ []) ∷
          says (ask (marked_text (id 1 1))) (pos 0 ∷ pos 3 ∷ pos 57 ∷ pos 44 ∷ pos 53 ∷ pos 1 ∷ pos 1 ∷ []) ∷
          says (change next_ship) (pos 0 ∷ []) ∷
          says (ask (marked_text (id 1 1))) (pos 0 ∷ pos 3 ∷ pos 57 ∷ pos 44 ∷ pos 53 ∷ pos 1 ∷ pos 1 ∷ []) ∷
          says (ask (confirmed_metres (id 1 1))) (pos 14 ∷ pos 0 ∷ []) ∷
          says (change (confirm (id 1 1))) (pos 0 ∷ []) ∷
          says (ask (confirmed_metres (id 1 1))) (pos 0 ∷ pos 950 ∷ []) ∷
          says (change (remove (id 1 1))) (pos 0 ∷ []) ∷
          says (change (confirm (id 1 1))) (pos 3 ∷ []) ∷
          says (ask (confirmed_metres (id 1 1))) (pos 3 ∷ pos 0 ∷ []) ∷
          says (ask (marked_text (id 1 1))) (pos 3 ∷ pos 0 ∷ pos 0 ∷ pos 0 ∷ []) ∷
          gives (id 0 1) (id 1 2) 0 ∷
          says (change (confirm (id 1 2))) (pos 8 ∷ []) ∷
          says (ask (confirmed_metres (id 1 2))) (pos 8 ∷ pos 0 ∷ []) ∷
          says (ask (marked_text (id 1 2))) (pos 8 ∷ pos 0 ∷ pos 0 ∷ pos 0 ∷ []) ∷
          says (change (make_field (id 1 2))) (pos 0 ∷ []) ∷
          says (ask (marked_text (id 1 2))) (pos 0 ∷ pos 0 ∷ pos 0 ∷ pos 0 ∷ []) ∷
          says (ask (confirmed_metres (id 1 2))) (pos 14 ∷ pos 0 ∷ []) ∷
          says (change next_ship) (pos 0 ∷ []) ∷
          says (ask (field_text (id 1 2))) (pos 0 ∷ pos 0 ∷ []) ∷
          [];
    } ∷
    []
