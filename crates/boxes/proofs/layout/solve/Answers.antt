-- The order's slots are slots, so both folds are the definition's. Assumes nothing.
use mir.Val.{to_z, of_z}
use mir.Syntax.{w64}
use lib.ListN.{set}
use lib.IntN.{ℤ, pos}
use Prim.Native.Nat.{ℕ}
use mathlib.Core.List.{List, [], ◌∷◌}
use mathlib.Core.Path.{◌≡◌, ◌∙◌, ap}
use borrow.Author.Rules.{rules}
use Rattle.arithmetic.proofs.Signs.{back}
use Rattle.boxes.specs.declared.LayoutSlot.{LayoutSlot}
use Rattle.boxes.specs.Layout.{measure_all, arrange_all, with_rect, view_rect, passed}
use Rattle.boxes.specs.Styles.{layout_at}
use Rattle.arena.specs.Slots.{order}
use Rattle.boxes.proofs.Layouts.Passes.{small_listed}
use Rattle.boxes.proofs.layout.solve.Goals as goal

pub measure_all-requires : goal.measure_all-requires
measure_all-requires c = rw c.as_slice-ids.ensures (small_listed c.reach_root.result.order c.reach_root.ensures.1)

pub arrange_all-requires : goal.arrange_all-requires
arrange_all-requires c = rw c.as_slice-ids.ensures (small_listed c.reach_root.result.order c.reach_root.ensures.1)

pub returns : goal.returns
unfolding layout_at passed
returns c = let a = c.args in let o = c.reach_root in let m = c.measure_all in let w = c.with_rect in
    let all : List ℕ = order 128 a.slots.now (0 ∷ []) in
    let is : c.as_slice-ids.result.now ≡ all = c.as_slice-ids.ensures ∙ o.ensures.2 in
    let box : w.result ≡ with_rect (layout_at m.new.layout 0) (view_rect a.view) =
    w.ensures
    ∙ ap (λ (z : ℤ). with_rect (layout_at m.new.layout 0) (record { x = pos 0; y = pos 0; width = z; height = to_z w64 (of_z w64 a.view.height) })) (back a.view.width (search rules))
    ∙ ap (λ (z : ℤ). with_rect (layout_at m.new.layout 0) (record { x = pos 0; y = pos 0; width = a.view.width; height = z })) (back a.view.height (search rules)) in
    c.arrange_all.ensures
    ∙ ap (λ (l : List ℕ). arrange_all a.slots.now (set m.new.layout 0 w.result) l) is
    ∙ ap (λ (x : LayoutSlot). arrange_all a.slots.now (set m.new.layout 0 x) all) box
    ∙ ap (λ (l : List LayoutSlot). arrange_all a.slots.now (set l 0 (with_rect (layout_at l 0) (view_rect a.view))) all) (m.ensures ∙ ap (λ (l : List ℕ). measure_all a.slots.now a.layout.now l) is)
