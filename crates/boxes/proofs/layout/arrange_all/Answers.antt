use mathlib.Core.Bool.{cond}
use lib.IntN.{ℤ, pos}
use lib.ListN.{drop, get_or, length}
use lib.Seq.{length-sets}
use native.Mathlib.Omega.{arith}
use Prim.Native.Nat.{ℕ, ◌+◌}
use mathlib.Core.List.{List, map}
use mathlib.Core.Path.{◌≡◌, ap₂, refl, ◌∙◌, ap}
use borrow.Author.Rules.{rules}
use Rattle.boxes.proofs.Layouts.Passes.{arranged_none, arranged_more}
use Rattle.boxes.proofs.Layouts.PassSteps.{goes_on, summing_done, gathering_more, gathering_done, boxing_more, boxing_done, arranged, arranged_leaf}
use Rattle.boxes.proofs.Layouts.Placing.{grow_of}
use Rattle.boxes.proofs.Layouts.Sharing.{placed_by_parts, counted_share}
use Rattle.arithmetic.proofs.Signs.{back, said}
use Rattle.boxes.specs.declared.LayoutSlot.{LayoutSlot}
use Rattle.boxes.specs.Support.Views.{axes_of, inner_of}
use Rattle.boxes.specs.Styles.{layout_at}
use Rattle.arena.specs.Slots.{kids_at, at}
use Rattle.boxes.specs.Layout.{arrange_all, offset, seen, Child, Axes, axes, content}
use Rattle.boxes.specs.declared.Rect.{Rect}
use Rattle.arithmetic.specs.Scalar.{sub_sat}
use Rattle.boxes.proofs.layout.arrange_all.Goals as goal

pub loop-id-init : goal.loop-id-init
loop-id-init c = (refl, refl)

pub loop-id-preserved-then-first-ge128 : goal.loop-id-preserved-then-first-ge128
unfolding at
loop-id-preserved-then-first-ge128 c = let l = c.loop-id in let s = c.args.slots.now in let ids = c.args.ids.now in (
  ap (λ (x : List LayoutSlot). arrange_all s x (drop (l.id-index + 1) ids)) (arranged_leaf s l.layout (get_or ids l.id-index 0) c.if-first-ge128.true)
      ∙ arranged_more s l.layout l.id-index ids c.loop-id-test.true
      ∙ l.invariant.0,
  l.invariant.1,
)

pub loop-child-init : goal.loop-child-init
loop-child-init c = record { summing = record { most = omega arith; counts = omega arith; sums = refl }; fills = refl }

pub loop-child-preserved : goal.loop-child-preserved
unfolding at layout_at
loop-child-preserved c = gathering_more c.loop-child.invariant c.loop-child-test.true c.with_child-sum.ensures

pub share_out-grow-requires : goal.share_out-grow-requires
share_out-grow-requires c = c.loop-child.invariant.summing.most

pub bounds-layout-c-in-loop-next-2 : goal.bounds-layout-c-in-loop-next-2
bounds-layout-c-in-loop-next-2 c = (goes_on c.loop-next.next c.loop-next.passed c.loop-next-test.true).0

pub bounds-slots-c-in-loop-next : goal.bounds-slots-c-in-loop-next
bounds-slots-c-in-loop-next c = (goes_on c.loop-next.next c.loop-next.passed c.loop-next-test.true).0

pub loop-id-preserved : goal.loop-id-preserved
unfolding kids_at at layout_at inner_of
loop-id-preserved c = let l = c.loop-id in let s = c.args.slots.now in let ids = c.args.ids.now in let w = c.loop-child in let v = c.loop-next in
    let i : ℕ = get_or ids l.id-index 0 in
    let cs : List Child = map (seen l.layout) (kids_at s i) in
    let style = (layout_at l.layout i).style in
    let sums = summing_done style refl w.invariant.summing c.loop-child-test.false in
    let left = c.leftover_of-leftover in let out = c.share_out-grow in let free = c.counted-free in let run = c.run_start-at in let box = c.content_box-content in
    let long : length l.grows ≡ 128 = l.invariant.1 in
    let room : axes_of c.axes-room.result ≡ inner_of style.direction style.padding (layout_at l.layout i).rect = c.axes-room.ensures ∙ ap₂ (axes style.direction) (back box.result.width (search rules)) (back box.result.height (search rules)) ∙ ap (λ (r : Rect). axes style.direction r.width r.height) box.ensures in
    let full = gathering_done w.invariant c.loop-child-test.false in
    let placed = placed_by_parts style (layout_at l.layout i).rect cs _ _ _ _ _ _ _ _ _ _ long (omega (arith, sums.1, w.invariant.summing.most)) sums.1 full (ap (λ (r : Rect). r.x) box.ensures) (ap (λ (r : Rect). r.y) box.ensures) (run.ensures.1 ∙ ap (λ (x : Axes). x.cross) room) (said left.result left.type_inv (left.ensures cs sums) ∙ ap (λ (x : Axes). sub_sat x.main (content style cs).main) room) out.ensures.shared out.ensures.rest (run.ensures.0 ∙ ap (offset style.justify) (back free.result free.type_inv ∙ free.ensures)) in (
      ap (λ (x : List LayoutSlot). arrange_all s x (drop (l.id-index + 1) ids)) (arranged s l.layout v.layout i _ (boxing_done v.invariant c.loop-next-test.false) placed)
          ∙ arranged_more s l.layout l.id-index ids c.loop-id-test.true
          ∙ l.invariant.0,
      ap length full ∙ length-sets l.grows 0 (map grow_of cs) ∙ long,
    )

pub loop-next-smaller : goal.loop-next-smaller
loop-next-smaller c = let w = c.loop-next in let g = goes_on w.next w.passed c.loop-next-test.true in search rules

pub loop-next-preserved : goal.loop-next-preserved
unfolding at layout_at
loop-next-preserved c =
    let g = c.counted-growth in
    boxing_more c.loop-next.invariant c.loop-next-test.true (back g.result g.type_inv ∙ g.ensures ∙ ap (λ (z : ℤ). cond c.share_out-grow.result z (pos 0)) (back (get_or c.share_out-grow.new.shares c.loop-next.passed (pos 0)) (search rules)) ∙ counted_share c.share_out-grow.result c.share_out-grow.new.shares c.loop-next.passed) c.child_box-b.ensures c.with_rect.ensures c.past_child-at.ensures.0 c.past_child-at.ensures.1

pub returns : goal.returns
returns c = arranged_none c.args.slots.now c.loop-id.layout c.loop-id.id-index c.args.ids.now c.loop-id-test.false ∙ c.loop-id.invariant.0
