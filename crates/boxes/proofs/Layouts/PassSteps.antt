-- A pass at one node: its children are walked one by one, and what is left of them gives the rest. Assumes nothing.
use mathlib.Core.Path.{◌≡◌, refl, sym, ap, ◌∙◌}
use mathlib.Core.Bool.{Bool, true, false, ◌&&◌}
use mathlib.Core.List.{List, [], ◌∷◌, map}
use Prim.Native.Nat.{ℕ, suc, ◌+◌, ◌-◌, ◌≤◌, ◌<◌}
use native.Mathlib.Omega.{arith}
use borrow.Author.Tests.{ltb-true, ltb-false}
use lib.Dec.{ltb}
use lib.IntN.{ℤ, pos}
use lib.ListN.{length, length-map, get_or, set, drop}
use lib.Seq.{sets, get_or-set_same, get_or-set_other, set_out}
use native.Mathlib.Decide.{dec_lt}
use Rattle.arena.specs.Slots.{Slots, at, chain, kids_at}
use Rattle.boxes.specs.Styles.{layout_at}
use Rattle.boxes.specs.Layout.{Extent, seen, summed, want, with_wants, measure_at, with_rect, boxes, place, set_rects, arrange_at}
use Rattle.boxes.specs.Support.Views.{axes_of, no_axes, summed_with, SumOf, child_of, box_at, past_of}
use Rattle.boxes.specs.declared.Direction.{Direction}
use Rattle.boxes.specs.declared.LayoutSlot.{LayoutSlot}
use Rattle.boxes.specs.declared.layout.Lengths.{Lengths}
use Rattle.boxes.specs.declared.Style.{Style}
use Rattle.boxes.specs.declared.Rect.{Rect}
use Rattle.arena.proofs.Forests.ChainLaws.{chain_none, chain_spent, chain_more}
use Rattle.boxes.proofs.Layouts.Placing.{placed_none, placed_step, grow_of}
use Rattle.arithmetic.proofs.TestLaws.{eq_cases}

-- The walk's test: a child is there, and it is not the 129th.
pub goes_on : (child n : ℕ) → (ltb child 128 && ltb n 128) ≡ true → (child < 128) × (n < 128)
goes_on child n = go (ltb child 128) (ltb n 128) refl refl
  where
    go : (a b : Bool) → ltb child 128 ≡ a → ltb n 128 ≡ b → (a && b) ≡ true → (child < 128) × (n < 128)
    go true true e f h = (ltb-true child 128 e, ltb-true n 128 f)
    go true false e f h = let z : ◌≡◌ {A = Bool} false true = h in absurd (let y : ◌≡◌ {A = ℕ} 0 1 = cc in omega arith)
    go false b e f h = let z : ◌≡◌ {A = Bool} false true = h in absurd (let y : ◌≡◌ {A = ℕ} 0 1 = cc in omega arith)

ended : (s : Slots) (child n : ℕ) → (ltb child 128 && ltb n 128) ≡ false → chain (128 - n) s child ≡ []
ended s child n = go (ltb child 128) (ltb n 128) refl refl
  where
    go : (a b : Bool) → ltb child 128 ≡ a → ltb n 128 ≡ b → (a && b) ≡ false → chain (128 - n) s child ≡ []
    go true true e f h = absurd (let y : ◌≡◌ {A = ℕ} 0 1 = cc in omega arith)
    go true false e f h = let k = ltb-false n 128 f in chain_spent s (128 - n) child (omega arith)
    go false b e f h = chain_none s (128 - n) child (ltb-false child 128 e)

one_more : (s : Slots) (child n : ℕ) → child < 128 → n < 128 → chain (128 - n) s child ≡ child ∷ chain (128 - (n + 1)) s (at s child).next_sibling
one_more s child n h k =
    let e : 128 - n - 1 ≡ 128 - (n + 1) = omega arith in
    chain_more s (128 - n) child (λ z. omega arith) h ∙ ap (λ (m : ℕ). child ∷ chain m s (at s child).next_sibling) e

-- Of the children from `first` on n are passed and summed, and the walk stands at `child`.
pub record Summing (s : Slots) (l : List LayoutSlot) (d : Direction) (first : ℕ) (sum : Lengths) (child n : ℕ) : Type 0 where
  pub most : n ≤ 128
  pub counts : n + length (chain (128 - n) s child) ≡ length (chain 128 s first)
  pub sums : summed d (axes_of sum) (map (seen l) (chain (128 - n) s child)) ≡ summed d no_axes (map (seen l) (chain 128 s first))

module _ {s : Slots} {l : List LayoutSlot} {d : Direction} {first : ℕ} where
  pub summing_more : {sum next : Lengths} {child n : ℕ} → Summing s l d first sum child n → (ltb child 128 && ltb n 128) ≡ true
      → axes_of next ≡ summed_with d (axes_of sum) (seen l child) → Summing s l d first next (at s child).next_sibling (n + 1)
  unfolding summed summed_with
  summing_more {sum} {next} {child} {n} w t e =
      let g = goes_on child n t in
      let more = one_more s child n g.0 g.1 in
      record {
        most = omega arith;
        counts = omega (arith, rw more at w.counts);
        sums = rw e (rw more at w.sums);
      }

  pub summing_done : {sum : Lengths} {child n : ℕ} (y : Style) → d ≡ y.direction → Summing s l d first sum child n → (ltb child 128 && ltb n 128) ≡ false
      → SumOf y sum n (map (seen l) (chain 128 s first))
  unfolding summed
  summing_done {sum} {child} {n} y q w t =
      let none = ended s child n t in
      (rw (none, q) at w.sums, omega (arith, rw none at w.counts, length-map (chain 128 s first) (seen l)))

-- A node that stores what it wants is measured.
pub measured : (s : Slots) (l : List LayoutSlot) (i : ℕ) (x : LayoutSlot) (e : Extent) → x ≡ with_wants (layout_at l i) e → e ≡ want (layout_at l i).style (map (seen l) (kids_at s i))
    → set l i x ≡ measure_at s l i
unfolding measure_at
measured s l i x e hx he = rw (hx, he)

-- The children passed are summed, and their grows stored over those of before.
pub record Gathering (s : Slots) (l : List LayoutSlot) (d : Direction) (first : ℕ) (before grows : List ℕ) (sum : Lengths) (child n : ℕ) : Type 0 where
  pub summing : Summing s l d first sum child n
  pub fills : sets grows n (map grow_of (map (seen l) (chain (128 - n) s child))) ≡ sets before 0 (map grow_of (map (seen l) (chain 128 s first)))

module _ {s : Slots} {l : List LayoutSlot} {d : Direction} {first : ℕ} {before grows : List ℕ} {sum : Lengths} {child n : ℕ} where
  pub gathering_more : {next : Lengths} → Gathering s l d first before grows sum child n → (ltb child 128 && ltb n 128) ≡ true
      → axes_of next ≡ summed_with d (axes_of sum) (seen l child) → Gathering s l d first before (set grows n (layout_at l child).style.grow) next (at s child).next_sibling (n + 1)
  gathering_more w t e =
      let g = goes_on child n t in
      let more = one_more s child n g.0 g.1 in
      let one : n + 1 ≡ suc n = omega arith in
      record {
        summing = summing_more w.summing t e;
        fills =
            ap (λ (k : ℕ). sets (set grows n (layout_at l child).style.grow) k (map grow_of (map (seen l) (chain (128 - (n + 1)) s (at s child).next_sibling)))) one
            ∙ (rw more at w.fills);
      }

  pub gathering_done : Gathering s l d first before grows sum child n → (ltb child 128 && ltb n 128) ≡ false → grows ≡ sets before 0 (map grow_of (map (seen l) (chain 128 s first)))
  gathering_done w t = rw (ended s child n t) at w.fills

-- A box is not what a parent sees.
rect_unseen : (l : List LayoutSlot) (i : ℕ) (r : Rect) (k : ℕ) → seen (set l i (with_rect (layout_at l i) r)) k ≡ seen l k
unfolding layout_at
rect_unseen l i r k =
    eq_cases k i
    (λ e y z. ap (seen (set l i (with_rect (layout_at l i) r))) e ∙ inside (dec_lt i (length l)) ∙ sym (ap (seen l) e))
    (λ e y z. ap child_of (get_or-set_other l i k (with_rect (layout_at l i) r) _ e))
  where
    inside : Dec (i < length l) → seen (set l i (with_rect (layout_at l i) r)) i ≡ seen l i
    inside (yes h) = ap child_of (get_or-set_same l i (with_rect (layout_at l i) r) _ h)
    inside (no h) = ap (λ (m : List LayoutSlot). seen m i) (set_out l i (with_rect (layout_at l i) r) (omega arith))

-- Of the children from `first` on n have their boxes, and the next is put at the cursor `at`.
pub record Boxing (s : Slots) (l : List LayoutSlot) (y : Style) (cx cy : ℤ) (shares : List ℤ) (first : ℕ) (start : Lengths) (out : List LayoutSlot) (here : Lengths) (child n : ℕ) : Type 0 where
  pub most : n ≤ 128
  pub across : here.cross ≡ start.cross
  pub unseen : (k : ℕ) → seen out k ≡ seen l k
  pub places : set_rects out (chain (128 - n) s child) (boxes y cx cy start.cross here.main (drop n shares) (map (seen l) (chain (128 - n) s child))) ≡ set_rects l (chain 128 s first) (boxes y cx cy start.cross start.main shares (map (seen l) (chain 128 s first)))

module _ {s : Slots} {l : List LayoutSlot} {y : Style} {cx cy : ℤ} {shares : List ℤ} {first : ℕ} {start : Lengths} {out : List LayoutSlot} {here : Lengths} {child n : ℕ} where
  pub boxing_more : {x : LayoutSlot} {b : Rect} {next : Lengths} {growth : ℤ} → Boxing s l y cx cy shares first start out here child n → (ltb child 128 && ltb n 128) ≡ true
      → growth ≡ get_or shares n (pos 0)
      → b ≡ box_at y cx cy here.cross here.main growth (seen out child)
      → x ≡ with_rect (layout_at out child) b
      → next.main ≡ past_of y here.main growth (seen out child)
      → next.cross ≡ here.cross
      → Boxing s l y cx cy shares first start (set out child x) next (at s child).next_sibling (n + 1)
  boxing_more {x} {b} {next} {growth} w t hg hb hx hm hc =
      let g = goes_on child n t in
      let more = one_more s child n g.0 g.1 in
      let ks : List ℕ = chain (128 - (n + 1)) s (at s child).next_sibling in
      let box : b ≡ box_at y cx cy start.cross here.main (get_or shares n (pos 0)) (seen l child) =
      hb ∙ ap (λ (z : ℤ). box_at y cx cy z here.main growth (seen out child)) w.across
      ∙ ap (λ (z : ℤ). box_at y cx cy start.cross here.main z (seen out child)) hg
      ∙ ap (box_at y cx cy start.cross here.main (get_or shares n (pos 0))) (w.unseen child) in
      let past : next.main ≡ past_of y here.main (get_or shares n (pos 0)) (seen l child) =
      hm ∙ ap (λ (z : ℤ). past_of y here.main z (seen out child)) hg ∙ ap (past_of y here.main (get_or shares n (pos 0))) (w.unseen child) in
      record {
        most = omega arith;
        across = hc ∙ w.across;
        unseen = λ k. ap (λ (z : LayoutSlot). seen (set out child z) k) hx ∙ rect_unseen out child b k ∙ w.unseen k;
        places = placed_step out y cx cy start.cross here.main shares n (n + 1) child ks (seen l child) (map (seen l) ks) x next.main _ (hx ∙ ap (with_rect (layout_at out child)) box) past refl (rw more at w.places);
      }

  pub boxing_done : Boxing s l y cx cy shares first start out here child n → (ltb child 128 && ltb n 128) ≡ false → out ≡ set_rects l (chain 128 s first) (boxes y cx cy start.cross start.main shares (map (seen l) (chain 128 s first)))
  boxing_done w t = sym (placed_none out _) ∙ rw (ended s child n t) at w.places

-- A node whose children have their boxes is arranged; one without children is, as it stands.
pub arranged : (s : Slots) (l out : List LayoutSlot) (i : ℕ) (rs : List Rect) → out ≡ set_rects l (kids_at s i) rs → rs ≡ place (layout_at l i).style (layout_at l i).rect (map (seen l) (kids_at s i)) → out ≡ arrange_at s l i
unfolding arrange_at
arranged s l out i rs e p = e ∙ ap (set_rects l (kids_at s i)) p

pub arranged_leaf : (s : Slots) (l : List LayoutSlot) (i : ℕ) → 128 ≤ (at s i).first_child → l ≡ arrange_at s l i
unfolding arrange_at kids_at
arranged_leaf s l i h = sym (placed_none l _) ∙ sym (ap (λ (ks : List ℕ). set_rects l ks (place (layout_at l i).style (layout_at l i).rect (map (seen l) ks))) (chain_none s 128 (at s i).first_child h))
