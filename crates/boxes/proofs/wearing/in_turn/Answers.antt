-- Assumes nothing.
use Rattle.std.proofs.Common.{rules, ◌≡◌, ◌∙◌, sym, ap, length, ℕ, List, take, min, arith, length-take}
use Rattle.std.proofs.lemmas.List.{take_min}
use Rattle.arena.specs.Slots.{backwards}
use Rattle.arena.specs.declared.listed.Listed.{Listed}
use Rattle.arena.specs.Support.Lists.{none_listed, added_all}
use Rattle.boxes.proofs.Styles.Keeps.{at_most_one}
use Rattle.boxes.proofs.Styles.Turns.{turned, none_left, all_in_turn}
use Rattle.boxes.proofs.wearing.in_turn.Goals as goal

pub loop-i-init : goal.loop-i-init
loop-i-init c =
    let a = c.args in
    let n : length a.stated ≡ 3 = search rules in
    let e : c.into_iter-i-iterator.result.iter.rest.now ≡ take (min a.count 3) a.stated = search rules in
    ap (λ (o : Listed 6). added_all o (backwards c.into_iter-i-iterator.result.iter.rest.now)) c.new-turns.ensures
    ∙ ap (λ (l : List ℕ). added_all none_listed (backwards l)) (e ∙ ap (λ (k : ℕ). take (min a.count k) a.stated) (sym n) ∙ take_min a.count a.stated)

pub loop-i-preserved : goal.loop-i-preserved
loop-i-preserved c =
    ap (λ (o : Listed 6). added_all o (backwards c.next.new.self.iter.rest.now)) c.push.ensures
    ∙ turned c.loop-i.turns _ _ c.in-Some.ensures.steps ∙ c.loop-i.invariant

pub returns : goal.returns
returns c =
    let a = c.args in
    let m = a.marks in
    let n : length a.stated ≡ 3 = search rules in
    let none : length c.loop-i.i-iterator.iter.rest.now ≡ 0 = search rules in
    let k = length-take a.count a.stated in
    all_in_turn (take a.count a.stated) _ _ _ (none_left c.loop-i.turns c.loop-i.i-iterator.iter.rest.now none ∙ c.loop-i.invariant)
    c.turn_live.ensures c.turn_live-2.ensures c.turn_live-3.ensures
    (omega (arith, k, n)) (at_most_one a.limit a.slots.now m.hover) (at_most_one a.limit a.slots.now m.pressed) (at_most_one a.limit a.slots.now m.focus)
