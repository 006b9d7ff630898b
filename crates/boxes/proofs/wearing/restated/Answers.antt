-- What is kept of each of the three is the list. Assumes nothing.
use mathlib.Core.Path.{◌≡◌, refl}
use lib.ListN.{length}
use Rattle.boxes.proofs.Styles.Keeps.{three_kept, at_most_one}
use borrow.Author.Rules.{rules}
use Rattle.boxes.proofs.wearing.restated.Goals as goal

pub returns : goal.returns
returns c =
    let a = c.args in
    let h : length a.stated ≡ 3 = search rules in
    three_kept _ (record { items = a.stated; count = 0 }) _ _ _ _ _ _ h refl (at_most_one a.limit a.slots.now a.marks.hover) (at_most_one a.limit a.slots.now a.marks.pressed) (at_most_one a.limit a.slots.now a.marks.focus)
    c.keep_live.ensures c.keep_live-2.ensures c.keep_live-3.ensures
