-- By how many children there are; a gap stands between each two. Assumes nothing.
use lib.ListN.{length}
use Prim.Native.Nat.{◌≤◌, ◌<◌}
use native.Mathlib.Omega.{arith}
use mathlib.Core.Path.{◌≡◌, sym, ◌∙◌}
use Rattle.boxes.proofs.Layouts.Contents.{content_of_few, content_of_many}
use Rattle.arithmetic.proofs.Signs.{said}
use borrow.Author.Rules.{rules}
use Rattle.boxes.proofs.layout.content_extent.Goals as goal

pub returns-then-count-lt2 : goal.returns-then-count-lt2
returns-then-count-lt2 c = λ cs sums. let a = c.args in
    let few : length cs < 2 = omega (arith, sums.1, c.if-count-lt2.true) in
    sums.0 ∙ sym (content_of_few a.style cs few)

pub returns : goal.returns
returns c = λ cs sums. let a = c.args in
    let many : 2 ≤ length cs = omega (arith, sums.1, c.if-count-lt2.false) in
    let same : length cs ≡ a.count = sym sums.1 in
    let k = c.saturating_add in
    let g = c.gap_times-gaps in
    rw (content_of_many a.style cs many, same, ← sums.0, said k.result k.type_inv k.ensures, said g.result g.type_inv g.ensures) (search rules)
