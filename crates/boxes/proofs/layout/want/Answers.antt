-- Width and height by `wanted`, from the content turned to the node's direction. Assumes nothing.
use borrow.Author.Rules.{rules}
use Rattle.boxes.specs.Layout.{want}
use Rattle.arithmetic.proofs.Signs.{said}
use Rattle.boxes.proofs.layout.want.Goals as goal

pub returns : goal.returns
unfolding want
returns c = λ cs sums. let w = c.wanted-wide in let h = c.wanted-high in
    rw (← c.content_extent-c.ensures cs sums, ← c.turned-width.ensures, said w.result w.type_inv w.ensures, said h.result h.type_inv h.ensures) (search rules)
