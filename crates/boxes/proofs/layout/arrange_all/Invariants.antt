-- What is left of the order, arranged from here, gives the whole; so it is with what is left of a node's children, summed and then placed. Assumes nothing.
use lib.ListN.{drop, length}
use Prim.Native.Nat.{◌-◌}
use mathlib.Core.Path.{◌≡◌}
use Rattle.boxes.proofs.Layouts.PassSteps.{Gathering, Boxing}
use mathlib.Core.Bool.{cond}
use Rattle.boxes.specs.Layout.{arrange_all}
use Rattle.boxes.specs.Support.Views.{no_shares}
use Rattle.boxes.proofs.layout.arrange_all.Given as goal

abbrev pub invariant-loop-child : goal.invariant-loop-child
invariant-loop-child l = Gathering l.slots l.layout l.d l.first l.initial.grows l.grows l.sum l.child l.n

abbrev pub decreases-loop-child : goal.decreases-loop-child
decreases-loop-child l = 128 - l.n

abbrev pub invariant-loop-next : goal.invariant-loop-next
invariant-loop-next l = Boxing l.slots l.initial.layout l.style l.content.x l.content.y (cond l.grow l.shares no_shares) l.first l.initial.at l.layout l.at l.next l.passed

abbrev pub decreases-loop-next : goal.decreases-loop-next
decreases-loop-next l = 128 - l.passed

abbrev pub invariant-loop-id : goal.invariant-loop-id
invariant-loop-id l = (arrange_all l.slots l.layout (drop l.id-index l.ids) ≡ arrange_all l.slots l.initial.layout l.ids) × (length l.grows ≡ 128)
