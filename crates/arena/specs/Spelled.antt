-- What it is that the links of slots spell a forest. The slots are those of document 01, **Tree**.
use Rattle.std.specs.Prelude.{◌≡◌, ℕ, ◌+◌}
use Rattle.arithmetic.specs.Tests.{δ}
use Rattle.arena.specs.Forest.{Forest, nil, node}
use Rattle.arena.specs.Slots.{NIL, Slots, at, used}

module _ {X : Type 0} where
  -- The index of the first and of the last of the topmost nodes, or d.
  abbrev pub first_or : ℕ → Forest X → ℕ
  first_or d nil = d
  first_or d (node i g x cs sib) = i

  abbrev pub last_or : ℕ → Forest X → ℕ
  last_or d nil = d
  last_or d (node i g x cs sib) = last_or i sib

  -- A sum over all nodes.
  abbrev pub wt : (ℕ → ℕ → X → ℕ) → Forest X → ℕ
  wt w nil = 0
  wt w (node i g x cs sib) = w i g x + (wt w cs + wt w sib)

  -- How often the index j occurs, and how often among the topmost nodes.
  abbrev pub cnt : ℕ → Forest X → ℕ
  cnt j f = wt (λ i g x. δ i j) f

  abbrev pub top : ℕ → Forest X → ℕ
  top j nil = 0
  top j (node i g x cs sib) = δ i j + top j sib

  -- The slots of `a` spell the forest: the parent of its topmost nodes is `par`, `pv` is before the first of them and `nx` after the
  -- last. Each node's slot is live and has its generation, its parent, its first and last child, and the nodes before and after it.
  abbrev pub SegR : Slots → ℕ → ℕ → Forest X → ℕ → Type 0
  SegR a par pv nil nx = Unit {0}
  SegR a par pv (node i g x cs sib) nx =
      (at a i ≡ used g par (first_or NIL cs) (last_or NIL cs) pv (first_or nx sib)) × SegR a i NIL cs NIL × SegR a par i sib nx
