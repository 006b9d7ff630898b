-- Document 01, the history: a list of trees. A node has the id that it was given (index and generation), what is known of it, its
-- children in order, and the trees after it.
use Rattle.std.specs.Prelude.{ℕ, suc, ◌+◌, Bool, false, cond, ◌&&◌, ◌||◌, List, [], ◌∷◌, None, Option, Some}
use Rattle.field.specs.declared.NodeId.{NodeId}
use Rattle.arithmetic.specs.Tests.{same}

pub data Forest (X : Type 0) : Type 0 where
  nil : Forest X
  node : (i g : ℕ) → X → Forest X → Forest X → Forest X

-- The id is (i, g).
abbrev pub has_both : NodeId → ℕ → ℕ → Bool
has_both d i g = same i d.index && same g d.generation

-- The first of two that is there.
abbrev pub or_id : Option NodeId → Option NodeId → Option NodeId
or_id None o = o
or_id (Some d) o = Some d

module _ {X : Type 0} where
  -- One list of trees after another.
  abbrev pub app : Forest X → Forest X → Forest X
  app nil t = t
  app (node i g x cs sib) t = node i g x cs (app sib t)

  -- Some live node has the id.
  abbrev pub has_id : NodeId → Forest X → Bool
  has_id d nil = false
  has_id d (node i g x cs sib) = has_both d i g || (has_id d cs || has_id d sib)

  -- The children of the node that has the id, and the forest with others in their place.
  abbrev pub kids_of : NodeId → Forest X → Forest X
  kids_of d nil = nil
  kids_of d (node i g x cs sib) = app (cond (has_both d i g) cs (kids_of d cs)) (kids_of d sib)

  abbrev pub set_kids_of : NodeId → Forest X → Forest X → Forest X
  set_kids_of d k nil = nil
  set_kids_of d k (node i g x cs sib) = node i g x (cond (has_both d i g) k (set_kids_of d k cs)) (set_kids_of d k sib)

  -- Without the node that has the id, and all below it.
  abbrev pub cut_of : NodeId → Forest X → Forest X
  cut_of d nil = nil
  cut_of d (node i g x cs sib) = cond (has_both d i g) sib (node i g x (cut_of d cs) (cut_of d sib))

  -- What is known of the node that has the id.
  abbrev pub or_else : Option X → Option X → Option X
  or_else None y = y
  or_else (Some x) y = Some x

  abbrev pub find : NodeId → Forest X → Option X
  find d nil = None
  find d (node i g x cs sib) = cond (has_both d i g) (Some x) (or_else (find d cs) (find d sib))

  -- The ids of the topmost nodes in order.
  abbrev pub ids : Forest X → List NodeId
  ids nil = []
  ids (node i g x cs sib) = record { index = i; generation = g } ∷ ids sib

  -- The first of the topmost nodes, and the node after the one that has the id.
  abbrev pub first_id : Forest X → Option NodeId
  first_id nil = None
  first_id (node i g x cs sib) = Some (record { index = i; generation = g })

  abbrev pub next_id : NodeId → Forest X → Option NodeId
  next_id d nil = None
  next_id d (node i g x cs sib) = cond (has_both d i g) (first_id sib) (or_id (next_id d cs) (next_id d sib))

  -- How many nodes there are.
  abbrev pub size : Forest X → ℕ
  size nil = 0
  size (node i g x cs sib) = suc (size cs + size sib)

  -- What is known of every node changed, by a function that sees the id; and some node passes a test.
  abbrev pub map_f : {Y : Type 0} → (ℕ → ℕ → X → Y) → Forest X → Forest Y
  map_f f nil = nil
  map_f f (node i g x cs sib) = node i g (f i g x) (map_f f cs) (map_f f sib)

  abbrev pub any_f : (ℕ → ℕ → X → Bool) → Forest X → Bool
  any_f p nil = false
  any_f p (node i g x cs sib) = p i g x || (any_f p cs || any_f p sib)
