-- A call that leaves slots and shape alone keeps links, names and fields: counts see nothing of what is known of a node. Assumes nothing.
use Rattle.std.specs.Prelude.{None, Option, Some}
use mathlib.Core.Path.{◌≡◌, sym, ap, ◌∙◌}
use mathlib.Core.List.{List}
use Prim.Native.Nat.{ℕ, suc, ◌<◌}
use native.Mathlib.Omega.{arith}
use lib.ListN.{length, get_or}
use Rattle.field.specs.declared.NodeId.{NodeId}
use Rattle.field.specs.declared.Field.{Field}
use Rattle.arena.specs.Slots.{Slots, nobody}
use Rattle.arena.specs.Forest.{Forest, size}
use Rattle.boxes.specs.Nodes.{Info}
use Rattle.arena.specs.Fields.{field_of}
use Rattle.tree.specs.Trees.{limit_of}
use Rattle.tree.specs.declared.Ui.{Ui}
use Rattle.arena.proofs.Forests.Payloads.{AllF, shape, shape_size, cnt_shape, rel_shape}
use Rattle.tree.proofs.Relation.{Below, BelowMaybe, Links, Naming, Ruled, AllFields, marked_in, Texts, what_follows_of_each}

pub links_after : (k : ℕ) (u : Ui) (t : Forest Info) → Links k u t → Links (suc k) u t
links_after k u t h = record { chain = h.chain; rel = h.rel; count = h.count; young = λ j. let q = h.young j in omega arith }

module _ (t t' : Forest Info) (e : shape t ≡ shape t') where
  pub below_by_shape : (s : Slots) (d : NodeId) → Below s t d → Below s t' d
  below_by_shape s d h = let q = cnt_shape d.index t t' e in omega arith

  pub below_maybe_by_shape : (s : Slots) (d : Option NodeId) → BelowMaybe s t d → BelowMaybe s t' d
  below_maybe_by_shape s None h = tt
  below_maybe_by_shape s (Some d) h = below_by_shape s d h

  pub size_by_shape : size t ≡ size t'
  size_by_shape = sym (shape_size t) ∙ ap size e ∙ shape_size t'

  -- after as many calls as before, or one more
  pub links_of_shape : (k : ℕ) (u u' : Ui) → u'.slots ≡ u.slots → u'.free ≡ u.free → u'.live ≡ u.live → limit_of u' ≡ limit_of u → Links k u t → Links k u' t'
  links_of_shape k u u' es ef el en h = record {
    chain = h.chain;
    rel = rw (en, es, ef) (rel_shape (limit_of u) u.slots u.free t t' h.chain e h.rel);
    count = el ∙ h.count ∙ size_by_shape;
    young = λ j. rw es (h.young j);
  }

  pub naming_by_shape : (s : Slots) (named : List NodeId) → Naming s t named
      → AllF (λ i g x. (x.name < length named) × (get_or named x.name nobody ≡ record { index = i; generation = g })) t' → Naming s t' named
  naming_by_shape s named h own' = record {
    own = own';
    old = λ m b. below_by_shape s (get_or named m nobody) (h.old m b);
    apart = h.apart;
  }

  pub ruled_by_shape : (s : Slots) (fs : List Field) → AllFields (Ruled s t) fs → AllFields (Ruled s t') fs
  ruled_by_shape s fs h = what_follows_of_each {P = Ruled s t} {Q = Ruled s t'} (λ f r. (r.0, r.1, below_maybe_by_shape s f.owner r.2)) fs h

  pub texts_by_shape : (s : Slots) (fields : List Field) → Texts s fields t
      → AllF (λ i g x. x.marked ≡ marked_in (field_of (record { index = i; generation = g }) fields)) t' → Texts s fields t'
  texts_by_shape s fields h texts' = record {
    eight = h.eight;
    ruled = ruled_by_shape s fields h.ruled;
    owners = h.owners;
    texts = texts';
  }
