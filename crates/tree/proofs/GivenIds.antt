-- An id that was given has a generation below its slot's epoch. So it stays given while no epoch falls, and it is not the id of a free
-- slot, whose generation is the epoch: a free slot's id has no field. Assumes nothing.
use Rattle.std.specs.Prelude.{None, Option, Some}
use mathlib.Core.Path.{◌≡◌, refl}
use mathlib.Core.Bool.{false}
use mathlib.Core.List.{List, [], ◌∷◌}
use Prim.Native.Nat.{ℕ, ◌+◌, ◌≤◌, ◌<◌}
use native.Mathlib.Omega.{arith}
use Rattle.field.specs.declared.NodeId.{NodeId}
use Rattle.field.specs.declared.Field.{Field}
use Rattle.arena.specs.Forest.{Forest}
use Rattle.boxes.specs.Nodes.{Info}
use Rattle.arena.specs.Slots.{Slots, at, id_at, is_id}
use Rattle.arena.specs.Fields.{field_of}
use Rattle.arithmetic.proofs.TestLaws.{eq_cases, same_no}
use Rattle.arena.proofs.Forests.ForestLaws.{cnt}
use Rattle.tree.proofs.Relation.{Below, BelowMaybe, Ruled, AllFields, what_follows_of_each}

-- no epoch falls
abbrev pub NoEpochFalls : Slots → Forest Info → Slots → Forest Info → Type 0
NoEpochFalls a t b t' = (j : ℕ) → (at a j).generation + cnt j t ≤ (at b j).generation + cnt j t'

module _ (a : Slots) (t : Forest Info) (b : Slots) (t' : Forest Info) (h : NoEpochFalls a t b t') where
  pub given_ids_stay_given : (d : NodeId) → Below a t d → Below b t' d
  given_ids_stay_given d q = let e = h d.index in omega arith

  pub given_owners_stay_given : (o : Option NodeId) → BelowMaybe a t o → BelowMaybe b t' o
  given_owners_stay_given None q = tt
  given_owners_stay_given (Some d) q = given_ids_stay_given d q

  pub ruled_fields_stay_ruled : (fs : List Field) → AllFields (Ruled a t) fs → AllFields (Ruled b t') fs
  ruled_fields_stay_ruled fs q = what_follows_of_each {P = Ruled a t} {Q = Ruled b t'} (λ f r. (r.0, r.1, given_owners_stay_given f.owner r.2)) fs q

module _ (a : Slots) (t : Forest Info) (i : ℕ) (z : cnt i t ≡ 0) where
  pub a_given_id_is_not_a_free_slots : (d : NodeId) → Below a t d → d ≡ id_at a i → ⊥
  a_given_id_is_not_a_free_slots d q e =
      let q' : (at a i).generation < (at a i).generation + cnt i t = rw e at q in omega arith

  pub a_given_owner_is_not_a_free_slots_id : (o : Option NodeId) → BelowMaybe a t o → is_id o (id_at a i) ≡ false
  a_given_owner_is_not_a_free_slots_id None q = refl
  a_given_owner_is_not_a_free_slots_id (Some d) q =
      eq_cases d.index i
      (λ e s _.
      let e' : (at a d.index).generation ≡ (at a i).generation = rw e in
      let z' : cnt d.index t ≡ 0 = rw e z in
      rw (s, same_no d.generation (at a i).generation (λ w. omega arith)))
      (λ e s _. rw s)

  pub a_free_slots_id_has_no_field : (fs : List Field) → AllFields (Ruled a t) fs → field_of (id_at a i) fs ≡ None
  unfolding field_of
  a_free_slots_id_has_no_field [] q = refl
  a_free_slots_id_has_no_field (f ∷ fs) q = rw (a_given_owner_is_not_a_free_slots_id f.owner q.0.2) (a_free_slots_id_has_no_field fs q.1)
