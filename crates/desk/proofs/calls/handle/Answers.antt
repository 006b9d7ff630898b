-- By its test; then each step by its contract, with the one hit for both of the definition. Assumes nothing.
use Rattle.field.specs.declared.NodeId.{NodeId}
use Rattle.std.specs.Prelude.{Option}
use mathlib.Core.Path.{◌≡◌, refl, sym, ap, ◌∙◌}
use Rattle.tree.specs.Calls.{guarded}
use Rattle.tree.proofs.Prechecks.{few_slots}
use Rattle.desk.specs.Events.{handle, handled, hit_of, applied_event}
use Rattle.desk.proofs.EventLaws.{hit_once, hover_once}
use Rattle.desk.proofs.calls.handle.Goals as goal

pub apply-requires : goal.apply-requires
apply-requires c = few_slots _ (sym c.broken.ensures ∙ c.if-broken.false)

pub returns : goal.returns
unfolding handle guarded handled
returns c = let u = c.args.u.now in
    let event = c.args.event in
    let q = c.pointer_after-pointed.result in
    let there : q ≡ (applied_event u (hit_of u) event).interaction.pointer = sym (c.pointer_after-pointed.ensures u (hit_of u) refl) in
    let next : applied_event u (hit_of u) event ≡ c.apply.new.u = hit_once u event q there ∙ ap (λ (h : Option NodeId). applied_event u h event) (sym c.under_pointer-hit.ensures) ∙ sym c.apply.ensures in
    let hover : hit_of (applied_event u (hit_of u) event) ≡ c.under_pointer-hit.result = hover_once u event q there ∙ sym c.under_pointer-hit.ensures in
    rw (c.refresh_states.ensures, sym c.broken.ensures ∙ c.if-broken.false, hover, next)
