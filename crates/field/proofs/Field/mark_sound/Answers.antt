-- Only a confirmed text is read. Assumes nothing.
use Rattle.std.proofs.Common.{◌≡◌, ℕ, List, refl, true, ap, sym, ◌∙◌}
use Rattle.arithmetic.specs.Tests.{same}
use Rattle.text.specs.Refusal.{Answer}
use Rattle.text.proofs.Refusals.{accepted_is_ok}
use Rattle.field.specs.Metres.{metres_of, reads}
use Rattle.field.specs.Marks.{may_stand}
use Rattle.field.specs.Fields.{mark_ok, held}
use Rattle.field.specs.declared.Mark.{Mark}
use Rattle.field.specs.declared.Mark.TheVariants.{Untouched, Typed, Confirmed}
use Rattle.field.proofs.Field.mark_sound.Goals as goal

pub returns-in-Confirmed : goal.returns-in-Confirmed
unfolding mark_ok reads
returns-in-Confirmed c =
    c.is_ok.ensures.value ∙ accepted_is_ok 0 c.metres_of.result ∙ ap (λ (a : Answer ℕ). same a.number 0) (c.metres_of.ensures ∙ ap metres_of c.held.ensures)
    ∙ ap (λ (m : Mark). may_stand m (held c.args.self)) (sym c.in-Confirmed.is)

other_marks_stand : (m : Mark) (s : List ℕ) → (m ≡ Confirmed → ⊥) → true ≡ may_stand m s
other_marks_stand Untouched s n = refl
other_marks_stand Typed s n = refl
other_marks_stand Confirmed s n = absurd (n refl)

pub returns-in_default : goal.returns-in_default
unfolding mark_ok
returns-in_default c = other_marks_stand c.args.self.mark _ c.in_default.not-Confirmed
