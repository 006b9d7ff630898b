-- By how many bytes stand behind the whole metres. Assumes nothing.
use Rattle.std.proofs.Common.{ℕ, ◌+◌, ◌*◌, true, false, ◌&&◌, sym, ap, ◌∙◌, arith}
use mathlib.Core.Path.{ap₂}
use Rattle.text.specs.Refusal.{accepted}
use Rattle.field.proofs.Reading.{nothing_behind, two_behind, three_behind, another_behind}
use Rattle.field.proofs.metres.fraction.Goals as goal

pub returns-in-empty : goal.returns-in-empty
returns-in-empty c = sym (nothing_behind c.args.v c.args.s.now (omega arith))

pub returns-in-len2 : goal.returns-in-len2
returns-in-len2 c = let a = c.args in
    ap accepted (ap (λ (n : ℕ). a.v + n * 10) c.digit.ensures.0)
    ∙ sym (two_behind a.v a.s.now (omega arith) true (ap₂ ◌&&◌ (sym c.is_point.ensures) (sym c.is_digit.ensures) ∙ c.if-is_point-is_digit.true))

pub returns-in_default-2 : goal.returns-in_default-2
returns-in_default-2 c = let a = c.args in
    sym (two_behind a.v a.s.now (omega arith) false (ap₂ ◌&&◌ (sym c.is_point.ensures) (sym c.is_digit.ensures) ∙ c.if-is_point-is_digit.false))

pub returns-in-len3 : goal.returns-in-len3
returns-in-len3 c = let a = c.args in
    ap accepted (ap₂ (λ (m n : ℕ). a.v + m * 10 + n) c.digit-in-len3.ensures.0 c.digit-in-len3-2.ensures.0)
    ∙ sym (three_behind a.v a.s.now (omega arith) true (ap₂ ◌&&◌ (sym c.is_point-then-s-lt4.ensures) (ap₂ ◌&&◌ (sym c.is_digit-then-s-lt4.ensures) (sym c.is_digit-then-s-lt4-2.ensures)) ∙ c.if-is_point-is_digit-2.true))

pub returns-in_default-3 : goal.returns-in_default-3
returns-in_default-3 c = let a = c.args in
    sym (three_behind a.v a.s.now (omega arith) false (ap₂ ◌&&◌ (sym c.is_point-then-s-lt4.ensures) (ap₂ ◌&&◌ (sym c.is_digit-then-s-lt4.ensures) (sym c.is_digit-then-s-lt4-2.ensures)) ∙ c.if-is_point-is_digit-2.false))

pub returns-in_default : goal.returns-in_default
returns-in_default c = sym (another_behind c.args.v c.args.s.now (λ k. absurd (omega arith)) (λ k. absurd (omega arith)) (λ k. absurd (omega arith)))

pub returns-in_default-4 : goal.returns-in_default-4
returns-in_default-4 c = sym (another_behind c.args.v c.args.s.now (λ k. absurd (omega arith)) (λ k. absurd (omega arith)) (λ k. absurd (omega arith)))
