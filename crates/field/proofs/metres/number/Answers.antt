-- Empty, too few or too many digits, or what stands behind them. Assumes nothing.
use Rattle.std.proofs.Common.{◌≡◌, ℕ, ◌*◌, Bool, cond, length, sym, ap, ◌∙◌, rules}
use Rattle.std.specs.Prelude.{Result, Ok, Err}
use Rattle.arithmetic.specs.Tests.{within}
use Rattle.arithmetic.proofs.TestLaws.{bool_cases}
use Rattle.text.specs.Refusal.{Answer, answered}
use Rattle.text.specs.declared.refusal.Refusal.{Refusal}
use Rattle.text.specs.declared.refusal.Refusal.TheVariants.{Unread}
use Rattle.field.specs.Metres.{is_digit, value_of, behind, pointed, unread}
use Rattle.field.proofs.Reading.{read_pointed, read_by}
use Rattle.field.proofs.Spaces.{front_taken}
use Rattle.field.proofs.metres.number.Goals as goal

module _ (t : Bool) (v : ℕ) where
  refused_by : (a : Answer ℕ) {x : Refusal} → ◌≡◌ {A = Result ℕ Refusal} (Err x) (cond t (Ok v) (Err Unread)) → answered 0 (Err x) ≡ cond t a unread
  refused_by a {x} e =
      bool_cases t
      (λ q. let h : ◌≡◌ {A = Result ℕ Refusal} (Err x) (Ok v) = rw q at e in cc)
      (λ q. let h : ◌≡◌ {A = Result ℕ Refusal} (Err x) (Err Unread) = rw q at e in rw q (ap (answered 0) h))

  taken_by : {y : ℕ} → ◌≡◌ {A = Result ℕ Refusal} (Ok y) (cond t (Ok v) (Err Unread)) → (a : ℕ → Answer ℕ) → a y ≡ cond t (a v) unread
  taken_by {y} e a =
      bool_cases t
      (λ q. let h : ◌≡◌ {A = Result ℕ Refusal} (Ok y) (Ok v) = rw q at e in let k : y ≡ v = cc in rw q (ap a k))
      (λ q. let h : ◌≡◌ {A = Result ℕ Refusal} (Ok y) (Err Unread) = rw q at e in cc)

pub returns-then-is_empty : goal.returns-then-is_empty
returns-then-is_empty c = rw (read_pointed c.args.s.now, sym c.is_empty.ensures ∙ c.if-is_empty.true)

pub returns-in_err-value : goal.returns-in_err-value
returns-in_err-value c =
    let s = c.args.s.now in
    let k = c.split_at.ensures in
    let d = c.split_at.result.0.now in
    let w = c.digits.ensures ∙ front_taken is_digit s in
    let e : c.from_residual.result ≡ Err c.in_err-value.field-0.0 = search rules in
    ap (answered 0) e ∙ refused_by (within 1 3 (length d)) (value_of d (length d)) _ c.in_err-value.ensures.value ∙ sym (read_by s (sym c.is_empty.ensures ∙ c.if-is_empty.false) w k.front k.back k.front_len)

pub returns : goal.returns
returns c =
    let s = c.args.s.now in
    let k = c.split_at.ensures in
    let d = c.split_at.result.0.now in
    let w = c.digits.ensures ∙ front_taken is_digit s in
    c.fraction.ensures ∙ taken_by (within 1 3 (length d)) (value_of d (length d)) c.in_ok-value.ensures.value (λ v. behind (v * 100) (pointed c.split_at.result.1.now)) ∙ sym (read_by s (sym c.is_empty.ensures ∙ c.if-is_empty.false) w k.front k.back k.front_len)
