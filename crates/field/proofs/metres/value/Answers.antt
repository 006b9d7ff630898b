-- By the number of digits, one to three. Assumes nothing.
use Rattle.std.proofs.Common.{◌≡◌, ℕ, length, ap, arith, le-leb}
use Rattle.std.specs.Prelude.{Ok}
use borrow.Author.Tests.{lt-leb}
use Rattle.arithmetic.specs.Tests.{within}
use Rattle.field.specs.Metres.{value_of}
use Rattle.field.proofs.metres.value.Goals as goal

pub returns-in-len1-clause-value : goal.returns-in-len1-clause-value
unfolding within value_of
returns-in-len1-clause-value c = let n : length c.args.digits.now ≡ 1 = omega arith in rw n (ap Ok (omega (arith, c.digit.ensures)))

pub returns-in-len2-clause-value : goal.returns-in-len2-clause-value
unfolding within value_of
returns-in-len2-clause-value c =
    let n : length c.args.digits.now ≡ 2 = omega arith in rw n (ap Ok (omega (arith, c.digit-in-len2.ensures, c.digit-in-len2-2.ensures)))

pub returns-in-len3-clause-value : goal.returns-in-len3-clause-value
unfolding within value_of
returns-in-len3-clause-value c =
    let n : length c.args.digits.now ≡ 3 = omega arith in rw n (ap Ok (omega (arith, c.digit-in-len3.ensures, c.digit-in-len3-2.ensures, c.digit-in-len3-3.ensures)))

pub returns-in_default-clause-value : goal.returns-in_default-clause-value
unfolding within value_of
returns-in_default-clause-value c = let n : length c.args.digits.now ≡ 0 = omega arith in rw n

pub returns-in_default-2-clause-value : goal.returns-in_default-2-clause-value
unfolding within value_of
returns-in_default-2-clause-value c =
    let n : ℕ = length c.args.digits.now in rw (le-leb 1 n (omega arith), lt-leb n 3 (omega arith))
