-- The length of each arm says between which bounds the code stands, and so which bytes it has. Assumes nothing.
use mathlib.Core.Path.{sym, ◌∙◌}
use Prim.Native.Nat.{◌≤◌, ◌<◌}
use native.Mathlib.Omega.{arith}
use Rattle.text.proofs.Scalars.{scalar_top, encoded_one, encoded_two, encoded_three, encoded_four}
use Rattle.text.proofs.Lengths.{of_length_one, of_length_two, of_length_three, of_another_length}
use Rattle.text.proofs.utf8.bytes_of.Goals as goal

one : (c : goal.In-1) → c.args.code ≤ 0x7F
one c = of_length_one c.args.code c.ranges.code.fits (sym c.requires.1 ∙ c.in-1.is)

two : (c : goal.In-2) → (0x7F < c.args.code) × (c.args.code ≤ 0x7FF)
two c = of_length_two c.args.code c.ranges.code.fits (sym c.requires.1 ∙ c.in-2.is)

three : (c : goal.In-3) → (0x7FF < c.args.code) × (c.args.code ≤ 0xFFFF)
three c = of_length_three c.args.code c.ranges.code.fits (sym c.requires.1 ∙ c.in-3.is)

four : (c : goal.In_default) → 0xFFFF < c.args.code
four c = of_another_length c.args.code c.ranges.code.fits (λ h. omega (arith, c.requires.1)) (λ h. omega (arith, c.requires.1)) (λ h. omega (arith, c.requires.1))

pub overflow_cast-result : goal.overflow_cast-result
overflow_cast-result c = record { fits = omega (arith, one c) }

pub overflow_cast-result-in-2 : goal.overflow_cast-result-in-2
overflow_cast-result-in-2 c = record { fits = omega (arith, two c) }

pub overflow_cast-result-in-3 : goal.overflow_cast-result-in-3
overflow_cast-result-in-3 c = record { fits = omega (arith, three c) }

pub overflow_cast-result-in_default : goal.overflow_cast-result-in_default
overflow_cast-result-in_default c = record { fits = omega (arith, scalar_top c.args.code c.requires.0) }

pub returns-in-1 : goal.returns-in-1
returns-in-1 c = rw (encoded_one _ (one c))

pub returns-in-2 : goal.returns-in-2
returns-in-2 c = rw (encoded_two _ (two c).0 (two c).1)

pub returns-in-3 : goal.returns-in-3
returns-in-3 c = rw (encoded_three _ (three c).0 (three c).1)

pub returns-in_default : goal.returns-in_default
returns-in_default c = rw (encoded_four _ (four c))
