-- `give_units` gives the units by picking. The loop's invariant, `Picked`: the units given so far lie at the places that come first, and
-- those places are marked. Assumes nothing.
use Rattle.arithmetic.proofs.GrowthPicks.{Picked}
use Rattle.arithmetic.proofs.growth.give_units.Given as goal

abbrev pub invariant-loop : goal.invariant-loop
invariant-loop l = Picked l.n l.initial.shares l.initial.keys l.shares l.keys l.counter
