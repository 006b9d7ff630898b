-- The definition's tests, on the counts of the two lists. Assumes nothing.
use Rattle.std.proofs.Common.{◌≡◌, length, rules}
use Rattle.arena.specs.Rules.{each_once}
use Rattle.arena.specs.Support.Lists.{listed}
use Rattle.arena.proofs.Checks.CheckLaws.{each_counted}
use Rattle.arena.proofs.rules.each_once.Goals as goal

pub returns : goal.returns
unfolding each_once
returns c =
    let a = c.args in
    let h : length a.slots.now ≡ 128 = search rules in
    let j : length c.tally.result ≡ 128 = search rules in
    let k : length c.tally-2.result ≡ 128 = search rules in
    rw (c.all_once-once.ensures, each_counted a.limit a.slots.now (listed a.reached.now) (listed a.free.now) c.tally.result c.tally-2.result h j k c.requires c.tally.ensures c.tally-2.ensures, c.all_below.ensures, c.all_below-2.ensures)
