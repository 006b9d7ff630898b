-- The definition's rules, on what the two walks give. Assumes nothing.
use Rattle.std.proofs.Common.{◌≡◌, length, sym, rules, le-leb}
use Rattle.arena.proofs.Checks.CheckLaws.{links_whole}
use Rattle.arena.proofs.Checks.ListLaws.{listed_length}
use Rattle.arena.proofs.rules.links_well.Goals as goal

pub returns : goal.returns
returns c =
    let r = c.reach_root-reached in
    let a = c.args in
    let e : length c.reach_root-reached.result.order.items ≡ 128 = search rules in
    rw (le-leb _ _ c.if-limit-gt128.false)
    (links_whole a.limit a.slots.now a.free a.live r.ensures.2 c.free_chain-chain.ensures.0 c.root_well-root.ensures c.each_once-each.ensures r.ensures.3 c.free_chain-chain.ensures.1
    (sym (listed_length r.result.order (e, r.ensures.0))))
