-- As many are skipped as the chain counts. Assumes nothing.
use Rattle.std.proofs.Common.{◌≡◌, length, drop, ap, ◌∙◌, rules}
use Rattle.std.specs.List.{take_while}
use Rattle.std.proofs.lemmas.Iterator.{YieldsList-from_slice}
use Rattle.std.proofs.lemmas.Iterator.Consumers.{count_from_yields_List}
use Rattle.std.proofs.lemmas.Iterator.Search.{YieldsList-from_take_while}
use Rattle.field.specs.Metres.{is_space}
use borrow.Author.Rules.{part_to_end}
use Rattle.field.proofs.Spaces.{front_taken}
use Rattle.field.proofs.metres.skipped.Goals as goal

pub returns : goal.returns
returns c =
    let s = c.args.s.now in
    let t = c.take_while.ensures in
    let e : c.count-n.result ≡ length (take_while is_space s) =
    count_from_yields_List c.take_while.result c.count-n.result c.count-n.ensures.ran (YieldsList-from_take_while _ is_space (YieldsList-from_slice s cc) t.closure t.done (λ x b q k. search rules)) in
    part_to_end s c.count-n.result ∙ ap (λ n. drop n s) (e ∙ front_taken is_space s)
