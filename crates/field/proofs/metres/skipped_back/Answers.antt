-- As many are skipped as the chain counts. Assumes nothing.
use Rattle.std.proofs.Common.{◌≡◌, length, reverse, ◌∙◌, rules}
use Rattle.std.specs.List.{take_while}
use Rattle.std.proofs.lemmas.Iterator.Adapters.{YieldsList-from_rev_slice}
use Rattle.std.proofs.lemmas.Iterator.Consumers.{count_from_yields_List}
use Rattle.std.proofs.lemmas.Iterator.Search.{YieldsList-from_take_while}
use Rattle.field.specs.Metres.{is_space}
use Rattle.field.proofs.Spaces.{front_taken, kept_front}
use Rattle.field.proofs.metres.skipped_back.Goals as goal

pub returns : goal.returns
returns c =
    let s = c.args.s.now in
    let t = c.take_while.ensures in
    let e : c.count-n.result ≡ length (take_while is_space (reverse s)) =
    count_from_yields_List c.take_while.result c.count-n.result c.count-n.ensures.ran (YieldsList-from_take_while _ is_space (YieldsList-from_rev_slice s cc) t.closure t.done (λ x b q k. search rules)) in
    kept_front s (e ∙ front_taken is_space (reverse s))
