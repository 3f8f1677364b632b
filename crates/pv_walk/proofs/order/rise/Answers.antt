use Rattle.std.proofs.Common.{rules}
use Rattle.std.proofs.lemmas.Fn.{always_returns_same}
use Rattle.std.specs.Ordering.{is_lt}
use Rattle.pv_path.specs.Paths.{path_cmp}
use Rattle.pv_walk.proofs.OrderLaws.{rising}
use Rattle.pv_walk.proofs.order.rise.Goals as goal

pub returns : goal.returns
returns c = rising c.args.paths.now c.is_sorted_by.result
    (c.is_sorted_by.ensures.cases (λ p q. is_lt (path_cmp p q)) (always_returns_same _ _ _ (λ a r q k. search rules)))
