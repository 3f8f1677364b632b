use Rattle.std.proofs.Common.{◌∙◌, ◌&&◌, ap, List, is_some}
use Rattle.pv_glob.specs.declared.element.Element.{Element}
use Rattle.pv_steps.specs.Trees.{places}
use Rattle.pv_glob.specs.Matching.{some_matches}
use Rattle.pv_walk.proofs.FindingLaws.{in_order_is}
use Rattle.pv_walk.proofs.matching.matching_paths.Goals as goal

pub returns : goal.returns
returns g c = in_order_is (g.T.Tree.state c.args.tree.now) (some_matches c.args.pattern.now) _ c.in_order.ensures.rises (λ q. c.in_order.ensures.members q ∙ c.in_ok-paths.ensures q
    ∙ ap (λ (ps : List (List (List Element))). is_some (places (g.T.Tree.state c.args.tree.now) q) && some_matches ps q) c.plains.ensures.value)
