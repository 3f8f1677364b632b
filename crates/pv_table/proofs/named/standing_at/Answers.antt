use Rattle.std.proofs.Common.{◌∙◌, ◌++◌, ap, List, cond, [], ◌∷◌, is_some}
use Rattle.pv_path.specs.Paths.{Path, same_path}
use Rattle.pv_steps.specs.Trees.{places}
use Rattle.pv_walk.specs.Removal.{is_one_of}
use Rattle.pv_walk.proofs.FindingLaws.{in_order_is, standing_is}
use Rattle.pv_table.proofs.named.standing_at.Goals as goal

pub returns : goal.returns
returns g c = in_order_is (g.T.Tree.state c.args.tree.now) (same_path c.args.path.now) _ c.in_order.ensures.rises (λ q. c.in_order.ensures.members q
    ∙ ap (λ (xs : List Path). is_one_of xs q) (c.in_ok-add_standing.ensures ∙ ap (λ (xs : List Path). xs ++ cond (is_some (places (g.T.Tree.state c.args.tree.now) c.args.path.now)) (c.args.path.now ∷ []) []) c.new-paths.ensures.items)
    ∙ standing_is (g.T.Tree.state c.args.tree.now) c.args.path.now q)
