use Rattle.std.proofs.Common.{ap, ◌∙◌, List}
use Rattle.std.specs.List.{list_any}
use Rattle.std.proofs.lemmas.List.{take_all}
use Rattle.pv_path.specs.Paths.{Path}
use Rattle.pv_walk.specs.Finding.{extends}
use Rattle.pv_walk.specs.Removal.{is_one_of}
use Rattle.pv_walk.proofs.FindingLaws.{added_more, children_match}
use Rattle.pv_walk.proofs.matching.next_listed.Goals as goal

pub loop-path-init : goal.loop-path-init
loop-path-init g c = λ q. ap (λ (xs : List Path). is_one_of xs q) c.new-next.ensures.items

pub loop-path-preserved : goal.loop-path-preserved
loop-path-preserved g c = λ q.
    added_more (λ p. extends (g.T.Tree.state c.args.tree.now) c.args.plain.now p q) q _ _ _ c.args.paths.now c.loop-path.path-index c.path-item.result c.loop-path-test.true c.path-item.is (c.loop-path.invariant q)
    c.in_ok-add_listed.ensures (children_match (g.T.Tree.state c.args.tree.now) c.args.plain.now c.path-item.result q)

pub returns : goal.returns
returns g c = λ q. c.loop-path.invariant q ∙ ap (λ (ps : List Path). list_any (λ p. extends (g.T.Tree.state c.args.tree.now) c.args.plain.now p q) ps) (take_all c.loop-path.path-index c.args.paths.now c.loop-path-test.false)
