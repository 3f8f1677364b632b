use Rattle.std.proofs.Common.{◌&&◌, sym, ap, ◌∙◌, List, is_some}
use Rattle.std.proofs.lemmas.List.{take_all}
use Rattle.std.proofs.Math.Bool.{and-false}
use Rattle.pv_path.specs.Paths.{Path}
use Rattle.pv_glob.specs.declared.element.Element.{Element}
use Rattle.pv_glob.specs.Matching.{some_matches}
use Rattle.pv_steps.specs.Trees.{places}
use Rattle.pv_walk.specs.Removal.{is_one_of}
use Rattle.pv_walk.proofs.FindingLaws.{plain_more}
use Rattle.pv_walk.proofs.matching.all_matching.Goals as goal

pub loop-plain-init : goal.loop-plain-init
loop-plain-init g c = λ q. ap (λ (xs : List Path). is_one_of xs q) c.new-paths.ensures.items ∙ sym (and-false (is_some (places (g.T.Tree.state c.args.tree.now) q)))

pub loop-plain-preserved : goal.loop-plain-preserved
loop-plain-preserved g c = λ q.
    plain_more q (is_some (places (g.T.Tree.state c.args.tree.now) q)) _ _ _ c.args.plains.now c.loop-plain.plain-index c.plain-item.result c.loop-plain-test.true c.plain-item.is (c.loop-plain.invariant q)
    c.in_ok-append.ensures.items (c.in_ok-more.ensures q)

pub returns : goal.returns
returns g c = λ q. c.loop-plain.invariant q
    ∙ ap (λ (ps : List (List (List Element))). is_some (places (g.T.Tree.state c.args.tree.now) q) && some_matches ps q) (take_all c.loop-plain.plain-index c.args.plains.now c.loop-plain-test.false)
