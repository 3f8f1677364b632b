use Rattle.std.proofs.Common.{◌&&◌, ◌∙◌, sym, ap, List, is_some}
use Rattle.std.specs.List.{list_any}
use Rattle.std.proofs.lemmas.List.{take_all}
use Rattle.std.proofs.Math.Bool.{and-false}
use Rattle.pv_lines.specs.declared.line.Line.{Line}
use Rattle.pv_path.specs.Paths.{Path}
use Rattle.pv_steps.specs.Trees.{places}
use Rattle.pv_walk.specs.Removal.{is_one_of}
use Rattle.pv_table.specs.Reaching.{names}
use Rattle.pv_walk.proofs.FindingLaws.{keys_passing}
use Rattle.pv_clean.proofs.AgeLaws.{named_more}
use Rattle.pv_clean.proofs.naming.all_named.Goals as goal

pub loop-line-init : goal.loop-line-init
loop-line-init g c = λ q. ap (λ (xs : List Path). is_one_of xs q) c.new-named.ensures.empty ∙ sym (and-false (is_some (places (g.T.Tree.state c.args.tree.now) q)))

pub loop-line-preserved : goal.loop-line-preserved
loop-line-preserved g c = λ q.
    let t = g.T.Tree.state c.args.tree.now in
    c.in_ok-add_all.ensures q
    ∙ named_more t c.args.lines.now c.loop-line.line-index c.line-item.result q (is_one_of c.loop-line.named.keys q) (is_one_of c.in_ok-paths.paths.items q) c.loop-line-test.true c.line-item.is (c.loop-line.invariant q)
    (ap (λ (xs : List Path). is_one_of xs q) c.in_ok-paths.ensures ∙ keys_passing t (names c.line-item.result) q)

pub returns : goal.returns
returns g c = λ q. c.loop-line.invariant q
    ∙ ap (λ (ls : List Line). is_some (places (g.T.Tree.state c.args.tree.now) q) && list_any (λ line. names line q) ls) (take_all c.loop-line.line-index c.args.lines.now c.loop-line-test.false)
