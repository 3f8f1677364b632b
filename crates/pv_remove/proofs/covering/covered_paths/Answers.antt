use Rattle.std.proofs.Common.{◌&&◌, ◌∙◌, sym, ap, List, is_some}
use Rattle.std.specs.List.{list_any}
use Rattle.std.proofs.lemmas.List.{take_all}
use Rattle.std.proofs.Math.Bool.{and-false}
use Rattle.pv_lines.specs.Lines.{IsLine}
use Rattle.pv_lines.specs.declared.line.Line.{Line}
use Rattle.pv_path.specs.Paths.{Path}
use Rattle.pv_steps.specs.Trees.{places}
use Rattle.pv_walk.specs.Removal.{is_one_of}
use Rattle.pv_table.specs.Removed.{covers}
use Rattle.pv_remove.proofs.CoverLaws.{at_place, both_or}
use Rattle.pv_remove.proofs.covering.covered_paths.Goals as goal

pub loop-line-init : goal.loop-line-init
loop-line-init g c = λ q. ap (λ (xs : List Path). is_one_of xs q) c.new-covered.ensures.items ∙ sym (and-false (is_some (places (g.T.Tree.state c.args.tree.now) q)))

pub add_covered-requires-clause-line : goal.add_covered-requires-clause-line
add_covered-requires-clause-line g c = at_place IsLine c.args.lines.now c.loop-line.line-index c.line-item.result c.requires.lines c.loop-line-test.true c.line-item.is

pub loop-line-preserved : goal.loop-line-preserved
loop-line-preserved g c = λ q.
    c.in_ok-add_covered.ensures q
    ∙ both_or (λ line. covers line (places (g.T.Tree.state c.args.tree.now)) q) (is_some (places (g.T.Tree.state c.args.tree.now) q)) c.args.lines.now c.loop-line.line-index c.line-item.result _ c.loop-line-test.true c.line-item.is (c.loop-line.invariant q)

pub returns : goal.returns
returns g c = λ q. c.loop-line.invariant q
    ∙ ap (λ (ls : List Line). is_some (places (g.T.Tree.state c.args.tree.now) q) && list_any (λ line. covers line (places (g.T.Tree.state c.args.tree.now)) q) ls) (take_all c.loop-line.line-index c.args.lines.now c.loop-line-test.false)
