use Rattle.std.proofs.Common.{◌≡◌, ◌&&◌, List, subst, is_some}
use Rattle.std.specs.List.{list_any}
use Rattle.pv_lines.specs.declared.line.Line.{Line}
use Rattle.pv_path.specs.Paths.{Path}
use Rattle.pv_path.proofs.Tests.{if_ok}
use Rattle.pv_steps.specs.Trees.{places}
use Rattle.pv_walk.specs.Removal.{is_one_of}
use Rattle.pv_table.specs.Reaching.{names}
use Rattle.pv_clean.specs.Judging.{AreJudged}
use Rattle.pv_clean.proofs.aging.all_judged.Goals as goal

pub judge_all-requires : goal.judge_all-requires
judge_all-requires g c = record {
  root = c.root-root.ensures;
  tree = g.met.T.Tree.is_tree c.args.tree.now;
  listing = rw c.root-root.ensures at c.in_ok-listed.ensures.all;
  gathered = c.in_ok-listed.ensures.gathered;
  named = subst (λ (lines : List Line). (q : Path) → is_one_of c.in_ok-named.named.keys q ≡ (is_some (places (g.T.Tree.state c.args.tree.now) q) && list_any (λ line. names line q) lines))
      c.lines.ensures.lines c.in_ok-named.ensures;
}

pub returns-clause-judged : goal.returns-clause-judged
returns-clause-judged g c =
    if_ok _ (λ judged. AreJudged c.args.table.now c.args.now (g.T.Tree.state c.args.tree.now) judged.items) c.judge_all.result
    (λ judged are. record {
      listed = c.in_ok-listed.listed.items;
      are = are;
      listing = rw c.root-root.ensures at c.in_ok-listed.ensures.all;
      gathered = c.in_ok-listed.ensures.gathered;
      in_post_order = c.in_ok-listed.ensures.order;
    })
    c.judge_all.ensures
