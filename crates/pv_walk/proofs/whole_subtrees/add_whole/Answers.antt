use Rattle.std.proofs.lemmas.Result.{IfOk-from_err}
use Rattle.std.proofs.Common.{◌≡◌, sym, ◌∙◌, true, false}
use Rattle.pv_walk.proofs.WholeLaws.{inserted}
use Rattle.pv_walk.proofs.whole_subtrees.add_whole.Goals as goal

pub returns-in_ok-add_first-clause-added : goal.returns-in_ok-add_first-clause-added
returns-in_ok-add_first-clause-added g c = λ q.
    inserted c.args.whole.now c.add_first.new.self c.args.path q _ c.in_ok-add_first.ensures.added (sym c.in_ok-has_children_in.ensures.all ∙ c.if-branch.true)
    (λ e. let no : false ≡ true = c.if-not-is_empty.ensures.1 e in cc)

pub returns-in_err-has_children_in-clause-added : goal.returns-in_err-has_children_in-clause-added
returns-in_err-has_children_in-clause-added g c = IfOk-from_err c.from_residual.result _ c.from_residual.ensures.0

pub returns-in_err-has_children_in-clause-tree : goal.returns-in_err-has_children_in-clause-tree
returns-in_err-has_children_in-clause-tree g c = g.met.T.Tree.is_tree c.args.tree.now

pub returns-in_err-add_first-clause-added : goal.returns-in_err-add_first-clause-added
returns-in_err-add_first-clause-added g c = IfOk-from_err c.from_residual-in_err-add_first.result _ c.from_residual-in_err-add_first.ensures.0

pub returns-in_err-add_first-clause-tree : goal.returns-in_err-add_first-clause-tree
returns-in_err-add_first-clause-tree g c = g.met.T.Tree.is_tree c.args.tree.now

pub returns-else-branch-clause-tree : goal.returns-else-branch-clause-tree
returns-else-branch-clause-tree g c = g.met.T.Tree.is_tree c.args.tree.now

pub returns-in_ok-add_first-clause-tree : goal.returns-in_ok-add_first-clause-tree
returns-in_ok-add_first-clause-tree g c = g.met.T.Tree.is_tree c.args.tree.now
