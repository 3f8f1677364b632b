use Rattle.std.proofs.lemmas.Result.{IfOk-from_err}
use Rattle.pv_walk.proofs.preparing.has_parent.Goals as goal

pub returns-in_err-parent-clause-present : goal.returns-in_err-parent-clause-present
returns-in_err-parent-clause-present g c = IfOk-from_err c.from_residual.result _ c.from_residual.ensures.0

pub returns-in_err-parent-clause-tree : goal.returns-in_err-parent-clause-tree
returns-in_err-parent-clause-tree g c = g.met.T.Tree.is_tree c.args.tree.now

pub returns-in-None-clause-tree : goal.returns-in-None-clause-tree
returns-in-None-clause-tree g c = g.met.T.Tree.is_tree c.args.tree.now

pub returns-in-Some-clause-tree : goal.returns-in-Some-clause-tree
returns-in-Some-clause-tree g c = g.met.T.Tree.is_tree c.args.tree.now
