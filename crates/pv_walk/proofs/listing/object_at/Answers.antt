use Rattle.std.proofs.lemmas.Result.{IfOk-from_err}
use Rattle.pv_walk.proofs.listing.object_at.Goals as goal

pub returns-clause-tree : goal.returns-clause-tree
returns-clause-tree g c = g.met.T.Tree.is_tree c.args.tree.now

pub returns-then-has_staging-clause-tree : goal.returns-then-has_staging-clause-tree
returns-then-has_staging-clause-tree g c = g.met.T.Tree.is_tree c.args.tree.now

pub returns-then-is_empty-clause-tree : goal.returns-then-is_empty-clause-tree
returns-then-is_empty-clause-tree g c = g.met.T.Tree.is_tree c.args.tree.now

pub returns-in_err-followed_by-clause-tree : goal.returns-in_err-followed_by-clause-tree
returns-in_err-followed_by-clause-tree g c = g.met.T.Tree.is_tree c.args.tree.now

pub returns-in_err-followed_by-clause-object : goal.returns-in_err-followed_by-clause-object
returns-in_err-followed_by-clause-object g c = IfOk-from_err c.from_residual.result _ c.from_residual.ensures.0
