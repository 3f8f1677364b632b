use Rattle.test_tree.proofs.Looking.{empty_from}
use Rattle.test_tree.proofs.step_rows.is_empty_directory.Goals as goal

pub returns-clause-empty : goal.returns-clause-empty
returns-clause-empty g c = λ empty. empty_from (g.T.Tree.state c.args.tree.now) c.args.path.now (c.has_no_names.ensures empty)
