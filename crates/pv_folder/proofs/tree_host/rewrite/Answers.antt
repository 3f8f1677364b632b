use Rattle.pv_path.proofs.Tests.{on_ok}
use Rattle.pv_folder.proofs.Changing.{rewritten}
use Rattle.pv_folder.proofs.tree_host.rewrite.Goals as goal

pub returns-clause-ok : goal.returns-clause-ok
returns-clause-ok c = on_ok c.do_step.result (rewritten c.args.tree.now.files c.do_step.new.tree.files c.args.path c.args.content c.requires) c.do_step.ensures.ok
