use Rattle.pv_path.proofs.Tests.{on_ok}
use Rattle.pv_folder.proofs.Changing.{file_made, file_there}
use Rattle.pv_folder.proofs.tree_host.make_file.Goals as goal

pub returns-clause-ok : goal.returns-clause-ok
returns-clause-ok c = on_ok c.do_step.result (file_made c.args.tree.now.files c.do_step.new.tree.files c.args.path) c.do_step.ensures.ok

pub returns-clause-there : goal.returns-clause-there
returns-clause-there c = on_ok c.do_step.result (file_there c.args.tree.now.files c.do_step.new.tree.files c.args.path) c.do_step.ensures.ok
