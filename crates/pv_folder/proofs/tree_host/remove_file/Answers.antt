use Rattle.pv_path.proofs.Tests.{on_ok}
use Rattle.pv_folder.proofs.Changing.{can_unlink, file_gone}
use Rattle.pv_folder.proofs.tree_host.remove_file.Goals as goal

pub do_step-requires : goal.do_step-requires
do_step-requires c = can_unlink c.args.tree.now.files c.args.path c.requires

pub returns-clause-ok : goal.returns-clause-ok
returns-clause-ok c = on_ok c.do_step.result (file_gone c.args.tree.now.files c.do_step.new.tree.files c.args.path) c.do_step.ensures.ok
