use Rattle.pv_path.proofs.Tests.{on_ok}
use Rattle.pv_folder.proofs.Changing.{can_move, moved_on}
use Rattle.pv_folder.proofs.tree_host.rename.Goals as goal

pub do_step-requires : goal.do_step-requires
do_step-requires c = can_move c.args.tree.now.files c.args.from c.args.to c.requires

pub returns-clause-ok : goal.returns-clause-ok
returns-clause-ok c = on_ok c.do_step.result (moved_on c.args.tree.now.files c.do_step.new.tree.files c.args.from c.args.to) c.do_step.ensures.ok
