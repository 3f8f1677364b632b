use Rattle.pv_folder.proofs.KeepingLaws.{opened_keeps}
use Rattle.pv_folder.proofs.laws.an_opened_folder_keeps_its_tree.Goals as goal

pub returns : goal.returns
returns c = opened_keeps
