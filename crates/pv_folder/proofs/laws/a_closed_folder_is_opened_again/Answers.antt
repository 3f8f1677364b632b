use Rattle.pv_folder.proofs.KeepingLaws.{closed_opens}
use Rattle.pv_folder.proofs.laws.a_closed_folder_is_opened_again.Goals as goal

pub returns : goal.returns
returns c = closed_opens
