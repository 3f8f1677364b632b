use Rattle.pv_folder.proofs.KillLaws.{opened_between}
use Rattle.pv_folder.proofs.laws.an_interrupted_folder_is_opened_as_merged.Goals as goal

pub returns : goal.returns
returns c = λ folder old new t steps now text facts tree between same opened.
    opened_between folder t steps now text old new facts tree between same opened
