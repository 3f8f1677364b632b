use Rattle.pv_folder.specs.Content.{held}
use Rattle.pv_folder.proofs.MomentLaws.{between}
use Rattle.pv_folder.proofs.ReadyLaws.{ready_of}
use Rattle.pv_folder.proofs.laws.a_folder_always_holds_an_intermediate_tree.Goals as goal

pub returns : goal.returns
returns c = λ folder old t steps now n text bound tree keeps able.
    between folder now bound text steps t (held old) n tree able keeps.agrees (ready_of (held old) keeps.is_content folder keeps.prepared)
