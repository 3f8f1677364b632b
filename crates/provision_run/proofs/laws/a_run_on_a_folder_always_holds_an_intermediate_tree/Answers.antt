use Rattle.provision_run.proofs.AlwaysLaws.{always}
use Rattle.provision_run.proofs.laws.a_run_on_a_folder_always_holds_an_intermediate_tree.Goals as goal

pub returns : goal.returns
returns c = λ folder options clock_micros content old new found before after bound is_content told written. always folder options clock_micros content old new bound is_content told found before after written
