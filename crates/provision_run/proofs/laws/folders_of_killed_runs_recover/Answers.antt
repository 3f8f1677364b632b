use Rattle.provision_run.proofs.KillRecovery.{killed_back, killed_said}
use Rattle.provision_run.proofs.laws.folders_of_killed_runs_recover.Goals as goal

pub returns-clause-merged_back : goal.returns-clause-merged_back
returns-clause-merged_back c = λ options folder moment first later old new one again facts t v opened opens is alone plain may run back calm still whole second.
    killed_back options folder moment old new facts t v opened run first later one again opens whole second is back alone plain may calm still

pub returns-clause-lines_say_all : goal.returns-clause-lines_say_all
returns-clause-lines_say_all c = λ options folder moment first later old new one again facts t v opened opens is alone run same says calm still whole second.
    killed_said options folder moment old new facts t v opened run first later one again opens whole second is alone same says calm still
