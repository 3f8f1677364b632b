use Rattle.provision_run.proofs.FolderRecovery.{accounts_on, phases_on}
use Rattle.provision_run.proofs.laws.folders_of_stopped_runs_recover.Goals as goal

pub returns-clause-phases : goal.returns-clause-phases
returns-clause-phases c = λ options folder moments moment first later old last one again facts t opened is plain may runs calm whole second.
    phases_on options folder moments moment first later old last one again facts t opened runs whole second is plain may calm

pub returns-clause-accounts : goal.returns-clause-accounts
returns-clause-accounts c = λ options folder moments moment first later old last one again facts t opened is plain runs whole second.
    accounts_on options folder moments moment first later old last one again facts t opened runs whole second is plain
