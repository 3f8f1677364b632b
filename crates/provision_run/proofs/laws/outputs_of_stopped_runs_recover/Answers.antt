use Rattle.provision_run.proofs.StopsLaws.{accounts_over, phases_over}
use Rattle.provision_run.proofs.laws.outputs_of_stopped_runs_recover.Goals as goal

pub returns-clause-phases : goal.returns-clause-phases
returns-clause-phases c = λ options moments moment first later input last out again facts t image is plain may runs calm whole second.
    phases_over options moments moment first later input last out again facts t image runs whole second is plain may calm

pub returns-clause-accounts : goal.returns-clause-accounts
returns-clause-accounts c = λ options moments moment first later input last out again facts t image is plain runs whole second.
    accounts_over options moments moment first later input last out again facts t image runs whole second is plain
