use Rattle.provision_run.proofs.StopsLaws.{accounts_alike, phases_recovered}
use Rattle.provision_run.proofs.laws.trees_of_stopped_runs_recover.Goals as goal

pub returns-clause-phases : goal.returns-clause-phases
returns-clause-phases c = λ options facts moments moment first later t u is plain may runs still.
    phases_recovered options facts plain is moments moment first later t u may runs still

pub returns-clause-accounts : goal.returns-clause-accounts
returns-clause-accounts c = λ options facts moments moment first later t u is plain runs. accounts_alike options facts plain is moments moment first later t u runs
