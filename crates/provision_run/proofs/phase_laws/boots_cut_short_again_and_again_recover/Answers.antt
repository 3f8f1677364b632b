use Rattle.provision_run.proofs.BootLaws.{boots_recover}
use Rattle.provision_run.proofs.phase_laws.boots_cut_short_again_and_again_recover.Goals as goal

pub returns : goal.returns
returns c = λ lines moments now later t u tree there are none distinct repeatable whole runs again.
    boots_recover lines are none distinct repeatable t tree whole moments now later u there runs again
