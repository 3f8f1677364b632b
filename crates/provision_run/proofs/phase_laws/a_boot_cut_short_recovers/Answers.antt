use Rattle.std.proofs.Common.{refl, [], ◌∷◌}
use Rattle.provision_run.proofs.BootLaws.{boots_recover}
use Rattle.provision_run.proofs.phase_laws.a_boot_cut_short_recovers.Goals as goal

pub returns : goal.returns
returns c = λ lines now later t u tree there are none distinct repeatable whole quiet again way.
    boots_recover lines are none distinct repeatable t tree whole (now ∷ []) now later u there (quiet, (u, there, way, refl)) again
