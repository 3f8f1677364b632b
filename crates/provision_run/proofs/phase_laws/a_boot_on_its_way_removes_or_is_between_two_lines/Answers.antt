use Rattle.provision_run.proofs.BootLaws.{boot_between}
use Rattle.provision_run.proofs.phase_laws.a_boot_on_its_way_removes_or_is_between_two_lines.Goals as goal

pub returns : goal.returns
returns c = λ lines now t u fits tree are way. boot_between lines are now t u fits tree way
