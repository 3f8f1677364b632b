use Rattle.provision_run.specs.Phases.{boot_phases}
use Rattle.provision_run.proofs.InputLaws.{phases_leave_input}
use Rattle.provision_run.proofs.phase_laws.a_boot_leaves_what_lines_are_read_from.Goals as goal

pub returns : goal.returns
returns c = λ lines now t steps q fits tree there are free way gives input. phases_leave_input lines are free now boot_phases t steps tree there way gives q input
