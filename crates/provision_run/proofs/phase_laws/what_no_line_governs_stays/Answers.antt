use Rattle.provision_run.proofs.PhaseFrameLaws.{ungoverned_stays}
use Rattle.provision_run.proofs.phase_laws.what_no_line_governs_stays.Goals as goal

pub returns : goal.returns
returns c = ungoverned_stays
