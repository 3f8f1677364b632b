use Rattle.provision_run.proofs.PhaseLaws.{OnPhases}
use Rattle.provision_run.proofs.phase.run_phases.Given as goal

abbrev pub invariant-loop-phase : goal.invariant-loop-phase
invariant-loop-phase g l = OnPhases g.T.Tree l.table l.now l.fn.phases l.phase-index l.carried l.fn.tree l.tree l.fn.messages l.messages
