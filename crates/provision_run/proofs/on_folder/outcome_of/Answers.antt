use Rattle.std.proofs.Common.{rules}
use Rattle.provision_run.proofs.FolderLaws.{ends_failed, ends_run, ends_short}
use Rattle.provision_run.specs.OnFolder.{EndsAs}
use Rattle.provision_run.proofs.on_folder.outcome_of.Goals as goal

pub returns-in-Ok-clause-ends : goal.returns-in-Ok-clause-ends
returns-in-Ok-clause-ends c = ends_run c.args.pending c.args.closed c.args.ran c.in-Ok.outcome (search rules) c.kept_outcome.result c.kept_outcome.ensures.settled c.kept_outcome.ensures.outcome

pub returns-in-Err-Failed-clause-ends : goal.returns-in-Err-Failed-clause-ends
returns-in-Err-Failed-clause-ends c = ends_failed c.args.pending c.args.closed c.args.ran (search rules) c.kept_outcome-in-Err-Failed.result c.kept_outcome-in-Err-Failed.ensures.settled c.kept_outcome-in-Err-Failed.ensures.outcome

pub returns-in-Err-Memory-clause-ends : goal.returns-in-Err-Memory-clause-ends
returns-in-Err-Memory-clause-ends c = ends_short c.kept_outcome-in-Err-Memory.result (EndsAs c.args.ran c.args.pending c.args.closed) c.kept_outcome-in-Err-Memory.ensures.settled
