use Rattle.std.proofs.Common.{IfOk, subst}
use Rattle.pv_steps.specs.Trees.{Files}
use Rattle.provision_run.specs.Generated.{IsGenerated, IsGeneratedOutput}
use Rattle.provision_run.proofs.generated.run_generated.Goals as goal

pub returns : goal.returns
unfolding IsGenerated
returns c = subst (λ (files : Files). IfOk c.run_over_lines.result (λ text. IsGeneratedOutput c.args.count files text.items)) c.in_ok-tree.ensures.files c.run_over_lines.ensures
