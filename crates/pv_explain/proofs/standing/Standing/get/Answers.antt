use Rattle.std.proofs.Common.{ap, ◌∙◌}
use Rattle.std.specs.FinMap as fin
use Rattle.pv_table.specs.Pointwise.{ObjectStates}
use Rattle.pv_explain.proofs.StandingLaws.{lookup-get}
use Rattle.pv_explain.proofs.standing.Standing.get.Goals as goal

pub returns : goal.returns
returns c = c.get.ensures.value ∙ lookup-get c.args.path.now _ ∙ ap (λ (m : ObjectStates). fin.get m c.args.path.now) c.self.view_is
