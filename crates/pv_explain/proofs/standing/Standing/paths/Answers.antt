use Rattle.std.proofs.Common.{sym, ap, ◌∙◌}
use Rattle.std.specs.FinMap as fin
use Rattle.pv_table.specs.Pointwise.{ObjectStates}
use Rattle.pv_explain.proofs.StandingLaws.{keys-map}
use Rattle.pv_explain.proofs.standing.Standing.paths.Goals as goal

pub returns : goal.returns
returns c = c.in_ok-paths.ensures.paths ∙ sym (keys-map _ c.in_ok-paths.ensures.ordered) ∙ ap (λ (m : ObjectStates). fin.keys m) c.self.view_is
