use Rattle.std.specs.Prelude.{◌≡◌, ℕ, false, option_map}
use Rattle.std.proofs.Common.{◌∙◌}
use Rattle.pv_walk.specs.Nodes.{object_states_of}
use Rattle.pv_path.specs.Paths.{has_staging}
use Rattle.pv_path.proofs.Tests.{if_ok}
use Rattle.pv_steps.specs.Trees.{places}
use Rattle.pv_table.specs.Created.{created, RefusesNoLine}
use Rattle.pv_table.specs.Repeatable.{IsRepeatable}
use Rattle.pv_explain.specs.declared.explained.Explained.{Explained}
use Rattle.pv_explain.specs.Acts.{object_state_in, standing}
use Rattle.pv_explain.specs.Following.{Tells}
use Rattle.pv_explain.proofs.TreeStandingLaws.{left_there}
use Rattle.pv_explain.proofs.explaining.explain.Goals as goal

pub returns-in-Some-clause-acts : goal.returns-in-Some-clause-acts
returns-in-Some-clause-acts g c = (c.in_ok-explanation.ensures c.in-Some.explanation c.in-Some.is).acts

pub returns-in-Some-clause-leaves : goal.returns-in-Some-clause-leaves
returns-in-Some-clause-leaves g c = λ now repeatable quiet plain.
    (c.in_ok-explanation.ensures c.in-Some.explanation c.in-Some.is).node
    ∙ left_there (g.T.Tree.state c.args.tree.now) (g.met.T.Tree.is_tree c.args.tree.now) c.args.table.now c.lines-lines.ensures.whole now repeatable quiet c.args.path.now plain

pub returns-in-None-clause-leaves : goal.returns-in-None-clause-leaves
returns-in-None-clause-leaves g c =
    let t = g.T.Tree.state c.args.tree.now in
    let lines = c.args.table.now in
    let path = c.args.path.now in
    if_ok (λ (explanation : Explained). Tells lines (standing t) path explanation)
    (λ (explanation : Explained). (now : ℕ) → IsRepeatable lines → RefusesNoLine lines now t → has_staging path ≡ false → option_map object_state_in explanation.node ≡ object_states_of (places (created lines now t)) path)
    c.explain_within.result
    (λ explanation tells now repeatable quiet plain. tells.node ∙ left_there t (g.met.T.Tree.is_tree c.args.tree.now) lines c.lines-lines.ensures.whole now repeatable quiet path plain)
    c.explain_within.ensures
