use Rattle.std.specs.Prelude.{◌≡◌, List, Option, Some}
use Rattle.std.proofs.Common.{sym, ap, subst, ◌∙◌}
use Rattle.pv_walk.specs.Nodes.{object_states_of}
use Rattle.pv_path.specs.Paths.{Path}
use Rattle.pv_path.proofs.Tests.{if_ok}
use Rattle.pv_steps.specs.Trees.{places}
use Rattle.pv_table.specs.Pointwise.{ObjectStates, tabulated}
use Rattle.pv_explain.specs.declared.explained.Explained.{Explained}
use Rattle.pv_explain.specs.Acts.{standing}
use Rattle.pv_explain.specs.Following.{IsAlong, Tells}
use Rattle.pv_explain.proofs.TreeStandingLaws.{stands_along}
use Rattle.pv_explain.proofs.explaining.explain_along.Goals as goal

pub returns : goal.returns
returns g c =
    let t = g.T.Tree.state c.args.tree.now in
    let path = c.args.path.now in
    let start = c.in_ok-start.ensures ∙ ap (λ (ps : List Path). tabulated ps (object_states_of (places t))) (c.deref.ensures.value ∙ c.in_ok-places.ensures) in
    if_ok _ (λ (answer : Option Explained). (explanation : Explained) → answer ≡ Some explanation → Tells c.args.table.now (standing t) path explanation) c.follow.result
    (λ answer h explanation e. h (standing t) explanation e (subst (λ (r : ObjectStates). IsAlong path r (standing t)) (sym start) (stands_along t (g.met.T.Tree.is_tree c.args.tree.now) path))) c.follow.ensures.explanation
