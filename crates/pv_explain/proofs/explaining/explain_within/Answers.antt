use Rattle.std.specs.Prelude.{List}
use Rattle.std.proofs.Common.{sym, ap, subst, ◌∙◌}
use Rattle.pv_walk.specs.Nodes.{object_states_of}
use Rattle.pv_path.specs.Paths.{Path}
use Rattle.pv_steps.specs.Trees.{places}
use Rattle.pv_table.specs.Pointwise.{ObjectStates, tabulated}
use Rattle.pv_explain.specs.Acts.{standing}
use Rattle.pv_explain.specs.Following.{holds, IsWithin}
use Rattle.pv_explain.proofs.RegionLaws.{holds_root}
use Rattle.pv_explain.proofs.TreeStandingLaws.{stands_within}
use Rattle.pv_explain.proofs.explaining.explain_within.Goals as goal

pub returns : goal.returns
returns g c =
    let t = g.T.Tree.state c.args.tree.now in
    let region = c.in_ok-region.region in
    let paths : List Path = c.in_ok-paths.paths.items in
    let start = c.in_ok-start.ensures ∙ ap (λ (ps : List Path). tabulated ps (object_states_of (places t))) c.deref.ensures.value in
    let within = stands_within t (g.met.T.Tree.is_tree c.args.tree.now) (holds region) (holds_root c.args.table.now c.args.path.now region c.in_ok-region.ensures) paths c.in_ok-paths.ensures in
    c.in_ok-whole.ensures.explanation (standing t) c.in-Some.whole c.in-Some.is (subst (λ (r : ObjectStates). IsWithin (holds region) r (standing t)) (sym start) within)
