use Rattle.std.proofs.Common.{◌≡◌, ap, ◌∙◌}
use Rattle.std.specs.List.{list_all}
use Rattle.std.specs.FinMap as fin
use Rattle.pv_path.specs.Names.{is_staging}
use Rattle.pv_steps.specs.Trees.{names_below}
use Rattle.pv_create.proofs.DecidingLaws.{childless}
use Rattle.pv_create.proofs.deciding.is_childless.Goals as goal

pub returns : goal.returns
returns g c =
    let t = g.T.Tree.state c.args.tree.now in
    let names : c.as_slice.result.now ≡ names_below t c.args.path.now = c.as_slice.ensures ∙ c.in_ok-names.ensures.names in
    c.are_staging.ensures ∙ ap (list_all is_staging) names ∙ childless c.args.path.now (fin.keys t)
