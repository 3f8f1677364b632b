use Rattle.std.proofs.Common.{List, not, sym, ap, ◌∙◌}
use Rattle.std.specs.FinMap as fin
use Rattle.std.specs.List.{list_all}
use Rattle.pv_path.specs.Paths.{Path}
use Rattle.pv_table.specs.Pointwise.{ObjectStates}
use Rattle.pv_table.specs.Turns.{is_visible_child}
use Rattle.pv_explain.proofs.StandingLaws.{keys-map}
use Rattle.pv_explain.proofs.standing.Standing.is_childless.Goals as goal

pub returns : goal.returns
returns c =
    c.none_below.ensures.all
    ∙ ap (λ (ps : List Path). list_all (λ q. not (is_visible_child c.args.path.now q)) ps)
    (sym (keys-map _ c.none_below.ensures.ordered) ∙ ap (λ (m : ObjectStates). fin.keys m) c.self.view_is)
