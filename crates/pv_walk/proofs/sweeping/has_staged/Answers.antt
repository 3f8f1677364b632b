use Rattle.std.proofs.Common.{ℕ, List, is_some, ap, ◌∙◌}
use Rattle.std.specs.List.{list_any}
use Rattle.pv_path.specs.Paths.{Path}
use Rattle.pv_steps.specs.Trees.{places, beside}
use Rattle.pv_walk.proofs.SweepLaws.{beside-staged}
use Rattle.pv_walk.proofs.sweeping.has_staged.Goals as goal

pub returns : goal.returns
returns g c =
    let path = c.args.path.now in
    let t = places (g.T.Tree.state c.args.tree.now) in
    c.has_beside.ensures.present
    ∙ ap (λ (names : List (List ℕ)). list_any (λ p. is_some (t p)) (beside path names)) (c.as_slice.ensures ∙ c.in_ok-names.ensures)
    ∙ ap (λ (ps : List Path). list_any (λ p. is_some (t p)) ps) (beside-staged path)
