use Rattle.std.proofs.Common.{◌≡◌, true, is_some}
use Rattle.pv_path.specs.Paths.{Path}
use Rattle.pv_steps.specs.Trees.{places}
use Rattle.pv_walk.proofs.WholeLaws.{child_has}
use Rattle.pv_walk.proofs.known_child.is_directory_above.Goals as goal

pub is_directory_with-requires : goal.is_directory_with-requires
is_directory_with-requires g c =
    child_has (λ (q : Path). is_some (places (g.T.Tree.state c.args.tree.now) q) ≡ true) c.args.path.now c.in-Some.other.now c.name_below.result c.name_below.ensures
    (rw c.in-Some.is at c.requires)
