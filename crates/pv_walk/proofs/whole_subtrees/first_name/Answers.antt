use Rattle.std.proofs.Common.{◌≡◌, true}
use Rattle.pv_path.specs.Paths.{Path}
use Rattle.pv_walk.specs.Removal.{is_one_of}
use Rattle.pv_walk.proofs.WholeLaws.{child_has}
use Rattle.pv_walk.proofs.whole_subtrees.first_name.Goals as goal

pub returns : goal.returns
returns c =
    child_has (λ (q : Path). is_one_of c.args.paths.now q ≡ true) c.args.path.now _ c.name_below.result c.name_below.ensures
    c.in_ok-first.ensures.member
