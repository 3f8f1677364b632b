use Rattle.std.proofs.Common.{◌∙◌, List, ap, sym}
use Rattle.pv_path.specs.Paths.{Path}
use Rattle.pv_walk.specs.Removal.{is_one_of}
use Rattle.pv_walk.proofs.PathSetLaws.{one_of-reverse}
use Rattle.pv_walk.proofs.path_set.PathSet.contains.Goals as goal

pub returns : goal.returns
returns c =
    rw c.deref.ensures.value at c.is_in.ensures ∙ sym (one_of-reverse c.self.inside.paths.items c.args.path.now)
    ∙ ap (λ (xs : List Path). is_one_of xs c.args.path.now) c.self.view_is
