use Rattle.std.proofs.Common.{List, ap, sym, ◌∙◌, drop}
use Rattle.pv_path.specs.Paths.{Path}
use Rattle.pv_steps.specs.declared.object.Object.{Object}
use Rattle.pv_tree.proofs.WalkLaws.{left_behind}
use Rattle.pv_tree.proofs.walk.Walk.advance.Goals as goal

pub returns-in-Ok-clause-ok : goal.returns-in-Ok-clause-ok
returns-in-Ok-clause-ok c =
    c.in-Ok.ensures.left ∙ sym (left_behind c.self.inside.slots.now.items c.self.inside.names.items c.self.inside.opened.items c.self.invariant)
    ∙ ap (λ (v : List (Path × Object)). drop 1 v) c.self.view_is
