use Rattle.std.proofs.Common.{ℕ, List, ap, ◌∙◌}
use Rattle.std.specs.FinMap.{find}
use Rattle.pv_path.specs.Names.{name_cmp}
use Rattle.pv_tree.proofs.Names.{as_get}
use Rattle.pv_tree.proofs.children.Children.get.Goals as goal

pub returns : goal.returns
returns c =
    c.number_of.ensures
    ∙ ap (λ (n : List ℕ). find name_cmp n c.self.inside.entries.items) c.of.ensures
    ∙ as_get c.self.inside.entries.items c.args.self.now c.args.name.now c.self.view_is c.self.invariant
