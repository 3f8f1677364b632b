use Rattle.std.proofs.Common.{ℕ, List, ap, ◌∙◌}
use Rattle.std.specs.FinMap.{find}
use Rattle.pv_path.specs.Names.{name_cmp}
use Rattle.pv_tree.specs.Children.{without}
use Rattle.pv_tree.proofs.Names.{sorted_without, as_remove, as_get}
use Rattle.pv_tree.proofs.children.Children.remove.Goals as goal

pub invariant_of-self : goal.invariant_of-self
invariant_of-self c = sorted_without c.of.result c.self.inside.entries.items c.take_out.new.entries.items c.self.invariant c.take_out.ensures.items

pub returns-clause-items : goal.returns-clause-items
returns-clause-items c =
    as_remove c.args.name.now c.self.inside.entries.items c.take_out.new.entries.items c.args.self.now c.self.view_is c.self.invariant
    (c.take_out.ensures.items ∙ ap (λ (n : List ℕ). without n c.self.inside.entries.items) c.of.ensures)

pub returns-clause-old : goal.returns-clause-old
returns-clause-old c =
    c.take_out.ensures.old
    ∙ ap (λ (n : List ℕ). find name_cmp n c.self.inside.entries.items) c.of.ensures
    ∙ as_get c.self.inside.entries.items c.args.self.now c.args.name.now c.self.view_is c.self.invariant
