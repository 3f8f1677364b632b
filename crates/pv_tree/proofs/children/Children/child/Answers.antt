use Rattle.std.proofs.Common.{slice_get, ap, sym, ◌∙◌}
use Rattle.pv_tree.proofs.Names.{Entries, as_entries, item_read}
use Rattle.pv_tree.proofs.children.Children.child.Goals as goal

pub returns-clause-child : goal.returns-clause-child
returns-clause-child c =
    item_read c.self.inside.entries.items c.args.i c.get.result c.get.ensures.item.3
    ∙ ap (λ (v : Entries). slice_get v c.args.i) (sym (as_entries c.self.inside.entries.items c.args.self.now c.self.view_is c.self.invariant))
