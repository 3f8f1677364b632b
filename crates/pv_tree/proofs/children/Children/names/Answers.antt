use Rattle.pv_tree.proofs.Names.{keys_are}
use Rattle.pv_tree.proofs.children.Children.names.Goals as goal

pub returns : goal.returns
returns c = keys_are c.names_of.result c.self.inside.entries.items c.args.self.now c.self.view_is c.self.invariant c.names_of.ensures
