use Rattle.pv_tree.proofs.Names.{put_sorted, put_insert, put_old}
use Rattle.pv_tree.proofs.children.Children.put.Goals as goal

pub invariant_of-self : goal.invariant_of-self
invariant_of-self c = put_sorted c.put_in.result c.args.name c.args.number c.self.inside.entries.items c.put_in.new.entries.items c.self.invariant c.put_in.ensures.ok c.put_in.ensures.err

pub returns-clause-ok : goal.returns-clause-ok
returns-clause-ok c =
    put_insert c.put_in.result c.args.name c.args.number c.self.inside.entries.items c.put_in.new.entries.items c.args.self.now c.self.view_is c.self.invariant c.put_in.ensures.ok

pub returns-clause-old : goal.returns-clause-old
returns-clause-old c = put_old c.put_in.result c.args.name c.self.inside.entries.items c.args.self.now c.self.view_is c.self.invariant c.put_in.ensures.old
