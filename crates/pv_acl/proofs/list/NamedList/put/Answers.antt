use Rattle.std.proofs.Common.{◌∙◌}
use Rattle.pv_acl.proofs.Putting.{set_is, insert_is, ordered_as}
use Rattle.pv_acl.proofs.list.NamedList.put.Goals as goal

pub returns-then-speaks_of-clause-ok : goal.returns-then-speaks_of-clause-ok
returns-then-speaks_of-clause-ok c =
    c.set.ensures ∙ set_is c.args.item c.self.inside.items c.as_slice.result.now c.as_slice-2.result.now c.args.self.now c.index_of-at.result c.self.invariant
    c.as_slice.ensures c.as_slice-2.ensures c.self.view_is c.index_of-at.ensures.index c.if-speaks_of.ensures.yes

pub invariant_of-self : goal.invariant_of-self
invariant_of-self c =
    ordered_as c.args.item c.self.inside.items c.args.self.now _ c.self.invariant c.self.view_is
    (c.set.ensures ∙ set_is c.args.item c.self.inside.items c.as_slice.result.now c.as_slice-2.result.now c.args.self.now c.index_of-at.result c.self.invariant
    c.as_slice.ensures c.as_slice-2.ensures c.self.view_is c.index_of-at.ensures.index c.if-speaks_of.ensures.yes)

pub returns-clause-ok : goal.returns-clause-ok
returns-clause-ok c =
    insert_is c.args.item c.self.inside.items c.as_slice.result.now c.as_slice-2.result.now c.args.self.now c.insert.new.self c.index_of-at.result
    c.self.invariant c.as_slice.ensures c.as_slice-2.ensures c.self.view_is c.index_of-at.ensures.index c.if-speaks_of.ensures.no
    c.in_ok-insert.ensures.ok

pub invariant_of-self-2 : goal.invariant_of-self-2
invariant_of-self-2 c =
    ordered_as c.args.item c.self.inside.items c.args.self.now c.insert.new.self c.self.invariant c.self.view_is
    (insert_is c.args.item c.self.inside.items c.as_slice.result.now c.as_slice-2.result.now c.args.self.now c.insert.new.self c.index_of-at.result
    c.self.invariant c.as_slice.ensures c.as_slice-2.ensures c.self.view_is c.index_of-at.ensures.index c.if-speaks_of.ensures.no
    c.in_ok-insert.ensures.ok)
