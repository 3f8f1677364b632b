use Rattle.std.proofs.Common.{ap}
use Rattle.pv_tree.specs.Changes.{with_node}
use Rattle.pv_tree.specs.Held.{Held}
use Rattle.pv_tree.proofs.NearLaws.{near_edges}
use Rattle.pv_tree.proofs.NodeLaws.{set_places, set_tree}
use Rattle.pv_tree.proofs.mem_tree.MemTree.set_node.Goals as goal

pub invariant_of-self : goal.invariant_of-self
invariant_of-self c = record {
  whole = set_tree c.self.inside.slots.items c.set_node_at.new.slots.items c.self.inside.free.items c.args.self.now.files c.args.names.now (with_node c.args.node)
      (ap (λ (h : Held). h.files) c.self.view_is) c.self.invariant.whole c.set_node_at.ensures.forest (c.set_node_at.ensures.free c.self.inside.free.items c.self.invariant.whole.spare) c.set_node_at.ensures.places c.requires;
  near = near_edges c.self.inside.slots.items c.set_node_at.new.slots.items c.self.inside.log.steps.items c.self.inside.log.near c.set_node_at.ensures.edges c.self.invariant.near;
}

pub invariant_of-self-inside : goal.invariant_of-self-inside
invariant_of-self-inside c = (
  (set_tree c.self.inside.slots.items c.set_node_at.new.slots.items c.self.inside.free.items c.args.self.now.files c.args.names.now (with_node c.args.node)
      (ap (λ (h : Held). h.files) c.self.view_is) c.self.invariant.whole c.set_node_at.ensures.forest (c.set_node_at.ensures.free c.self.inside.free.items c.self.invariant.whole.spare) c.set_node_at.ensures.places c.requires).tree,
  tt,
)

pub returns-clause-places : goal.returns-clause-places
returns-clause-places c =
    set_places c.self.inside.slots.items c.set_node_at.new.slots.items c.args.self.now.files c.args.names.now (with_node c.args.node)
    (ap (λ (h : Held). h.files) c.self.view_is) c.self.invariant.whole.forest c.set_node_at.ensures.forest c.set_node_at.ensures.places
