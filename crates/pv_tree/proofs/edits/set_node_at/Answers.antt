use Rattle.std.proofs.Common.{ap, sym}
use Rattle.std.specs.Option.{option_and_then}
use Rattle.pv_tree.specs.Changes.{with_node}
use Rattle.pv_tree.specs.Slots.{object_in, places_in}
use Rattle.pv_tree.proofs.PlaceLaws.{places_unchanged}
use Rattle.pv_tree.proofs.ForestLaws.{change_places}
use Rattle.pv_tree.proofs.edits.set_node_at.Goals as goal

pub returns-in-Some-clause-places : goal.returns-in-Some-clause-places
returns-in-Some-clause-places c =
    change_places c.args.slots.now.items c.set_node.new.slots.items c.set_node.ensures.edges c.set_node.ensures.length c.in-Some.number (with_node c.args.node) c.args.names.now
    c.requires (sym c.in-Some.ensures) c.set_node.ensures.objects

pub returns-in-None-clause-places : goal.returns-in-None-clause-places
returns-in-None-clause-places c =
    places_unchanged c.args.names.now (with_node c.args.node) (places_in c.args.slots.now.items) (ap (option_and_then (object_in c.args.slots.now.items)) (sym c.in-None.ensures))
