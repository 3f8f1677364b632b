use Rattle.std.proofs.Common.{Some, refl, ap, subst}
use Rattle.pv_steps.specs.declared.object.Object.{Object}
use Rattle.pv_steps.specs.Steps.{put_at}
use Rattle.pv_tree.specs.Content.{Content}
use Rattle.pv_tree.specs.Edges.{IsPlaced}
use Rattle.pv_tree.specs.Slots.{child_in, next_number, object_in, places_in}
use Rattle.pv_tree.proofs.ForestLaws.{Kept, put_kept, put_at_path, put_others}
use Rattle.pv_tree.proofs.edits.put_below.Goals as goal

placed : (c : goal.After-place) → IsPlaced (next_number c.name_next.new.slots.items c.args.free.now.items) c.args.object
    (child_in c.name_next.new.slots.items) (object_in c.name_next.new.slots.items) (child_in c.place.new.slots.items) (object_in c.place.new.slots.items)
placed c = subst (λ (o : Object). IsPlaced (next_number c.name_next.new.slots.items c.args.free.now.items) o
    (child_in c.name_next.new.slots.items) (object_in c.name_next.new.slots.items) (child_in c.place.new.slots.items) (object_in c.place.new.slots.items))
    (ap (λ (v : Content). record { node = c.args.object.node; payload = v.payload }) c.in_ok-content.ensures) c.place.ensures.placed

kept : (c : goal.After-place) → Kept c.place.new.slots.items c.place.new.free.items (put_at c.args.path.now (Some c.args.object) (places_in c.args.slots.now.items))
kept c = put_kept c.args.slots.now.items c.args.slots.now.items c.name_next.new.slots.items c.place.new.slots.items c.args.free.now.items c.place.new.free.items
    c.args.directory c.in_ok-number.number c.own_name.result.now c.args.path.now c.args.object c.requires.forest c.requires.free
    c.requires.directory c.own_name.ensures c.requires.room.0 refl c.in_ok-number.ensures.number c.in_ok-number.ensures.edges
    c.name_next.ensures.objects c.name_next.ensures.length (placed c) c.place.ensures.length c.place.ensures.number c.place.ensures.free

pub returns-clause-forest : goal.returns-clause-forest
returns-clause-forest c = (kept c).forest

pub returns-clause-free : goal.returns-clause-free
returns-clause-free c = (kept c).spare

pub returns-clause-ok : goal.returns-clause-ok
returns-clause-ok c = (kept c).places

pub returns-clause-number : goal.returns-clause-number
returns-clause-number c = put_at_path c.args.slots.now.items c.args.slots.now.items c.name_next.new.slots.items c.place.new.slots.items c.args.free.now.items c.place.new.free.items
    c.args.directory c.in_ok-number.number c.own_name.result.now c.args.path.now c.args.object c.requires.forest c.requires.free
    c.requires.directory c.own_name.ensures c.requires.room.0 refl c.in_ok-number.ensures.number c.in_ok-number.ensures.edges
    c.name_next.ensures.objects c.name_next.ensures.length (placed c) c.place.ensures.length c.place.ensures.number c.place.ensures.free

pub returns-clause-others : goal.returns-clause-others
returns-clause-others c = put_others c.args.slots.now.items c.args.slots.now.items c.name_next.new.slots.items c.place.new.slots.items c.args.free.now.items c.place.new.free.items
    c.args.directory c.in_ok-number.number c.own_name.result.now c.args.path.now c.args.object c.requires.forest c.requires.free
    c.requires.directory c.own_name.ensures c.requires.room.0 refl c.in_ok-number.ensures.number c.in_ok-number.ensures.edges
    c.name_next.ensures.objects c.name_next.ensures.length (placed c) c.place.ensures.length c.place.ensures.number c.place.ensures.free
