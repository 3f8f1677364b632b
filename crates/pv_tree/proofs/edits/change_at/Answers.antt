use Rattle.std.proofs.Common.{ap, sym}
use Rattle.std.specs.Option.{option_and_then}
use Rattle.pv_tree.specs.Changes.{change_of}
use Rattle.pv_tree.specs.Slots.{object_in, places_in}
use Rattle.pv_tree.proofs.PlaceLaws.{places_unchanged}
use Rattle.pv_tree.proofs.ForestLaws.{changed_ok}
use Rattle.pv_tree.proofs.edits.change_at.Goals as goal

pub returns-in-Some-clause-ok : goal.returns-in-Some-clause-ok
returns-in-Some-clause-ok c =
    changed_ok c.change_slot.result c.args.slots.now.items c.change_slot.new.slots.items c.in-Some.number (change_of c.args.step.now c.args.now) c.args.at.path.now
    c.change_slot.ensures.edges c.change_slot.ensures.length c.requires.forest (sym c.in-Some.ensures) c.change_slot.ensures.objects

pub returns-in-None-clause-ok : goal.returns-in-None-clause-ok
returns-in-None-clause-ok c =
    places_unchanged c.args.at.path.now (change_of c.args.step.now c.args.now) (places_in c.args.slots.now.items) (ap (option_and_then (object_in c.args.slots.now.items)) (sym c.in-None.ensures))
