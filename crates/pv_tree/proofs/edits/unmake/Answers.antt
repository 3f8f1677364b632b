use Rattle.pv_path.specs.Paths.{parent_of}
use Rattle.pv_steps.specs.Steps.{gone}
use Rattle.pv_tree.specs.Slots.{places_in}
use Rattle.pv_tree.proofs.ForestLaws.{Kept, unmake_kept, drop_directory}
use Rattle.pv_tree.proofs.edits.unmake.Goals as goal

kept : (c : goal.After-release) → Kept c.touch.new.slots.items c.release.new.free.items (gone c.args.now c.args.at.path.now (places_in c.args.slots.now.items))
kept c = unmake_kept c.args.slots.now.items c.remove_child-number.new.slots.items c.touch.new.slots.items c.args.free.now.items c.reserve.new.self.items c.release.new.free.items
    c.args.now c.args.at.directory c.remove_child-number.result c.own_name.result.now c.args.at.path.now c.requires.forest c.requires.free
    c.requires.directory c.own_name.ensures c.requires.removable.alone
    c.remove_child-number.ensures.edges c.remove_child-number.ensures.objects c.remove_child-number.ensures.length c.remove_child-number.ensures.old
    c.touch.ensures.objects c.touch.ensures.edges c.touch.ensures.length c.reserve.ensures.items c.release.ensures

pub returns-clause-forest : goal.returns-clause-forest
returns-clause-forest c = (kept c).forest

pub returns-clause-free : goal.returns-clause-free
returns-clause-free c = (kept c).spare

pub returns-clause-ok : goal.returns-clause-ok
returns-clause-ok c = (kept c).places

pub returns-clause-directory : goal.returns-clause-directory
returns-clause-directory c = drop_directory c.args.slots.now.items c.remove_child-number.new.slots.items c.touch.new.slots.items c.args.now c.args.at.directory c.own_name.result.now (parent_of c.args.at.path.now)
    c.requires.forest c.requires.directory c.remove_child-number.ensures.edges c.remove_child-number.ensures.objects c.remove_child-number.ensures.length
    c.touch.ensures.objects c.touch.ensures.edges c.touch.ensures.length
