use Rattle.pv_tree.proofs.Names.{sorted_first, sorted_second, find_first, find_second}
use Rattle.pv_tree.proofs.children.number_of.Goals as goal

pub number_in-requires : goal.number_in-requires
number_in-requires c = sorted_first c.as_slices.result.0.now c.as_slices.result.1.now c.args.entries.now.items c.as_slices.ensures.items c.requires

pub number_in-requires-in-None : goal.number_in-requires-in-None
number_in-requires-in-None c = sorted_second c.as_slices.result.0.now c.as_slices.result.1.now c.args.entries.now.items c.as_slices.ensures.items c.requires

pub returns-in-Some : goal.returns-in-Some
returns-in-Some c = find_first c.args.name.now c.as_slices.result.0.now c.as_slices.result.1.now c.args.entries.now.items c.in-Some.number c.as_slices.ensures.items c.in-Some.ensures

pub returns-in-None : goal.returns-in-None
returns-in-None c = find_second c.args.name.now c.as_slices.result.0.now c.as_slices.result.1.now c.args.entries.now.items c.number_in-in-None.result c.as_slices.ensures.items c.in-None.ensures c.number_in-in-None.ensures
