use Rattle.pv_tree.proofs.Names.{rising, place_within}
use Rattle.pv_tree.proofs.children.place.Goals as goal

pub place_of-requires-clause-rising : goal.place_of-requires-clause-rising
place_of-requires-clause-rising c = rising c.args.name.now c.args.entries.now.items c.requires

pub returns-clause-within : goal.returns-clause-within
returns-clause-within c = place_within c.args.name.now c.args.entries.now.items c.place_of.result c.place_of.ensures.place
