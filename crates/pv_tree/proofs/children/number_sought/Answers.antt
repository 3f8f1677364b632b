use Rattle.pv_tree.proofs.Names.{rising, read_there, read_nowhere}
use Rattle.pv_tree.proofs.children.number_sought.Goals as goal

pub find-requires-clause-rising : goal.find-requires-clause-rising
find-requires-clause-rising c = rising c.args.name.now c.args.entries.now c.requires

pub returns-in-Some : goal.returns-in-Some
returns-in-Some c = read_there c.args.name.now c.args.entries.now c.in-Some.i _ c.requires c.in-Some.ensures.place

pub returns-in-None : goal.returns-in-None
returns-in-None c = read_nowhere c.args.name.now c.args.entries.now c.requires c.in-None.ensures.place
