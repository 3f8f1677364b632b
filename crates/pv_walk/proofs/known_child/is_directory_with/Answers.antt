use Rattle.std.proofs.Common.{refl, []}
use Rattle.pv_steps.specs.Trees.{places}
use Rattle.pv_steps.proofs.TreeLaws.{directory_above}
use Rattle.pv_walk.proofs.known_child.is_directory_with.Goals as goal

pub returns-in-Some-clause-kind : goal.returns-in-Some-clause-kind
returns-in-Some-clause-kind g c =
    let there = rw c.in-Some.is at c.requires in
    (λ _. directory_above (places (g.T.Tree.state c.args.tree.now)) (g.met.T.Tree.is_tree c.args.tree.now) c.args.path.now _ [] there, λ _. refl)

pub returns-in-Some-clause-tree : goal.returns-in-Some-clause-tree
returns-in-Some-clause-tree g c = g.met.T.Tree.is_tree c.args.tree.now

pub returns-in-None-clause-tree : goal.returns-in-None-clause-tree
returns-in-None-clause-tree g c = g.met.T.Tree.is_tree c.args.tree.now

pub returns-in-None-clause-kind : goal.returns-in-None-clause-kind
returns-in-None-clause-kind g c = c.is_directory.ensures.kind
