use Rattle.std.proofs.Common.{refl, subst, Bool, length}
use Rattle.pv_path.specs.Paths.{Path}
use Rattle.pv_steps.specs.Acting.{Acted}
use Rattle.pv_steps.specs.Content.{Removes}
use Rattle.pv_steps.proofs.ActingLaws.{acted_within}
use Rattle.pv_walk.specs.Edits.{Pruned}
use Rattle.pv_walk.specs.Removal.{is_one_of}
use Rattle.pv_walk.specs.Whole.{count_of}
use Rattle.pv_remove.specs.Ended.{TakesInOrder}
use Rattle.pv_remove.proofs.TakeLaws.{as_many, in_order, left_without, removable, same_paths}
use Rattle.pv_remove.proofs.taking_away.take_away.Goals as goal
use Rattle.pv_path.proofs.Tests.{on_ok}

pub remove_all-requires : goal.remove_all-requires
remove_all-requires g c =
    removable (g.T.Tree.state c.args.tree.now) c.args.paths c.in_ok-ordered.ordered.items c.in_ok-ordered.ensures.members c.in_ok-ordered.ensures.once c.requires.whole c.in_ok-ordered.ensures.deepest

pub returns-clause-gone : goal.returns-clause-gone
returns-clause-gone g c = on_ok c.remove_all.result
    (λ e. left_without (g.T.Tree.state c.args.tree.now) c.args.paths c.in_ok-ordered.ordered.items c.in_ok-ordered.ensures.members c.args.now (g.T.Tree.state c.remove_all.new.tree) e) c.remove_all.ensures.gone

pub returns-clause-acted : goal.returns-clause-acted
returns-clause-acted g c =
    let t = g.T.Tree.state c.args.tree.now in
    let keys = c.args.paths in
    let ordered = c.in_ok-ordered.ordered.items in
    acted_within g.T.Tree (length ordered) (count_of (is_one_of keys) t)
    (as_many t keys ordered c.in_ok-ordered.ensures.members c.in_ok-ordered.ensures.once c.requires.whole)
    (subst (λ (f : Path → Bool). Acted g.T.Tree (Pruned f t) (Removes f) (length ordered) c.args.now c.args.tree.now c.remove_all.new.tree c.remove_all.result) (same_paths t keys ordered c.in_ok-ordered.ensures.members) c.remove_all.ensures.acted)

pub returns-in_err-ordered-clause-order : goal.returns-in_err-ordered-clause-order
returns-in_err-ordered-clause-order g c = TakesInOrder.nothing refl

pub returns-clause-order : goal.returns-clause-order
returns-clause-order g c = in_order (g.T.Tree.state c.args.tree.now) c.args.paths c.in_ok-ordered.ordered.items c.in_ok-ordered.ensures.members c.in_ok-ordered.ensures.order c.remove_all.ensures.order
