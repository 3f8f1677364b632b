use Rattle.std.proofs.Common.{◌≡◌, ℕ, sym, subst, ◌∙◌, List, length, map, reverse, Result}
use Rattle.std.proofs.lemmas.List.{append-nil, length-map, length-reverse}
use Rattle.pv_path.specs.Paths.{Path}
use Rattle.pv_steps.specs.declared.step.Step.{Step}
use Rattle.pv_steps.specs.declared.tree.Tree.{Ghosts}
use Rattle.pv_steps.specs.declared.tree.TreeFault.{TreeFault}
use Rattle.pv_steps.specs.Acting.{Acted}
use Rattle.pv_steps.specs.Content.{Removes}
use Rattle.pv_steps.specs.Trees.{Files}
use Rattle.pv_steps.specs.Trying.{CanAll, TriedAll}
use Rattle.pv_steps.proofs.ActingLaws.{Moves, acted_none, no_memory}
use Rattle.pv_steps.proofs.TryingLaws.{acted_all, ask_can, tried_whole}
use Rattle.pv_walk.specs.Edits.{Pruned}
use Rattle.pv_walk.specs.Removal.{is_one_of, removal_at}
use Rattle.pv_walk.proofs.PostOrderLaws.{tried_all}
use Rattle.pv_walk.proofs.SweepLaws.{pruned-none}
use Rattle.pv_walk.proofs.TakingLaws.{all_without, removable_present, removals_ask, removals_part, steps_of}
use Rattle.pv_walk.proofs.remove.remove_all.Goals as goal
use Rattle.pv_path.proofs.Tests.{on_ok}

pub removals-requires : goal.removals-requires
removals-requires g c = removable_present (g.T.Tree.state c.args.tree.now) c.args.paths.items c.requires

pub try_all-requires : goal.try_all-requires
try_all-requires g c =
    let t = g.T.Tree.state c.args.tree.now in
    let paths = c.args.paths.items in
    subst (λ (ss : List Step). CanAll t (reverse ss) c.args.now) (sym c.in_ok-steps.ensures)
    (ask_can (Pruned (is_one_of paths) t) (Removes (is_one_of paths)) c.args.now t (steps_of t paths) (removals_ask c.args.now t (is_one_of paths) paths c.requires (λ q h. h)))

pub returns-in_err-steps-clause-acted : goal.returns-in_err-steps-clause-acted
returns-in_err-steps-clause-acted g c =
    let moves : Moves g.T.Tree = record { stays = g.met.T.Tree.reaches_self; goes_on = g.met.T.Tree.reaches_on; never_falls = g.met.T.Tree.never_falls } in
    let t = g.T.Tree.state c.args.tree.now in
    let inside = is_one_of c.args.paths.items in
    acted_none g.T.Tree moves (Pruned inside t) (Removes inside) (length c.args.paths.items) c.args.now c.args.tree.now c.from_residual.result
    (no_memory c.from_residual.result c.from_residual.ensures.1) (pruned-none inside t)

tried : {S : Type 0} (tree : Ghosts S) (t : Files) (paths : List Path) (steps : List Step) (now : ℕ) (a b : S) (r : Result (Unit {0}) TreeFault) → steps ≡ map (removal_at t) paths
    → TriedAll tree (reverse steps) now a b r → TriedAll tree (steps_of t paths) now a b r
tried tree t paths steps now a b r are = subst (λ ss. TriedAll tree (reverse ss) now a b r) are

pub returns-clause-gone : goal.returns-clause-gone
returns-clause-gone g c =
    let t = g.T.Tree.state c.args.tree.now in
    let paths = c.args.paths.items in
    let r = c.try_all.result in
    on_ok r (all_without c.args.now t paths c.requires (g.T.Tree.state c.try_all.new.tree))
    (tried_whole g.T.Tree (steps_of t paths) c.args.now c.args.tree.now c.try_all.new.tree r (tried g.T.Tree t paths c.in_ok-steps.steps.items c.args.now c.args.tree.now c.try_all.new.tree r c.in_ok-steps.ensures c.try_all.ensures))

pub returns-clause-acted : goal.returns-clause-acted
returns-clause-acted g c =
    let t = g.T.Tree.state c.args.tree.now in
    let paths = c.args.paths.items in
    let r = c.try_all.result in
    let inside = is_one_of paths in
    subst (λ n. Acted g.T.Tree (Pruned inside t) (Removes inside) n c.args.now c.args.tree.now c.try_all.new.tree r) (length-reverse (map (removal_at t) paths) ∙ length-map paths (removal_at t))
    (acted_all (Pruned inside t) (Removes inside) c.args.now g.T.Tree (steps_of t paths) c.args.tree.now c.try_all.new.tree r
    (tried g.T.Tree t paths c.in_ok-steps.steps.items c.args.now c.args.tree.now c.try_all.new.tree r c.in_ok-steps.ensures c.try_all.ensures)
    (removals_ask c.args.now t inside paths c.requires (λ q h. h)))

pub returns-in_err-steps-clause-order : goal.returns-in_err-steps-clause-order
returns-in_err-steps-clause-order g c = (0, sym (append-nil (g.T.Tree.steps c.args.tree.now)))

pub returns-clause-order : goal.returns-clause-order
returns-clause-order g c =
    let t = g.T.Tree.state c.args.tree.now in
    let r = c.try_all.result in
    removals_part g.T.Tree t c.args.paths.items c.args.now c.args.tree.now c.try_all.new.tree r
    (tried g.T.Tree t c.args.paths.items c.in_ok-steps.steps.items c.args.now c.args.tree.now c.try_all.new.tree r c.in_ok-steps.ensures c.try_all.ensures)

pub returns-clause-whole : goal.returns-clause-whole
returns-clause-whole g c =
    let t = g.T.Tree.state c.args.tree.now in
    let r = c.try_all.result in
    tried_all g.T.Tree t c.args.paths.items c.args.now c.args.tree.now c.try_all.new.tree r
    (tried g.T.Tree t c.args.paths.items c.in_ok-steps.steps.items c.args.now c.args.tree.now c.try_all.new.tree r c.in_ok-steps.ensures c.try_all.ensures)
